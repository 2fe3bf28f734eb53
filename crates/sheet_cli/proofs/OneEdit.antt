-- An edit has one outcome, except for want of memory.
use Rattle.{std.proofs.Common.{◌≡◌, ℕ, List, refl, sym, subst, ◌∙◌}, sheet_recalc.{specs.Names.{Names}, specs.Changes.{SheetChange}, specs.Costs.{HasCost}}}
use Rattle.sheet_desk.{specs.Desk.{Refused}, proofs.Causes.{accepted_refused, refused_one}, proofs.Spent.{accepts_one}}
use Rattle.sheet_cli.{specs.Answer.{State, refusal_text, IsChangeAnswered, accepted, refused}, proofs.OneEvent.{texts_one}}

-- an accepted edit has one cost
costs_one : (names : Names) (edit : SheetChange) (new₁ new₂ : Names) (cost₁ cost₂ : ℕ) → new₁ ≡ new₂ → HasCost names edit new₁ cost₁ → HasCost names edit new₂ cost₂ → cost₁ ≡ cost₂
costs_one names edit new₁ new₂ cost₁ cost₂ same a b = subst (λ (new : Names). HasCost names edit new cost₁) same a ∙ sym b

same_state : (a b : State) → a.names ≡ b.names → a.cost ≡ b.cost → a.slots ≡ b.slots → a ≡ b
same_state a b names cost slots = λ i. record { names = names i; cost = cost i; slots = slots i }

pub edit_one : (old : State) (edit : SheetChange) (text₁ text₂ : List ℕ) (new₁ new₂ : State) → IsChangeAnswered old edit text₁ new₁ → IsChangeAnswered old edit text₂ new₂ → (text₁ ≡ text₂) × (new₁ ≡ new₂)
edit_one old edit text₁ text₂ new₁ new₂ (accepted a c s) (accepted b d t) =
    let same = accepts_one old.names edit _ _ a b in
    (refl, same_state new₁ new₂ same (costs_one old.names edit _ _ _ _ same c d) (s ∙ sym t))
edit_one old edit text₁ text₂ new₁ new₂ (accepted a c s) (refused cause r other) = absurd (accepted_refused old.names edit _ cause a r other)
edit_one old edit text₁ text₂ new₁ new₂ (refused cause r other) (accepted b d t) = absurd (accepted_refused old.names edit _ cause b r other)
edit_one old edit text₁ text₂ new₁ new₂ (refused c₁ r₁ o₁) (refused c₂ r₂ o₂) =
    (texts_one (Refused c₁) (Refused c₂) (refusal_text c₁) (refusal_text c₂) (refused_one old.names edit c₁ c₂ r₁ o₁ r₂ o₂) (refl, o₁) (refl, o₂), refl)
