-- The items computed for a change that is made are at most its cost.
use Rattle.std.proofs.Common.{◌≡◌, ◌≤◌, ℕ, Ok, Result, subst, sym, ◌∙◌}
use Rattle.sheet_recalc.{specs.Names.{Names, SheetValue}, specs.Changes.{SheetChange, Define, Store, Put, SetCell, AddRow, Erase, Accepts}, specs.Costs.{HasCost}, specs.Pending.{IsPendingOn, steps_left, names_after}, specs.declared.pending.Pending.{Pending}, proofs.Stepped.{is_ready, whole_cost}}

same_ok : {A B : Type 0} {r : Result A B} {a b : A} → r ≡ Ok a → r ≡ Ok b → a ≡ b
same_ok p q = cc

-- an accepted change leads to one list of names
pub accepts_one : (names : Names) (change : SheetChange) (new₁ new₂ : Names) → Accepts names change new₁ → Accepts names change new₂ → new₁ ≡ new₂
accepts_one names (Define n t) new₁ new₂ a b = a.0 ∙ sym b.0
accepts_one names (Store n t) new₁ new₂ a b = rw (same_ok a.1 b.1) at a.2 ∙ sym b.2
accepts_one names (Put n v) new₁ new₂ a b = a.0 ∙ sym b.0
accepts_one names (SetCell n positions literal) new₁ new₂ a b = rw (same_ok a.1 b.1) at a.2 ∙ sym b.2
accepts_one names (AddRow n literal) new₁ new₂ a b = rw (same_ok a.1 b.1) at a.2 ∙ sym b.2
accepts_one names (Erase n) new₁ new₂ a b = a.1 ∙ sym b.1

pub spent_within : (s : SheetValue) (change : SheetChange) (p : Pending) (after : Names) (cost : ℕ) → IsPendingOn s change p → steps_left p ≡ 0 →
    Accepts s.names change after → HasCost s.names change after cost → p.ticks ≤ cost
spent_within s change p after cost h none accepts costs =
    let same = accepts_one s.names change (names_after s.tables p) after h.accepts accepts in
    let planned : HasCost s.names change after p.plans.cost = subst (λ (ns : Names). HasCost s.names change ns p.plans.cost) same (whole_cost s change p h none) in
    subst (λ (n : ℕ). p.ticks ≤ n) (planned ∙ sym costs) (is_ready s.tables p h.base h.begun none).few
