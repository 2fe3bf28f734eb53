use Rattle.{std.{proofs.Common.{◌≡◌, ◌∙◌, List, ℕ, sym, subst}, specs.Map.{keys_of}}, dep_order.specs.Users.{EndsWith}}
use Rattle.sheet_recalc.{proofs.Live.{ends_with_last}, proofs.NameEquality.{equal-true}}
use Rattle.sheet_recalc.proofs.plans.Plans.keep_reach.Goals as goal

pub returns-then-of_edit : goal.returns-then-of_edit
returns-then-of_edit c = λ yes.
    let names : c.as_slice.result.now ≡ keys_of c.args.self.now.found.entries = c.as_slice.ensures ∙ c.keys.ensures.rest in
    let same : c.in-Some.last.now ≡ c.args.name.now = equal-true _ _ (sym c.eq.ensures ∙ yes) in (
      c.if-of_edit.true,
      subst (λ (q : List ℕ). EndsWith (keys_of c.args.self.now.found.entries) q) same
          (subst (λ (xs : List (List ℕ)). EndsWith xs c.in-Some.last.now) names (ends_with_last c.as_slice.result.now c.in-Some.last.now c.in-Some.ensures.value)),
    )
