use Rattle.std.{proofs.Common.{◌≡◌, ◌∙◌, Option, Some, None, is_some, not, false, refl, sym, ap, subst}, proofs.lemmas.Bool.{false≢true}}
use Rattle.formula_core.specs.Plans.{PlanValue}
use Rattle.sheet_recalc.{specs.ProposedSheet.{outline_of, proposed_change}, specs.Planning.{IsNext}, proofs.Forward.{started_way}}
use Rattle.sheet_recalc.proofs.ahead.Ahead.start.Goals as goal

none_of : (q : Option PlanValue) → is_some q ≡ false → q ≡ None
none_of None h = refl
none_of (Some p) h = absurd (false≢true (sym h))

pub returns-in_ok-start-clause-way : goal.returns-in_ok-start-clause-way
returns-in_ok-start-clause-way c = λ base left ticks w next.
    let o = outline_of c.args.self.now.proposed.now in
    let none : c.args.current.now ≡ None = none_of c.args.current.now (c.is_none.ensures ∙ ap not c.if-is_none.true) in
    let made = c.in_ok-start.ensures in
    started_way o c.requires.ahead.proposed base left ticks w c.args.formula.now c.in_ok-start.field-0 (subst (λ q. IsNext o base left w c.args.formula.now q ticks) none next)
    (made.planned (proposed_change o) c.requires.told) made.none made.cost
