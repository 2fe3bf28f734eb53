use Rattle.std.{proofs.Common.{◌∙◌, sym, subst, arith, below_more}, specs.List.{Contains}, specs.Map.{keys_of}, proofs.lemmas.List.{get_or_default}}
use Rattle.dep_order.proofs.users.first_found.Goals as goal

pub returns-then-is_found : goal.returns-then-is_found
returns-then-is_found g c = ((c.loop-reference.reference-index, c.loop-reference-test.true, sym c.reference-item.is), rw c.if-is_found.true at c.is_found.ensures)

pub loop-reference-preserved : goal.loop-reference-preserved
loop-reference-preserved g c = λ y.
    let there = get_or_default c.args.references.now c.loop-reference.reference-index y c.reference-item.result c.loop-reference-test.true ∙ sym c.reference-item.is in
    below_more _ _ (c.loop-reference.invariant y) (λ h. (rw c.if-is_found.false at c.is_found.ensures) (subst (λ z. Contains (keys_of c.args.found.now.entries) z) there h))

pub returns : goal.returns
returns g c = λ b h k.
    c.loop-reference.invariant b h.0 (omega (arith, h.1, c.loop-reference-test.false)) (subst (λ z. Contains (keys_of c.args.found.now.entries) z) (sym h.2) k)
