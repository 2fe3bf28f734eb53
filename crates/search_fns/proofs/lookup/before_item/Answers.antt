use Rattle.{std.{proofs.Common.{◌∙◌, sym, arith}, specs.Ordering.{int_eq}}, search_fns.proofs.Lookups.{first_here, one_more_fails, first_nowhere}}
use Rattle.search_fns.proofs.lookup.before_item.Goals as goal

pub returns-then-is_one : goal.returns-then-is_one
returns-then-is_one g c =
    first_here g.T.Key.code (int_eq (g.T.Key.code c.args.sought)) c.args.items.now c.loop-place.place c.index-items-place.result
    c.loop-place-test.true c.index-items-place.is (sym c.is_one.ensures ∙ c.if-is_one.true) c.loop-place.invariant

pub loop-place-preserved : goal.loop-place-preserved
loop-place-preserved g c =
    one_more_fails g.T.Key.code (int_eq (g.T.Key.code c.args.sought)) c.args.items.now c.loop-place.place c.index-items-place.result
    c.loop-place-test.true c.index-items-place.is (sym c.is_one.ensures ∙ c.if-is_one.false) c.loop-place.invariant

pub returns : goal.returns
returns g c = first_nowhere g.T.Key.code (int_eq (g.T.Key.code c.args.sought)) c.args.items.now (λ k h. c.loop-place.invariant k (omega arith))
