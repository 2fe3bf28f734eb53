use Rattle.std.{proofs.Common.{◌<◌, ◌∙◌, [], length, ap, arith}, specs.List.{sum_by}, specs.Map.{keys_of}, proofs.lemmas.List.{take_all}, proofs.lemmas.List.Sums.{sum_by_more}}
use Rattle.sheet_recalc.{specs.Planning.{functions_at}, specs.ProposedSheet.{outline_of}, proofs.Forward.{keys_long}}
use Rattle.sheet_recalc.proofs.planning.functions_in.Goals as goal

pub loop-place-preserved : goal.loop-place-preserved
loop-place-preserved c =
    let es = c.args.found.now.entries in
    let f = functions_at (outline_of c.args.proposed.now) in
    let under : c.loop-place.place < length (keys_of es) = omega (arith, keys_long es, c.loop-place-test.true, c.len-place-end.ensures.len) in
    record {
      counted = omega (arith, c.loop-place.invariant.counted, c.from-count.ensures, c.functions_at.ensures, sum_by_more f (keys_of es) c.loop-place.place [] under);
      small = omega (arith, c.loop-place.invariant.small, c.from-count.ensures, c.functions_at.type_inv);
    }

pub overflow_add-count : goal.overflow_add-count
overflow_add-count c = omega (arith, c.loop-place.invariant.small, c.from-count.ensures, c.functions_at.type_inv, c.loop-place-test.true, c.len-place-end.ensures.small)

pub returns : goal.returns
returns c =
    let es = c.args.found.now.entries in
    let f = functions_at (outline_of c.args.proposed.now) in
    c.loop-place.invariant.counted ∙ ap (sum_by f) (take_all c.loop-place.place (keys_of es) (omega (arith, keys_long es, c.loop-place-test.false, c.len-place-end.ensures.len)))
