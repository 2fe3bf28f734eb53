use Rattle.std.{proofs.Common.{◌≡◌, ◌∙◌, ◌+◌, ◌*◌, ap, sym, drop, take, length, pos, arith, subst, rules}, proofs.lemmas.List.{length-append}}
use Rattle.reduce_fns.{specs.Columns.{EndsInFolds}, proofs.ColumnFolds.{at_place, block_more, block_high, all_blocks}, proofs.Firsts.{all_places}}
use Rattle.reduce_fns.proofs.columns.column_folds.Goals as goal

pub overflow_mul-size : goal.overflow_mul-size
overflow_mul-size g c = omega (arith, block_high c.loop-block.block c.args.lines.now.stride c.args.lines.now.count c.args.lines.now.places _ c.loop-block-test.true c.args.lines.now.even c.args.lines.now.whole)

pub overflow_mul-first : goal.overflow_mul-first
overflow_mul-first g c = omega (arith, block_high c.loop-block.block c.args.lines.now.stride c.args.lines.now.count c.args.lines.now.places _ c.loop-block-test.true c.args.lines.now.even c.args.lines.now.whole)

pub overflow_add-rows : goal.overflow_add-rows
overflow_add-rows g c = omega (arith, block_high c.loop-block.block c.args.lines.now.stride c.args.lines.now.count c.args.lines.now.places _ c.loop-block-test.true c.args.lines.now.even c.args.lines.now.whole)

pub offset_bounds-lines-first : goal.offset_bounds-lines-first
offset_bounds-lines-first g c = omega (arith, block_high c.loop-block.block c.args.lines.now.stride c.args.lines.now.count c.args.lines.now.places _ c.loop-block-test.true c.args.lines.now.even c.args.lines.now.whole)

pub slice_bounds-rows-end : goal.slice_bounds-rows-end
slice_bounds-rows-end g c = omega (arith, block_high c.loop-block.block c.args.lines.now.stride c.args.lines.now.count c.args.lines.now.places _ c.loop-block-test.true c.args.lines.now.even c.args.lines.now.whole)

pub loop-block-preserved : goal.loop-block-preserved
loop-block-preserved g c =
    let f = g.S.TwoNumbers.gives c.args.step.now in
    let xs = c.args.lines.now.numbers.now in
    let s = c.args.lines.now.stride in
    let n = c.args.lines.now.count in
    let first = c.loop-block.block * (n * s) in
    let before = c.loop-block.folds.items in
    let all = c.push_folds.new.folds in
    let ends : EndsInFolds f (take (n * s) (drop first xs)) s n before all.items =
    subst (λ m. EndsInFolds f (take m (drop first xs)) s n before all.items) (omega arith) (c.in_ok-push_folds.ensures (search rules)) in
    let joined : length all.items ≡ length before + length ends.folds = ap length ends.is ∙ length-append before ends.folds in
    record {
      long = all.ok.0 ∙ omega arith;
      made = block_more f xs s n c.loop-block.block before all.items (sym c.loop-block.folds.ok.0 ∙ c.loop-block.invariant.long) ends c.loop-block.invariant.made;
    }

pub returns-clause-is : goal.returns-clause-is
returns-clause-is g c =
    let f = g.S.TwoNumbers.gives c.args.step.now in
    let all = all_blocks c.loop-block.block c.args.lines.now.stride c.args.lines.now.places c.loop-block.auto.block-end c.loop-block-test.false c.args.lines.now.even in
    all_places (at_place f c.args.lines.now.numbers.now c.args.lines.now.stride c.args.lines.now.count) c.args.lines.now.places c.loop-block.folds.items (pos 0)
    (sym c.loop-block.folds.ok.0 ∙ c.loop-block.invariant.long ∙ all)
    (λ k below. c.loop-block.invariant.made k (omega arith))
