use Rattle.std.{proofs.Common.{◌∙◌, ◌+◌, ◌-◌, ◌*◌, ap, subst, drop, take, length, arith}, proofs.lemmas.List.{length-append}, proofs.lemmas.List.Elements.{All-take, All-drop}}
use Rattle.{function_names.specs.declared.scalar.Scalar2.TheVariants.{And, Or}, item_fns.specs.Numbers.{dyadic_on_numbers}}
use Rattle.operator_fns.{specs.RowFolds.{EndsInFolds}, specs.Unions.{IsTruth}, proofs.PlainGrids.{row_more}}
use Rattle.operator_fns.proofs.bit_rows.BitRows.join_matrices.Goals as goal

pub push_union-requires-clause-truths : goal.push_union-requires-clause-truths
push_union-requires-clause-truths c =
    let n = c.args.grid.count in
    let first = c.loop-place.place * n in
    All-take IsTruth (first + n - first) (drop first c.args.left.now) (All-drop IsTruth first c.args.left.now c.requires.truths)

pub loop-place-preserved : goal.loop-place-preserved
loop-place-preserved c =
    let f = dyadic_on_numbers Or in
    let g = dyadic_on_numbers And in
    let grid = c.args.grid in
    let bits = c.args.self.now in
    let xs = c.args.left.now in
    let r = c.loop-place.place in
    let before = c.loop-place.made.items in
    let row = take (r * grid.count + grid.count - r * grid.count) (drop (r * grid.count) xs) in
    let all = c.push_union.new.made.items in
    let ends = c.in_ok-push_union.ensures in
    record {
      long = ap length ends.is ∙ length-append before ends.folds ∙ omega (arith, ends.long, c.requires.columns, c.loop-place.invariant.long);
      made = λ right same fits.
          row_more f g xs right grid c.args.places fits c.requires.plain r before all c.loop-place-test.true (c.loop-place.invariant.made right same fits)
          (subst (λ m. EndsInFolds f g row (take (grid.count * grid.columns) right) m before all) c.requires.columns
          (subst (λ rows. EndsInFolds f g row rows bits.columns before all) same ends));
    }
