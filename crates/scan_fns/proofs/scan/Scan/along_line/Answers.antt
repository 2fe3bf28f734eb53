use Rattle.std.proofs.Common.{rules, ◌≡◌, ◌∙◌, ◌+◌, ◌-◌, ◌≤◌, ◌∷◌, [], ap, sym, subst, get_or, length, map, take, remove, arith, IfSome, Result}
use Rattle.arrays_core.{specs.declared.item.Item.TheVariants.{Num}, specs.declared.item.ItemType.TheVariants.{Nums}, specs.declared.item.Kind.{Kind}, specs.Arrays.{ArrayValue, IsAnswerTo, with_items}}
use Rattle.{item_fns.{specs.Numbers.{dyadic_on_numbers}, specs.NumberLists.{number_items}}, function_names.specs.Axes.{axis_at}}
use Rattle.scan_fns.{specs.LinearScan.{folds_from}, proofs.Scanned.{ScanAxis, scan_axis}, proofs.ScannedLine.{along_is, as_many}, proofs.scan.Scan.along_line.Goals.{After-axis_at-axis, In-Ok}}
use Rattle.reduce_fns.specs.Lines.{line}
use Rattle.scan_fns.proofs.scan.Scan.along_line.Goals as goal

on_axis : (c : After-axis_at-axis) → ScanAxis c.args.self.now.along c.args.array.now c.args.index.now c.axis_at-axis.result
on_axis c =
    let meant : c.axis_at-axis.result ≡ axis_at (length c.args.array.now.shape) c.args.self.now.along = search rules in
    scan_axis _ _ _ _ c.requires.place meant (omega (arith, meant, c.requires.there))

module _ (c : In-Ok) (axis : ScanAxis c.args.self.now.along c.args.array.now c.args.index.now c.axis_at-axis.result) where
  -- the numbers of the line
  read : map (λ z. Num z) c.in-Ok.numbers.items ≡ take c.args.last (line c.args.array.now c.axis_at-axis.result c.as_slice.result.now)
  read = rw c.in-Ok.is at c.line_numbers.ensures

  high : c.args.last ≤ get_or c.args.array.now.shape c.axis_at-axis.result 0
  high = rw (sym axis.meant) at c.requires.high

  many : length c.in-Ok.numbers.items ≡ c.args.last
  many = as_many c.in-Ok.numbers.items c.args.array.now c.axis_at-axis.result c.as_slice.result.now c.args.last axis.there read high

pub without_axis-others-requires-clause-rank : goal.without_axis-others-requires-clause-rank
without_axis-others-requires-clause-rank c =
    omega (arith, (on_axis (goal.at.without_axis-others-requires-clause-rank c).After-axis_at-axis).long, c.shape-axes.ensures.sound.within.rank)

pub without_axis-others-requires-clause-there : goal.without_axis-others-requires-clause-there
without_axis-others-requires-clause-there c = (on_axis (goal.at.without_axis-others-requires-clause-there c).After-axis_at-axis).on_index

pub line_numbers-requires-clause-inside : goal.line_numbers-requires-clause-inside
line_numbers-requires-clause-inside c =
    rw (c.as_slice.ensures, c.without_axis-others.ensures.is) (on_axis (goal.at.line_numbers-requires-clause-inside c).After-axis_at-axis).at.others

pub line_numbers-requires-clause-some : goal.line_numbers-requires-clause-some
line_numbers-requires-clause-some c =
    let axis = on_axis (goal.at.line_numbers-requires-clause-some c).After-axis_at-axis in
    omega (arith, axis.at.low, (rw (sym axis.meant) at c.requires.order))

pub bounds-index-axis : goal.bounds-index-axis
bounds-index-axis c = (on_axis (goal.at.bounds-index-axis c).After-axis_at-axis).on_index

pub later_vector-requires-clause-low : goal.later_vector-requires-clause-low
later_vector-requires-clause-low c = let axis = on_axis (goal.at.later_vector-requires-clause-low c).After-axis_at-axis in omega (arith, axis.at.low, axis.index_at)

pub later_vector-requires-clause-high : goal.later_vector-requires-clause-high
later_vector-requires-clause-high c =
    let here = goal.at.later_vector-requires-clause-high c in
    let axis = on_axis here.After-axis_at-axis in
    omega (arith, (rw (sym axis.meant) at c.requires.order), axis.index_at, many here.In-Ok axis, ap length c.deref.ensures.value)

pub later_vector-requires-clause-few : goal.later_vector-requires-clause-few
later_vector-requires-clause-few c =
    let here = goal.at.later_vector-requires-clause-few c in
    let axis = on_axis here.After-axis_at-axis in
    omega (arith, (c.shape-axes.ensures.sound.within.axes _ 0 axis.there), high here.In-Ok axis, many here.In-Ok axis, ap length c.deref.ensures.value)

pub returns-in-Ok : goal.returns-in-Ok
returns-in-Ok c =
    let here = goal.at.returns-in-Ok c in
    let b = c.args.array.now in
    let index = c.args.index.now in
    let along = c.args.self.now.along in
    let axis = on_axis here.After-axis_at-axis in
    let f = dyadic_on_numbers c.args.self.now.function in
    let others : c.as_slice.result.now ≡ remove index c.axis_at-axis.result = c.as_slice.ensures ∙ c.without_axis-others.ensures.is in
    let line_read =
    read here.In-Ok axis ∙ ap (λ xs. take c.args.last (line b c.axis_at-axis.result xs)) others ∙ ap (λ k. take c.args.last (line b k (remove index k))) axis.meant in
    let first : get_or index c.axis_at-axis.result 0 ≡ get_or index (axis_at (length b.shape) along) 1 = sym axis.index_at ∙ ap (λ k. get_or index k 1) axis.meant in
    let same = ap (λ xs. with_items Nums ((length xs + 1 - get_or index c.axis_at-axis.result 0) ∷ []) (number_items (folds_from f xs (get_or index c.axis_at-axis.result 0))))
    c.deref.ensures.value
    ∙ ap (λ k. with_items Nums ((length c.in-Ok.numbers.items + 1 - k) ∷ []) (number_items (folds_from f c.in-Ok.numbers.items k))) first
    ∙ along_is c.args.self.now.function along b index c.args.last c.in-Ok.numbers.items (omega (arith, axis.meant, axis.on_index)) line_read (many here.In-Ok axis)
    (rw axis.meant at axis.at.low) c.requires.order in
    subst (λ (w : Result ArrayValue Kind). IfSome c.later_vector.result (IsAnswerTo w)) same c.later_vector.ensures
