use Rattle.{std.proofs.Common.{rules, ◌≡◌, ◌∙◌, ap, sym, get_or, length, take, remove, arith}, function_names.specs.Axes.{axis_at}}
use Rattle.{item_fns.specs.RightFold.{fold_right}, reduce_fns.specs.Lines.{line}}
use Rattle.scan_fns.{proofs.Scanned.{ScanAxis, scan_axis, scan_typed}, proofs.scan.Scan.scanned_at.Goals.{After-axis_at-axis}}
use Rattle.scan_fns.proofs.scan.Scan.scanned_at.Goals as goal

on_axis : (c : After-axis_at-axis) → ScanAxis c.args.self.along c.args.array.now c.args.index.now c.axis_at-axis.result
on_axis c = scan_axis _ _ _ _ c.requires (search rules) (search rules)

pub without_axis-others-requires-clause-rank : goal.without_axis-others-requires-clause-rank
without_axis-others-requires-clause-rank c =
    omega (arith, (on_axis (goal.at.without_axis-others-requires-clause-rank c).After-axis_at-axis).long, c.shape-axes.ensures.sound.within.rank)

pub without_axis-others-requires-clause-there : goal.without_axis-others-requires-clause-there
without_axis-others-requires-clause-there c = (on_axis (goal.at.without_axis-others-requires-clause-there c).After-axis_at-axis).on_index

pub bounds-index-axis : goal.bounds-index-axis
bounds-index-axis c = (on_axis (goal.at.bounds-index-axis c).After-axis_at-axis).on_index

pub fold_line-requires-clause-inside : goal.fold_line-requires-clause-inside
fold_line-requires-clause-inside c = rw (c.as_slice.ensures, c.without_axis-others.ensures.is) (on_axis (goal.at.fold_line-requires-clause-inside c).After-axis_at-axis).at.others

pub fold_line-requires-clause-some : goal.fold_line-requires-clause-some
fold_line-requires-clause-some c = let axis = on_axis (goal.at.fold_line-requires-clause-some c).After-axis_at-axis in omega (arith, axis.at.low, axis.index_at)

pub fold_line-requires-clause-few : goal.fold_line-requires-clause-few
fold_line-requires-clause-few c = let axis = on_axis (goal.at.fold_line-requires-clause-few c).After-axis_at-axis in omega (arith, axis.at.high, axis.index_at)

pub returns-clause-is : goal.returns-clause-is
returns-clause-is c =
    let b = c.args.array.now in
    let index = c.args.index.now in
    let axis = on_axis (goal.at.returns-clause-is c).After-axis_at-axis in
    c.fold_line.ensures.is
    ∙ ap (λ xs. fold_right c.args.self.function (take (get_or index c.axis_at-axis.result 0) (line b c.axis_at-axis.result xs)))
    (c.as_slice.ensures ∙ c.without_axis-others.ensures.is)
    ∙ ap (λ i. fold_right c.args.self.function (take i (line b c.axis_at-axis.result (remove index c.axis_at-axis.result)))) (sym axis.index_at)
    ∙ ap (λ k. fold_right c.args.self.function (take (get_or index k 1) (line b k (remove index k)))) axis.meant

pub returns-clause-typed : goal.returns-clause-typed
returns-clause-typed c =
    let index = c.args.index.now in
    let axis = on_axis (goal.at.returns-clause-typed c).After-axis_at-axis in
    let same : get_or index (axis_at (length c.args.array.now.shape) c.args.self.along) 1 ≡ get_or index c.axis_at-axis.result 0 =
    ap (λ k. get_or index k 1) (sym axis.meant) ∙ axis.index_at in
    scan_typed c.args.self.along c.args.array.now index c.fold_line.result c.shape-axes.ensures.sound c.requires (rw axis.meant at axis.there)
    (λ h. c.fold_line.ensures.one (sym same ∙ h)) (λ h. c.fold_line.ensures.several (omega (arith, h, same)))
