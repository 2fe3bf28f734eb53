use Rattle.{std.proofs.Common.{◌∙◌, ap, sym, arith}, item_fns.specs.RightFold.{fold_right}}
use Rattle.reduce_fns.{specs.Laws.LineIndices.{inside}, proofs.Lines.{LineTaken, long_with_axis, line_taken}, proofs.right_fold.fold_line.Goals.{After-stride}}
use Rattle.reduce_fns.proofs.right_fold.fold_line.Goals as goal

pub with_axis-first-requires-clause-rank : goal.with_axis-first-requires-clause-rank
with_axis-first-requires-clause-rank c =
    omega (arith, long_with_axis c.args.array.now.shape c.args.index.now c.args.axis c.requires.there c.requires.inside, c.shape-shape.ensures.sound.within.rank)

pub position-first_place-requires-clause-in_range : goal.position-first_place-requires-clause-in_range
position-first_place-requires-clause-in_range c =
    rw (c.shape-shape.ensures.is, c.as_slice.ensures, c.with_axis-first.ensures.is)
    (inside c.args.axis c.args.array.now.shape c.args.index.now 1 c.requires.there c.requires.inside (omega arith) (omega (arith, c.requires.some, c.requires.few)))

-- the line that is folded
taken : (c : After-stride) → LineTaken c.args.array.now c.args.axis c.args.index.now c.args.count c.position-first_place.result c.stride.result
taken c =
    line_taken c.args.array.now c.args.axis c.args.index.now c.requires.there c.requires.inside c.args.count _ _ c.shape-shape.ensures.sound c.requires.some c.requires.few
    (rw (c.shape-shape.ensures.is, c.as_slice.ensures, c.with_axis-first.ensures.is) at c.position-first_place.ensures.is) (rw (c.as_slice-2.ensures, c.shape-shape.ensures.is) at c.stride.ensures.is)

pub fold_items-requires-clause-high : goal.fold_items-requires-clause-high
fold_items-requires-clause-high c = (taken (goal.at.fold_items-requires-clause-high c).After-stride).high

pub returns-clause-is : goal.returns-clause-is
returns-clause-is c = c.fold_items.ensures.is ∙ ap (fold_right c.args.function) (sym (taken (goal.at.returns-clause-is c).After-stride).is)
