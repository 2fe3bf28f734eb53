use Rattle.std.proofs.Common.{◌∙◌, ◌-◌, sym, arith}
use Rattle.reduce_fns.{specs.Laws.LineIndices.{inside}, proofs.Lines.{LineTaken, long_with_axis, line_taken}, proofs.LineNumbers.{numbers_there, as_items}, proofs.right_fold.line_numbers.Goals.{After-stride-apart}}
use Rattle.reduce_fns.proofs.right_fold.line_numbers.Goals as goal

pub with_axis-first-requires-clause-rank : goal.with_axis-first-requires-clause-rank
with_axis-first-requires-clause-rank c =
    omega (arith, long_with_axis c.args.array.now.shape c.args.index.now c.args.axis c.requires.there c.requires.inside, c.shape-shape.ensures.sound.within.rank)

pub position-first_place-requires-clause-in_range : goal.position-first_place-requires-clause-in_range
position-first_place-requires-clause-in_range c =
    rw (c.shape-shape.ensures.is, c.as_slice.ensures, c.with_axis-first.ensures.is)
    (inside c.args.axis c.args.array.now.shape c.args.index.now 1 c.requires.there c.requires.inside (omega arith) (omega (arith, c.requires.some, c.requires.few)))

-- the line with these numbers
taken : (c : After-stride-apart) → LineTaken c.args.array.now c.args.axis c.args.index.now c.args.count c.position-first_place.result c.stride-apart.result
taken c =
    line_taken c.args.array.now c.args.axis c.args.index.now c.requires.there c.requires.inside c.args.count _ _ c.shape-shape.ensures.sound c.requires.some c.requires.few
    (rw (c.shape-shape.ensures.is, c.as_slice.ensures, c.with_axis-first.ensures.is) at c.position-first_place.ensures.is) (rw (c.as_slice-2.ensures, c.shape-shape.ensures.is) at c.stride-apart.ensures.is)

pub numbers_apart-requires-clause-high : goal.numbers_apart-requires-clause-high
numbers_apart-requires-clause-high c = (taken (goal.at.numbers_apart-requires-clause-high c).After-stride-apart).high

pub returns : goal.returns
returns c =
    let line = taken (goal.at.returns c).After-stride-apart in
    as_items c.numbers_apart.result _ _ c.numbers_apart.ensures
    (numbers_there c.args.array.now c.shape-shape.ensures.sound c.requires.typed (c.position-first_place.result - 1) c.stride-apart.result c.args.count (omega (arith, line.low, line.high)) ∙ sym line.is)
