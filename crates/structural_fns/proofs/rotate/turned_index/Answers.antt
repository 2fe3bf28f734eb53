use Rattle.{std.proofs.Common.{arith}, structural_fns.proofs.RotatedRows.{turned_from}}
use Rattle.structural_fns.proofs.rotate.turned_index.Goals as goal

pub returns-then-moved-axis : goal.returns-then-moved-axis
returns-then-moved-axis c =
    λ amount e.
    let beyond = c.if-moved-axis.true in
    let there = (turned_from c.args.axis c.args.turn amount c.args.index c.requires.low c.requires.high e).around (omega (arith, c.requires.low)) in
    omega (arith, c.requires.low)

pub returns : goal.returns
returns c =
    λ amount e.
    let inside = c.if-moved-axis.false in
    let there = (turned_from c.args.axis c.args.turn amount c.args.index c.requires.low c.requires.high e).inside (omega (arith, c.requires.low)) in
    omega (arith, c.requires.low)
