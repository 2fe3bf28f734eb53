use Rattle.{std.proofs.Common.{◌/◌, arith}, fold_trees.proofs.Fours.{four_before}}
use Rattle.fold_trees.proofs.line_block.begin_from.Goals as goal

pub last_row-requires-clause-from : goal.last_row-requires-clause-from
last_row-requires-clause-from g c = (c.args.from / 2, omega (arith, c.requires.four))

pub returns-clause-kept : goal.returns-clause-kept
returns-clause-kept g c =
    let told = c.fours_row.ensures in
    four_before g.P.Part.blank g.P.Part.tells c.args.from c.args.first c.args.numbers.now c.args.nodes.now c.requires.four c.requires.kept c.fours_row.new.nodes (omega (arith, c.if-left-lt4.false)) told.others told.told
