use Rattle.{std.proofs.Common.{sym, arith}, fold_trees.proofs.LinePlaces.{line_counted, lines_before}}
use Rattle.fold_trees.proofs.line.line_through.Goals as goal

pub overflow_mul-result : goal.overflow_mul-result
overflow_mul-result c =
    let counted = line_counted c.args.count c.args.step c.requires.some c.requires.apart c.args.place in
    record { fits = omega (arith, lines_before c.args.count c.args.step c.requires.some c.requires.apart c.args.place, counted, c.ranges.place.fits) }

pub overflow_add-result : goal.overflow_add-result
overflow_add-result c =
    let counted = line_counted c.args.count c.args.step c.requires.some c.requires.apart c.args.place in
    record { fits = omega (arith, lines_before c.args.count c.args.step c.requires.some c.requires.apart c.args.place, counted, c.ranges.place.fits) }

pub returns : goal.returns
returns c = sym (line_counted c.args.count c.args.step c.requires.some c.requires.apart c.args.place)
