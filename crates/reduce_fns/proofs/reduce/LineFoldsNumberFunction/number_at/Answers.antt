use Rattle.{std.proofs.Common.{arith}, reduce_fns.proofs.Reduced.{line_below}}
use Rattle.reduce_fns.proofs.reduce.LineFoldsNumberFunction.number_at.Goals as goal

pub overflow_mul-first-2 : goal.overflow_mul-first-2
overflow_mul-first-2 g c =
    let l = c.args.self.now.lines in
    omega (arith, line_below l.stride l.count c.args.place l.places l.apart l.some l.even c.requires, l.whole)

pub overflow_add-first : goal.overflow_add-first
overflow_add-first g c =
    let l = c.args.self.now.lines in
    omega (arith, line_below l.stride l.count c.args.place l.places l.apart l.some l.even c.requires, l.whole)

pub fold_numbers-requires-clause-high : goal.fold_numbers-requires-clause-high
fold_numbers-requires-clause-high g c =
    let l = c.args.self.now.lines in
    omega (arith, line_below l.stride l.count c.args.place l.places l.apart l.some l.even c.requires, l.whole)
