use Rattle.{std.{proofs.Common.{rules, arith}, proofs.lemmas.Grind.{common_steps}}, selection_fns.proofs.Positions.{written_axes}}
use Rattle.selection_fns.proofs.index.+append_positions.Goals as goal

pub returns-in_err-append_within-2-clause-beyond : goal.returns-in_err-append_within-2-clause-beyond
returns-in_err-append_within-2-clause-beyond t c =
    let p = c.index-positions-0.result in
    let among = written_axes c.args.axes.now c.args.written.now c.args.positions.now p c.requires.one_an_axis c.requires.long c.if-not-written.false c.index-positions-0.is in
    search (rules, among)

pub returns-then-not-written-clause-items : goal.returns-then-not-written-clause-items
returns-then-not-written-clause-items t c = grind (arith, common_steps)
