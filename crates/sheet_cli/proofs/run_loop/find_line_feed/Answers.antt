use Rattle.{std.{proofs.Common.{arith, refl}, proofs.lemmas.Bool.{ne_eqb}}, sheet_cli.{specs.Lines.{ended_lines}, proofs.Cuts.{ended_lines-step}}}
use Rattle.sheet_cli.proofs.run_loop.find_line_feed.Goals as goal

pub loop-i-init : goal.loop-i-init
unfolding ended_lines
loop-i-init c = (omega arith, refl)

pub loop-i-preserved : goal.loop-i-preserved
loop-i-preserved c = (omega (arith, c.loop-i-test.true), ended_lines-step c.args.bytes.now c.loop-i.i c.loop-i-test.true (ne_eqb _ 10 c.if-bytes-i-eq10.false) c.loop-i.invariant.1)
