use Rattle.{std.proofs.Common.{arith}, scan_fns.proofs.LeftScans.{no_lines, more_lines, results_end}}
use Rattle.scan_fns.proofs.prefix.folds_beside.Goals as goal

pub loop-results-init : goal.loop-results-init
loop-results-init g c =
    let made = c.in_ok-results.ensures in
    no_lines _ c.args.numbers.now c.args.count c.requires.some c.in_ok-results.results made.items made.len (omega (arith, c.room_of.ensures.low, made.capacity))

pub push_folds-requires-clause-begins : goal.push_folds-requires-clause-begins
push_folds-requires-clause-begins g c = c.loop-results.invariant.begins (omega (arith, c.loop-results-test.true, c.len.ensures))

pub push_folds-requires-clause-before : goal.push_folds-requires-clause-before
push_folds-requires-clause-before g c = c.loop-results.invariant.so_far

pub loop-results-smaller : goal.loop-results-smaller
loop-results-smaller g c = omega (arith, c.in_ok-push_folds.ensures.is.long, c.loop-results-test.true, c.len.ensures, c.requires.some)

pub loop-results-preserved : goal.loop-results-preserved
loop-results-preserved g c =
    more_lines _ c.args.numbers.now c.args.count c.requires.some c.loop-results.results c.push_folds.new.results (omega (arith, c.loop-results-test.true, c.len.ensures))
    c.loop-results.invariant c.in_ok-push_folds.ensures.is

pub returns-clause-is : goal.returns-clause-is
returns-clause-is g c = results_end _ _ _ _ c.loop-results.invariant.so_far (omega (arith, c.loop-results-test.false, c.len.ensures))

pub returns-clause-long : goal.returns-clause-long
returns-clause-long g c = omega (arith, c.loop-results-test.false, c.len.ensures, c.loop-results.invariant.within)
