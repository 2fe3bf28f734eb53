use Rattle.{std.proofs.Common.{◌-◌}, sheet_cli.{specs.Answer.{state_of}, specs.Progress.{standing}, proofs.RunLemmas.{IsRunning}}}
use Rattle.sheet_cli.proofs.run_loop.run.Given as goal

abbrev pub invariant-loop-bytes_read : goal.invariant-loop-bytes_read
invariant-loop-bytes_read g l = IsRunning (g.R.Source.remaining l.fn.source) (g.R.Source.remaining l.source) (g.W.Sink.written l.fn.sink) (g.W.Sink.written l.sink)
    (state_of l.fn.desk) (standing l.progress.open_line l.progress.tally (state_of l.desk)) l.bytes_read

abbrev pub decreases-loop-bytes_read : goal.decreases-loop-bytes_read
decreases-loop-bytes_read g l = 18446744073709551615 - l.bytes_read
