use Rattle.std.{proofs.Common.{◌≡◌, ◌+◌, ◌≤◌, ◌++◌, ℕ, List, length}, specs.Io.KnownBytes.{Appends}}
use Rattle.sheet_cli.{specs.Answer.{state_of}, specs.Progress.{standing, Feeds}}
use Rattle.sheet_cli.proofs.run_loop.take_bytes.Given as goal

abbrev pub invariant-loop-rest : goal.invariant-loop-rest
invariant-loop-rest g l = let start = l.initial.progress in
    (front : List ℕ) × (text : List ℕ) × (l.bytes ≡ front ++ l.rest) × Appends (g.W.Sink.written l.initial.sink) (g.W.Sink.written l.sink) text
    × Feeds front (standing start.open_line start.tally (state_of l.initial.desk)) text (standing l.progress.open_line l.progress.tally (state_of l.desk))
    × (l.progress.tally.lines ≤ start.tally.lines + length front)
    × (l.progress.tally.refused_for_memory ≤ start.tally.refused_for_memory + length front)

abbrev pub decreases-loop-rest : goal.decreases-loop-rest
decreases-loop-rest g l = length l.rest
