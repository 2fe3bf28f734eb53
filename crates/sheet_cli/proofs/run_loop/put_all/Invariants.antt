use Rattle.std.{proofs.Common.{◌≡◌, ℕ, List, ◌++◌, length}, specs.Io.KnownBytes.{Appends}}
use Rattle.sheet_cli.proofs.run_loop.put_all.Given as goal

abbrev pub invariant-loop-rest : goal.invariant-loop-rest
invariant-loop-rest g l = (front : List ℕ) × (l.bytes ≡ front ++ l.rest) × Appends (g.W.Sink.written l.initial.sink) (g.W.Sink.written l.sink) front

abbrev pub decreases-loop-rest : goal.decreases-loop-rest
decreases-loop-rest g l = length l.rest
