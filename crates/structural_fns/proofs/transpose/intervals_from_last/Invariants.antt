use Rattle.std.proofs.Common.{◌≡◌, ◌++◌, ◌+◌, take, length, reverse}
use Rattle.structural_fns.proofs.transpose.intervals_from_last.Given as goal

abbrev pub invariant-loop-axis : goal.invariant-loop-axis
invariant-loop-axis l = record { made : l.intervals ++ reverse (take l.axis l.list) ≡ reverse l.list; long : length l.intervals + l.axis ≡ length l.list }
