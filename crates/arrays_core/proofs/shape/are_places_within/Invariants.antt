use Rattle.{std.proofs.Common.{◌≡◌, ◌*◌, ◌≤◌, drop}, arrays_core.{specs.Limits.{most_places}, specs.Shapes.{size as size_of}}}
use Rattle.arrays_core.proofs.shape.are_places_within.Given as goal

abbrev pub invariant-loop-axis : goal.invariant-loop-axis
invariant-loop-axis l = record { product : l.places * size_of (drop l.axis-index l.axes) ≡ size_of l.axes; within : l.places ≤ most_places }
