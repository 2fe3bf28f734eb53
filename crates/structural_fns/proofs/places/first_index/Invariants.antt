use Rattle.{std.proofs.Common.{◌≡◌, take, length}, change_core.specs.Places.{first_of_box}}
use Rattle.structural_fns.proofs.places.first_index.Given as goal

abbrev pub invariant-loop-first : goal.invariant-loop-first
invariant-loop-first l = record { long : length l.index ≡ l.first-index; done : l.index ≡ first_of_box (take l.first-index l.region) }
