use Rattle.{std.proofs.Common.{◌≡◌, take, length}, change_core.specs.Places.{last_of_box}}
use Rattle.structural_fns.proofs.places.last_index.Given as goal

abbrev pub invariant-loop-last : goal.invariant-loop-last
invariant-loop-last l = record { long : length l.index ≡ l.last-index; done : l.index ≡ last_of_box (take l.last-index l.region) }
