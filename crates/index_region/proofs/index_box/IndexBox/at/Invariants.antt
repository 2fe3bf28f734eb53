use Rattle.{std.proofs.Common.{◌≡◌, take}, index_region.proofs.OnePlace.{one_place}}
use Rattle.index_region.proofs.index_box.IndexBox.at.Given as goal

abbrev pub invariant-loop-place : goal.invariant-loop-place
invariant-loop-place l = l.intervals ≡ one_place (take l.place-index l.index)
