use Rattle.{std.proofs.Common.{◌≡◌, map, take}, change_rules.specs.Together.{is_longer}}
use Rattle.change_rules.proofs.arguments.marks_of.Given as goal

abbrev pub invariant-loop-places : goal.invariant-loop-places
invariant-loop-places l = l.marks.items ≡ map is_longer (take l.places-index l.moved)
