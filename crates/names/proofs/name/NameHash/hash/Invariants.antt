use Rattle.{std.{specs.Prelude.{◌≡◌, ◌≤◌}, specs.List.{fold}}, names.specs.Words.{first_words, count_of_words}}
use Rattle.names.proofs.name.NameHash.hash.Given as goal

abbrev pub invariant-loop-index : goal.invariant-loop-index
invariant-loop-index g l = (l.index ≤ count_of_words l.self) × (l.state ≡ fold g.H.Hasher.write l.initial.state (first_words l.self l.index))
