use Rattle.{std.specs.Prelude.{◌≡◌, ℕ, ◌≤◌, ◌<◌}, names.specs.Words.{word_at, count_of_words}}
use Rattle.names.proofs.name.NamePartialEq.eq.Given as goal

abbrev pub invariant-loop-index : goal.invariant-loop-index
invariant-loop-index l = (l.index ≤ count_of_words l.self) × ((k : ℕ) → k < l.index → word_at l.self k ≡ word_at l.other k)
