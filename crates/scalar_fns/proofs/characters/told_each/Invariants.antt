use Rattle.{std.proofs.Common.{◌==◌, length, get_or}, scalar_fns.{specs.Characters.{told}, proofs.Equalities.{AreToldTo}}}
use Rattle.scalar_fns.proofs.characters.told_each.Given as goal

abbrev pub invariant-loop-place : goal.invariant-loop-place
invariant-loop-place l = AreToldTo l.place (length l.characters) (λ k. told l.equal (get_or l.characters k 0 == l.character)) l.answers
