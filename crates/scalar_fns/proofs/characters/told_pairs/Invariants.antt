use Rattle.{std.proofs.Common.{◌==◌, length, get_or}, scalar_fns.{specs.Characters.{told}, proofs.Equalities.{AreToldTo}}}
use Rattle.scalar_fns.proofs.characters.told_pairs.Given as goal

abbrev pub invariant-loop-place : goal.invariant-loop-place
invariant-loop-place l = AreToldTo l.place (length l.left) (λ k. told l.equal (get_or l.left k 0 == get_or l.right k 0)) l.answers
