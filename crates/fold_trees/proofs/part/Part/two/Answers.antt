use Rattle.std.{proofs.Common.{◌∷◌, [], subst, to_z, of_z, w64}, proofs.lemmas.Int.{to_z-of_z}}
use Rattle.fold_trees.proofs.part.Part.two.Goals as goal

pub returns : goal.returns
returns g c =
    subst (g.Self.Part.tells c.join.result) (λ i. (to_z-of_z w64 c.args.left c.ranges.left) i ∷ (to_z-of_z w64 c.args.right c.ranges.right) i ∷ [])
    (c.join.ensures (to_z w64 (of_z w64 c.args.left) ∷ []) (to_z w64 (of_z w64 c.args.right) ∷ []) c.of.ensures c.of-2.ensures)
