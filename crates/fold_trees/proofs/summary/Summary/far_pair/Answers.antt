use Rattle.std.{proofs.Common.{◌≡◌, sym, subst, List, [], ◌∷◌, ℤ, to_z, of_z, w64}, proofs.lemmas.Int.{to_z-of_z}}
use Rattle.fold_trees.{specs.Sums.{IsSummaryOf, sums_of}, proofs.JoinedSums.{sums_append}}
use Rattle.fold_trees.proofs.summary.Summary.far_pair.Goals as goal

pub returns : goal.returns
returns c =
    let r : to_z w64 (of_z w64 c.args.right) ≡ c.args.right = to_z-of_z w64 c.args.right c.ranges.right in
    subst (λ (xs : List ℤ). IsSummaryOf c.followed_by.result (sums_of xs)) (λ i. (to_z-of_z w64 c.args.left c.ranges.left) i ∷ r i ∷ [])
    (subst (IsSummaryOf c.followed_by.result) (sym (sums_append (to_z w64 (of_z w64 c.args.left) ∷ []) (to_z w64 (of_z w64 c.args.right) ∷ [])))
    (c.followed_by.ensures _ _ c.single.ensures c.single-2.ensures))
