use Rattle.std.{proofs.Common.{◌≡◌, ◌∷◌, [], List, ℤ, true, subst, to_z, of_z, w64}, proofs.lemmas.Int.{to_z-of_z}, proofs.lemmas.List.Elements.{All-cons, All-nil}}
use Rattle.{item_fns.{specs.Numbers.{is_number}, proofs.Within.{within_of, is_in_64_bits}}, fold_trees.specs.Sums.{IsSummaryOf, sums_of}}
use Rattle.fold_trees.proofs.summary.SummaryPart.two.Goals as goal

pub returns : goal.returns
returns c =
    let r : to_z w64 (of_z w64 c.args.right) ≡ c.args.right = to_z-of_z w64 c.args.right c.ranges.right in
    let first : is_number c.args.left ≡ true = is_in_64_bits c.args.left (within_of _ c.ranges.left) in
    let second : is_number c.args.right ≡ true = is_in_64_bits c.args.right (within_of _ c.ranges.right) in
    record {
      numbers = All-cons (λ (z : ℤ). is_number z ≡ true) c.args.left (c.args.right ∷ []) first (All-cons (λ (z : ℤ). is_number z ≡ true) c.args.right [] second (All-nil (λ (z : ℤ). is_number z ≡ true)));
      tells = subst (λ (xs : List ℤ). IsSummaryOf c.pair.result (sums_of xs)) (λ i. (to_z-of_z w64 c.args.left c.ranges.left) i ∷ r i ∷ []) c.pair.ensures;
    }
