-- The nodes of a part that ends at a place, and of its halves, on a contiguous line.
use Rattle.std.{proofs.Common.{◌≡◌, ℕ, ◌+◌, ◌-◌, ◌*◌, ◌/◌, ◌^◌, arith}, proofs.lemmas.Nat.{pow_pos}}
use Rattle.fold_trees.{specs.declared.line.Line.{Line}, specs.LineTrees.{nth_node}, proofs.LineEnds.{near_node}}

module _ (l : Line) (end half low part : ℕ) (half_is : half ≡ 2 * 2 ^ low) (end_is : end ≡ part * (2 * half) + 2 * half) (near : l.step ≡ 1) where
  pub node_is : nth_node l (end - half) ≡ l.node + (end - half) - 1
  node_is = let p = pow_pos low in omega (arith, near_node l (end - half) near, end_is, half_is, p)

  pub first_is : nth_node l (part * (2 * half) + half / 2) ≡ l.node + (end - half) - 1 - half / 2
  first_is = let p = pow_pos low in omega (arith, near_node l (part * (2 * half) + half / 2) near, end_is, half_is, p)

  pub second_is : nth_node l (part * (2 * half) + half + half / 2) ≡ l.node + (end - half) - 1 + half / 2
  second_is = let p = pow_pos low in omega (arith, near_node l (part * (2 * half) + half + half / 2) near, end_is, half_is, p)
