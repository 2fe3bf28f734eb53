use Rattle.{std.proofs.Common.{◌≡◌, get_or, pos}, operator_fns.specs.SmallProducts.{sum_of_products}}
use Rattle.operator_fns.proofs.small_products.sum_of_pairs.Given as goal

abbrev pub invariant-loop-place : goal.invariant-loop-place
invariant-loop-place g l = l.sum ≡ sum_of_products (λ k. get_or l.left k (pos 0)) (λ k. get_or l.right k (pos 0)) l.place
