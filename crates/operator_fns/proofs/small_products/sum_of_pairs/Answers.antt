use Rattle.std.{proofs.Common.{◌≡◌, ◌∙◌, ℕ, ℤ, List, sym, get_or, length, pos, arith, w64, rules}, proofs.lemmas.Int.{to_z-of_z}}
use Rattle.operator_fns.{specs.SmallProducts.{AddUp}, proofs.ProductSums.{AreSmall, next_sum, small_entries, product_fits, next_fits}, proofs.small_products.sum_of_pairs.Goals.{After-of-sum}}
use Rattle.operator_fns.proofs.small_products.sum_of_pairs.Goals as goal

-- two lists of one length, entry by entry
pairs : (xs ys : List ℤ) → length xs ≡ length ys → AddUp (length xs) xs ys → AreSmall (λ k. get_or xs k (pos 0)) (λ k. get_or ys k (pos 0)) (length xs)
pairs xs ys same small = small_entries xs ys (length xs) (λ k. k) (λ k. k) small (λ k below. below) (λ k below. omega arith)

pub of-sum-requires-clause-left : goal.of-sum-requires-clause-left
of-sum-requires-clause-left g c =
    let read = to_z-of_z w64 (get_or c.args.left.now c.loop-place.place (pos 0)) (search rules) in
    rw read (c.requires.left c.loop-place.place (pos 0) c.loop-place-test.true)

pub of-sum-requires-clause-right : goal.of-sum-requires-clause-right
of-sum-requires-clause-right g c =
    let read = to_z-of_z w64 (get_or c.args.right.now c.loop-place.place (pos 0)) (search rules) in
    rw read (c.requires.right c.loop-place.place (pos 0) (omega (arith, c.loop-place-test.true, c.requires.long)))

pub of-sum-requires-clause-within : goal.of-sum-requires-clause-within
of-sum-requires-clause-within g c =
    let x = to_z-of_z w64 (get_or c.args.left.now c.loop-place.place (pos 0)) (search rules) in
    let y = to_z-of_z w64 (get_or c.args.right.now c.loop-place.place (pos 0)) (search rules) in
    rw (x, y) (product_fits _ _ _ (pairs c.args.left.now c.args.right.now c.requires.long c.requires.small) c.loop-place.place c.loop-place-test.true)

pub overflow_add-sum : goal.overflow_add-sum
overflow_add-sum g c =
    let x = to_z-of_z w64 (get_or c.args.left.now c.loop-place.place (pos 0)) (search rules) in
    let y = to_z-of_z w64 (get_or c.args.right.now c.loop-place.place (pos 0)) (search rules) in
    let product = to_z-of_z w64 c.of-sum.result (search rules) ∙ rw (x, y) at c.of-sum.ensures in
    rw (product, c.loop-place.invariant) (next_fits _ _ _ (pairs c.args.left.now c.args.right.now c.requires.long c.requires.small) c.loop-place.place c.loop-place-test.true)

pub loop-place-preserved : goal.loop-place-preserved
loop-place-preserved g c =
    let k = c.loop-place.place in
    let row = λ (j : ℕ). get_or c.args.left.now j (pos 0) in
    let column = λ (j : ℕ). get_or c.args.right.now j (pos 0) in
    let x = to_z-of_z w64 (row k) (search rules) in
    let y = to_z-of_z w64 (column k) (search rules) in
    let product = to_z-of_z w64 c.of-sum.result (search rules) ∙ rw (x, y) at c.of-sum.ensures in
    let fits = next_fits row column _ (pairs c.args.left.now c.args.right.now c.requires.long c.requires.small) k c.loop-place-test.true in
    rw (product, c.loop-place.invariant, to_z-of_z w64 _ fits) (sym (next_sum row column k))
