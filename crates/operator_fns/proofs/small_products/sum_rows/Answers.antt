use Rattle.std.{proofs.Common.{◌≡◌, ◌∙◌, ℕ, ◌+◌, ◌-◌, ◌*◌, ◌<◌, sym, get_or, drop, length, pos, arith, to_z, of_z, w64, rules}, proofs.lemmas.Int.{to_z-of_z}, proofs.lemmas.List.{length-take}}
use Rattle.operator_fns.proofs.ProductSums.{small_entries, product_fits, next_fits, next_sum, in_rows, row_entry}
use Rattle.operator_fns.proofs.small_products.sum_rows.Goals as goal

pub add_row-requires-clause-fits : goal.add_row-requires-clause-fits
add_row-requires-clause-fits g c = λ j inside.
    let xs = c.args.factors.now in
    let rows = c.args.rows.now in
    let s = length c.args.sums.now in
    let n = length xs in
    let p = c.loop-place.place in
    let long = length-take (p * s + s - p * s) (drop (p * s) rows) in
    let below : j < s = omega (arith, inside) in
    let row = λ (k : ℕ). get_or xs k (pos 0) in
    let column = λ (k : ℕ). get_or rows (j + k * s) (pos 0) in
    let small = small_entries xs rows n (λ k. k) (λ k. j + k * s) c.requires.small (λ k low. low) (λ k low. omega (arith, in_rows j s k n below low)) in
    let x_is : to_z w64 (of_z w64 (get_or xs p (pos 0))) ≡ get_or xs p (pos 0) = to_z-of_z w64 _ (search rules) in
    rw (x_is, row_entry rows (pos 0) s p j below, c.loop-place.invariant.made j below)
    (record { product = product_fits row column n small p c.loop-place-test.true; total = next_fits row column n small p c.loop-place-test.true })

pub loop-place-preserved : goal.loop-place-preserved
loop-place-preserved g c =
    let s = length c.args.sums.now in
    let p = c.loop-place.place in
    let x_is : to_z w64 (of_z w64 (get_or c.args.factors.now p (pos 0))) ≡ get_or c.args.factors.now p (pos 0) = to_z-of_z w64 _ (search rules) in
    record {
      long = c.add_row.ensures.long ∙ c.loop-place.invariant.long;
      made = λ j below.
          (rw (x_is, row_entry c.args.rows.now (pos 0) s p j below, c.loop-place.invariant.made j below) at (c.add_row.ensures.is j (omega arith)))
          ∙ sym (next_sum (λ k. get_or c.args.factors.now k (pos 0)) (λ k. get_or c.args.rows.now (j + k * s) (pos 0)) p);
    }
