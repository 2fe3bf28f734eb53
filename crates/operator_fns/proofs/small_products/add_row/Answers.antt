use Rattle.std.{proofs.Common.{◌≡◌, ◌∙◌, ◌≢◌, ap, get_or, pos, arith, to_z, of_z, ◌+ℤ◌, ◌*ℤ◌, w64, rules, below_more, get_or-set_same, get_or-set_other}, proofs.Math.ListN.{length-set}, proofs.lemmas.Int.{to_z-of_z}}
use Rattle.operator_fns.proofs.small_products.add_row.Goals as goal

pub of-requires-clause-right : goal.of-requires-clause-right
of-requires-clause-right g c =
    let read = to_z-of_z w64 (get_or c.args.row.now c.loop-column.column (pos 0)) (search rules) in
    rw read (c.requires.row c.loop-column.column (pos 0) c.loop-column-test.true)

pub of-requires-clause-within : goal.of-requires-clause-within
of-requires-clause-within g c =
    let m = to_z-of_z w64 c.args.factor c.ranges.factor in
    let x = to_z-of_z w64 (get_or c.args.row.now c.loop-column.column (pos 0)) (search rules) in
    rw (m, x) (c.requires.fits c.loop-column.column c.loop-column-test.true).product

pub overflow_add-sums : goal.overflow_add-sums
overflow_add-sums g c =
    let k = c.loop-column.column in
    let m = to_z-of_z w64 c.args.factor c.ranges.factor in
    let x = to_z-of_z w64 (get_or c.args.row.now k (pos 0)) (search rules) in
    let s = to_z-of_z w64 (get_or c.loop-column.sums k (pos 0)) (search rules) in
    let product = to_z-of_z w64 c.of.result (search rules) ∙ rw (m, x) at c.of.ensures in
    rw (s, product, c.loop-column.invariant.left k (omega arith)) (c.requires.fits k c.loop-column-test.true).total

pub loop-column-preserved : goal.loop-column-preserved
loop-column-preserved g c =
    let k = c.loop-column.column in
    let sums = c.loop-column.sums in
    let x = get_or c.args.row.now k (pos 0) in
    let s = get_or sums k (pos 0) in
    let m = c.args.factor in
    let fits = c.requires.fits k c.loop-column-test.true in
    let old : s ≡ get_or c.args.sums.now k (pos 0) = c.loop-column.invariant.left k (omega arith) in
    let x_is : to_z w64 (of_z w64 x) ≡ x = to_z-of_z w64 _ (search rules) in
    let s_is : to_z w64 (of_z w64 s) ≡ s = to_z-of_z w64 _ (search rules) in
    let m_is : to_z w64 (of_z w64 m) ≡ m = to_z-of_z w64 _ c.ranges.factor in
    let product : to_z w64 (of_z w64 c.of.result) ≡ m *ℤ x = to_z-of_z w64 _ (search rules) ∙ rw (m_is, x_is) at c.of.ensures in
    let t_is : to_z w64 (of_z w64 (s +ℤ m *ℤ x)) ≡ s +ℤ m *ℤ x = to_z-of_z w64 _ (rw old fits.total) in
    rw (m_is, s_is, product, t_is)
    (record {
      long = length-set sums k (s +ℤ m *ℤ x) ∙ c.loop-column.invariant.long;
      made = below_more _ _
          (λ j below. let other : j ≢ k = omega arith in get_or-set_other sums k j (s +ℤ m *ℤ x) (pos 0) other ∙ (rw m_is at c.loop-column.invariant.made j below))
          (get_or-set_same sums k (s +ℤ m *ℤ x) (pos 0) (omega arith) ∙ ap (λ z. z +ℤ m *ℤ x) old);
      left = λ j above. let other : j ≢ k = omega arith in get_or-set_other sums k j (s +ℤ m *ℤ x) (pos 0) other ∙ c.loop-column.invariant.left j (omega arith);
    })
