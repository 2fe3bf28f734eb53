use Rattle.std.{proofs.Common.{◌≡◌, ◌≤◌, subst, get_or, pos, inl, inr, unsigned_abs, arith, w64, rules}, proofs.lemmas.Bool.{cases_lt, ltb-true}, proofs.lemmas.Int.{to_z-of_z}, proofs.lemmas.List.{get_or_default}, proofs.lemmas.Nat.{le_or_l, le_or_r}}
use Rattle.scan_fns.specs.Prefixes.{IsUnit}
use Rattle.scan_fns.proofs.unit_products.are_units.Goals as goal

pub loop-number-preserved : goal.loop-number-preserved
loop-number-preserved c = λ low k below.
    let size = c.unsigned_abs-bits.result in
    let z = get_or c.args.numbers.now c.loop-number.number-index (pos 0) in
    let is : size ≡ unsigned_abs z = rw (to_z-of_z w64 z (search rules)) at c.unsigned_abs-bits.ensures.value in
    let near : size ≤ 1 = omega (arith, low, le_or_r c.loop-number.bits size) in
    elim (cases_lt k c.loop-number.number-index) [
      | inl h ↦ c.loop-number.invariant (omega (arith, low, le_or_l c.loop-number.bits size)) k h
      | inr h ↦
          let here : c.loop-number.number-index ≡ k = omega arith in
          subst (λ j. IsUnit (get_or c.args.numbers.now j (pos 0))) here (record { near = omega arith })
    ]

pub returns : goal.returns
returns c = λ units k d below.
    subst IsUnit (get_or_default c.args.numbers.now k (pos 0) d below)
    (c.loop-number.invariant (ltb-true c.loop-number.bits 2 units) k (omega (arith, c.loop-number-test.false)))
