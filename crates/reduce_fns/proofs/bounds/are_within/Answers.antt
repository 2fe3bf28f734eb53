use Rattle.std.{proofs.Common.{◌≡◌, ◌∙◌, ◌+◌, ◌%◌, ◌/◌, ap, subst, get_or, pos, inl, inr, arith, of_z, w64, SFits, rules}, proofs.lemmas.Bool.{cases_lt, ltb-true}, proofs.lemmas.Int.{to_z-of_z}, proofs.lemmas.List.{get_or_default}, proofs.lemmas.Nat.{le_or_l, le_or_r}}
use Rattle.reduce_fns.{specs.Sum.{IsWithinBound}, proofs.WithinBounds.{within_bits}}
use Rattle.reduce_fns.proofs.bounds.are_within.Goals as goal

pub loop-number-preserved : goal.loop-number-preserved
loop-number-preserved c = λ low k below.
    let bits = c.loop-number.bits in
    let bound = c.args.bound in
    let z = get_or c.args.numbers.now c.loop-number.number-index (pos 0) in
    let fit : SFits w64 z = search rules in
    let same : c.cast_unsigned.result ≡ of_z w64 z = c.cast_unsigned.ensures ∙ ap (of_z w64) (to_z-of_z w64 z fit) in
    let moved = (c.cast_unsigned.result + bound) % 18446744073709551616 in
    elim (cases_lt k c.loop-number.number-index) [
      | inl h ↦ c.loop-number.invariant (omega (arith, low, le_or_l bits moved)) k h
      | inr h ↦
          let here : c.loop-number.number-index ≡ k = omega arith in
          subst (λ j. IsWithinBound bound (get_or c.args.numbers.now j (pos 0))) here (within_bits bound z (omega arith) fit (omega (arith, low, le_or_r bits moved, same)))
    ]

pub returns : goal.returns
returns c = λ small k d below.
    subst (IsWithinBound c.args.bound) (get_or_default c.args.numbers.now k (pos 0) d below)
    (c.loop-number.invariant (ltb-true (c.loop-number.bits / 2) c.args.bound small) k (omega (arith, c.loop-number-test.false)))
