use Rattle.std.{proofs.Common.{◌≡◌, ℕ, ◌+◌, ◌-◌, ◌*◌, ◌<◌, drop, length, get_or, pos, Ok, ◌∙◌, subst, arith, rules, to_z, of_z, w64}, proofs.lemmas.Int.{to_z-of_z}, proofs.lemmas.Bool.Decides.{nat_tests}}
use Rattle.search_fns.{specs.Encode.{carried_through}, specs.EncodedRows.{HasRow}, proofs.DigitRows.{carried_more, row_more}}
use Rattle.search_fns.proofs.encoded_rows.put_rows.Goals as goal

pub loop-place-preserved : goal.loop-place-preserved
loop-place-preserved c =
    let radices = c.args.radices.now in
    let zs = c.args.rests.now in
    let rests = c.loop-place.rests in
    let k = c.loop-place.place - 1 in
    let e : c.loop-place.place ≡ k + 1 = omega (arith, c.loop-place-test.true) in
    let below : k < length radices = omega (arith, c.loop-place.auto.place, c.loop-place-test.true) in
    let same : length rests ≡ length zs = c.loop-place.auto.rests in
    let left = subst (λ p. (j : ℕ) → j < length zs → carried_through (drop p radices) (get_or zs j (pos 0)) ≡ Ok (get_or rests j (pos 0))) e c.loop-place.invariant.carried in
    let old = c.loop-place.digits in
    let new = c.put_row_and_carry.new.digits in
    let radix : to_z w64 (of_z w64 (get_or radices k (pos 0))) ≡ get_or radices k (pos 0) = to_z-of_z w64 _ (search rules) in
    let row : HasRow (get_or radices k (pos 0)) rests (k * length zs) old new = rw radix at c.in_ok-put_row_and_carry.ensures.row in
    record {
      carried = carried_more radices zs rests k same left c.put_row_and_carry.new.rests below (rw radix at c.in_ok-put_row_and_carry.ensures.carried);
      made = row_more radices zs rests k same left old new row (λ p j above. c.loop-place.invariant.made p j (omega (arith, above, e)));
      low = λ some. omega (arith, c.loop-place-test.true);
    }

pub returns : goal.returns
returns c =
    let radices = c.args.radices.now in
    let zs = c.args.rests.now in
    let rests = c.loop-place.rests in
    let one : c.loop-place.place ≡ 1 = omega (arith, c.loop-place-test.false, c.loop-place.invariant.low (grind (arith, nat_tests))) in
    let left = subst (λ p. (j : ℕ) → j < length zs → carried_through (drop p radices) (get_or zs j (pos 0)) ≡ Ok (get_or rests j (pos 0))) one c.loop-place.invariant.carried in
    let new = c.put_row.new.digits in
    let radix : to_z w64 (of_z w64 (get_or radices 0 (pos 0))) ≡ get_or radices 0 (pos 0) = to_z-of_z w64 _ (search rules) in
    let row = subst (λ b. HasRow (get_or radices 0 (pos 0)) rests b c.loop-place.digits new) (omega arith) (rw radix at c.put_row.ensures) in
    let made = row_more radices zs rests 0 c.loop-place.auto.rests left c.loop-place.digits new row (λ p j above. c.loop-place.invariant.made p j (omega (arith, above, one))) in
    record { long = row.long ∙ c.loop-place.auto.digits ∙ c.requires; each = λ k j high inside. made k j (omega arith) high inside }
