use Rattle.std.{proofs.Common.{◌≡◌, ◌∙◌, ◌+◌, ◌-◌, ◌<◌, ap, sym, pos, length, drop, get_or, arith, Ok, Err, to_z, of_z, w64, rules}, proofs.lemmas.Int.{to_z-of_z}, proofs.lemmas.List.{length-map}}
use Rattle.{arrays_core.specs.Items.{and_then}, index_region.specs.Arguments.{numbers, number_of}, item_fns.specs.Numbers.{residue}}
use Rattle.search_fns.{specs.Encode.{carried, carried_through}, proofs.Radices.{error_in_front, one_more_radix, zero_in_front, zero_digit}}
use Rattle.search_fns.proofs.encode.digit.Goals as goal

pub returns-in_err-rest : goal.returns-in_err-rest
returns-in_err-rest c =
    let radices = numbers c.args.radices.now in
    let e = c.in_err-rest.field-0.0 in
    let k = c.loop-before.before - 1 in
    let next : c.loop-before.before ≡ k + 1 = omega (arith, c.loop-before-test.true) in
    let long : length radices ≡ length c.args.radices.now.items = length-map c.args.radices.now.items number_of in
    let same : to_z w64 (of_z w64 c.number.result) ≡ c.number.result = to_z-of_z w64 _ (record { sfits = c.number.type_inv }) in
    let gave : Err e ≡ carried c.number.result c.loop-before.rest = rw (same, c.loop-before.rest-is) at c.in_err-rest.ensures in
    let after : carried_through (drop (k + 1) radices) c.args.number ≡ Ok c.loop-before.rest =
    ap (λ n. carried_through (drop n radices) c.args.number) (sym next) ∙ (rw ((to_z-of_z w64 _ c.ranges.number), c.loop-before.rest-is) at c.loop-before.invariant.carried) in
    let below : k < length radices = omega (arith, c.loop-before.auto.before, c.places-before.ensures.is) in
    let radix : get_or radices k (pos 0) ≡ c.number.result = ap (λ n. get_or radices n (pos 0)) (sym (omega arith)) ∙ sym c.number.ensures in
    let failed_here : carried_through (drop k radices) c.args.number ≡ Err e =
    one_more_radix radices k c.args.number c.loop-before.rest below after ∙ ap (λ r. carried r c.loop-before.rest) radix ∙ sym gave in
    let failed : carried_through (drop c.args.place radices) c.args.number ≡ Err e =
    error_in_front radices c.args.place k c.args.number e (omega (arith, c.loop-before-test.true)) failed_here in
    rw failed (search rules)

pub returns : goal.returns
returns c =
    let radices = numbers c.args.radices.now in
    let place = c.args.place in
    let ended : c.loop-before.before ≡ place = omega (arith, c.loop-before-test.false, c.loop-before.invariant.above) in
    let same_number : to_z w64 (of_z w64 c.args.number) ≡ c.args.number = to_z-of_z w64 _ c.ranges.number in
    let through : carried_through (drop place radices) c.args.number ≡ Ok c.loop-before.rest =
    ap (λ n. carried_through (drop n radices) c.args.number) (sym ended) ∙ (rw (same_number, c.loop-before.rest-is) at c.loop-before.invariant.carried) in
    (rw (to_z-of_z w64 _ (record { sfits = c.number-2.type_inv }), c.loop-before.rest-is, c.number-2.ensures) at c.two_numbers.ensures)
    ∙ sym (ap (λ r. and_then r (λ rest. Ok (residue (get_or radices (place - 1) (pos 0)) rest))) through)

pub returns-then-rest-eq0 : goal.returns-then-rest-eq0
returns-then-rest-eq0 c =
    let radices = numbers c.args.radices.now in
    let number = c.args.number in
    let same_number : to_z w64 (of_z w64 number) ≡ number = to_z-of_z w64 _ c.ranges.number in
    let nothing : to_z w64 c.loop-before.rest-bits ≡ pos 0 = ap (to_z w64) c.if-rest-eq0.true in
    let after : carried_through (drop c.loop-before.before radices) number ≡ Ok (pos 0) = (rw same_number at c.loop-before.invariant.carried) ∙ ap Ok nothing in
    let front = zero_in_front radices c.args.place c.loop-before.before number c.loop-before.invariant.above after in
    let radix = get_or radices (c.args.place - 1) (pos 0) in
    sym (ap (λ r. and_then r (λ rest. Ok (residue radix rest))) front ∙ ap Ok (zero_digit radix))
