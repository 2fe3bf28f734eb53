-- The suffix sums of a list determine its sum from the right.
use Rattle.std.{proofs.Common.{◌≡◌, ◌<◌, length, List, [], ◌∷◌, refl, ap, sym, ◌∙◌, arith, Bool, true, false, ◌&&◌, if◌then◌else◌, ℤ, ◌+ℤ◌, Ok, Err}, specs.Int.{int_max, int_min}, specs.List.{All}, proofs.lemmas.Int.{ints, clamps}, proofs.lemmas.List.Elements.{All-head, All-tail}}
use Rattle.{std.proofs.lemmas.Bool.{and_from, cond-true}, arrays_core.{specs.declared.item.Kind.TheVariants.{Limit}, specs.Items.{and_then}}}
use Rattle.function_names.specs.declared.scalar.Scalar2.TheVariants.{Plus}
use Rattle.item_fns.{specs.Numbers.{dyadic_on_numbers, number_or_limit, is_number}, specs.Folds.{folded}, proofs.Within.{in_64_bits, is_in_64_bits}}
use Rattle.fold_trees.{specs.Sums.{sums_of, sum_told}, proofs.Bounds.{one_more}, proofs.JoinedSums.{ordered_of}}

then_plus : (p : Bool) (z t : ℤ) → and_then (if p then Ok t else Err Limit) (λ v. number_or_limit (z +ℤ v))
    ≡ (if (p && is_number (z +ℤ t)) then Ok (z +ℤ t) else Err Limit)
then_plus true z t = refl
then_plus false z t = refl

one_number : (z : ℤ) → is_number z ≡ true → sum_told (sums_of (z ∷ [])) ≡ Ok z
one_number z e =
    let s = sums_of (z ∷ []) in
    let h = in_64_bits z e in
    cond-true _ (Ok s.total) (Err Limit) (and_from _ _
    (is_in_64_bits s.least (record { low = omega (arith, ints, clamps, h.low); high = omega (arith, ints, clamps, h.high) }))
    (is_in_64_bits s.greatest (record { low = omega (arith, ints, clamps, h.low); high = omega (arith, ints, clamps, h.high) })))
    ∙ ap Ok (omega (arith, ints))

-- the sum from the right
told_folded : (z : ℤ) (rest : List ℤ) → All (λ x. is_number x ≡ true) (z ∷ rest) → sum_told (sums_of (z ∷ rest)) ≡ folded (dyadic_on_numbers Plus) (z ∷ rest)
told_folded z [] h = one_number z (All-head (λ x. is_number x ≡ true) z [] h)
told_folded z (y ∷ rest) h =
    let s = sums_of (y ∷ rest) in
    let all = sums_of (z ∷ y ∷ rest) in
    let order = ordered_of (y ∷ rest) in
    let least : all.least ≡ int_min s.least (z +ℤ s.total) = omega (arith, ints, clamps) in
    let greatest : all.greatest ≡ int_max s.greatest (z +ℤ s.total) = omega (arith, ints, clamps) in
    (λ i. if is_number (least i) && is_number (greatest i) then Ok (z +ℤ s.total) else Err Limit)
    ∙ ap (λ p. if p then Ok (z +ℤ s.total) else Err Limit) (one_more s.least s.greatest (z +ℤ s.total) (omega (arith, ints)))
    ∙ sym (then_plus (is_number s.least && is_number s.greatest) z s.total)
    ∙ ap (λ r. and_then r (dyadic_on_numbers Plus z)) (told_folded y rest (All-tail (λ x. is_number x ≡ true) z (y ∷ rest) h))

pub some_folded : (xs : List ℤ) → 1 < length xs → All (λ z. is_number z ≡ true) xs → sum_told (sums_of xs) ≡ folded (dyadic_on_numbers Plus) xs
some_folded [] more h = absurd (omega arith)
some_folded (x ∷ rest) more h = told_folded x rest h
