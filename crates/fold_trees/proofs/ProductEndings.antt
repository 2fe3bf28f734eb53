-- The suffix products of a list determine its product from the right.
use Rattle.std.{proofs.Common.{◌≡◌, ◌<◌, length, List, [], ◌∷◌, refl, ap, sym, ◌∙◌, arith, Bool, true, false, ◌&&◌, if◌then◌else◌, ℤ, ◌*ℤ◌, Ok, Err}, specs.List.{All}, proofs.lemmas.Int.{ints, clamps}, proofs.lemmas.List.Elements.{All-head, All-tail}, proofs.lemmas.Bool.{and_from, cond-true}}
use Rattle.arrays_core.{specs.declared.item.Kind.TheVariants.{Limit}, specs.Items.{and_then}}
use Rattle.function_names.specs.declared.scalar.Scalar2.TheVariants.{Times}
use Rattle.item_fns.{specs.Numbers.{dyadic_on_numbers, number_or_limit, is_number}, specs.Folds.{folded}, proofs.Within.{Within, in_64_bits, is_in_64_bits}}
use Rattle.fold_trees.{specs.Products.{Products, products_of_none, before, products_of, product_told}, proofs.JoinedProducts.{ordered_of}, proofs.Bounds.{one_more}}

-- ---- the result

pub told_within : (s : Products) → Within s.least → Within s.greatest → product_told s ≡ Ok s.total
told_within s h k = cond-true _ (Ok s.total) (Err Limit) (and_from _ _ (is_in_64_bits s.least h) (is_in_64_bits s.greatest k))

-- ---- the product from the right

then_times : (p : Bool) (z t : ℤ) → and_then (if p then Ok t else Err Limit) (λ v. number_or_limit (z *ℤ v))
    ≡ (if (p && is_number (z *ℤ t)) then Ok (z *ℤ t) else Err Limit)
then_times true z t = refl
then_times false z t = refl

one_number : (z : ℤ) → is_number z ≡ true → product_told (before z products_of_none) ≡ Ok z
one_number z e =
    let h = in_64_bits z e in
    told_within (before z products_of_none)
    (record { low = omega (arith, ints, clamps, h.low); high = omega (arith, ints, clamps, h.high) })
    (record { low = omega (arith, ints, clamps, h.low); high = omega (arith, ints, clamps, h.high) })
    ∙ ap Ok (omega (arith, ints))

pub told_folded : (z : ℤ) (rest : List ℤ) → All (λ x. is_number x ≡ true) (z ∷ rest)
    → product_told (products_of (z ∷ rest)) ≡ folded (dyadic_on_numbers Times) (z ∷ rest)
told_folded z [] h = one_number z (All-head (λ x. is_number x ≡ true) z [] h)
told_folded z (y ∷ rest) h =
    let s = products_of (y ∷ rest) in
    let order = ordered_of (y ∷ rest) in
    let low = order.least_zero in
    let high = order.zero_greatest in
    ap (λ p. if p then Ok (z *ℤ s.total) else Err Limit) (one_more s.least s.greatest (z *ℤ s.total) (omega (arith, ints)))
    ∙ sym (then_times (is_number s.least && is_number s.greatest) z s.total)
    ∙ ap (λ r. and_then r (dyadic_on_numbers Times z)) (told_folded y rest (All-tail (λ x. is_number x ≡ true) z (y ∷ rest) h))

pub some_folded : (xs : List ℤ) → 1 < length xs → All (λ x. is_number x ≡ true) xs → product_told (products_of xs) ≡ folded (dyadic_on_numbers Times) xs
some_folded [] more h = absurd (omega arith)
some_folded (z ∷ rest) more h = told_folded z rest h
