-- Suffix sums of a list of 64-bit numbers.
use Rattle.std.{proofs.Common.{◌≡◌, suc, ◌<◌, List, [], ◌∷◌, ◌++◌, length, refl, ap, sym, subst, ◌∙◌, arith, ℤ, pos, ◌+ℤ◌, ◌≤ℤ◌, Result, Ok, Err}, specs.Int.{int_max, int_min}, specs.List.{All}, proofs.lemmas.Int.{ints, clamps}}
use Rattle.arrays_core.{specs.declared.item.Kind.{Kind}, specs.declared.item.Kind.TheVariants.{Limit}, specs.Items.{and_then}}
use Rattle.function_names.specs.declared.scalar.Scalar2.TheVariants.{Plus}
use Rattle.item_fns.{specs.Numbers.{dyadic_on_numbers, number_or_limit}, specs.Identities.{least, greatest}, specs.Folds.{folded}, proofs.Within.{Within, held_within, held_ok, held_error}}
use Rattle.reduce_fns.{specs.LeftFolds.{fold_on, folded_left}, proofs.Firsts.{Given}}

-- ---- the sum of a list, and its greatest and least suffix sums

abbrev pub total : ℤ → List ℤ → ℤ
total x [] = x
total x (y ∷ rest) = x +ℤ total y rest

abbrev pub most : ℤ → List ℤ → ℤ
most x [] = x
most x (y ∷ rest) = int_max (x +ℤ total y rest) (most y rest)

abbrev pub fewest : ℤ → List ℤ → ℤ
fewest x [] = x
fewest x (y ∷ rest) = int_min (x +ℤ total y rest) (fewest y rest)

pub most_left : (x y : ℤ) (rest : List ℤ) → most (int_max x (pos 0) +ℤ y) rest ≡ most x (y ∷ rest)
most_left x y [] = omega (arith, ints, clamps)
most_left x y (w ∷ rest) = omega (arith, ints, clamps)

pub fewest_left : (x y : ℤ) (rest : List ℤ) → fewest (int_min x (pos 0) +ℤ y) rest ≡ fewest x (y ∷ rest)
fewest_left x y [] = omega (arith, ints, clamps)
fewest_left x y (w ∷ rest) = omega (arith, ints, clamps)

-- with one more number at the end
pub total_more : (x : ℤ) (rest : List ℤ) (y : ℤ) → total x (rest ++ y ∷ []) ≡ total x rest +ℤ y
total_more x [] y = refl
total_more x (w ∷ rest) y = let more = total_more w rest y in omega (arith, ints)

pub most_more : (x : ℤ) (rest : List ℤ) (y : ℤ) → most x (rest ++ y ∷ []) ≡ int_max (most x rest) (pos 0) +ℤ y
most_more x [] y = omega (arith, ints, clamps)
most_more x (w ∷ rest) y =
    let more = most_more w rest y in
    let sum = total_more w rest y in
    omega (arith, ints, clamps)

pub fewest_more : (x : ℤ) (rest : List ℤ) (y : ℤ) → fewest x (rest ++ y ∷ []) ≡ int_min (fewest x rest) (pos 0) +ℤ y
fewest_more x [] y = omega (arith, ints, clamps)
fewest_more x (w ∷ rest) y =
    let more = fewest_more w rest y in
    let sum = total_more w rest y in
    omega (arith, ints, clamps)

-- ---- the right fold

-- all suffix sums fit 64 bits
pub record Fits (x : ℤ) (rest : List ℤ) : Type 0 where
  pub low : least ≤ℤ fewest x rest
  pub high : most x rest ≤ℤ greatest

pub folded_sum : (x : ℤ) (rest : List ℤ) → Fits x rest → folded (dyadic_on_numbers Plus) (x ∷ rest) ≡ Ok (total x rest)
folded_sum x [] h = refl
folded_sum x (y ∷ rest) h =
    let later = folded_sum y rest (record { low = omega (arith, ints, clamps); high = omega (arith, ints, clamps) }) in
    rw later (held_within (x +ℤ total y rest) (record { low = omega (arith, ints, clamps); high = omega (arith, ints, clamps) }))

rest_fits : (x y : ℤ) (rest : List ℤ) (t : ℤ) (r : Result ℤ Kind) → folded (dyadic_on_numbers Plus) (y ∷ rest) ≡ r → ((v : ℤ) → folded (dyadic_on_numbers Plus) (y ∷ rest) ≡ Ok v → Fits y rest)
    → and_then r (dyadic_on_numbers Plus x) ≡ Ok t → Fits x (y ∷ rest)
rest_fits x y rest t (Ok v) e later h =
    let fits = later v e in
    let sum = sym (folded_sum y rest fits) ∙ e in
    let same : total y rest ≡ v = cc in
    let whole = held_ok (x +ℤ v) t h in
    record { low = omega (arith, ints, clamps); high = omega (arith, ints, clamps) }
rest_fits x y rest t (Err k) e later h = let no : ⊥ = cc in absurd no

pub folded_fits : (x : ℤ) (rest : List ℤ) (t : ℤ) → All Within (x ∷ rest) → folded (dyadic_on_numbers Plus) (x ∷ rest) ≡ Ok t → Fits x rest
folded_fits x [] t within h = let w = within 0 x (omega arith) in record { low = w.low; high = w.high }
folded_fits x (y ∷ rest) t within h =
    rest_fits x y rest t (folded (dyadic_on_numbers Plus) (y ∷ rest)) refl
    (λ v e. folded_fits y rest v (λ k d below. within (suc k) d (omega arith)) e) h

pub folded_error : (x : ℤ) (rest : List ℤ) (k : Kind) → folded (dyadic_on_numbers Plus) (x ∷ rest) ≡ Err k → k ≡ Limit
folded_error x [] k h = let no : ⊥ = cc in absurd no
folded_error x (y ∷ rest) k h = decide (folded (dyadic_on_numbers Plus) (y ∷ rest)) (λ e g. folded_error y rest e g) h
  where
    decide : (r : Result ℤ Kind) → ((e : Kind) → r ≡ Err e → e ≡ Limit) → and_then r (dyadic_on_numbers Plus x) ≡ Err k → k ≡ Limit
    decide (Ok z) later h = held_error (x +ℤ z) k h
    decide (Err e) later h = let same : e ≡ k = cc in sym same ∙ later e refl

-- ---- left folds that keep the greatest and the least suffix sum

abbrev pub greatest_step : ℤ → ℤ → Result ℤ Kind
greatest_step a b = dyadic_on_numbers Plus (int_max a (pos 0)) b

abbrev pub least_step : ℤ → ℤ → Result ℤ Kind
least_step a b = dyadic_on_numbers Plus (int_min a (pos 0)) b

-- a value is equal to a bound, and fits 64 bits
pub record Kept (z bound : ℤ) : Type 0 where
  pub is : z ≡ bound
  pub within : Within z

one_step : (x y z bound : ℤ) (rest : List ℤ) (r : Result ℤ Kind) (step : ℤ → ℤ → Result ℤ Kind) (whole : ℤ → ℤ) → number_or_limit x ≡ r
    → ((w : ℤ) → Within w → fold_on step w rest ≡ Ok z → Kept z (whole w)) → whole x ≡ bound → and_then r (λ w. fold_on step w rest) ≡ Ok z → Kept z bound
one_step x y z bound rest (Ok w) step whole e later same h =
    let here = held_ok x w e in
    let kept = later w (subst Within (sym here.same) here.within) h in
    record { is = kept.is ∙ ap whole here.same ∙ same; within = kept.within }
one_step x y z bound rest (Err k) step whole e later same h = let no : ⊥ = cc in absurd no

pub most_kept : (x : ℤ) (rest : List ℤ) (z : ℤ) → Within x → fold_on greatest_step x rest ≡ Ok z → Kept z (most x rest)
most_kept x [] z within h = let same : x ≡ z = cc in record { is = sym same; within = subst Within same within }
most_kept x (y ∷ rest) z within h =
    one_step (int_max x (pos 0) +ℤ y) y z (most x (y ∷ rest)) rest (number_or_limit (int_max x (pos 0) +ℤ y)) greatest_step (λ w. most w rest) refl
    (λ w inside g. most_kept w rest z inside g) (most_left x y rest) h

pub fewest_kept : (x : ℤ) (rest : List ℤ) (z : ℤ) → Within x → fold_on least_step x rest ≡ Ok z → Kept z (fewest x rest)
fewest_kept x [] z within h = let same : x ≡ z = cc in record { is = sym same; within = subst Within same within }
fewest_kept x (y ∷ rest) z within h =
    one_step (int_min x (pos 0) +ℤ y) y z (fewest x (y ∷ rest)) rest (number_or_limit (int_min x (pos 0) +ℤ y)) least_step (λ w. fewest w rest) refl
    (λ w inside g. fewest_kept w rest z inside g) (fewest_left x y rest) h

-- if the greatest and the least suffix sum fit 64 bits, so does the sum
total_left : (x y : ℤ) (rest : List ℤ) → total (x +ℤ y) rest ≡ x +ℤ total y rest
total_left x y [] = refl
total_left x y (w ∷ rest) = omega (arith, ints)

record Stepped (x z : ℤ) (step : ℤ → ℤ → Result ℤ Kind) (rest : List ℤ) : Type 0 where
  next : ℤ
  is : next ≡ x
  within : Within next
  later : fold_on step next rest ≡ Ok z

stepped : (x z : ℤ) (step : ℤ → ℤ → Result ℤ Kind) (rest : List ℤ) (r : Result ℤ Kind) → number_or_limit x ≡ r → and_then r (λ w. fold_on step w rest) ≡ Ok z → Stepped x z step rest
stepped x z step rest (Ok w) e h =
    let here = held_ok x w e in record { next = w; is = here.same; within = subst Within (sym here.same) here.within; later = h }
stepped x z step rest (Err k) e h = let no : ⊥ = cc in absurd no

sum_between : (rest : List ℤ) (sum high low top bottom : ℤ) → low ≤ℤ sum → sum ≤ℤ high → fold_on greatest_step high rest ≡ Ok top → fold_on least_step low rest ≡ Ok bottom
    → fold_on (dyadic_on_numbers Plus) sum rest ≡ Ok (total sum rest)
sum_between [] sum high low top bottom above below g l = refl
sum_between (y ∷ rest) sum high low top bottom above below g l =
    let up = stepped (int_max high (pos 0) +ℤ y) top greatest_step rest (number_or_limit (int_max high (pos 0) +ℤ y)) refl g in
    let down = stepped (int_min low (pos 0) +ℤ y) bottom least_step rest (number_or_limit (int_min low (pos 0) +ℤ y)) refl l in
    let here = held_within (sum +ℤ y) (record { low = omega (arith, ints, clamps); high = omega (arith, ints, clamps) }) in
    ap (λ r. and_then r (λ w. fold_on (dyadic_on_numbers Plus) w rest)) here
    ∙ sum_between rest (sum +ℤ y) up.next down.next top bottom (omega (arith, ints, clamps)) (omega (arith, ints, clamps)) up.later down.later
    ∙ ap Ok (total_left sum y rest)

pub sum_from_left : (xs : List ℤ) (top bottom : ℤ) → All Within xs → folded_left greatest_step xs ≡ Ok top → folded_left least_step xs ≡ Ok bottom
    → folded_left (dyadic_on_numbers Plus) xs ≡ folded (dyadic_on_numbers Plus) xs
sum_from_left [] top bottom within g l = refl
sum_from_left (x ∷ rest) top bottom within g l =
    let inside = within 0 x (omega arith) in
    let up = most_kept x rest top inside g in
    let down = fewest_kept x rest bottom inside l in
    sum_between rest x x x top bottom (omega (arith, ints)) (omega (arith, ints)) g l
    ∙ sym (folded_sum x rest (record { low = omega (arith, ints); high = omega (arith, ints) }))

-- if all suffix sums fit 64 bits, so do the next greatest and least
last_within : (x : ℤ) (rest : List ℤ) (y : ℤ) → All Within (x ∷ (rest ++ y ∷ [])) → Within y
last_within x [] y h = h 1 y (omega arith)
last_within x (w ∷ rest) y h = last_within w rest y (λ k d below. h (suc k) d (omega arith))

pub more_most : (xs : List ℤ) (y z t : ℤ) → 0 < length xs → All Within (xs ++ y ∷ []) → folded (dyadic_on_numbers Plus) (xs ++ y ∷ []) ≡ Ok t
    → folded_left greatest_step xs ≡ Ok z → Given (greatest_step z y)
more_most [] y z t some within e g = absurd (omega arith)
more_most (x ∷ rest) y z t some within e g =
    let fits = folded_fits x (rest ++ y ∷ []) t within e in
    let kept = most_kept x rest z (within 0 x (omega arith)) g in
    let more = most_more x rest y in
    let last = last_within x rest y within in
    record { item = int_max z (pos 0) +ℤ y; is = held_within (int_max z (pos 0) +ℤ y) (record { low = omega (arith, ints, clamps); high = omega (arith, ints, clamps) }) }

pub more_fewest : (xs : List ℤ) (y z t : ℤ) → 0 < length xs → All Within (xs ++ y ∷ []) → folded (dyadic_on_numbers Plus) (xs ++ y ∷ []) ≡ Ok t
    → folded_left least_step xs ≡ Ok z → Given (least_step z y)
more_fewest [] y z t some within e g = absurd (omega arith)
more_fewest (x ∷ rest) y z t some within e g =
    let fits = folded_fits x (rest ++ y ∷ []) t within e in
    let kept = fewest_kept x rest z (within 0 x (omega arith)) g in
    let more = fewest_more x rest y in
    let last = last_within x rest y within in
    record { item = int_min z (pos 0) +ℤ y; is = held_within (int_min z (pos 0) +ℤ y) (record { low = omega (arith, ints, clamps); high = omega (arith, ints, clamps) }) }
