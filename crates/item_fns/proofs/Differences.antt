-- Right folds by `-` of near numbers.
use Rattle.std.{proofs.Common.{◌≡◌, ℕ, suc, ◌+◌, ◌≤◌, ◌<◌, List, [], ◌∷◌, length, ap, drop, get_or, w64, SFits, ◌∙◌, arith, ℤ, pos, ◌+ℤ◌, ◌-ℤ◌, Ok}, specs.Int.{int_wrapping_add, int_wrapping_sub}, specs.List.{All}, proofs.lemmas.Int.{ints}, proofs.lemmas.List.{drop_more, drop_all}}
use Rattle.{arrays_core.specs.Items.{and_then}, function_names.specs.declared.scalar.Scalar2.TheVariants.{Minus}}
use Rattle.item_fns.{specs.Numbers.{dyadic_on_numbers}, specs.Folds.{folded}, specs.AtOnce.{IsSum, in_turn}, specs.Laws.AtOnce.{sum_fits, near_sum}, proofs.Within.{held}, proofs.Doubts.{near_difference}}

pub turns_near : (xs : List ℤ) → All (IsSum 1) xs → IsSum (length xs) (in_turn xs)
turns_near [] h = record { low = omega (arith, ints); high = omega (arith, ints) }
turns_near (x ∷ rest) h =
    let later = turns_near rest (λ k d below. h (suc k) d (omega arith)) in
    let here = h 0 x (omega arith) in
    record { low = omega (arith, ints, here.low, later.high); high = omega (arith, ints, here.high, later.low) }

pub difference : (xs : List ℤ) → 0 < length xs → length xs ≤ 1048576 → All (IsSum 1) xs → folded (dyadic_on_numbers Minus) xs ≡ Ok (in_turn xs)
difference [] some few h = absurd (omega arith)
difference (x ∷ []) some few h = ap Ok (omega (arith, ints))
difference (x ∷ y ∷ rest) some few h =
    ap (λ r. and_then r (dyadic_on_numbers Minus x)) (difference (y ∷ rest) (omega arith) (omega arith) (λ k d below. h (suc k) d (omega arith)))
    ∙ held (in_turn (x ∷ y ∷ rest)) (sum_fits (length (x ∷ y ∷ rest)) _ (omega arith) (turns_near (x ∷ y ∷ rest) h))

pub with_pair : (n : ℕ) (total a b : ℤ) → n ≤ 1048576 → IsSum n total → IsSum 1 a → IsSum 1 b → SFits w64 a → SFits w64 b
    → int_wrapping_add w64 total (int_wrapping_sub w64 a b) ≡ total +ℤ (a -ℤ b)
with_pair n total a b few h i j f g =
    let apart : IsSum 2 (a -ℤ b) = record { low = omega (arith, ints, i.low, j.high); high = omega (arith, ints, i.high, j.low) } in
    let apart_fits = sum_fits 2 (a -ℤ b) (omega arith) apart in
    let all : IsSum (n + 2) (total +ℤ (a -ℤ b)) = record { low = omega (arith, ints, h.low, apart.low); high = omega (arith, ints, h.high, apart.high) } in
    ap (int_wrapping_add w64 total) (near_difference a b f g apart_fits)
    ∙ near_sum total (a -ℤ b) (sum_fits n total (omega arith) h) apart_fits (sum_fits (n + 2) _ (omega arith) all)

-- the last number of a list of odd length
pub last_alone : (xs : List ℤ) (k : ℕ) → k + 1 ≡ length xs → in_turn (drop k xs) ≡ get_or xs k (pos 0)
last_alone xs k h =
    ap in_turn (drop_more xs k (pos 0) (omega arith) ∙ ap (λ ys. get_or xs k (pos 0) ∷ ys) (drop_all (k + 1) xs (omega arith)))
    ∙ (omega (arith, ints))
