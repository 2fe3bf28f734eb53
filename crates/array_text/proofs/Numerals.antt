-- The text and the width of a number.
use Rattle.std.{proofs.Common.{◌≡◌, ℕ, suc, ℤ, pos, negsuc, ◌+◌, ◌*◌, ◌^◌, ◌<◌, ◌≤◌, ◌%◌, true, false, List, [], ◌∷◌, ◌++◌, length, get_or, map, refl, ap, ◌∙◌, arith, w64}, specs.Prelude.{decimal, encode_utf8, encode_utf8_all, max}, specs.List.{range_with_len, fold}, specs.Int.Signed.{lt_z}, proofs.Math.IntN.{nat_abs}}
use Rattle.std.{proofs.Math.Nat.{pow-le-pow_right}, proofs.lemmas.Grind.{pow_more}, proofs.lemmas.Int.{ints, to_z-of_z}, proofs.lemmas.List.{length-append}, proofs.lemmas.List.Sums.{fold-append}, proofs.lemmas.List.FromFn.{map-range_with_len_more}}
use Rattle.std.{proofs.lemmas.Fmt.{IsAscii-decimal, decimal_by_steps, length-decimal-le}, proofs.lemmas.Str.Ascii.{encodes-IsAscii}}
use Rattle.array_text.specs.Text.{number_text, number_width, number_characters, column_width, matrix_number}
use mir.Val.{to_z, of_z, SFits}

digits_are_their_bytes : (n : ℕ) → n < 2 ^ 64 → encode_utf8_all (decimal n) ≡ decimal n
digits_are_their_bytes n h = encodes-IsAscii (decimal n) (IsAscii-decimal n h)

pub number_text-minus : (z : ℤ) (n : ℕ) → SFits w64 z → n ≡ nat_abs (to_z w64 (of_z w64 z)) → lt_z (to_z w64 (of_z w64 z)) (pos 0) ≡ true
    → (number_text z ≡ encode_utf8 175 ++ decimal n) × (number_width z ≡ length (decimal n) + 1)
unfolding number_text number_width number_characters
number_text-minus (pos k) n f e h = absurd (let low = rw (to_z-of_z w64 (pos k) f) at h in grind (arith, ints))
number_text-minus (negsuc k) n f e h =
    let abs = rw (to_z-of_z w64 (negsuc k) f) at e in
    let is : n ≡ k + 1 = omega arith in rw (is, digits_are_their_bytes (k + 1) (omega arith)) (refl, omega arith)

pub number_text-plus : (z : ℤ) (n : ℕ) → SFits w64 z → n ≡ nat_abs (to_z w64 (of_z w64 z)) → lt_z (to_z w64 (of_z w64 z)) (pos 0) ≡ false
    → (number_text z ≡ decimal n) × (number_width z ≡ length (decimal n))
unfolding number_text number_width number_characters
number_text-plus (pos k) n f e h = let is = rw (to_z-of_z w64 (pos k) f) at e in rw is (digits_are_their_bytes k (omega arith), refl)
number_text-plus (negsuc k) n f e h = absurd (let high = rw (to_z-of_z w64 (negsuc k) f) at h in grind (arith, ints))

pub column_width-more : (columns : ℕ) (zs : List ℤ) (column row : ℕ)
    → column_width (row + 1) columns zs column ≡ max (column_width row columns zs column) (number_width (get_or zs (row * columns + column) (pos 0)))
unfolding column_width
column_width-more columns zs column row =
    let width = λ (r : ℕ). number_width (matrix_number columns zs r column) in
    ap (fold max 0) (map-range_with_len_more width 0 row row (omega arith)) ∙ fold-append max 0 (map width (range_with_len 0 row)) (width row ∷ [])

below_digits : (n : ℕ) → n < 2 ^ 64 → n < 10 ^ length (decimal n)
below_digits = decimal_by_steps (λ m ds. m < 10 ^ length ds) (λ m few. omega arith)
    (λ m ds many h. rw (length-append ds ((48 + m % 10) ∷ [])) (omega (arith, pow_more 10 (length ds))))

pub digits_of_power : (k n : ℕ) → n < 2 ^ 64 → 10 ^ k ≤ n → n < 10 * 10 ^ k → length (decimal n) ≡ k + 1
digits_of_power k n small most next =
    let few = length-decimal-le (suc k) n (omega arith) (omega arith) small in
    let many : length (decimal n) ≤ k → 10 ^ length (decimal n) ≤ 10 ^ k = λ h. pow-le-pow_right {n = 10} (omega arith) h in
    grind (arith, below_digits n small, many)
