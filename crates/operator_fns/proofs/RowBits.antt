-- Bits of rows in words of 64 bits.
use Rattle.std.proofs.Common.{◌≡◌, ◌≢◌, ℕ, ◌+◌, ◌-◌, ◌*◌, ◌/◌, ◌%◌, ◌^◌, ◌<◌, ◌≤◌, inl, inr, List, ◌++◌, length, get_or, set, take, drop, ap, sym, subst, ◌∙◌, arith, ℤ, pos, w64, get_or-set_same, get_or-set_other}
use Rattle.std.specs.{Int.{bit_at}, Int.RustNames.{bit_or}}
use Rattle.std.proofs.lemmas.{Bool.{cases_eq, cases_lt}, List.{get_or_append_left, get_or-append-add, length-take, length-drop}, Nat.Bits.{bit_at_set_same, bit_at_set_other, bit_at_or, bit_at-lt}}
use Rattle.operator_fns.{specs.Unions.{bit_of, HoldBits, EndsInBits}, proofs.ProductSums.{row_high, in_rows, row_entry}, proofs.TruthUnions.{IsUnion, union_of_bits}}

-- the words after the bit of a column was set
abbrev pub with_bit : List ℕ → ℕ → List ℕ
with_bit words column = set words (column / 64) (bit_or (get_or words (column / 64) 0) (1 * 2 ^ (column % 64) % 2 ^ 64))

pub bit_set : (words : List ℕ) (column : ℕ) → column / 64 < length words → bit_of (with_bit words column) column ≡ pos 1
bit_set words column within =
    ap (λ w. pos (bit_at w (column % 64))) (get_or-set_same words (column / 64) _ 0 within)
    ∙ ap pos (bit_at_set_same w64 (get_or words (column / 64) 0) (column % 64) (omega arith))

pub bit_left : (words : List ℕ) (column k : ℕ) → column / 64 < length words → k ≢ column → bit_of (with_bit words column) k ≡ bit_of words k
bit_left words column k within other =
    elim (cases_eq (k / 64) (column / 64)) [
      | inl same ↦
          (let apart : k % 64 ≢ column % 64 = λ h. other (omega (arith, h, same)) in
          ap (λ w. pos (bit_at (get_or (with_bit words column) w 0) (k % 64))) same
          ∙ ap (λ w. pos (bit_at w (k % 64))) (get_or-set_same words (column / 64) _ 0 within)
          ∙ ap pos (bit_at_set_other w64 (get_or words (column / 64) 0) (column % 64) (omega arith) (k % 64) apart)
          ∙ ap (λ w. pos (bit_at (get_or words w 0) (k % 64))) (sym same))
      | inr apart ↦ ap (λ w. pos (bit_at w (k % 64))) (get_or-set_other words (column / 64) (k / 64) _ 0 apart)
    ]

-- the union of two words, bit by bit
pub word_union : (a b i : ℕ) → IsUnion (pos (bit_at b i)) (pos (bit_at a i)) (pos (bit_at (bit_or a b) i))
word_union a b i = subst (λ z. IsUnion (pos (bit_at b i)) (pos (bit_at a i)) (pos z)) (sym (bit_at_or a b i)) (union_of_bits (bit_at a i) (bit_at b i) (bit_at-lt a i) (bit_at-lt b i))

-- the bits of one more row
pub one_more_row : (rows : List ℤ) (columns width count row : ℕ) (before all : List ℕ) → length rows ≡ count * columns → row < count → columns ≤ width * 64 → length before ≡ row * width
    → HoldBits rows columns width row before → EndsInBits (take (row * columns + columns - row * columns) (drop (row * columns) rows)) width before all → HoldBits rows columns width (row + 1) all
one_more_row rows columns width count row before all whole inside wide long held ends = record {
  each = λ r column low below.
      let word : column / 64 < width = omega (arith, wide, below) in
      elim (cases_lt r row) [
        | inl earlier ↦
            (let place : column / 64 + r * width < length before = omega (arith, long, in_rows (column / 64) width r row word earlier) in
            ap (λ ws. pos (bit_at (get_or ws (column / 64 + r * width) 0) (column % 64))) ends.is
            ∙ ap (λ w. pos (bit_at w (column % 64))) (get_or_append_left before ends.words 0 _ place)
            ∙ held.each r column earlier below)
        | inr later ↦
            (let here : r ≡ row = omega arith in
            let part = take (row * columns + columns - row * columns) (drop (row * columns) rows) in
            let seam : column / 64 + row * width ≡ length before + column / 64 = omega (arith, long) in
            let size : length part ≡ columns = length-take _ (drop (row * columns) rows) ∙ omega (arith, length-drop (row * columns) rows, whole, row_high row columns count inside) in
            ap (λ ws. pos (bit_at (get_or ws (column / 64 + r * width) 0) (column % 64))) ends.is
            ∙ ap (λ w. pos (bit_at w (column % 64))) (ap (λ k. get_or (before ++ ends.words) (column / 64 + k * width) 0) here ∙ ap (λ k. get_or (before ++ ends.words) k 0) seam ∙ get_or-append-add before ends.words (column / 64) 0)
            ∙ ends.held.each column (omega (arith, size))
            ∙ row_entry rows (pos 0) columns row column below
            ∙ ap (λ k. get_or rows (column + k * columns) (pos 0)) (sym here))
      ];
}
