-- The numbers of lines of equal length, one line after another.
use Rattle.std.{proofs.Common.{◌≡◌, ℕ, zero, suc, ◌+◌, ◌*◌, ◌/◌, ◌%◌, ◌<◌, ℤ, pos, List, [], ◌∷◌, ◌++◌, length, get_or, set, ap, sym, ◌∙◌, arith}, proofs.lemmas.List.{length-append, length-set, set-append_left, set-append_right, get_or_append_left, get_or-append_right, get_or-set_same, ext_get_or}}
use Rattle.std.{proofs.lemmas.List.Elements.{All-head, All-tail, All-get_or, All-set}, proofs.Math.Nat.{mul-div_cancel}, specs.List.{flat_map}, proofs.lemmas.Nat.{div-add-mod', mod_below, div_below}}
use Rattle.item_fns.{specs.Folds.{strided, line_start}, proofs.RightFolds.{length-strided, get_or-strided}}
use Rattle.{fold_trees.specs.ArrayLines.{line_through, numbers_of_line, numbers_through, with_number}, sum_rules.specs.Totals.{AreAllAsLong, all_trees}}

abbrev pub all_numbers : List (List ℤ) → List ℤ
all_numbers lines = flat_map (λ (line : List ℤ). line) lines

-- the number of numbers in all lines
pub length-all_numbers : (count : ℕ) (lines : List (List ℤ)) → AreAllAsLong count lines → length (all_numbers lines) ≡ length lines * count
length-all_numbers count [] h = omega arith
length-all_numbers count (line ∷ lines) h =
    let here : length line ≡ count = All-head (λ (l : List ℤ). length l ≡ count) line lines h in
    omega (arith, length-append line (all_numbers lines), here, length-all_numbers count lines (All-tail (λ (l : List ℤ). length l ≡ count) line lines h))

further : (count which place : ℕ) → suc which * count + place ≡ count + (which * count + place)
further count which place = omega arith

-- the place of a number of a line among all numbers
pub number_of_line : (count : ℕ) (lines : List (List ℤ)) (which place : ℕ) (none : List ℤ) (d : ℤ) → AreAllAsLong count lines → which < length lines → place < count
    → get_or (all_numbers lines) (which * count + place) d ≡ get_or (get_or lines which none) place d
number_of_line count [] which place none d h there below = absurd (omega arith)
number_of_line count (line ∷ lines) zero place none d h there below =
    let here : length line ≡ count = All-head (λ (l : List ℤ). length l ≡ count) line lines h in
    ap (λ k. get_or (line ++ all_numbers lines) k d) (omega arith) ∙ get_or_append_left line (all_numbers lines) d place (omega arith)
number_of_line count (line ∷ lines) (suc which) place none d h there below =
    ap (λ k. get_or (line ++ all_numbers lines) k d) (further count which place)
    ∙ get_or-append_right line (all_numbers lines) count (count + (which * count + place)) d (All-head (λ (l : List ℤ). length l ≡ count) line lines h) (omega arith)
    ∙ ap (λ k. get_or (all_numbers lines) k d) (omega arith)
    ∙ number_of_line count lines which place none d (All-tail (λ (l : List ℤ). length l ≡ count) line lines h) (omega arith) below

-- setting a number of a line sets it among all numbers
pub set_at : (count : ℕ) (lines : List (List ℤ)) (which place : ℕ) (none : List ℤ) (z : ℤ) → AreAllAsLong count lines → which < length lines → place < count
    → all_numbers (set lines which (set (get_or lines which none) place z)) ≡ set (all_numbers lines) (which * count + place) z
set_at count [] which place none z h there below = absurd (omega arith)
set_at count (line ∷ lines) zero place none z h there below =
    let here : length line ≡ count = All-head (λ (l : List ℤ). length l ≡ count) line lines h in
    sym (ap (λ k. set (line ++ all_numbers lines) k z) (omega arith) ∙ set-append_left line (all_numbers lines) place z (omega arith))
set_at count (line ∷ lines) (suc which) place none z h there below =
    ap (λ (rest : List ℤ). line ++ rest) (set_at count lines which place none z (All-tail (λ (l : List ℤ). length l ≡ count) line lines h) (omega arith) below)
    ∙ sym (ap (λ k. set (line ++ all_numbers lines) k z) (further count which place)
    ∙ set-append_right line (all_numbers lines) count (count + (which * count + place)) z (All-head (λ (l : List ℤ). length l ≡ count) line lines h) (omega arith)
    ∙ ap (λ k. line ++ set (all_numbers lines) k z) (omega arith))

-- a line, taken from all numbers
line_of : (count : ℕ) (lines : List (List ℤ)) (which : ℕ) → AreAllAsLong count lines → which < length lines
    → strided (pos 0) (all_numbers lines) (line_start 1 count which) 1 count ≡ get_or lines which []
line_of count lines which each there =
    let long : length (get_or lines which []) ≡ count = All-get_or (λ (l : List ℤ). length l ≡ count) lines which [] there each in
    let block : which / 1 ≡ which = omega arith in
    let none : which % 1 ≡ 0 = omega arith in
    let one : count * 1 ≡ count = omega arith in
    let sum : which * count + 0 ≡ which * count = omega arith in
    let first : line_start 1 count which ≡ which * count = (λ i. block i * one i + none i) ∙ sum in
    let size = length-strided (pos 0) (all_numbers lines) (which * count) 1 count in
    ap (λ k. strided (pos 0) (all_numbers lines) k 1 count) first
    ∙ ext_get_or (pos 0) (strided (pos 0) (all_numbers lines) (which * count) 1 count) (get_or lines which []) (size ∙ sym long) (λ k h.
    let under : k < count = omega (arith, h, size) in
    let at : which * count + k * 1 ≡ which * count + k = omega arith in
    get_or-strided (pos 0) (all_numbers lines) (which * count) 1 count k (pos 0) under
    ∙ ap (λ m. get_or (all_numbers lines) m (pos 0)) at
    ∙ number_of_line count lines which k [] (pos 0) each there under)

module _ (count : ℕ) (lines : List (List ℤ)) (line : ℕ) (each : AreAllAsLong count lines) (some : 0 < count) (below : line < length (all_numbers lines) / count) where
  -- the line exists
  pub line_below : line < length lines
  line_below =
      omega (arith, below, ap (λ k. k / count) (length-all_numbers count lines each) ∙ mul-div_cancel (length lines) some)

  -- the line, from all numbers
  pub line_told : numbers_of_line (all_trees count lines) line ≡ get_or lines line []
  line_told = line_of count lines line each line_below

module _ (count : ℕ) (lines : List (List ℤ)) (place : ℕ) (z : ℤ) (each : AreAllAsLong count lines) (some : 0 < count) (below : place < length (all_numbers lines)) where
  -- the line that holds the place
  pub line_there : place / count < length lines
  line_there = div_below place count (length lines) some (let e = length-all_numbers count lines each in omega (arith, e, below))

  pub line_long : length (get_or lines (place / count) []) ≡ count
  line_long = All-get_or (λ (l : List ℤ). length l ≡ count) lines (place / count) [] line_there each

  abbrev pub changed : List ℤ
  changed = set (get_or lines (place / count) []) (place % count) z

  -- the line with the new number, from all numbers
  pub through_line : numbers_through (with_number (all_trees count lines) place z) place ≡ changed
  through_line =
      let which = place / count in
      let rest = place % count in
      let now = set lines which changed in
      let long : length changed ≡ count = length-set (get_or lines which []) rest z ∙ line_long in
      let each_now : AreAllAsLong count now = All-set (λ (l : List ℤ). length l ≡ count) lines which changed long each in
      let one : count * 1 ≡ count = omega arith in
      let which_is : which * 1 + place % 1 ≡ which = omega arith in
      let through : line_through count 1 place ≡ which = ap (λ k. place / k * 1 + place % 1) one ∙ which_is in
      let all : set (all_numbers lines) place z ≡ all_numbers now =
      ap (λ k. set (all_numbers lines) k z) (sym (div-add-mod' place count)) ∙ sym (set_at count lines which rest [] z each line_there (mod_below place count some)) in
      (λ i. strided (pos 0) (all i) (line_start 1 count (through i)) 1 count)
      ∙ line_of count now which each_now (omega (arith, line_there, length-set lines which changed))
      ∙ get_or-set_same lines which changed [] line_there
