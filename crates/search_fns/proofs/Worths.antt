-- Numbers of digits: the places of digits and radices, and one more digit.
use Rattle.std.{proofs.Common.{◌≡◌, ◌≢◌, ℕ, suc, ◌+◌, ◌-◌, ◌*◌, ◌<◌, ◌≤◌, ◌==◌, true, false, cond, List, [], ◌∷◌, length, get_or, map, drop, ℤ, pos, ◌+ℤ◌, ◌*ℤ◌, Result, Ok, Err, refl, ap, sym, ◌∙◌, arith}, specs.Prelude.{◌||◌, nat_eq, if◌then◌else◌}, specs.List.{range_with_len}, proofs.lemmas.Bool.Decides.{nat_tests}}
use Rattle.std.proofs.Math.ListN.{get_or-map}
use Rattle.arrays_core.{specs.declared.item.Kind.{Kind}, specs.declared.item.ItemType.{ItemType}, specs.declared.item.ItemType.TheVariants.{Nums, Chars}, specs.Items.{fill, and_then}, specs.Shapes.{size, places_before, is_index_of}, specs.Arrays.{ArrayValue}}
use Rattle.{item_fns.specs.Numbers.{number_or_limit}, index_region.{specs.Arguments.{numbers, number_of}, specs.Axes.{places_along}}}
use Rattle.search_fns.specs.Decode.{digit_count, radix_at, digit_at, worth, decoded}

-- ---- a place of decode's result

pub record Decodes (a b : ArrayValue) (index : List ℕ) : Type 0 where
  pub list : length a.shape ≤ 1
  pub inside : is_index_of (drop 1 b.shape) index ≡ true
  pub radices : (k : ℕ) → k ≤ digit_count a b → length a.items ≢ 1 → k ≤ length a.items
  pub axis : (k : ℕ) → k ≤ digit_count a b → places_along b.shape 0 ≢ 1 → k ≤ places_along b.shape 0

within_axis : (items n k : ℕ) → (nat_eq items 1 || (nat_eq n 1 || nat_eq items n)) ≡ true → k ≤ cond (nat_eq items 1) n items → n ≢ 1 → k ≤ n
within_axis items n k t h e = grind (arith, nat_tests)

-- ---- radices

no_fill : (t : ItemType) → number_of (fill t) ≡ pos 0
no_fill Nums = refl
no_fill Chars = refl

pub number_there : (a : ArrayValue) (j : ℕ) → get_or (numbers a) j (pos 0) ≡ number_of (get_or a.items j (fill a.item_type))
number_there a j = ap (λ d. get_or (numbers a) j d) (sym (no_fill a.item_type)) ∙ get_or-map number_of a.items j (fill a.item_type)

place_on : (shape : List ℕ) (k : ℕ) → length shape ≤ 1 → size shape ≢ 1 → (if size shape == 1 then 0 else places_before shape (k ∷ [])) ≡ k - 1
place_on [] k one some = absurd (some refl)
place_on (m ∷ n ∷ shape) k one some = absurd (omega arith)
place_on (n ∷ []) k one some =
    rw (not_one (n * 1) some) (omega arith)
  where
    not_one : (m : ℕ) → m ≢ 1 → (m == 1) ≡ false
    not_one m h = grind (arith, nat_tests)

pub radix_there : (a : ArrayValue) (k : ℕ) → length a.shape ≤ 1 → size a.shape ≢ 1 → get_or (numbers a) (k - 1) (pos 0) ≡ radix_at a k
radix_there a k one some = number_there a (k - 1) ∙ ap (λ j. number_of (get_or a.items j (fill a.item_type))) (sym (place_on a.shape k one some))

-- ---- one more digit

-- a radix and its digit
abbrev pub digit_pair : ArrayValue → ArrayValue → List ℕ → ℕ → ℤ × ℤ
digit_pair a b index k = (radix_at a k, digit_at b index k)

module _ (a b : ArrayValue) (index : List ℕ) where
  -- the digits, with their radices, after the first few
  abbrev pub digits_after : ℕ → ℕ → List (ℤ × ℤ)
  digits_after count before = map (digit_pair a b index) (range_with_len (before + 1) (count - before))

  pub all_digits : (count : ℕ) → worth (pos 0) (digits_after count 0) ≡ decoded (map (digit_pair a b index) (range_with_len 1 count))
  all_digits count = let same : count - 0 ≡ count = omega arith in rw same refl

  pub one_more_digit : (count before : ℕ) (value : ℤ) → before < count
      → worth value (digits_after count before)
      ≡ and_then (and_then (number_or_limit (value *ℤ radix_at a (before + 1))) (λ product. number_or_limit (product +ℤ digit_at b index (before + 1)))) (λ next. worth next (digits_after count (before + 1)))
  one_more_digit count before value h =
      let some : count - before ≡ suc (count - (before + 1)) = omega arith in
      rw some (regroup (number_or_limit (value *ℤ radix_at a (before + 1))) (λ product. number_or_limit (product +ℤ digit_at b index (before + 1))) (λ next. worth next (digits_after count (before + 1))))
    where
      regroup : (r : Result ℤ Kind) (g h : ℤ → Result ℤ Kind) → and_then r (λ product. and_then (g product) h) ≡ and_then (and_then r g) h
      regroup (Ok x) g h = refl
      regroup (Err e) g h = refl

-- ---- index lists of digits
