-- The lines of an array, as entries of its items a stride apart.
use Rattle.std.{proofs.Common.{◌≡◌, ℕ, zero, suc, ◌+◌, ◌-◌, ◌*◌, ◌<◌, ◌≤◌, true, List, [], ◌∷◌, length, get_or, drop, take, refl, ap, sym, ◌∙◌, arith, insert, remove}, proofs.lemmas.List.{length-drop, length-take, length-append, ext_get_or, get_or_default}, proofs.lemmas.List.Elements.{All-drop}}
use Rattle.std.proofs.lemmas.List.FromFn.{length-map-range_with_len, get_or-map-range_with_len}
use Rattle.arrays_core.{specs.Shapes.{size, is_index_of, places_before, IsWithinLimits}, specs.Arrays.{ArrayValue, IsArray, item_of}, specs.Items.{fill}, proofs.Shapes.{as_long, places_below}}
use Rattle.{item_fns.{specs.Folds.{strided}, proofs.RightFolds.{length-strided, get_or-strided, take-strided}}, index_region.specs.Axes.{places_along}}
use Rattle.reduce_fns.{specs.Lines.{line}, specs.Laws.LineIndices.{inside}}

pub remove_inserted : (axis j : ℕ) (others : List ℕ) → axis ≤ length others → remove (insert others axis j) axis ≡ others
remove_inserted zero j others h = refl
remove_inserted (suc axis) j [] h = absurd (omega arith)
remove_inserted (suc axis) j (i ∷ others) h = ap (λ rest. i ∷ rest) (remove_inserted axis j others (omega arith))

stride_more : (i s x y t : ℕ) → x ≡ y + t → i * s + x ≡ i * s + y + t
stride_more i s x y t e = omega arith

-- one step along an axis is one stride in the ravel
pub stride : (axis : ℕ) (shape index : List ℕ) (j : ℕ) → axis < length shape → length index + 1 ≡ length shape
    → places_before shape (insert index axis j) ≡ places_before shape (insert index axis 1) + (j - 1) * size (drop (suc axis) shape)
stride axis [] index j h e = absurd (omega arith)
stride zero (n ∷ shape) index j h e = omega arith
stride (suc axis) (n ∷ shape) [] j h e = absurd (omega arith)
stride (suc axis) (n ∷ shape) (i ∷ index) j h e = stride_more (i - 1) (size shape) _ _ _ (stride axis shape index j (omega arith) (omega arith))

size_rest : (n s : ℕ) → 0 < n * s → (0 < s) × (s ≤ n * s)
size_rest zero s h = absurd (omega arith)
size_rest (suc n) zero h = absurd (omega arith)
size_rest (suc n) (suc s) h = (omega arith, omega arith)

pub size-drop-le : (k : ℕ) (shape : List ℕ) → 0 < size shape → (0 < size (drop k shape)) × (size (drop k shape) ≤ size shape)
size-drop-le zero shape h = (h, omega arith)
size-drop-le (suc k) [] h = (h, omega arith)
size-drop-le (suc k) (n ∷ shape) h =
    let t = size_rest n (size shape) h in
    let rest = size-drop-le k shape t.0 in
    (rest.0, omega (arith, t.1))

pub within_drop : (k : ℕ) (shape : List ℕ) → IsWithinLimits shape → 0 < size shape → IsWithinLimits (drop k shape)
within_drop k shape h positive =
    let smaller = size-drop-le k shape positive in
    record { rank = omega (arith, length-drop k shape, h.rank); axes = All-drop (λ x. x ≤ 1048576) k shape h.axes; size_within = omega (arith, h.size_within) }

pub long_with_axis : (shape index : List ℕ) (axis : ℕ) → axis < length shape → is_index_of (remove shape axis) index ≡ true
    → length index + 1 ≡ length shape
long_with_axis shape index axis h inside =
    let same = as_long (remove shape axis) index inside in
    omega (arith, length-append (take axis shape) (drop (suc axis) shape), length-take axis shape, length-drop (suc axis) shape)

-- the first items of a line are entries of the ravel, from place `first` on
pub record LineTaken (a : ArrayValue) (axis : ℕ) (index : List ℕ) (count first apart : ℕ) : Type 0 where
  pub low : 1 ≤ first
  pub high : first + (count - 1) * apart ≤ length a.items
  pub is : take count (line a axis index) ≡ strided (fill a.item_type) a.items (first - 1) apart count

module _ (a : ArrayValue) (axis : ℕ) (index : List ℕ) (there : axis < length a.shape) (in_range : is_index_of (remove a.shape axis) index ≡ true) where
  abbrev n : ℕ
  n = get_or a.shape axis 0

  pub counted : places_along a.shape axis ≡ n
  counted = get_or_default a.shape axis 1 0 there

  -- the places of a line are a stride apart
  pub line-strided : line a axis index ≡ strided (fill a.item_type) a.items (places_before a.shape (insert index axis 1)) (size (drop (suc axis) a.shape)) n
  line-strided =
      let d = fill a.item_type in
      let step = size (drop (suc axis) a.shape) in
      let first = places_before a.shape (insert index axis 1) in
      let same = length-map-range_with_len (λ j. item_of a (insert index axis j)) 1 (places_along a.shape axis) in
      ext_get_or d (line a axis index) (strided d a.items first step n) (same ∙ counted ∙ sym (length-strided d a.items first step n))
      (λ k below.
      get_or-map-range_with_len (λ j. item_of a (insert index axis j)) 1 (places_along a.shape axis) k (k + 1) d (omega (arith, counted)) (omega arith)
      ∙ ap (λ m. get_or a.items m d) (stride axis a.shape index (k + 1) there (long_with_axis a.shape index axis there in_range) ∙ ap (λ m. first + m * step) (omega arith))
      ∙ sym (get_or-strided d a.items first step n k d (omega (arith, same, counted))))

  -- each of them lies in the ravel
  line_high : (count : ℕ) → 1 ≤ count → count ≤ n → places_before a.shape (insert index axis 1) + (count - 1) * size (drop (suc axis) a.shape) < size a.shape
  line_high count low high =
      let below = places_below a.shape (insert index axis count) (inside axis a.shape index count there in_range low high) in
      let e = stride axis a.shape index count there (long_with_axis a.shape index axis there in_range) in
      omega arith

  pub line_taken : (count first apart : ℕ) → IsArray a → 1 ≤ count → count ≤ n → first ≡ places_before a.shape (insert index axis 1) + 1 → apart ≡ size (drop (axis + 1) a.shape)
      → LineTaken a axis index count first apart
  line_taken count first apart sound low high e f =
      let next : axis + 1 ≡ suc axis = omega arith in
      let step : apart ≡ size (drop (suc axis) a.shape) = rw next at f in
      let from : first - 1 ≡ places_before a.shape (insert index axis 1) = omega arith in
      record {
        low = omega arith;
        high = rw (e, step) (omega (arith, line_high count low high, sound.one_item_a_place));
        is = rw (from, step) (ap (take count) line-strided ∙ take-strided (fill a.item_type) a.items (places_before a.shape (insert index axis 1)) (size (drop (suc axis) a.shape)) n count high);
      }
