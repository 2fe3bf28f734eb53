-- The lines that a patch with one place for each line leaves alone.
use Rattle.std.{proofs.Common.{◌≡◌, ◌∙◌, ℕ, zero, suc, ◌+◌, ◌*◌, ◌/◌, ◌<◌, ℤ, pos, true, false, List, [], ◌∷◌, length, get_or, map, remove, insert, refl, ap, sym, arith, inl, inr}, proofs.lemmas.Bool.{and_from, and_parts, cases_Bool, cond-false, false≢true}, proofs.lemmas.List.{length-map, ext_get_or, get_or_default}}
use Rattle.std.{proofs.lemmas.List.FromFn.{length-map-range_with_len, get_or-map-range_with_len}, proofs.Math.ListN.{get_or-map}, proofs.Math.Nat.{mul-div_cancel}}
use Rattle.arrays_core.{specs.Items.{fill}, specs.declared.item.Item.TheVariants.{Num}, specs.Arrays.{ArrayValue, item_of}, specs.Shapes.{is_index_of, places_before, size}, proofs.Shapes.{places_below}}
use Rattle.function_names.specs.declared.scalar.Scalar2.{Scalar2}
use Rattle.item_fns.{specs.Folds.{strided, line_start}, proofs.RightFolds.{length-strided, get_or-strided}, specs.RightFold.{fold_right}}
use Rattle.index_region.{specs.Axes.{places_along}, specs.Boxes.{Interval, is_within}, specs.Patches.{PatchValue, FitsPatch, patched}, proofs.Boxes.{fits_length}, proofs.Patched.{patched_at}}
use Rattle.fold_trees.specs.ArrayLines.{TreesValue, line_count, numbers_of_line}
use Rattle.reduce_fns.{specs.Laws.LineIndices.{inside}, proofs.Lines.{long_with_axis, stride}, proofs.Reduced.{lines_whole, start_is}, specs.Lines.{line}}
use Rattle.sum_rules.{specs.LineSums.{StandFor, line_length, line_step}, specs.Totals.{box_of_lines}, proofs.Lines.{some_step}}

-- an index list in a box is in it on the other axes
within_rest : (axis : ℕ) (region : List Interval) (index : List ℕ) (j : ℕ) → axis < length region → length index + 1 ≡ length region → is_within region (insert index axis j) ≡ true → is_within (remove region axis) index ≡ true
within_rest axis [] index j h e inside = absurd (omega arith)
within_rest zero (s ∷ region) index j h e inside = (and_parts _ _ inside).1
within_rest (suc axis) (s ∷ region) [] j h e inside = absurd (omega arith)
within_rest (suc axis) (s ∷ region) (i ∷ index) j h e inside =
    let here = and_parts _ _ inside in
    and_from _ _ here.0 (within_rest axis region index j (omega arith) (omega arith) here.1)

-- the number of trees is the number of lines
pub lines_counted : (axis : ℕ) (t : TreesValue) (a : ArrayValue) → StandFor t axis a → line_count t ≡ size (remove a.shape axis)
lines_counted axis t a stand =
    let others = remove a.shape axis in
    let parts = lines_whole axis a.shape others t.count t.step stand.there refl stand.counted stand.apart stand.some in
    let places : length t.numbers ≡ size others * t.count =
    sym (length-map t.numbers (λ (y : ℤ). Num y)) ∙ sym (ap (λ (b : ArrayValue). length b.items) stand.is) ∙ stand.sound.one_item_a_place ∙ sym parts.1 in
    ap (λ k. k / t.count) places ∙ mul-div_cancel (size others) parts.0

-- a line has a tree
pub line_below : (axis : ℕ) (t : TreesValue) (a : ArrayValue) → StandFor t axis a → (index : List ℕ) → is_index_of (remove a.shape axis) index ≡ true → places_before (remove a.shape axis) index < line_count t
line_below axis t a stand index on = omega (arith, lines_counted axis t a stand, places_below (remove a.shape axis) index on)

-- a line of numbers, at a fixed distance in a list
pub line_of_numbers : (a : ArrayValue) (axis : ℕ) (index : List ℕ) (numbers : List ℤ) (first step n : ℕ) → places_along a.shape axis ≡ n
    → ((k : ℕ) → k < n → item_of a (insert index axis (k + 1)) ≡ Num (get_or numbers (first + k * step) (pos 0)))
    → line a axis index ≡ map (λ (y : ℤ). Num y) (strided (pos 0) numbers first step n)
line_of_numbers a axis index numbers first step n along items =
    let item = λ (j : ℕ). item_of a (insert index axis j) in
    let many = length-map-range_with_len item 1 (places_along a.shape axis) in
    let all = strided (pos 0) numbers first step n in
    let as_many : length (map (λ (y : ℤ). Num y) all) ≡ n = length-map all (λ (y : ℤ). Num y) ∙ length-strided (pos 0) numbers first step n in
    ext_get_or (Num (pos 0)) (line a axis index) (map (λ (y : ℤ). Num y) all) (many ∙ along ∙ sym as_many) (λ k h.
    let under : k < n = omega (arith, h, many, along) in
    get_or-map-range_with_len item 1 (places_along a.shape axis) k (k + 1) (Num (pos 0)) (omega (arith, under, along)) (omega arith)
    ∙ items k under
    ∙ sym (get_or-map (λ (y : ℤ). Num y) all k (pos 0) ∙ ap (λ (y : ℤ). Num y) (get_or-strided (pos 0) numbers first step n k (pos 0) under)))

module _ (axis : ℕ) (t : TreesValue) (a : ArrayValue) (p : PatchValue) (stand : StandFor t axis a) (fit : FitsPatch a p) (index : List ℕ) (on : is_index_of (remove a.shape axis) index ≡ true)
    (away : is_within (box_of_lines axis p.region) index ≡ false) where
  abbrev n : ℕ
  n = line_length axis a.shape

  abbrev step : ℕ
  step = line_step axis a.shape

  abbrev which : ℕ
  which = places_before (remove a.shape axis) index

  abbrev first : ℕ
  first = places_before a.shape (insert index axis 1)

  long : length index + 1 ≡ length a.shape
  long = long_with_axis a.shape index axis stand.there on

  as_many_axes : length p.region ≡ length a.shape
  as_many_axes = fits_length p.region a.shape fit.inside

  place_at : (k : ℕ) → places_before a.shape (insert index axis (k + 1)) ≡ first + k * step
  place_at k = stride axis a.shape index (k + 1) stand.there long ∙ ap (λ m. first + m * step) (omega arith)

  outside : (j : ℕ) → is_within p.region (insert index axis j) ≡ false
  outside j = elim (cases_Bool (is_within p.region (insert index axis j))) [
    | inl w ↦ absurd (false≢true (sym away ∙ within_rest axis p.region index j (omega (arith, stand.there, as_many_axes)) (omega (arith, long, as_many_axes)) w))
    | inr f ↦ f
  ]

  item_now : (k : ℕ) → k < n → item_of (patched a p) (insert index axis (k + 1)) ≡ Num (get_or t.numbers (first + k * step) (pos 0))
  item_now k under =
      patched_at a p (insert index axis (k + 1)) (inside axis a.shape index (k + 1) stand.there on (omega arith) (omega (arith, under)))
      ∙ cond-false _ _ _ (outside (k + 1))
      ∙ ap (λ (b : ArrayValue). get_or b.items (places_before a.shape (insert index axis (k + 1))) (fill b.item_type)) stand.is
      ∙ ap (λ m. get_or (map (λ (y : ℤ). Num y) t.numbers) m (Num (pos 0))) (place_at k)
      ∙ get_or-map (λ (y : ℤ). Num y) t.numbers (first + k * step) (pos 0)

  kept_line : line (patched a p) axis index ≡ map (λ (y : ℤ). Num y) (strided (pos 0) t.numbers first step n)
  kept_line = line_of_numbers (patched a p) axis index t.numbers first step n (get_or_default a.shape axis 1 0 stand.there) item_now

  told : numbers_of_line t which ≡ strided (pos 0) t.numbers first step n
  told =
      (λ i. strided (pos 0) t.numbers (line_start (stand.apart i) (stand.counted i) which) (stand.apart i) (stand.counted i))
      ∙ ap (λ k. strided (pos 0) t.numbers k step n) (sym (start_is axis a.shape index stand.there on (some_step axis a.shape stand.some)))

  -- the total of a line is the fold of its tree
  pub kept_total : (f h : Scalar2) → h ≡ f → fold_right f (line (patched a p) axis index) ≡ fold_right h (map (λ (y : ℤ). Num y) (numbers_of_line t which))
  kept_total f h same = λ i. fold_right (sym same i) ((kept_line ∙ ap (map (λ (y : ℤ). Num y)) (sym told)) i)

some_factor : (n m k : ℕ) → n * m ≡ k → 0 < k → 0 < n
some_factor zero m k e h = absurd (omega (arith, e, h))
some_factor (suc n) m k e h = omega arith

-- the array has lines
pub some_lines : (axis : ℕ) (t : TreesValue) (a : ArrayValue) → StandFor t axis a → 0 < size (remove a.shape axis)
some_lines axis t a stand =
    let parts = lines_whole axis a.shape (remove a.shape axis) t.count t.step stand.there refl stand.counted stand.apart stand.some in
    some_factor (size (remove a.shape axis)) t.count (size a.shape) parts.1 stand.some
