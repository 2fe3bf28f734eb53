-- The scan of an array of numbers, computed from its slice of numbers.
use Rattle.std.proofs.Common.{◌≡◌, ℕ, zero, suc, ◌+◌, ◌-◌, ◌*◌, ◌/◌, ◌%◌, ◌<◌, ◌≤◌, Bool, true, false, ◌||◌, not, nat_eq, nat_lt, inl, inr, IfOk, ℤ, pos, List, [], ◌∷◌, length, get_or, drop, take, map, refl, ap, sym, ◌∙◌, arith, insert, remove, if◌then◌else◌, Result, Ok, Err}
use Rattle.std.{proofs.lemmas.Bool.{eqb-true, ltb-true, le-ltb, cases_lt}, proofs.lemmas.List.{get_or_default}, proofs.lemmas.List.Edits.{length-remove}, proofs.lemmas.Nat.{div-mul-add, mod-mul-add, mod_below}, specs.List.{range_with_len}}
use Rattle.arrays_core.{specs.declared.item.Item.{Item}, specs.declared.item.Item.TheVariants.{Num}, specs.declared.item.Kind.{Kind}, specs.declared.item.Kind.TheVariants.{Axis as AxisKind, Domain}, specs.declared.item.ItemType.{ItemType}, specs.declared.item.ItemType.TheVariants.{Nums, Chars}}
use Rattle.arrays_core.{specs.Items.{fill, type_of, all_or_first_error, and_then}, specs.Shapes.{size, is_index_of, places_before}, specs.Arrays.{ArrayValue, IsArray, collect, with_items}, proofs.Shapes.{as_long, places_below}}
use Rattle.function_names.{specs.declared.scalar.Scalar2.{Scalar2}, specs.declared.along.Along.{Along}, specs.Axes.{is_axis, axis_at}}
use Rattle.item_fns.{specs.Numbers.{dyadic_on_numbers}, specs.Items.{number_item}, specs.NumberLists.{number_items}, specs.Folds.{strided, folded, line_start}, proofs.RightFolds.{take-strided}, specs.RightFold.{fold_right}}
use Rattle.index_region.{specs.Checks.{form_of, limited}, specs.Arguments.{counts_as_numbers, is_of_numbers}, specs.Axes.{places_along}, specs.Answers.{IsPlaceOf, HasTypeOf}, proofs.Passing.{passed, place_inside, typed_check, typed_limited}}
use Rattle.reduce_fns.{specs.Lines.{line}, proofs.Lines.{stride, line-strided, size-drop-le}, proofs.Placewise.{collected_same, numbers_collected}, proofs.Reduced.{numbers_folded, start_is}}
use Rattle.scan_fns.{specs.LinearScan.{depth, run_to, scanned}, specs.Scan.{scan_type, scan_form, scan_item, scan_whole}, specs.Laws.ScannedPlaces.{AtAxis, at_axis, scan_facts}}

-- ---- an index list and its place
pub restored : (index : List ℕ) (k d : ℕ) → k < length index → insert (remove index k) k (get_or index k d) ≡ index
restored [] k d h = absurd (omega arith)
restored (i ∷ index) zero d h = refl
restored (i ∷ index) (suc k) d h = ap (λ xs. i ∷ xs) (restored index k d (omega arith))

-- the depth of a place on its line
pub depth_at : (s n q i : ℕ) → 0 < s → i < n → depth s n (line_start s n q + i * s) ≡ i
depth_at s n q i some below =
    ap (λ p. p / s % n) (omega arith) ∙ ap (λ m. m % n) (div-mul-add (q / s * n + i) s (q % s) (mod_below q s some)) ∙ mod-mul-add (q / s) n i below

module _ (f : Scalar2) (b : ArrayValue) (xs : List ℤ) (items : b.items ≡ map (λ z. Num z) xs) (typed : b.item_type ≡ Nums) where
  -- the item of a scan at an index list
  pub run_there : (axis : ℕ) (index : List ℕ) → axis < length b.shape → is_index_of b.shape index ≡ true → 0 < size b.shape
      → fold_right f (take (get_or index axis 1) (line b axis (remove index axis)))
      ≡ number_item (folded (dyadic_on_numbers f) (run_to (pos 0) xs (size (drop (suc axis) b.shape)) (get_or b.shape axis 0) (places_before b.shape index)))
  run_there axis index there inside some =
      let s = size (drop (suc axis) b.shape) in
      let n = get_or b.shape axis 0 in
      let i = get_or index axis 1 in
      let others = remove index axis in
      let first = places_before b.shape (insert others axis 1) in
      let p = places_before b.shape index in
      let at = at_axis b.shape index axis there inside in
      let apart = (size-drop-le (suc axis) b.shape some).0 in
      let long = as_long b.shape index inside in
      let others_long = length-remove index axis (omega arith) in
      let place : p ≡ first + (i - 1) * s = ap (places_before b.shape) (sym (restored index axis 1 (omega arith))) ∙ stride axis b.shape others i there (omega arith) in
      let start = start_is axis b.shape others there at.others apart in
      let deep : depth s n p ≡ i - 1 =
      ap (depth s n) (place ∙ ap (λ m. m + (i - 1) * s) start) ∙ depth_at s n (places_before (remove b.shape axis) others) (i - 1) apart (omega arith) in
      let many : i ≡ depth s n p + 1 = omega arith in
      ap (λ l. fold_right f (take i l)) (line-strided b axis others there at.others)
      ∙ ap (fold_right f) (take-strided (fill b.item_type) b.items first s n i at.high)
      ∙ ap (λ d. fold_right f (strided d b.items first s i)) (ap fill typed)
      ∙ numbers_folded f xs b.items first s i items at.low
      ∙ ap (λ m. number_item (folded (dyadic_on_numbers f) (strided (pos 0) xs m s i))) (first_is p first (depth s n p) (i - 1) s place deep)
      ∙ ap (λ m. number_item (folded (dyadic_on_numbers f) (strided (pos 0) xs (p - depth s n p * s) s m))) many
    where
      first_is : (p first d i s : ℕ) → p ≡ first + i * s → d ≡ i → first ≡ p - d * s
      first_is p first d i s e g = rw g (omega arith)

-- facts about an index list of the result
pub record ScanPlace (along : Along) (b : ArrayValue) (index : List ℕ) : Type 0 where
  pub on_axis : is_axis (length b.shape) along ≡ true
  pub short_or_numbers : (nat_lt (places_along b.shape (axis_at (length b.shape) along)) 2 || counts_as_numbers b) ≡ true
  pub inside : is_index_of b.shape index ≡ true

pub scan_place : (along : Along) (b : ArrayValue) (index : List ℕ) → IsPlaceOf (scan_form along b) index → ScanPlace along b index
scan_place along b index h =
    let axis = axis_at (length b.shape) along in
    let on_axis = passed (is_axis (length b.shape) along) _ _ index h in
    let checked = passed (nat_lt (places_along b.shape axis) 2 || counts_as_numbers b) _ _ index on_axis.place in
    record { on_axis = on_axis.test; short_or_numbers = checked.test; inside = place_inside b.shape (scan_type b axis) index checked.place }

-- the axis of the scan at an index list of a result
pub record ScanAxis (along : Along) (b : ArrayValue) (index : List ℕ) (axis : ℕ) : Type 0 where
  pub meant : axis ≡ axis_at (length b.shape) along
  pub long : length index ≡ length b.shape
  pub there : axis < length b.shape
  pub on_index : axis < length index
  pub index_at : get_or index axis 1 ≡ get_or index axis 0
  pub at : AtAxis b.shape index axis

pub scan_axis : (along : Along) (b : ArrayValue) (index : List ℕ) (axis : ℕ) → IsPlaceOf (scan_form along b) index → axis ≡ axis_at (length b.shape) along → axis < length b.shape
    → ScanAxis along b index axis
scan_axis along b index axis place meant there =
    let inside = (scan_place along b index place).inside in
    let long = as_long b.shape index inside in
    let on_index : axis < length index = omega (arith, long, there) in
    record { meant = meant; long = long; there = there; on_index = on_index; index_at = get_or_default index axis 1 0 on_index; at = at_axis b.shape index axis there inside }

are_numbers : (b : ArrayValue) → counts_as_numbers b ≡ true → 0 < length b.items → b.item_type ≡ Nums
are_numbers b h some = decide b.item_type (nat_eq (length b.items) 0) refl h
  where
    decide : (t : ItemType) (none : Bool) → nat_eq (length b.items) 0 ≡ none → (is_of_numbers t || not (not none)) ≡ true → t ≡ Nums
    decide Nums none e h = refl
    decide Chars true e h = let empty = eqb-true (length b.items) 0 e in absurd (omega arith)
    decide Chars false e h = let no : ⊥ = cc in absurd no

scan_type_of : (b : ArrayValue) (axis i : ℕ) (item : Item) → (nat_lt (places_along b.shape axis) 2 || counts_as_numbers b) ≡ true → 0 < length b.items
    → 1 ≤ i → i ≤ places_along b.shape axis → (i ≡ 1 → type_of item ≡ b.item_type) → (1 < i → type_of item ≡ Nums) → type_of item ≡ scan_type b axis
scan_type_of b axis i item h some low high one several = decide (nat_lt (places_along b.shape axis) 2) refl h
  where
    decide : (short : Bool) → nat_lt (places_along b.shape axis) 2 ≡ short → (short || counts_as_numbers b) ≡ true
        → type_of item ≡ (if short then b.item_type else Nums)
    decide true e h = let below = ltb-true (places_along b.shape axis) 2 e in one (omega arith)
    decide false e h =
        elim (cases_lt 1 i) [
          | inl many ↦ several many
          | inr few ↦ one (omega arith) ∙ are_numbers b h some
        ]

pub scan_typed : (along : Along) (b : ArrayValue) (index : List ℕ) (r : Result Item Kind) → IsArray b → IsPlaceOf (scan_form along b) index → axis_at (length b.shape) along < length b.shape
    → (get_or index (axis_at (length b.shape) along) 1 ≡ 1 → IfOk r (λ x. type_of x ≡ b.item_type)) → (1 < get_or index (axis_at (length b.shape) along) 1 → IfOk r (λ x. type_of x ≡ Nums))
    → IfOk r (HasTypeOf (scan_form along b))
scan_typed along b index (Err k) sound h there one several = tt
scan_typed along b index (Ok item) sound h there one several =
    let axis = axis_at (length b.shape) along in
    let place = scan_place along b index h in
    let at = at_axis b.shape index axis there place.inside in
    let below = places_below b.shape index place.inside in
    let along_it = get_or_default b.shape axis 1 0 there in
    let t = scan_type_of b axis (get_or index axis 1) item place.short_or_numbers (omega (arith, sound.one_item_a_place)) at.low (omega (arith, at.high, along_it)) one several in
    typed_check (is_axis (length b.shape) along) AxisKind _ item
    (typed_check (nat_lt (places_along b.shape axis) 2 || counts_as_numbers b) Domain (limited b.shape (scan_type b axis)) item
    (typed_limited b.shape (scan_type b axis) item t))

-- a result of an array of numbers is of numbers
of_numbers : (w : Bool) (t : ItemType) → t ≡ Nums → (if w then t else Nums) ≡ Nums
of_numbers true t h = h
of_numbers false t h = refl

-- collecting the folds over the shape is the array of their list
scan_collected : (f : ℤ → ℤ → Result ℤ Kind) (xs : List ℤ) (s n : ℕ) (shape : List ℕ) → size shape ≡ length xs
    → collect Nums shape (λ index. number_item (folded f (run_to (pos 0) xs s n (places_before shape index)))) ≡ with_items Nums shape (number_items (scanned (folded f) xs s n))
scan_collected f xs s n shape long =
    numbers_collected shape (λ place. folded f (run_to (pos 0) xs s n place))
    ∙ ap (λ m. with_items Nums shape (number_items (all_or_first_error (map (λ place. folded f (run_to (pos 0) xs s n place)) (range_with_len 0 m))))) long

module _ (f : Scalar2) (b : ArrayValue) (xs : List ℤ) (items : b.items ≡ map (λ z. Num z) xs) (typed : b.item_type ≡ Nums) where
  -- the whole scan
  pub scanned_whole : (along : Along) (shape : List ℕ) (t : ItemType) (axis n s : ℕ) → scan_form along b ≡ Ok (form_of shape t) → axis ≡ axis_at (length b.shape) along
      → axis < length b.shape → n ≡ get_or b.shape axis 0 → s ≡ size (drop (suc axis) b.shape) → 0 < size b.shape → size shape ≡ length xs
      → scan_whole f along b ≡ with_items Nums shape (number_items (scanned (folded (dyadic_on_numbers f)) xs s n))
  scanned_whole along shape t axis n s form meant there n_is s_is some long =
      let facts = scan_facts along b shape t form in
      ap (λ r. and_then r (λ g. collect g.item_type g.shape (scan_item f along b))) form
      ∙ ap (λ u. collect u shape (scan_item f along b)) (facts.typed ∙ of_numbers _ b.item_type typed)
      ∙ collected_same Nums shape (scan_item f along b) _ (λ index inside.
      ap (λ a. fold_right f (take (get_or index a 1) (line b a (remove index a)))) (sym meant)
      ∙ run_there f b xs items typed axis index there (ap (λ sh. is_index_of sh index) (sym facts.shaped) ∙ inside) some
      ∙ (rw (n_is, s_is, facts.shaped) refl))
      ∙ scan_collected (dyadic_on_numbers f) xs s n shape long

-- characters along an axis of two or more fail
pub characters_fail : (along : Along) (b : ArrayValue) (axis : ℕ) → is_axis (length b.shape) along ≡ true → axis ≡ axis_at (length b.shape) along → axis < length b.shape
    → 2 ≤ get_or b.shape axis 0 → counts_as_numbers b ≡ false → scan_form along b ≡ Err Domain
characters_fail along b axis on_axis meant there many characters =
    let same : get_or b.shape (axis_at (length b.shape) along) 1 ≡ get_or b.shape axis 0 = ap (λ k. get_or b.shape k 1) (sym meant) ∙ get_or_default b.shape axis 1 0 there in
    rw (on_axis, le-ltb (places_along b.shape (axis_at (length b.shape) along)) 2 (omega (arith, same)), characters) refl
