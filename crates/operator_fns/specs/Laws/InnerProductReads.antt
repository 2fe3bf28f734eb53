-- The items that decide an item of an inner product, and the places that a changed box reaches.
use Rattle.std.{proofs.Common.{◌≡◌, ◌≢◌, ℕ, ◌+◌, ◌-◌, ◌*◌, ◌<◌, ◌≤◌, zero, suc, true, nat_eq, nat_le, ◌&&◌, List, [], ◌∷◌, ◌++◌, length, get_or, map, take, drop, Option, Result, Ok, if◌then◌else◌, refl, sym, ap, subst, ◌∙◌, arith, inl, inr}, specs.Prelude.{◌==◌}, specs.List.{range_with_len}}
use Rattle.std.{proofs.lemmas.Bool.{and_from, and_parts, cases_Bool, cond-false, cond-true, eqb-false, eqb-true, false≢true, leb-true}, proofs.lemmas.List.{take-append-le, take_all}}
use Rattle.arrays_core.{specs.declared.item.Item.{Item}, specs.declared.item.Kind.{Kind}, specs.Arrays.{ArrayValue, IsArray, item_if_there}, specs.Items.{fill, and_then}, specs.Shapes.{is_index_of, size}, proofs.Shapes.{as_long}}
use Rattle.function_names.specs.declared.scalar.Scalar2.{Scalar2}
use Rattle.scalar_fns.{specs.ScalarExtension.{extended}, specs.Laws.OneItem.{ones_inside, ones_first, only_index}}
use Rattle.item_fns.{specs.Items.{dyadic_on_items}, specs.RightFold.{fold_right}}
use Rattle.index_region.{specs.Answers.{IsPlaceOf}, specs.Boxes.{Interval, is_within, whole_of}, specs.Checks.{Form}}
use Rattle.change_core.{specs.Tightness.{Covered, Each}, specs.Sourced.{other}, proofs.UsedWays.{back-onto, each_all, each_map, front-onto}, proofs.ReadAlike.{item_same}}
use Rattle.operator_fns.{specs.InnerProduct.{all_or_last_error, column_length, inner_form, inner_item, inner_length, row_length, row_rank, column_use, extended_line, row_use}, specs.Laws.InnerPlaces.{PassedInner, column_place, extended_many, extended_one, passed_inner, row_place}}

-- ---- the only place of an array of one item

abbrev ones : List ℕ → List ℕ
ones shape = map (λ _. 1) shape

factors_of_one : (n s : ℕ) → n * s ≡ 1 → (n ≡ 1) × (s ≡ 1)
factors_of_one zero s h = absurd (omega arith)
factors_of_one (suc n) zero h = absurd (omega arith)
factors_of_one (suc zero) (suc s) h = (refl, omega arith)
factors_of_one (suc (suc n)) (suc s) h = absurd (omega arith)

-- the only index of an axis of length 1
only : (n i : ℕ) → n ≡ 1 → (nat_le 1 i && nat_le i n) ≡ true → i ≡ 1
only n i one h =
    let parts = and_parts _ _ h in
    let low : 1 ≤ i = leb-true 1 i parts.0 in
    let high : i ≤ n = leb-true i n parts.1 in
    omega arith

-- the index list without the last axis, and without the first
but_last_one : (k : ℕ) (shape index : List ℕ) → size shape ≡ 1 → is_index_of (take k shape) index ≡ true → index ≡ take k (ones shape)
but_last_one zero shape [] h place = refl
but_last_one zero shape (i ∷ index) h place = absurd (false≢true place)
but_last_one (suc k) [] [] h place = refl
but_last_one (suc k) [] (i ∷ index) h place = absurd (false≢true place)
but_last_one (suc k) (n ∷ shape) [] h place = absurd (false≢true place)
but_last_one (suc k) (n ∷ shape) (i ∷ index) h place =
    let each = factors_of_one n (size shape) h in
    let parts = and_parts _ _ place in
    let first : i ≡ 1 = only n i each.0 parts.0 in
    let rest = but_last_one k shape index each.1 parts.1 in
    λ j. first j ∷ rest j

but_first_one : (shape index : List ℕ) → size shape ≡ 1 → is_index_of (drop 1 shape) index ≡ true → index ≡ drop 1 (ones shape)
but_first_one [] [] h place = refl
but_first_one [] (i ∷ index) h place = absurd (false≢true place)
but_first_one (n ∷ shape) index h place = sym (only_index shape index (factors_of_one n (size shape) h).1 place)

-- ---- lines whose items read the same

read_at : (f g : List ℕ → Option Item) (place : ℕ → List ℕ) (from n : ℕ) → map f (map place (range_with_len from n)) ≡ map g (map place (range_with_len from n))
    → (j : ℕ) → from ≤ j → j < from + n → f (place j) ≡ g (place j)
read_at f g place from zero read j low high = absurd (omega arith)
read_at f g place from (suc n) read j low high = elim (cases_Bool (nat_eq from j)) [
  | inl t ↦
      let here : from ≡ j = eqb-true from j t in
      let first : f (place from) ≡ g (place from) = cc in
      subst (λ (k : ℕ). f (place k) ≡ g (place k)) here first
  | inr o ↦
      let later : from + 1 ≤ j = omega (arith, eqb-false from j o) in
      read_at f g place (from + 1) n (cc) j later (omega arith)
]

-- extended lines whose items read the same are the same at each place
extended_same : (d : ArrayValue) (xs : List Item) (place : ℕ → List ℕ) (n : ℕ) → (size d.shape ≢ 1 → (j : ℕ) → 1 ≤ j → j < 1 + n → is_index_of d.shape (place j) ≡ true)
    → map (item_if_there (other d xs)) (extended_line d (map place (range_with_len 1 n))) ≡ map (item_if_there d) (extended_line d (map place (range_with_len 1 n)))
    → (j : ℕ) → 1 ≤ j → j < 1 + n → extended (other d xs) (place j) ≡ extended d (place j)
extended_same d xs place n inside read j low high = elim (cases_Bool (size d.shape == 1)) [
  | inl t ↦
      let one : size d.shape ≡ 1 = eqb-true _ _ t in
      let there = ones_inside d.shape one in
      let read_one : item_if_there (other d xs) (ones d.shape) ≡ item_if_there d (ones d.shape) = let k = rw t at read in cc in
      let same = item_same (other d xs) d (ones d.shape) there there read_one in
      extended_one (other d xs) (place j) one
      ∙ ap (λ (p : ℕ). get_or xs p (fill d.item_type)) (sym (ones_first d.shape))
      ∙ same
      ∙ ap (λ (p : ℕ). get_or d.items p (fill d.item_type)) (ones_first d.shape)
      ∙ sym (extended_one d (place j) one)
  | inr o ↦
      let many : size d.shape ≢ 1 = eqb-false _ _ o in
      let there = inside many j low high in
      let read_one = read_at (item_if_there (other d xs)) (item_if_there d) place 1 n (rw o at read) j low high in
      extended_many (other d xs) (place j) many ∙ item_same (other d xs) d (place j) there there read_one ∙ sym (extended_many d (place j) many)
]

results_same : (u v : ℕ → Result Item Kind) (from n : ℕ) → ((j : ℕ) → from ≤ j → j < from + n → u j ≡ v j) → map u (range_with_len from n) ≡ map v (range_with_len from n)
results_same u v from zero h = refl
results_same u v from (suc n) h =
    let first = h from (omega arith) (omega arith) in
    let rest = results_same u v (from + 1) n (λ j low high. h j (omega arith) (omega arith)) in
    λ i. first i ∷ rest i

-- ---- rows and columns

passed_at : (a b : ArrayValue) (g : Form) (index : List ℕ) → inner_form a b ≡ Ok g → is_index_of g.shape index ≡ true → PassedInner a b index
passed_at a b g index e place = passed_inner a b index (subst (λ (r : Result Form Kind). IsPlaceOf r index) (sym e) place)

row_inside : (a : ArrayValue) (row : List ℕ) (j n : ℕ) → size a.shape ≢ 1 → is_index_of (take (row_rank a) a.shape) row ≡ true → row_length a ≡ n → 1 ≤ j → j < 1 + n → is_index_of a.shape (row ++ j ∷ []) ≡ true
row_inside a row j n many front long low high =
    let again : j - 1 + 1 ≡ j = omega arith in
    subst (λ (k : ℕ). is_index_of a.shape (row ++ k ∷ []) ≡ true) again (row_place a row (j - 1) many front (omega arith)).inside

column_inside : (a : ArrayValue) (column : List ℕ) (j n : ℕ) → size a.shape ≢ 1 → is_index_of (drop 1 a.shape) column ≡ true → column_length a ≡ n → 1 ≤ j → j < 1 + n → is_index_of a.shape (j ∷ column) ≡ true
column_inside a column j n many back long low high =
    let again : j - 1 + 1 ≡ j = omega arith in
    subst (λ (k : ℕ). is_index_of a.shape (k ∷ column) ≡ true) again (column_place a column (j - 1) many back (omega arith)).inside

-- an item is the same if its row and its column read the same in both arrays
pub inner_same : (f g : Scalar2) (c d : ArrayValue) (xs ys : List Item) (form : Form) (index : List ℕ) → IsArray c → IsArray d → length xs ≡ length c.items → length ys ≡ length d.items → inner_form c d ≡ Ok form → is_index_of form.shape index ≡ true
    → map (item_if_there (other c xs)) ((row_use form.shape c d).reads index) ≡ map (item_if_there c) ((row_use form.shape c d).reads index)
    → map (item_if_there (other d ys)) ((column_use form.shape c d).reads index) ≡ map (item_if_there d) ((column_use form.shape c d).reads index)
    → inner_item f g (other c xs) (other d ys) index ≡ inner_item f g c d index
inner_same f g c d xs ys form index sound_c sound_d count_c count_d e place read_left read_right =
    let passed = passed_at c d form index e place in
    let n = inner_length c d in
    let row = take (row_rank c) index in
    let column = drop (row_rank c) index in
    let same_n : inner_length (other c xs) (other d ys) ≡ n = ap (λ (k : ℕ). if nat_eq k 1 then column_length d else row_length c) count_c in
    let left = extended_same c xs (λ j. row ++ j ∷ []) n (λ many j low high. row_inside c row j n many passed.front (passed.row (λ one. many (sym sound_c.one_item_a_place ∙ one))) low high) read_left in
    let right = extended_same d ys (λ j. j ∷ column) n (λ many j low high. column_inside d column j n many passed.back (passed.column (λ one. many (sym sound_d.one_item_a_place ∙ one))) low high) read_right in
    (λ i. and_then (all_or_last_error (map (λ j. dyadic_on_items g (extended (other c xs) (row ++ j ∷ [])) (extended (other d ys) (j ∷ column))) (range_with_len 1 (same_n i)))) (fold_right f))
    ∙ ap (λ (rs : List (Result Item Kind)). and_then (all_or_last_error rs) (fold_right f)) (results_same _ _ 1 n (λ j low high i. dyadic_on_items g (left j low high i) (right j low high i)))

-- ---- the reach of a changed box

each_line : (P : List ℕ → Type 0) (d : ArrayValue) (places : List (List ℕ)) → (size d.shape ≡ 1 → P (ones d.shape)) → Each P places → Each P (extended_line d places)
each_line P d places one h = elim (cases_Bool (size d.shape == 1)) [
  | inl t ↦ subst (Each P) (sym (cond-true _ _ _ t)) (one (eqb-true _ _ t), tt)
  | inr o ↦ subst (Each P) (sym (cond-false _ _ _ o)) h
]

within-take_both : (k : ℕ) (region : List Interval) (place : List ℕ) → is_within region place ≡ true → is_within (take k region) (take k place) ≡ true
within-take_both zero region place h = refl
within-take_both (suc k) [] [] h = refl
within-take_both (suc k) [] (i ∷ place) h = absurd (false≢true h)
within-take_both (suc k) (s ∷ region) [] h = absurd (false≢true h)
within-take_both (suc k) (s ∷ region) (i ∷ place) h =
    let parts = and_parts _ _ h in
    and_from _ _ parts.0 (within-take_both k region place parts.1)

within-drop_both : (region : List Interval) (place : List ℕ) → is_within region place ≡ true → is_within (drop 1 region) (drop 1 place) ≡ true
within-drop_both [] [] h = refl
within-drop_both [] (i ∷ place) h = absurd (false≢true h)
within-drop_both (s ∷ region) [] h = absurd (false≢true h)
within-drop_both (s ∷ region) (i ∷ place) h = (and_parts _ _ h).1

-- without its last axis, the index list of a row entry lies in the box without its last axis
row_within : (k : ℕ) (region : List Interval) (row : List ℕ) (j : ℕ) → length row ≡ k → is_within region (row ++ j ∷ []) ≡ true → is_within (take k region) row ≡ true
row_within k region row j long h =
    let same : take k (row ++ j ∷ []) ≡ row = take-append-le k row (j ∷ []) (omega arith) ∙ take_all k row (omega arith) in
    subst (λ (r : List ℕ). is_within (take k region) r ≡ true) same (within-take_both k region (row ++ j ∷ []) h)

pub row_covered : (a b : ArrayValue) (g : Form) → inner_form a b ≡ Ok g → Covered a.shape g.shape (row_use g.shape a b)
row_covered a b g e region index fit place =
    let k = row_rank a in
    let passed = passed_at a b g index e place in
    let row = take k index in
    let rows = take k a.shape in
    let long : length row ≡ k = omega (arith, as_long rows row passed.front, passed.rows) in
    let reached = λ (h : is_within (take k region) row ≡ true).
    let same : take (length rows) index ≡ row = ap (λ (m : ℕ). take m index) passed.rows in
    ((front-onto rows (drop 1 b.shape)).covered (take k region) index passed.inside).0 (subst (λ (r : List ℕ). is_within (take k region) r ≡ true) (sym same) h) in
    let P = λ (p : List ℕ). is_within region p ≡ true → is_within (take k region ++ whole_of (drop 1 b.shape)) index ≡ true in
    each_line P a (map (λ j. row ++ j ∷ []) (range_with_len 1 (inner_length a b)))
    (λ one h. reached (subst (λ (r : List ℕ). is_within (take k region) r ≡ true) (sym (but_last_one k a.shape row one passed.front)) (within-take_both k region (ones a.shape) h)))
    (each_map P (λ j. row ++ j ∷ []) (range_with_len 1 (inner_length a b)) (each_all _ (range_with_len 1 (inner_length a b)) (λ j h. reached (row_within k region row j long h))))

pub column_covered : (a b : ArrayValue) (g : Form) → inner_form a b ≡ Ok g → Covered b.shape g.shape (column_use g.shape a b)
column_covered a b g e region index fit place =
    let k = row_rank a in
    let passed = passed_at a b g index e place in
    let column = drop k index in
    let rows = take k a.shape in
    let reached = λ (h : is_within (drop 1 region) column ≡ true).
    let same : drop (length rows) index ≡ column = ap (λ (m : ℕ). drop m index) passed.rows in
    ((back-onto rows (drop 1 b.shape)).covered (drop 1 region) index passed.inside).0 (subst (λ (r : List ℕ). is_within (drop 1 region) r ≡ true) (sym same) h) in
    let P = λ (p : List ℕ). is_within region p ≡ true → is_within (whole_of rows ++ drop 1 region) index ≡ true in
    each_line P b (map (λ j. j ∷ column) (range_with_len 1 (inner_length a b)))
    (λ one h. reached (subst (λ (r : List ℕ). is_within (drop 1 region) r ≡ true) (sym (but_first_one b.shape column one passed.back)) (within-drop_both region (ones b.shape) h)))
    (each_map P (λ j. j ∷ column) (range_with_len 1 (inner_length a b)) (each_all _ (range_with_len 1 (inner_length a b)) (λ j h. reached (within-drop_both region (j ∷ column) h))))
