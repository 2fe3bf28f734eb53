-- The rows of a catenation.
use Rattle.std.{proofs.Common.{◌≡◌, ℕ, zero, suc, ◌+◌, ◌-◌, ◌*◌, ◌<◌, ◌≤◌, min, nat_eq, nat_le, Bool, true, false, cond, if◌then◌else◌, List, [], ◌∷◌, ◌++◌, length, get_or, set, insert, remove, Some, None, Result, Ok, refl, ap, sym, subst, ◌∙◌, ◌⊎◌, inl, inr, arith}, specs.Prelude.{unwrap_or, not, ◌&&◌}}
use Rattle.std.{proofs.lemmas.Bool.{eqb-true, eqb-false, le-leb, lt-leb, not_from_false, false_from_ne_true}, proofs.lemmas.List.{set-append_left, get_or_append_left, get_or_push, append-nil}, proofs.lemmas.List.Edits.{remove-append_left, remove-append_right, length-insert, get_or-insert_at}}
use Rattle.std.proofs.Math.Seq.{set-append_seam}
use Rattle.arrays_core.{specs.declared.item.Item.{Item}, specs.declared.item.ItemType.{ItemType}, specs.declared.item.Kind.{Kind}, specs.Items.{fill}, specs.Arrays.{ArrayValue, IsArray, item_of}, specs.Building.{listed, with_row}, specs.Shapes.{is_index_of, places_before}, proofs.Shapes.{places_below}}
use Rattle.arrays_core.proofs.Rows.{places_in_row, with_row_none, with_row_more}
use Rattle.function_names.{specs.declared.along.Along.{Along}, specs.Axes.{is_axis, axis_at}}
use Rattle.index_region.{specs.Answers.{IsRowIn}, specs.Arguments.{is_scalar, has_items}, specs.Sources.{Place, item_from}, proofs.Passing.{RowInside, row_passed, row_inside, place_of_row}}
use Rattle.structural_fns.{specs.Catenate.{joined_rank, joined_places, other_axes, ranks_join, axes_agree, types_join, joined_type, joined_shape, in_side, in_side_of_row, catenate_form, catenate_item}, specs.Laws.SharedAxes.{shared_long}, proofs.Sides.{right_typed}, proofs.SidePlaces.{JoinFacts, join_facts}}
use Rattle.structural_fns.proofs.SteppedRows.{listed_same}

-- the places of a row all come from one place of a side, or from consecutive places
record Stays (at : ℕ → List ℕ) : Type 0 where
  is : (x y : ℕ) → at x ≡ at y

record Moves (at : ℕ → List ℕ) (before : ℕ) : Type 0 where
  others : List ℕ
  skipped : ℕ
  low : skipped ≤ before
  is : (x : ℕ) → at x ≡ others ++ (x - skipped) ∷ []

abbrev chosen : Bool → Bool → List ℕ → ℕ → ℕ → ℕ → List ℕ
chosen scalar same row axis skipped x =
    if scalar then [] else (if same then set (row ++ x ∷ []) axis (get_or (row ++ x ∷ []) axis 0 - skipped) else remove (row ++ x ∷ []) axis)

along_row : (scalar same : Bool) (row : List ℕ) (axis skipped before : ℕ) → axis ≤ length row → (axis ≡ length row → skipped ≤ before)
    → Stays (chosen scalar same row axis skipped) ⊎ Moves (chosen scalar same row axis skipped) before
along_row true same row axis skipped before below low = inl (record { is = λ x y. refl })
along_row false true row axis skipped before below low = decide (nat_eq axis (length row)) refl
  where
    decide : (last : Bool) → nat_eq axis (length row) ≡ last → Stays (chosen false true row axis skipped) ⊎ Moves (chosen false true row axis skipped) before
    decide true e =
        let last = eqb-true axis (length row) e in
        inr (record {
          others = row;
          skipped = skipped;
          low = low last;
          is = λ x. ap (λ i. set (row ++ x ∷ []) axis (i - skipped)) (get_or_push row x 0 axis (sym last))
              ∙ ap (λ k. set (row ++ x ∷ []) k (x - skipped)) last ∙ set-append_seam row x [] (x - skipped);
        })
    decide false e =
        let other = eqb-false axis (length row) e in
        let there : axis < length row = omega arith in
        inr (record {
          others = set row axis (get_or row axis 0 - skipped);
          skipped = 0;
          low = omega arith;
          is = λ x. ap (λ i. set (row ++ x ∷ []) axis (i - skipped)) (get_or_append_left row (x ∷ []) 0 axis there)
              ∙ set-append_left row (x ∷ []) axis (get_or row axis 0 - skipped) there ∙ ap (λ i. set row axis (get_or row axis 0 - skipped) ++ i ∷ []) (omega arith);
        })
along_row false false row axis skipped before below low = decide (nat_eq axis (length row)) refl
  where
    decide : (last : Bool) → nat_eq axis (length row) ≡ last → Stays (chosen false false row axis skipped) ⊎ Moves (chosen false false row axis skipped) before
    decide true e =
        let last = eqb-true axis (length row) e in
        let gone : axis - length row ≡ 0 = omega arith in
        let removed : (x : ℕ) → remove (row ++ x ∷ []) axis ≡ row = λ x.
        remove-append_right row (x ∷ []) (length row) axis refl (omega arith) ∙ ap (λ k. row ++ remove (x ∷ []) k) gone ∙ append-nil row in
        inl (record { is = λ x y. removed x ∙ sym (removed y) })
    decide false e =
        let other = eqb-false axis (length row) e in
        inr (record {
          others = remove row axis;
          skipped = 0;
          low = omega arith;
          is = λ x. remove-append_left row (x ∷ []) axis (omega arith) ∙ ap (λ i. remove row axis ++ i ∷ []) (omega arith);
        })

-- the step of a part of a row
record Stepped (shape : List ℕ) (at : ℕ → List ℕ) (before kept : ℕ) : Type 0 where
  stride : ℕ
  is : (i : ℕ) → 1 ≤ i → i ≤ kept → places_before shape (at (before + i)) ≡ places_before shape (at (before + 1)) + (i - 1) * stride

stepped : (shape : List ℕ) (at : ℕ → List ℕ) (before kept : ℕ) → Stays at ⊎ Moves at before
    → ((i : ℕ) → before < i → i ≤ before + kept → is_index_of shape (at i) ≡ true) → Stepped shape at before kept
stepped shape at before kept (inl stays) inside =
    record { stride = 0; is = λ i low high. ap (λ index. places_before shape index) (stays.is (before + i) (before + 1)) ∙ omega arith }
stepped shape at before kept (inr moves) inside =
    record {
      stride = 1;
      is = λ i low high.
          let first = moves.is (before + 1) in
          let begin : is_index_of shape (moves.others ++ (before + 1 - moves.skipped) ∷ []) ≡ true = rw first at (inside (before + 1) (omega arith) (omega arith)) in
          let far = places_in_row shape moves.others (before + 1 - moves.skipped) (before + i - moves.skipped) begin (omega (arith, moves.low)) in
          rw (moves.is (before + i), first) (omega (arith, moves.low));
    }

-- the step of a row is the distance of its first two places
step_of_two : (first second stride m count i : ℕ) → 1 ≤ i → i ≤ count → m ≡ min count 2 → second ≡ first + (m - 1) * stride → (i - 1) * stride ≡ (i - 1) * (second - first)
step_of_two first second stride m zero i low high e f = absurd (omega arith)
step_of_two first second stride m (suc zero) i low high e f = let one : i ≡ 1 = omega arith in rw one (omega arith)
step_of_two first second stride m (suc (suc count)) i low high e f =
    let two : m ≡ 2 = omega arith in
    let far : second ≡ first + (2 - 1) * stride = rw two at f in
    let same : second - first ≡ stride = omega arith in
    rw same refl

-- a part of a row that comes from one side
module _ (s : ArrayValue) (axis skipped : ℕ) (row : List ℕ) (before kept : ℕ) (below : axis ≤ length row) (low : axis ≡ length row → skipped ≤ before)
    (inside : (i : ℕ) → before < i → i ≤ before + kept → is_index_of s.shape (in_side_of_row axis skipped s row i) ≡ true) where
  abbrev at : ℕ → List ℕ
  at i = in_side_of_row axis skipped s row i

  of_part : Stepped s.shape at before kept
  of_part = stepped s.shape at before kept (along_row (is_scalar s) (nat_eq (length s.shape) (length row + 1)) row axis skipped before below low) inside

  pub first_least : (m : ℕ) → m ≡ min kept 2 → 0 < kept → places_before s.shape (at (before + 1)) ≤ places_before s.shape (at (before + m))
  first_least m least some = let there = of_part.is m (omega arith) (omega arith) in omega (arith, there)

  module _ (first second m : ℕ) (least : m ≡ min kept 2) (some : 0 < kept) (begins : first ≡ places_before s.shape (at (before + 1)))
      (goes_on : second ≡ places_before s.shape (at (before + m))) where
    place_of : (k : ℕ) → k < kept → places_before s.shape (at (before + (k + 1))) ≡ first + k * (second - first)
    place_of k h =
        let back : k + 1 - 1 ≡ k = omega arith in
        let step = step_of_two first second of_part.stride m kept (k + 1) (omega arith) (omega arith) least (rw (begins, goes_on) (of_part.is m (omega arith) (omega arith))) in
        (of_part.is (k + 1) (omega arith) (omega arith)) ∙ rw (back, rw back at step, ← begins) refl

    pub side_inside : IsArray s → (k : ℕ) → k < kept → first + k * (second - first) < length s.items
    side_inside sound k h =
        let index = places_below s.shape (at (before + (k + 1))) (inside (before + (k + 1)) (omega arith) (omega arith)) in
        omega (arith, place_of k h, sound.one_item_a_place)

    pub side_items : listed kept (λ k. get_or s.items (first + k * (second - first)) (fill s.item_type)) ≡ listed kept (λ k. item_of s (at (before + k + 1)))
    side_items =
        listed_same kept (λ k. get_or s.items (first + k * (second - first)) (fill s.item_type)) (λ k. item_of s (at (before + k + 1)))
        (λ k h. ap (λ j. get_or s.items j (fill s.item_type)) (sym (place_of k h)) ∙ ap (λ i. item_of s (at i)) (omega arith))

-- an array with an index list has items
pub some_items : (s : ArrayValue) (index : List ℕ) → IsArray s → is_index_of s.shape index ≡ true → has_items s ≡ true
some_items s index sound h =
    not_from_false _ (false_from_ne_true _ (λ e.
    let none = eqb-true (length s.items) 0 e in
    let below = places_below s.shape index h in
    omega (arith, sound.one_item_a_place)))

-- ---- a row of the result

item_at_left : (a b : ArrayValue) (t : ItemType) (at : List ℕ) → is_index_of a.shape at ≡ true → item_from a b t (Place 0 at) ≡ Ok (item_of a at)
item_at_left a b t at h = ap (λ w. Ok (unwrap_or (cond w (Some (item_of a at)) None) (fill t))) h

item_at_right : (a b : ArrayValue) (t : ItemType) (at : List ℕ) → is_index_of b.shape at ≡ true → item_from a b t (Place 1 at) ≡ Ok (item_of b at)
item_at_right a b t at h = ap (λ w. Ok (unwrap_or (cond w (Some (item_of b at)) None) (fill t))) h

abbrev of_sides : ArrayValue → ArrayValue → List ℕ → ℕ → ℕ → Bool → Result Item Kind
of_sides a b index rank axis first =
    let i = get_or index axis 0 in
    item_from a b (joined_type a b) (if first then Place 0 (in_side rank axis a index i) else Place 1 (in_side rank axis b index (i - joined_places rank axis a)))

record Checked (along : Along) (a b : ArrayValue) (row : List ℕ) (count : ℕ) (item_type : ItemType) : Type 0 where
  ranks : ranks_join a b ≡ true
  types : types_join a b ≡ true
  inside : RowInside (joined_shape (joined_rank a b) (axis_at (joined_rank a b) along) a b) (joined_type a b) item_type row count

checked : (along : Along) (a b : ArrayValue) (row : List ℕ) (count : ℕ) (item_type : ItemType) → IsRowIn (catenate_form along a b) row count item_type
    → Checked along a b row count item_type
checked along a b row count item_type h =
    let r = joined_rank a b in
    let k = axis_at r along in
    let ranks = row_passed (ranks_join a b) _ _ row count item_type (row_passed (is_axis r along) _ _ row count item_type h).row_in in
    let types = row_passed (types_join a b) _ _ row count item_type (row_passed (axes_agree r k a b) _ _ row count item_type ranks.row_in).row_in in
    record { ranks = ranks.test; types = types.test; inside = row_inside (joined_shape r k a b) (joined_type a b) row count item_type types.row_in }

-- a row of a catenation along an axis, with the places that the left argument takes of the axis
pub record IsJoinedRow (along : Along) (a b : ArrayValue) (row : List ℕ) (count : ℕ) (item_type : ItemType) (axis places : ℕ) : Type 0 where
  pub meant : axis ≡ axis_at (joined_rank a b) along
  pub as_many : places ≡ joined_places (joined_rank a b) axis a
  pub below : axis < joined_rank a b
  pub row_in : IsRowIn (catenate_form along a b) row count item_type

module _ {along : Along} {a b : ArrayValue} {row : List ℕ} {count : ℕ} {item_type : ItemType} {axis places : ℕ} (joined : IsJoinedRow along a b row count item_type axis places) where
  open joined use {meant, as_many, below, row_in as h}

  abbrev checks : Checked along a b row count item_type
  checks = checked along a b row count item_type h

  abbrev others : List ℕ
  others = other_axes (joined_rank a b) (axis_at (joined_rank a b) along) (if is_scalar a then b else a)

  within : axis_at (joined_rank a b) along < joined_rank a b
  within = omega (arith, meant, below)

  shared : length others + 1 ≡ joined_rank a b
  shared = shared_long a b (axis_at (joined_rank a b) along) within checks.ranks

  abbrev both_places : ℕ
  both_places = joined_places (joined_rank a b) (axis_at (joined_rank a b) along) a + joined_places (joined_rank a b) (axis_at (joined_rank a b) along) b

  pub rank_of_row : joined_rank a b ≡ length row + 1
  rank_of_row =
      omega (arith, length-insert others (axis_at (joined_rank a b) along) both_places (omega (arith, shared, within)), shared, checks.inside.row_of.long)

  pub axis_below : axis ≤ length row
  axis_below = omega (arith, rank_of_row, below)

  pub places_within : axis ≡ length row → places ≤ count
  places_within last =
      let there = get_or-insert_at others (axis_at (joined_rank a b) along) both_places 0 (omega (arith, shared, within)) in
      let end : axis_at (joined_rank a b) along ≡ length row = sym meant ∙ last in
      let all : both_places ≡ count = sym there ∙ ap (λ k. get_or (insert others (axis_at (joined_rank a b) along) both_places) k 0) end ∙ checks.inside.row_of.whole in
      omega (arith, all, as_many ∙ ap (λ k. joined_places (joined_rank a b) k a) meant)

  many : places ≡ joined_places (length row + 1) axis a
  many = as_many ∙ ap (λ r. joined_places r axis a) rank_of_row

  facts : (i : ℕ) → 1 ≤ i → i ≤ count → JoinFacts (length row + 1) axis a b (row ++ i ∷ [])
  facts i low high =
      subst (λ r. JoinFacts r axis a b (row ++ i ∷ [])) rank_of_row
      (subst (λ k. JoinFacts (joined_rank a b) k a b (row ++ i ∷ [])) (sym meant)
      (join_facts along a b (row ++ i ∷ []) within (place_of_row (catenate_form along a b) row count item_type i h low high)))

  abbrev along_axis : ℕ → ℕ
  along_axis i = get_or (row ++ i ∷ []) axis 0

  left_at : (i : ℕ) → 1 ≤ i → i ≤ count → along_axis i ≤ places → is_index_of a.shape (in_side (length row + 1) axis a (row ++ i ∷ []) (along_axis i)) ≡ true
  left_at i low high small =
      let f = facts i low high in
      f.left (along_axis i) (record { low = f.on.low; high = omega (arith, many, small) })

  right_at : (i : ℕ) → 1 ≤ i → i ≤ count → places < along_axis i
      → is_index_of b.shape (in_side (length row + 1) axis b (row ++ i ∷ []) (along_axis i - places)) ≡ true
  right_at i low high great =
      let f = facts i low high in
      f.right (along_axis i - places) (record { low = omega (arith, great); high = omega (arith, many, great, f.on.high) })

  pub left_inside : (i : ℕ) → 1 ≤ i → i ≤ count → along_axis i ≤ places → is_index_of a.shape (in_side_of_row axis 0 a row i) ≡ true
  left_inside i low high small =
      subst (λ k. is_index_of a.shape (in_side (length row + 1) axis a (row ++ i ∷ []) k) ≡ true) (omega arith) (left_at i low high small)

  pub right_inside : (i : ℕ) → 1 ≤ i → i ≤ count → places < along_axis i → is_index_of b.shape (in_side_of_row axis places b row i) ≡ true
  right_inside i low high great = right_at i low high great

  abbrev by_axis : ℕ → ℕ → ℕ → Result Item Kind
  by_axis i r k = of_sides a b (row ++ i ∷ []) r k (nat_le (get_or (row ++ i ∷ []) k 0) (joined_places r k a))

  given : (i : ℕ) → catenate_item along a b (row ++ i ∷ []) ≡ by_axis i (length row + 1) axis
  given i = ap (λ k. by_axis i (joined_rank a b) k) (sym meant) ∙ ap (λ r. by_axis i r axis) rank_of_row

  pub left_item : (i : ℕ) → 1 ≤ i → i ≤ count → along_axis i ≤ places → catenate_item along a b (row ++ i ∷ []) ≡ Ok (item_of a (in_side_of_row axis 0 a row i))
  left_item i low high small =
      given i
      ∙ ap (λ w. of_sides a b (row ++ i ∷ []) (length row + 1) axis w) (le-leb (along_axis i) (joined_places (length row + 1) axis a) (omega (arith, many, small)))
      ∙ item_at_left a b (joined_type a b) (in_side (length row + 1) axis a (row ++ i ∷ []) (along_axis i)) (left_at i low high small)
      ∙ ap (λ k. Ok (item_of a (in_side (length row + 1) axis a (row ++ i ∷ []) k))) (omega arith)

  pub right_item : (i : ℕ) → 1 ≤ i → i ≤ count → places < along_axis i → catenate_item along a b (row ++ i ∷ []) ≡ Ok (item_of b (in_side_of_row axis places b row i))
  right_item i low high great =
      given i
      ∙ ap (λ w. of_sides a b (row ++ i ∷ []) (length row + 1) axis w) (lt-leb (along_axis i) (joined_places (length row + 1) axis a) (omega (arith, many, great)))
      ∙ ap (λ m. item_from a b (joined_type a b) (Place 1 (in_side (length row + 1) axis b (row ++ i ∷ []) (along_axis i - m)))) (sym many)
      ∙ item_at_right a b (joined_type a b) (in_side (length row + 1) axis b (row ++ i ∷ []) (along_axis i - places)) (right_at i low high great)

  pub left_is_typed : has_items a ≡ true → a.item_type ≡ item_type
  left_is_typed some = sym (ap (λ w. if not w && has_items b then b.item_type else a.item_type) some) ∙ checks.inside.typed

  pub right_is_typed : has_items b ≡ true → b.item_type ≡ item_type
  right_is_typed some = right_typed a b checks.types some ∙ checks.inside.typed

  -- the rows
  pub row_of_both : (items mid : List Item) → axis ≡ length row → mid ≡ items ++ listed places (λ k. item_of a (in_side_of_row axis 0 a row (0 + k + 1)))
      → with_row items (λ i. catenate_item along a b (row ++ i ∷ [])) count
      ≡ Ok (mid ++ listed (count - places) (λ k. item_of b (in_side_of_row axis places b row (places + k + 1))))
  row_of_both items mid last made =
      let fits = places_within last in
      let on_left : with_row items (λ i. catenate_item along a b (row ++ i ∷ [])) places ≡ Ok mid =
      with_row_more items items (λ i. catenate_item along a b (row ++ i ∷ [])) (λ k. item_of a (in_side_of_row axis 0 a row (0 + k + 1))) 0 places places (omega arith)
      (λ j there. left_item (0 + j + 1) (omega arith) (omega arith) (let e = get_or_push row (0 + j + 1) 0 axis (sym last) in omega (arith, e)))
      (with_row_none items (λ i. catenate_item along a b (row ++ i ∷ []))) ∙ ap (λ xs. Ok xs) (sym made) in
      with_row_more items mid (λ i. catenate_item along a b (row ++ i ∷ [])) (λ k. item_of b (in_side_of_row axis places b row (places + k + 1))) places (count - places) count (omega arith)
      (λ j there. right_item (places + j + 1) (omega arith) (omega arith) (let e = get_or_push row (places + j + 1) 0 axis (sym last) in omega (arith, e))) on_left

  pub row_of_left : (items : List Item) → axis < length row → get_or row axis 0 ≤ places
      → with_row items (λ i. catenate_item along a b (row ++ i ∷ [])) count ≡ Ok (items ++ listed count (λ k. item_of a (in_side_of_row axis 0 a row (0 + k + 1))))
  row_of_left items there small =
      with_row_more items items (λ i. catenate_item along a b (row ++ i ∷ [])) (λ k. item_of a (in_side_of_row axis 0 a row (0 + k + 1))) 0 count count (omega arith)
      (λ j high. left_item (0 + j + 1) (omega arith) (omega arith) (let e = get_or_append_left row ((0 + j + 1) ∷ []) 0 axis there in omega (arith, e, small)))
      (with_row_none items (λ i. catenate_item along a b (row ++ i ∷ [])))

  pub row_of_right : (items : List Item) → axis < length row → places < get_or row axis 0
      → with_row items (λ i. catenate_item along a b (row ++ i ∷ [])) count ≡ Ok (items ++ listed count (λ k. item_of b (in_side_of_row axis places b row (0 + k + 1))))
  row_of_right items there great =
      with_row_more items items (λ i. catenate_item along a b (row ++ i ∷ [])) (λ k. item_of b (in_side_of_row axis places b row (0 + k + 1))) 0 count count (omega arith)
      (λ j high. right_item (0 + j + 1) (omega arith) (omega arith) (let e = get_or_append_left row ((0 + j + 1) ∷ []) 0 axis there in omega (arith, e, great)))
      (with_row_none items (λ i. catenate_item along a b (row ++ i ∷ [])))
