-- Catenate along the first axis if the items of each side are a run of the result.
use Rattle.std.{proofs.Common.{◌≡◌, ℕ, zero, suc, ◌+◌, ◌-◌, ◌*◌, ◌/◌, ◌%◌, ◌<◌, ◌≤◌, Bool, true, false, ◌||◌, if◌then◌else◌, nat_eq, List, [], ◌∷◌, ◌++◌, length, get_or, Ok, refl, sym, ap, subst, ◌∙◌, inl, inr, arith}, specs.Prelude.{bytes_eq}, proofs.lemmas.Bool.{le-leb, lt-leb, cases_lt}}
use Rattle.std.{proofs.lemmas.Bool.Decides.{nat_tests}, proofs.lemmas.Slice.Eq.{bytes_eq-Decides}, proofs.lemmas.Nat.{div_below}, proofs.Math.Nat.{mul-add-div_right, mul-add-mod_self_right, mod-eq_of_lt}, proofs.lemmas.List.{get_or_append_left, get_or-append_right, get_or_default, length-append}}
use Rattle.arrays_core.{specs.declared.item.Item.{Item}, specs.declared.item.ItemType.{ItemType}, specs.declared.item.Kind.TheVariants.{Axis as AxisKind, Rank, Length, Domain}, specs.Items.{fill, and_then}, specs.Shapes.{size, index_after}, specs.Arrays.{ArrayValue, IsArray, collect, with_items}}
use Rattle.{arrays_core.proofs.Order.{given_in_order}, function_names.{specs.declared.along.Along.{Along}, specs.Axes.{is_axis, axis_at}}}
use Rattle.index_region.{specs.Arguments.{is_scalar}, specs.Checks.{form_of}, proofs.Passing.{gives}}
use Rattle.structural_fns.{specs.Catenate.{joined_rank, joined_places, other_axes, ranks_join, axes_agree, joined_type, joined_shape, types_join, in_side, catenate_item, catenate_form, catenate_whole}, proofs.Runs.{item_after, limited_is, positive}, specs.Laws.SharedAxes.{shared_long}}

-- ---- a side with each item used once, in row-major order, and the other axes of the result

pub record IsWhole (rank : ℕ) (others : List ℕ) (s : ArrayValue) : Type 0 where
  pub sized : joined_places rank 0 s * size others ≡ size s.shape
  pub placed : (x j : ℕ) → j < size s.shape → in_side rank 0 s (x ∷ index_after others (j % size others)) (j / size others + 1) ≡ index_after s.shape j

abbrev of_parts : ItemType → List ℕ → List Item → ArrayValue
of_parts item_type shape items = record { item_type = item_type; shape = shape; items = items }

scalar_whole : (item_type : ItemType) (items : List Item) (rank : ℕ) (others : List ℕ) → rank ≡ 1 → others ≡ [] → IsWhole rank others (of_parts item_type [] items)
scalar_whole item_type items rank others one none = rw (one, none) (record { sized = refl; placed = λ x j h. refl })

zero_is : (n : ℕ) → n ≡ 0 → nat_eq n 0 ≡ true
zero_is n h = grind (arith, nat_tests)

same_whole : (item_type : ItemType) (items : List Item) (n : ℕ) (tail : List ℕ) (rank : ℕ) → nat_eq (suc (length tail)) rank ≡ true
    → IsWhole rank tail (of_parts item_type (n ∷ tail) items)
same_whole item_type items n tail rank test = record { sized = rw test refl; placed = λ x j h. rw (test, positive (suc (length tail)) (omega arith)) refl }

less_whole : (item_type : ItemType) (items : List Item) (n : ℕ) (tail : List ℕ) (rank : ℕ) → nat_eq (suc (length tail)) rank ≡ false
    → IsWhole rank (n ∷ tail) (of_parts item_type (n ∷ tail) items)
less_whole item_type items n tail rank test = record {
  sized = rw test (let same : 1 * size (n ∷ tail) ≡ size (n ∷ tail) = omega arith in same);
  placed = λ x j h. rw (test, positive (suc (length tail)) (omega arith), mod-eq_of_lt h) refl;
}

by_test : (item_type : ItemType) (items : List Item) (n : ℕ) (tail : List ℕ) (rank : ℕ) (test : Bool) → nat_eq (suc (length tail)) rank ≡ test
    → IsWhole rank (if test then tail else n ∷ tail) (of_parts item_type (n ∷ tail) items)
by_test item_type items n tail rank true e = same_whole item_type items n tail rank e
by_test item_type items n tail rank false e = less_whole item_type items n tail rank e

whole_of : (item_type : ItemType) (items : List Item) (shape : List ℕ) (rank : ℕ) (others : List ℕ) → (length shape ≡ 0 → (rank ≡ 1) × (others ≡ []))
    → (0 < length shape → others ≡ other_axes rank 0 (of_parts item_type shape items)) → IsWhole rank others (of_parts item_type shape items)
whole_of item_type items [] rank others scalar more = let parts = scalar refl in scalar_whole item_type items rank others parts.0 parts.1
whole_of item_type items (n ∷ tail) rank others scalar more =
    subst (λ xs. IsWhole rank xs (of_parts item_type (n ∷ tail) items)) (sym (more (omega arith))) (by_test item_type items n tail rank (nat_eq (suc (length tail)) rank) refl)

none_left : (xs : List ℕ) → length xs + 1 ≡ 1 → xs ≡ []
none_left [] h = refl
none_left (x ∷ xs) h = absurd (omega arith)

-- the other axes of the result
abbrev pub result_axes : ArrayValue → ArrayValue → List ℕ
result_axes a b = other_axes (joined_rank a b) 0 (if is_scalar a then b else a)

module _ (a b : ArrayValue) (ranks : ranks_join a b ≡ true) where
  no_axes : joined_rank a b ≡ 1 → result_axes a b ≡ []
  no_axes one = none_left (result_axes a b) (shared_long a b 0 (omega arith) ranks ∙ one)

  pub left_whole : (is_scalar a ≡ true → joined_rank a b ≡ 1) → IsWhole (joined_rank a b) (result_axes a b) a
  left_whole run =
      whole_of a.item_type a.items a.shape (joined_rank a b) (result_axes a b)
      (λ h. let one = run (zero_is (length a.shape) h) in (one, no_axes one))
      (λ h. ap (λ w. other_axes (joined_rank a b) 0 (if w then b else a)) (positive (length a.shape) h))

  agreed : (w : Bool) → is_scalar a ≡ w → is_scalar b ≡ false → axes_agree (joined_rank a b) 0 a b ≡ true → result_axes a b ≡ other_axes (joined_rank a b) 0 b
  agreed true e f h = ap (λ w. other_axes (joined_rank a b) 0 (if w then b else a)) e
  agreed false e f h =
      let rank = joined_rank a b in
      let neither : (is_scalar a || is_scalar b) ≡ false = ap (λ w. w || is_scalar b) e ∙ f in
      let equal : bytes_eq (other_axes rank 0 a) (other_axes rank 0 b) ≡ true = sym (ap (λ w. w || bytes_eq (other_axes rank 0 a) (other_axes rank 0 b)) neither) ∙ h in
      ap (λ w. other_axes rank 0 (if w then b else a)) e ∙ ((bytes_eq-Decides (other_axes rank 0 a) (other_axes rank 0 b)).0 equal)

  pub right_whole : axes_agree (joined_rank a b) 0 a b ≡ true → (is_scalar b ≡ true → joined_rank a b ≡ 1) → IsWhole (joined_rank a b) (result_axes a b) b
  right_whole agree run =
      whole_of b.item_type b.items b.shape (joined_rank a b) (result_axes a b)
      (λ h. let one = run (zero_is (length b.shape) h) in (one, no_axes one))
      (λ h. agreed (is_scalar a) refl (positive (length b.shape) h) agree)

-- ---- the items of the result

second_positive : (m t k : ℕ) → k < m * t → 0 < t
second_positive m zero k h = absurd (omega arith)
second_positive m (suc t) k h = omega arith

module _ (along : Along) (a b : ArrayValue) (others : List ℕ) (first : axis_at (joined_rank a b) along ≡ 0) where
  left_item : IsWhole (joined_rank a b) others a → length a.items ≡ size a.shape → (more k : ℕ) → k < length a.items
      → catenate_item along a b (index_after (more ∷ others) k) ≡ Ok (get_or (a.items ++ b.items) k (fill (joined_type a b)))
  left_item whole long more k h =
      let m = joined_places (joined_rank a b) 0 a in
      let inside : k < m * size others = omega arith in
      let below = div_below k (size others) m (second_positive m (size others) k inside) inside in
      let there : k < size a.shape = omega arith in
      let found : get_or a.items k (fill a.item_type) ≡ get_or (a.items ++ b.items) k (fill (joined_type a b)) =
      get_or_default a.items k (fill a.item_type) (fill (joined_type a b)) h ∙ sym (get_or_append_left a.items b.items (fill (joined_type a b)) k h) in
      rw (first, le-leb (k / size others + 1) m (omega arith), whole.placed (k / size others + 1) k there, item_after a k there) (ap (λ x. Ok x) found)

  right_item : IsWhole (joined_rank a b) others a → IsWhole (joined_rank a b) others b → length a.items ≡ size a.shape → length b.items ≡ size b.shape
      → (more k : ℕ) → length a.items ≤ k → k < length a.items + length b.items
      → catenate_item along a b (index_after (more ∷ others) k) ≡ Ok (get_or (a.items ++ b.items) k (fill (joined_type a b)))
  right_item left right left_long right_long more k past h =
      let m = joined_places (joined_rank a b) 0 a in
      let t = size others in
      let j = k - length a.items in
      let split : k ≡ m * t + j = omega arith in
      let quotient : k / t ≡ m + j / t = ap (λ n. n / t) split ∙ mul-add-div_right {m = t} (second_positive (joined_places (joined_rank a b) 0 b) t j (omega arith)) m j in
      let remainder : k % t ≡ j % t = ap (λ n. n % t) split ∙ mul-add-mod_self_right m t j in
      let place : k / t + 1 - m ≡ j / t + 1 = omega arith in
      let there : j < size b.shape = omega arith in
      let found : get_or b.items j (fill b.item_type) ≡ get_or (a.items ++ b.items) k (fill (joined_type a b)) =
      get_or_default b.items j (fill b.item_type) (fill (joined_type a b)) (omega arith) ∙ sym (get_or-append_right a.items b.items (length a.items) k (fill (joined_type a b)) refl past) in
      rw (first, lt-leb (k / t + 1) m (omega arith), place, remainder, right.placed (k / t + 1) j there, item_after b j there) (ap (λ x. Ok x) found)

  -- both runs in sequence
  runs_collected : IsWhole (joined_rank a b) others a → IsWhole (joined_rank a b) others b → length a.items ≡ size a.shape → length b.items ≡ size b.shape
      → (more : ℕ) → length a.items + length b.items ≡ size (more ∷ others)
      → collect (joined_type a b) (more ∷ others) (catenate_item along a b) ≡ Ok (record { item_type = joined_type a b; shape = more ∷ others; items = a.items ++ b.items })
  runs_collected left right left_long right_long more sized =
      let joined : length (a.items ++ b.items) ≡ size (more ∷ others) = length-append a.items b.items ∙ sized in
      ap (with_items (joined_type a b) (more ∷ others)) (given_in_order (more ∷ others) (catenate_item along a b) (a.items ++ b.items) (fill (joined_type a b)) joined each)
    where
      each : (k : ℕ) → k < size (more ∷ others) → catenate_item along a b (index_after (more ∷ others) k) ≡ Ok (get_or (a.items ++ b.items) k (fill (joined_type a b)))
      each k h = elim (cases_lt k (length a.items)) [
        | inl below ↦ left_item left left_long more k below
        | inr past ↦ right_item left right left_long right_long more k past (omega arith)
      ]

-- ---- the checks, and the whole

-- two whole sides, and the facts about their result
pub record AreJoined (along : Along) (a b : ArrayValue) (shape : List ℕ) : Type 0 where
  pub as_many : length a.items + length b.items ≡ size shape
  pub whole : catenate_whole along a b ≡ Ok (record { item_type = joined_type a b; shape = shape; items = a.items ++ b.items })

module _ (along : Along) (a b : ArrayValue) (shape : List ℕ) (item_type : ItemType) (form : catenate_form along a b ≡ Ok (form_of shape item_type)) (first : axis_at (joined_rank a b) along ≡ 0) where
  pub joined_runs : IsArray a → IsArray b → (is_scalar a ≡ true → joined_rank a b ≡ 1) → (is_scalar b ≡ true → joined_rank a b ≡ 1) → AreJoined along a b shape
  joined_runs left_sound right_sound left_run right_run =
      let rank = joined_rank a b in
      let ranks = gives (ranks_join a b) Rank _ (form_of shape item_type) (gives (is_axis rank along) AxisKind _ (form_of shape item_type) form).is in
      let agree = gives (axes_agree rank (axis_at rank along) a b) Length _ (form_of shape item_type) ranks.is in
      let parts = limited_is (gives (types_join a b) Domain _ (form_of shape item_type) agree.is).is in
      let more = joined_places rank 0 a + joined_places rank 0 b in
      let shaped : shape ≡ more ∷ result_axes a b = parts.0 ∙ ap (λ n. joined_shape rank n a b) first in
      let left = left_whole a b ranks.test left_run in
      let right = right_whole a b ranks.test (ap (λ n. axes_agree rank n a b) (sym first) ∙ agree.test) right_run in
      let sized : length a.items + length b.items ≡ size (more ∷ result_axes a b) = omega arith in
      let typed : catenate_form along a b ≡ Ok (form_of shape (joined_type a b)) = form ∙ ap (λ t. Ok (form_of shape t)) parts.1 in
      record {
        as_many = sized ∙ ap size (sym shaped);
        whole = ap (λ r. and_then r (λ f. collect f.item_type f.shape (catenate_item along a b))) (typed ∙ ap (λ xs. Ok (form_of xs (joined_type a b))) shaped)
            ∙ runs_collected along a b (result_axes a b) first left right left_sound.one_item_a_place right_sound.one_item_a_place more sized
            ∙ ap (λ xs. Ok (record { item_type = joined_type a b; shape = xs; items = a.items ++ b.items })) (sym shaped);
      }
