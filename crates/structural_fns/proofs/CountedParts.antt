-- Take without fill and drop: a part of the array.
use Rattle.std.proofs.Common.{◌≡◌, ℕ, zero, suc, ◌+◌, ◌-◌, ◌<◌, ◌≤◌, min, ℤ, pos, negsuc, unsigned_abs, nat_eq, false, List, [], ◌∷◌, length, get_or, true, Ok, refl, ap, sym, ◌∙◌, arith}
use Rattle.std.{proofs.lemmas.Bool.{eqb-true}, proofs.lemmas.Bool.Decides.{nat_tests}, proofs.lemmas.List.{ext_get_or}}
use Rattle.arrays_core.{specs.declared.item.ItemType.{ItemType}, specs.declared.item.Kind.TheVariants.{Rank, Length, Domain}, specs.Items.{and_then}, specs.Arrays.{ArrayValue, collect}, specs.Shapes.{is_index_of}, proofs.Shapes.{as_long}}
use Rattle.index_region.{specs.Checks.{form_of}, specs.Arguments.{is_scalar, is_list, counts_as_numbers, numbers}, proofs.Passing.{gives}, proofs.Placed.{right_placed}, proofs.OnAxes.{on_axis, inside_by_axes}}
use Rattle.structural_fns.{specs.Reshape.{magnitudes}, specs.AxisCounts.{counted_shape, counted_form}, specs.Take.{taken_place, taken_places, take_form, take_item, take_whole}, specs.Drop.{kept_place, kept_places, dropped_shape, drop_form, drop_item, drop_whole}}
use Rattle.structural_fns.{specs.Part.{behind, part_item, IsPart, AreBeforeTaken, AreBeforeKept}, proofs.Counting.{numbers_long, magnitudes_long, magnitude_at, dropped_long, dropped_at}, proofs.Parts.{behind_long, behind_at, part_collected}, proofs.Runs.{limited_is}, proofs.SourcePlaces.{kept_inside}, proofs.TakenRows.{places_long, places_at}}

-- the facts that the checks of counts establish
pub record CountsPassed (asked : List ℕ) (a b : ArrayValue) (shape : List ℕ) (item_type : ItemType) : Type 0 where
  pub shaped : shape ≡ asked
  pub typed : item_type ≡ b.item_type
  pub long : length a.items ≡ length (counted_shape a b)

pub counts_passed : (asked : List ℕ) (a b : ArrayValue) (shape : List ℕ) (item_type : ItemType) → counted_form asked a b ≡ Ok (form_of shape item_type)
    → CountsPassed asked a b shape item_type
counts_passed asked a b shape item_type h =
    let listed = gives (is_list a) Rank _ (form_of shape item_type) h in
    let long = gives (nat_eq (length a.items) (length (counted_shape a b))) Length _ (form_of shape item_type) listed.is in
    let parts = limited_is (gives (counts_as_numbers a) Domain _ (form_of shape item_type) long.is).is in
    record { shaped = parts.0; typed = parts.1; long = eqb-true _ _ long.test }

-- an array with an axis is no scalar
no_scalar : (b : ArrayValue) → 0 < length b.shape → is_scalar b ≡ false
no_scalar b h = grind (arith, nat_tests)

pub axes_counted : (a b : ArrayValue) → 0 < length b.shape → counted_shape a b ≡ b.shape
axes_counted a b some = rw (no_scalar b some) refl

pub counts_of_axes : (a b : ArrayValue) → 0 < length b.shape → length a.items ≡ length (counted_shape a b) → length a.items ≡ length b.shape
counts_of_axes a b some h = rw (no_scalar b some) at h

-- ---- take

moved_back : (n : ℕ) (z : ℤ) (i : ℕ) → unsigned_abs z ≤ n → taken_place n z i ≡ taken_place n z 1 - 1 + i
moved_back n (pos c) i h = omega arith
moved_back n (negsuc c) i h = omega arith

last_taken : (n : ℕ) (z : ℤ) → unsigned_abs z ≤ n → taken_place n z 1 - 1 + unsigned_abs z ≤ n
last_taken n (pos c) h = omega arith
last_taken n (negsuc c) h = omega arith

module _ (a b : ArrayValue) (before : List ℕ) (long : length a.items ≡ length b.shape) (is : AreBeforeTaken b.shape (numbers a) before) where
  taken_list : (index : List ℕ) → is_index_of (magnitudes a) index ≡ true → taken_places b.shape (numbers a) index ≡ behind before index
  taken_list index h =
      let counts = numbers_long a in
      let as_counts = magnitudes_long a in
      let same = as_long (magnitudes a) index h in
      let moved = behind_long before index (omega (arith, is.as_many)) in
      let places = places_long b.shape (numbers a) index (omega arith) (omega arith) in
      ext_get_or 0 (taken_places b.shape (numbers a) index) (behind before index) (omega (arith, is.as_many))
      (λ k below.
      places_at b.shape (numbers a) index k (omega arith) (omega arith) (omega arith)
      ∙ moved_back (get_or b.shape k 0) (get_or (numbers a) k (pos 0)) (get_or index k 0) (is.there k (omega arith))
      ∙ ap (λ m. m + get_or index k 0) (sym (is.each k (omega arith)))
      ∙ sym (behind_at before index k (omega (arith, is.as_many))))

  pub taken_is_part : IsPart b.shape before (magnitudes a)
  taken_is_part =
      let as_counts = magnitudes_long a in
      record {
        as_many = is.as_many;
        ranks = omega arith;
        inside = λ index h.
            let same = as_long (magnitudes a) index h in
            let moved = behind_long before index (omega (arith, is.as_many)) in
            inside_by_axes b.shape (behind before index) (omega (arith, is.as_many))
            (λ k below.
            let on = on_axis (magnitudes a) index k h (omega arith) in
            let at = behind_at before index k (omega (arith, is.as_many)) in
            let most = magnitude_at a k (omega arith) in
            let last = last_taken (get_or b.shape k 0) (get_or (numbers a) k (pos 0)) (is.there k below) in
            record { low = omega (arith, on.low); high = omega (arith, on.high, is.each k below) });
      }

  taken_here : (index : List ℕ) → is_index_of (magnitudes a) index ≡ true → take_item a b index ≡ part_item b before index
  taken_here index h = rw (no_scalar b is.some, taken_list index h, taken_is_part.inside index h) (right_placed a b (behind before index) (taken_is_part.inside index h))

  pub taken_part : (shape : List ℕ) (item_type : ItemType) → take_form a b ≡ Ok (form_of shape item_type) → item_type ≡ b.item_type → shape ≡ magnitudes a
      → take_whole a b ≡ collect b.item_type shape (part_item b before)
  taken_part shape item_type form typed shaped =
      ap (λ r. and_then r (λ f. collect f.item_type f.shape (take_item a b))) form ∙ ap (λ t. collect t shape (take_item a b)) typed
      ∙ part_collected b.item_type shape before b (take_item a b) (λ index h. taken_here index (sym (ap (λ s. is_index_of s index) shaped) ∙ h))

-- ---- drop

kept_long : (counts : List ℤ) (index : List ℕ) → length index ≡ length counts → length (kept_places counts index) ≡ length counts
kept_long [] index h = refl
kept_long (z ∷ counts) [] h = absurd (omega arith)
kept_long (z ∷ counts) (i ∷ index) h = ap suc (kept_long counts index (omega arith))

kept_at : (counts : List ℤ) (index : List ℕ) (k : ℕ) → k < length counts → length index ≡ length counts → get_or (kept_places counts index) k 0 ≡ kept_place (get_or counts k (pos 0)) (get_or index k 0)
kept_at [] index k h e = absurd (omega arith)
kept_at (z ∷ counts) [] k h e = absurd (omega arith)
kept_at (z ∷ counts) (i ∷ index) zero h e = refl
kept_at (z ∷ counts) (i ∷ index) (suc k) h e = kept_at counts index k (omega arith) (omega arith)

moved_on : (n : ℕ) (z : ℤ) (i : ℕ) → 1 ≤ i → i ≤ n - unsigned_abs z → kept_place z i ≡ min (kept_place z 0) n + i
moved_on n (pos c) i low high = omega arith
moved_on n (negsuc c) i low high = omega arith

module _ (a b : ArrayValue) (before : List ℕ) (long : length a.items ≡ length b.shape) (is : AreBeforeKept b.shape (numbers a) before) where
  kept_list : (index : List ℕ) → is_index_of (dropped_shape b.shape (numbers a)) index ≡ true → kept_places (numbers a) index ≡ behind before index
  kept_list index h =
      let counts = numbers_long a in
      let left = dropped_long b.shape (numbers a) (omega arith) in
      let same = as_long (dropped_shape b.shape (numbers a)) index h in
      let moved = behind_long before index (omega (arith, is.as_many)) in
      let places = kept_long (numbers a) index (omega arith) in
      ext_get_or 0 (kept_places (numbers a) index) (behind before index) (omega (arith, is.as_many))
      (λ k below.
      let on = on_axis (dropped_shape b.shape (numbers a)) index k h (omega arith) in
      let most = dropped_at b.shape (numbers a) k (omega arith) (omega arith) in
      kept_at (numbers a) index k (omega arith) (omega arith)
      ∙ moved_on (get_or b.shape k 0) (get_or (numbers a) k (pos 0)) (get_or index k 0) on.low (omega (arith, on.high))
      ∙ ap (λ m. m + get_or index k 0) (sym (is.each k (omega arith)))
      ∙ sym (behind_at before index k (omega (arith, is.as_many))))

  pub kept_is_part : IsPart b.shape before (dropped_shape b.shape (numbers a))
  kept_is_part =
      let counts = numbers_long a in
      record {
        as_many = is.as_many;
        ranks = dropped_long b.shape (numbers a) (omega arith);
        inside = λ index h. ap (is_index_of b.shape) (sym (kept_list index h)) ∙ kept_inside b.shape (numbers a) index (omega arith) h;
      }

  kept_here : 0 < length b.shape → (index : List ℕ) → is_index_of (dropped_shape b.shape (numbers a)) index ≡ true → drop_item a b index ≡ part_item b before index
  kept_here some index h = rw (no_scalar b some, kept_list index h) (right_placed a b (behind before index) (kept_is_part.inside index h))

  pub kept_part : 0 < length b.shape → (shape : List ℕ) (item_type : ItemType) → drop_form a b ≡ Ok (form_of shape item_type) → item_type ≡ b.item_type
      → shape ≡ dropped_shape b.shape (numbers a) → drop_whole a b ≡ collect b.item_type shape (part_item b before)
  kept_part some shape item_type form typed shaped =
      ap (λ r. and_then r (λ f. collect f.item_type f.shape (drop_item a b))) form ∙ ap (λ t. collect t shape (drop_item a b)) typed
      ∙ part_collected b.item_type shape before b (drop_item a b) (λ index h. kept_here some index (sym (ap (λ s. is_index_of s index) shaped) ∙ h))
