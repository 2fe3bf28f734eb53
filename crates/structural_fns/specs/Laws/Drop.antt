-- The law of change for drop.
use Rattle.std.{proofs.Common.{◌≡◌, ◌≤◌, ◌-◌, ℕ, ℤ, pos, negsuc, unsigned_abs, true, List, [], ◌∷◌, length, refl, ap, ◌∙◌, arith, Ok}, proofs.lemmas.Bool.{and_parts, and_from, leb-true, le-leb, false≢true}}
use Rattle.arrays_core.{specs.Arrays.{ArrayValue}, specs.Shapes.{is_index_of}}
use Rattle.index_region.{specs.Arguments.{numbers}, specs.Boxes.{is_within}, specs.Checks.{Form}}
use Rattle.change_core.{specs.Tightness.{IsTight, Covered, Each}, specs.Sourced.{right_used}, specs.Ways.{IsSoundAxis, lengths, sources}, proofs.Sourced.{selected_sourced-tight}, proofs.UsedWays.{images-within}}
use Rattle.structural_fns.{specs.AxisCounts.{counted_shape, counted_box}, specs.Drop.{kept_place, kept_places, drop_form, drop_source, dropped_shape, kept, kept_axes, drop_box, drop_rule}, specs.Laws.CountedAxes.{counted_facts, counted_fits, counted_within}}

kept_sound : (n : ℕ) (count : ℤ) → IsSoundAxis (kept n count)
kept_sound n (pos count) = record { low = λ s i l u f h k. omega arith; high = λ s i l u f h k. omega arith }
kept_sound n (negsuc count) = record { low = λ s i l u f h k. h; high = λ s i l u f h k. k }

all_sound : (shape : List ℕ) (counts : List ℤ) → Each IsSoundAxis (kept_axes shape counts)
all_sound (n ∷ shape) (count ∷ counts) = (kept_sound n count, all_sound shape counts)
all_sound [] counts = tt
all_sound (n ∷ shape) [] = tt

place_is : (n : ℕ) (count : ℤ) (i : ℕ) → (kept n count).source i ≡ kept_place count i
place_is n (pos count) i = refl
place_is n (negsuc count) i = refl

places_are : (shape : List ℕ) (counts : List ℤ) (index : List ℕ) → length counts ≡ length shape → sources (kept_axes shape counts) index ≡ kept_places counts index
places_are (n ∷ shape) (count ∷ counts) (i ∷ index) h = let here = place_is n count i in let rest = places_are shape counts index (omega arith) in λ t. here t ∷ rest t
places_are [] [] index h = refl
places_are [] (count ∷ counts) index h = absurd (omega arith)
places_are (n ∷ shape) [] index h = absurd (omega arith)
places_are (n ∷ shape) (count ∷ counts) [] h = refl

len_is : (n : ℕ) (count : ℤ) → (kept n count).len ≡ n - unsigned_abs count
len_is n (pos count) = refl
len_is n (negsuc count) = refl

lengths_are : (shape : List ℕ) (counts : List ℤ) → lengths (kept_axes shape counts) ≡ dropped_shape shape counts
lengths_are [] counts = refl
lengths_are (n ∷ shape) [] = refl
lengths_are (n ∷ shape) (count ∷ counts) = let here = len_is n count in let rest = lengths_are shape counts in λ t. here t ∷ rest t

place_on : (n : ℕ) (count : ℤ) (i : ℕ) → 1 ≤ i → i ≤ n - unsigned_abs count → (1 ≤ kept_place count i) × (kept_place count i ≤ n)
place_on n (pos count) i l u = (omega arith, omega arith)
place_on n (negsuc count) i l u = (omega arith, omega arith)

-- the places of the result come from places of the array
places_inside : (shape : List ℕ) (counts : List ℤ) (index : List ℕ) → length counts ≡ length shape → is_index_of (dropped_shape shape counts) index ≡ true → is_index_of shape (kept_places counts index) ≡ true
places_inside [] [] [] h place = refl
places_inside [] [] (i ∷ index) h place = absurd (false≢true place)
places_inside [] (count ∷ counts) index h place = absurd (omega arith)
places_inside (n ∷ shape) [] index h place = absurd (omega arith)
places_inside (n ∷ shape) (count ∷ counts) [] h place = absurd (false≢true place)
places_inside (n ∷ shape) (count ∷ counts) (i ∷ index) h place =
    let parts = and_parts _ _ place in
    let first = and_parts _ _ parts.0 in
    let on = place_on n count i (leb-true 1 i first.0) (leb-true i (n - unsigned_abs count) first.1) in
    and_from _ _ (and_from _ _ (le-leb _ _ on.0) (le-leb _ _ on.1)) (places_inside shape counts index (omega arith) parts.1)

drop_covered : (a b : ArrayValue) (f : Form) → drop_form a b ≡ Ok f → Covered b.shape f.shape (right_used (drop_source a b) (drop_box f.shape a b))
drop_covered a b f e region index fit place =
    let shape = counted_shape a b in
    let facts = counted_facts (dropped_shape shape (numbers a)) a b f e in
    let axes = kept_axes shape (numbers a) in
    let at = kept_places (numbers a) index in
    let inside : is_index_of (dropped_shape shape (numbers a)) index ≡ true = rw facts.shaped at place in
    let here : is_index_of (lengths axes) index ≡ true = rw (lengths_are shape (numbers a)) inside in
    let there : sources axes index ≡ at = places_are shape (numbers a) index facts.many in
    let own = places_inside shape (numbers a) index facts.many inside in (
      λ h. images-within axes shape (counted_box a b region) index (all_sound shape (numbers a)) (counted_fits a b region fit) here
          (ap (is_within (counted_box a b region)) there ∙ counted_within a b region at own h),
      tt,
    )

pub drop_tight : IsTight drop_rule
drop_tight = selected_sourced-tight drop_form (λ a b. b.item_type) drop_source drop_box
    (λ a d ys n. refl) (λ a d ys n. refl) (λ a d ys index n. refl) (λ a b index. refl) drop_covered
