-- The law of change for take.
use Rattle.std.proofs.Common.{◌≡◌, ℕ, ℤ, pos, negsuc, unsigned_abs, true, List, [], ◌∷◌, length, map, refl, ap, ◌∙◌, arith, Ok}
use Rattle.arrays_core.{specs.Arrays.{ArrayValue}, specs.Shapes.{is_index_of}}
use Rattle.index_region.{specs.Arguments.{numbers}, specs.Boxes.{is_within}, specs.Checks.{Form}}
use Rattle.change_core.{specs.Tightness.{IsTight, Covered, Each}, specs.Sourced.{right_used}, specs.Ways.{IsSoundAxis, lengths, sources, images}, proofs.Sourced.{selected_sourced-tight}, proofs.UsedWays.{images-within}}
use Rattle.structural_fns.{specs.Reshape.{magnitudes}, specs.AxisCounts.{counted_shape, uncounted, counted_box}, specs.Take.{taken_place, taken_places, take_form, take_source, taken, taken_axes, take_box, take_rule}, specs.Laws.CountedAxes.{counted_facts, counted_fits, counted_within}}
use Rattle.structural_fns.specs.Laws.PlacesOrFill.{none_left, where_there}

taken_sound : (n : ℕ) (count : ℤ) → IsSoundAxis (taken n count)
taken_sound n (pos count) = record { low = λ s i l u f h k. h; high = λ s i l u f h k. k }
taken_sound n (negsuc count) = record { low = λ s i l u f h k. omega arith; high = λ s i l u f h k. omega arith }

all_sound : (shape : List ℕ) (counts : List ℤ) → Each IsSoundAxis (taken_axes shape counts)
all_sound (n ∷ shape) (count ∷ counts) = (taken_sound n count, all_sound shape counts)
all_sound [] counts = tt
all_sound (n ∷ shape) [] = tt

place_is : (n : ℕ) (count : ℤ) (i : ℕ) → (taken n count).source i ≡ taken_place n count i
place_is n (pos count) i = refl
place_is n (negsuc count) i = refl

places_are : (shape : List ℕ) (counts : List ℤ) (index : List ℕ) → sources (taken_axes shape counts) index ≡ taken_places shape counts index
places_are (n ∷ shape) (count ∷ counts) (i ∷ index) = let here = place_is n count i in let rest = places_are shape counts index in λ t. here t ∷ rest t
places_are [] counts index = refl
places_are (n ∷ shape) [] index = refl
places_are (n ∷ shape) (count ∷ counts) [] = refl

len_is : (n : ℕ) (count : ℤ) → (taken n count).len ≡ unsigned_abs count
len_is n (pos count) = refl
len_is n (negsuc count) = refl

lengths_are : (shape : List ℕ) (counts : List ℤ) → length counts ≡ length shape → lengths (taken_axes shape counts) ≡ map unsigned_abs counts
lengths_are [] [] h = refl
lengths_are [] (count ∷ counts) h = absurd (omega arith)
lengths_are (n ∷ shape) [] h = absurd (omega arith)
lengths_are (n ∷ shape) (count ∷ counts) h = let here = len_is n count in let rest = lengths_are shape counts (omega arith) in λ t. here t ∷ rest t

take_covered : (a b : ArrayValue) (f : Form) → take_form a b ≡ Ok f → Covered b.shape f.shape (right_used (take_source a b) (take_box f.shape a b))
take_covered a b f e region index fit place =
    let facts = counted_facts (magnitudes a) a b f e in
    let shape = counted_shape a b in
    let axes = taken_axes shape (numbers a) in
    let at = taken_places shape (numbers a) index in
    let here : is_index_of (lengths axes) index ≡ true = rw (lengths_are shape (numbers a) facts.many) (rw facts.shaped at place) in
    let there : sources axes index ≡ at = places_are shape (numbers a) index in
    where_there (λ (p : List ℕ). is_within region p ≡ true → is_within (images axes (counted_box a b region)) index ≡ true) (is_index_of shape at) (uncounted b at)
    (λ t h. images-within axes shape (counted_box a b region) index (all_sound shape (numbers a)) (counted_fits a b region fit) here (ap (is_within (counted_box a b region)) there ∙ counted_within a b region at t h))

pub take_tight : IsTight take_rule
take_tight = selected_sourced-tight take_form (λ a b. b.item_type) take_source take_box
    (λ a d ys n. refl) (λ a d ys n. refl) (λ a d ys index n. refl)
    (λ a b index. none_left (is_index_of (counted_shape a b) (taken_places (counted_shape a b) (numbers a) index)) (uncounted b (taken_places (counted_shape a b) (numbers a) index)))
    take_covered
