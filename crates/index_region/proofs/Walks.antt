-- The walk of a box in row-major order: index lists and offsets correspond one to one.
use Rattle.std.{proofs.Common.{◌≡◌, ℕ, ◌+◌, ◌-◌, ◌*◌, ◌/◌, ◌%◌, ◌<◌, ◌≤◌, List, [], ◌∷◌, refl, arith, true, IsTrue}, proofs.lemmas.Bool.{and_parts, and_from, leb-true, le-leb, false≢true}, proofs.lemmas.Nat.{div_below, mod_below, div-add-mod', div-mul-add, mod-mul-add, mul-le}}
use Rattle.index_region.{specs.Boxes.{Interval, box_size, box_offset, interval_length, is_within, walk_at, fits}, proofs.Patched.{row_below}}

-- a box with places has places on its later axes
pub rest_positive : (p n w : ℕ) → p < n * w → 0 < w
rest_positive p n w h = grind arith

pub walk_within : (region : List Interval) (p : ℕ) → p < box_size region → is_within region (walk_at region p) ≡ true
walk_within [] p h = refl
walk_within (s ∷ region) p h =
    let positive = rest_positive p (interval_length s) (box_size region) h in
    let steps = div_below p (box_size region) (interval_length s) positive h in
    let high : s.0 + p / box_size region ≤ s.1 = omega arith in
    and_from _ _ (and_from _ _ (le-leb _ _ (omega arith)) (le-leb _ _ high)) (walk_within region (p % box_size region) (mod_below p (box_size region) positive))

pub offset_of_walk : (region : List Interval) (p : ℕ) → p < box_size region → box_offset region (walk_at region p) ≡ p
offset_of_walk [] p h = omega arith
offset_of_walk (s ∷ region) p h =
    let w = box_size region in
    let first : s.0 + p / w - s.0 ≡ p / w = omega arith in
    rw (first, offset_of_walk region (p % w) (mod_below p w (rest_positive p (interval_length s) w h))) (div-add-mod' p w)

pub offset_below : (region : List Interval) (index : List ℕ) → is_within region index ≡ true → box_offset region index < box_size region
offset_below [] [] h = omega arith
offset_below [] (i ∷ index) h = absurd (false≢true h)
offset_below (s ∷ region) [] h = absurd (false≢true h)
offset_below (s ∷ region) (i ∷ index) h =
    let parts = and_parts _ _ h in
    let here = and_parts _ _ parts.0 in
    let low : s.0 ≤ i = leb-true s.0 i here.0 in
    let high : i ≤ s.1 = leb-true i s.1 here.1 in
    row_below (i - s.0) (interval_length s) (box_size region) (box_offset region index) (omega arith) (offset_below region index parts.1)

pub walk_of_offset : (region : List Interval) (index : List ℕ) → is_within region index ≡ true → walk_at region (box_offset region index) ≡ index
walk_of_offset [] [] h = refl
walk_of_offset [] (i ∷ index) h = absurd (false≢true h)
walk_of_offset (s ∷ region) [] h = absurd (false≢true h)
walk_of_offset (s ∷ region) (i ∷ index) h =
    let parts = and_parts _ _ h in
    let low : s.0 ≤ i = leb-true s.0 i (and_parts _ _ parts.0).0 in
    let w = box_size region in
    let rest = box_offset region index in
    let below = offset_below region index parts.1 in
    let first : s.0 + (i - s.0) ≡ i = omega arith in
    rw (div-mul-add (i - s.0) w rest below, mod-mul-add (i - s.0) w rest below, first, walk_of_offset region index parts.1) refl

-- a box that lies in a shape has a place
pub some_place : (region : List Interval) (shape : List ℕ) → IsTrue (fits region shape) → 0 < box_size region
some_place [] [] fit = omega arith
some_place (s ∷ region) (n ∷ shape) fit =
    let parts = and_parts _ _ fit in
    let order : s.0 ≤ s.1 = leb-true s.0 s.1 (and_parts _ _ (and_parts _ _ parts.0).0).1 in
    let most : 1 * 1 ≤ interval_length s * box_size region = mul-le 1 1 (interval_length s) (box_size region) (omega arith) (omega (arith, some_place region shape parts.1)) in
    omega arith
some_place [] (n ∷ shape) fit = absurd (false≢true fit)
some_place (s ∷ region) [] fit = absurd (false≢true fit)
