-- The first and the last index list of a box.
use Rattle.std.{proofs.Common.{◌≡◌, ◌≤◌, ℕ, List, [], ◌∷◌, arith, true, ◌&&◌, nat_le}, proofs.lemmas.Bool.{and_parts, and_from, leb-true, le-leb, false≢true}}
use Rattle.{arrays_core.specs.Shapes.{is_index_of, places_before}, index_region.specs.Boxes.{Interval, fits, is_within}}
use Rattle.change_core.{specs.Places.{first_of_box, last_of_box}, proofs.UsedPlaces.{offset_between}}

-- both are index lists of the array
pub first_inside : (region : List Interval) (shape : List ℕ) → fits region shape ≡ true → is_index_of shape (first_of_box region) ≡ true
first_inside [] [] h = h
first_inside [] (n ∷ shape) h = absurd (false≢true h)
first_inside (s ∷ region) [] h = absurd (false≢true h)
first_inside (s ∷ region) (n ∷ shape) h =
    let parts = and_parts (nat_le 1 s.0 && nat_le s.0 s.1 && nat_le s.1 n) (fits region shape) h in
    let on_axis = and_parts (nat_le 1 s.0 && nat_le s.0 s.1) (nat_le s.1 n) parts.0 in
    let first = and_parts (nat_le 1 s.0) (nat_le s.0 s.1) on_axis.0 in
    and_from _ _ (and_from _ _ first.0 (le-leb s.0 n (omega (arith, leb-true s.0 s.1 first.1, leb-true s.1 n on_axis.1)))) (first_inside region shape parts.1)

pub last_inside : (region : List Interval) (shape : List ℕ) → fits region shape ≡ true → is_index_of shape (last_of_box region) ≡ true
last_inside [] [] h = h
last_inside [] (n ∷ shape) h = absurd (false≢true h)
last_inside (s ∷ region) [] h = absurd (false≢true h)
last_inside (s ∷ region) (n ∷ shape) h =
    let parts = and_parts (nat_le 1 s.0 && nat_le s.0 s.1 && nat_le s.1 n) (fits region shape) h in
    let on_axis = and_parts (nat_le 1 s.0 && nat_le s.0 s.1) (nat_le s.1 n) parts.0 in
    let first = and_parts (nat_le 1 s.0) (nat_le s.0 s.1) on_axis.0 in
    and_from _ _ (and_from _ _ (le-leb 1 s.1 (omega (arith, leb-true 1 s.0 first.0, leb-true s.0 s.1 first.1))) on_axis.1) (last_inside region shape parts.1)

-- the first lies in the box
first_within : (region : List Interval) (shape : List ℕ) → fits region shape ≡ true → is_within region (first_of_box region) ≡ true
first_within [] [] h = h
first_within [] (n ∷ shape) h = absurd (false≢true h)
first_within (s ∷ region) [] h = absurd (false≢true h)
first_within (s ∷ region) (n ∷ shape) h =
    let parts = and_parts (nat_le 1 s.0 && nat_le s.0 s.1 && nat_le s.1 n) (fits region shape) h in
    let first = and_parts (nat_le 1 s.0) (nat_le s.0 s.1) (and_parts (nat_le 1 s.0 && nat_le s.0 s.1) (nat_le s.1 n) parts.0).0 in
    and_from _ _ (and_from _ _ (le-leb s.0 s.0 (omega arith)) first.1) (first_within region shape parts.1)

-- the first is not after the last
pub first_before_last : (region : List Interval) (shape : List ℕ) → fits region shape ≡ true → places_before shape (first_of_box region) ≤ places_before shape (last_of_box region)
first_before_last region shape h = (offset_between shape region (first_of_box region) (first_within region shape h)).1
