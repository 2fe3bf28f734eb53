-- Boxes of one place.
use Rattle.std.{proofs.Common.{◌≡◌, ℕ, ◌+◌, ◌-◌, ◌≤◌, List, [], ◌∷◌, length, map, true, refl, ap, arith}, proofs.Math.Nat.{zero-div, zero-mod}, proofs.lemmas.Bool.{and_parts, and_from, le-leb, false≢true}}
use Rattle.arrays_core.{specs.Limits.{most_axes}, specs.Shapes.{is_index_of}}
use Rattle.index_region.{specs.Boxes.{Interval, box_size, walk_at, fits, is_box}, proofs.Boxes.{fits_box}}

-- the box of one index list
abbrev pub one_place : List ℕ → List Interval
one_place index = map (λ i. (i, i)) index

-- its size is 1
pub one_place_size : (index : List ℕ) → box_size (one_place index) ≡ 1
one_place_size [] = refl
one_place_size (i ∷ index) = let rest = one_place_size index in let here : i + 1 - i ≡ 1 = omega arith in rw (rest, here) refl

-- it lies in the shape
pub one_place_fits : (shape index : List ℕ) → is_index_of shape index ≡ true → fits (one_place index) shape ≡ true
one_place_fits [] [] h = refl
one_place_fits [] (i ∷ index) h = absurd (false≢true h)
one_place_fits (n ∷ shape) [] h = absurd (false≢true h)
one_place_fits (n ∷ shape) (i ∷ index) h =
    let parts = and_parts _ _ h in
    let bounds = and_parts _ _ parts.0 in
    and_from _ _ (and_from _ _ (and_from _ _ bounds.0 (le-leb i i (omega arith))) bounds.1) (one_place_fits shape index parts.1)

-- its walk begins at the index list
pub one_place_walk : (index : List ℕ) → walk_at (one_place index) 0 ≡ index
one_place_walk [] = refl
one_place_walk (i ∷ index) = let one = one_place_size index in let rest = one_place_walk index in rw (one, rest) (let e : i + 0 ≡ i = omega arith in ap (λ (k : ℕ). k ∷ index) e)

-- it is a box
pub one_place_box : (shape index : List ℕ) → length shape ≤ most_axes → is_index_of shape index ≡ true → is_box (one_place index) ≡ true
one_place_box shape index few inside = fits_box (one_place index) shape few (one_place_fits shape index inside)

-- a walk begins at the first place on each axis
pub walk_first : (region : List Interval) → walk_at region 0 ≡ map (λ s. s.0) region
walk_first [] = refl
walk_first (s ∷ region) =
    let here : s.0 + 0 ≡ s.0 = omega arith in
    rw (zero-div (box_size region), zero-mod (box_size region), here) (ap (λ (index : List ℕ). s.0 ∷ index) (walk_first region))
