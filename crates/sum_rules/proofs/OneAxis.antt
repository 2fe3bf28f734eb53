-- One axis of boxes, shapes and index lists, and the other axes.
use Rattle.std.{proofs.Common.{◌≡◌, ℕ, zero, suc, ◌+◌, ◌*◌, ◌/◌, ◌%◌, ◌<◌, ◌≤◌, true, List, [], ◌∷◌, length, get_or, insert, remove, ap, ◌∙◌, arith}, proofs.Math.Nat.{div-eq_of_lt, mod-eq_of_lt}, proofs.lemmas.Bool.{and_parts, and_from, leb-true, false≢true}, proofs.lemmas.Nat.{mod_below}}
use Rattle.index_region.{specs.Boxes.{Interval, box_size, interval_length, is_within, walk_at, fits}, proofs.Walks.{rest_positive}}

-- the interval of a box on an axis
abbrev pub on_axis : List Interval → ℕ → Interval
on_axis region axis = get_or region axis (1, 0)

-- a box with one place on an axis has as many places as without that axis
pub size_with_one : (axis : ℕ) (region : List Interval) → axis < length region → (on_axis region axis).0 ≡ (on_axis region axis).1 → box_size region ≡ box_size (remove region axis)
size_with_one axis [] h one = absurd (omega arith)
size_with_one zero (s ∷ region) h one =
    ap (λ k. k * box_size region) (omega arith) ∙ (let all : 1 * box_size region ≡ box_size region = omega arith in all)
size_with_one (suc axis) (s ∷ region) h one = ap (λ k. interval_length s * k) (size_with_one axis region (omega arith) one)

-- its walk is the walk without that axis, with the index inserted
pub walk_with_one : (axis : ℕ) (region : List Interval) (before : ℕ) → axis < length region → (on_axis region axis).0 ≡ (on_axis region axis).1 → before < box_size (remove region axis)
    → walk_at region before ≡ insert (walk_at (remove region axis) before) axis (on_axis region axis).0
walk_with_one axis [] before h one below = absurd (omega arith)
walk_with_one zero (s ∷ region) before h one below =
    λ i. (ap (λ k. s.0 + k) (div-eq_of_lt below) ∙ (let e : s.0 + 0 ≡ s.0 = omega arith in e)) i ∷ walk_at region ((mod-eq_of_lt below) i)
walk_with_one (suc axis) (s ∷ region) before h one below =
    let same = size_with_one axis region (omega arith) one in
    let others = remove region axis in
    let some : 0 < box_size others = rest_positive before (interval_length s) (box_size others) below in
    (λ i. (s.0 + before / same i) ∷ walk_at region (before % same i))
    ∙ ap (λ (rest : List ℕ). (s.0 + before / box_size others) ∷ rest) (walk_with_one axis region (before % box_size others) (omega arith) one (mod_below before (box_size others) some))

-- an index list lies in a box axis by axis
pub within_axis : (axis : ℕ) (region : List Interval) (index : List ℕ) (j : ℕ) → axis < length region → length index + 1 ≡ length region → is_within region (insert index axis j) ≡ true
    → ((on_axis region axis).0 ≤ j) × (j ≤ (on_axis region axis).1)
within_axis axis [] index j h e inside = absurd (omega arith)
within_axis zero (s ∷ region) index j h e inside =
    let here = and_parts _ _ (and_parts _ _ inside).0 in
    (leb-true s.0 j here.0, leb-true j s.1 here.1)
within_axis (suc axis) (s ∷ region) [] j h e inside = absurd (omega arith)
within_axis (suc axis) (s ∷ region) (i ∷ index) j h e inside = within_axis axis region index j (omega arith) (omega arith) (and_parts _ _ inside).1

-- a box lies in a shape axis by axis
pub record FitsAxis (axis : ℕ) (region : List Interval) (shape : List ℕ) : Type 0 where
  pub rest : fits (remove region axis) (remove shape axis) ≡ true
  pub low : 1 ≤ (on_axis region axis).0
  pub high : (on_axis region axis).1 ≤ get_or shape axis 0

pub fits_axis : (axis : ℕ) (region : List Interval) (shape : List ℕ) → axis < length shape → fits region shape ≡ true → FitsAxis axis region shape
fits_axis axis region [] h inside = absurd (omega arith)
fits_axis axis [] (n ∷ shape) h inside = absurd (false≢true inside)
fits_axis zero (s ∷ region) (n ∷ shape) h inside =
    let here = and_parts _ _ inside in
    let first = and_parts _ _ here.0 in
    record { rest = here.1; low = leb-true 1 s.0 (and_parts _ _ first.0).0; high = leb-true s.1 n first.1 }
fits_axis (suc axis) (s ∷ region) (n ∷ shape) h inside =
    let later = fits_axis axis region shape (omega (arith, h)) (and_parts _ _ inside).1 in
    record { rest = and_from _ _ (and_parts _ _ inside).0 later.rest; low = later.low; high = later.high }
