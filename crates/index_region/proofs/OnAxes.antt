-- Index lists by the index on each axis.
use Rattle.std.{proofs.Common.{◌≡◌, ℕ, zero, suc, ◌<◌, ◌≤◌, true, List, [], ◌∷◌, length, get_or, set, refl, arith}, proofs.lemmas.Bool.{and_parts, and_from, leb-true, le-leb, false≢true}}
use Rattle.arrays_core.specs.Shapes.{is_index_of}

-- the index is on an axis of n places
pub record OnAxis (n i : ℕ) : Type 0 where
  pub low : 1 ≤ i
  pub high : i ≤ n

-- a scalar has the empty index list
pub scalar_inside : (shape : List ℕ) → length shape ≡ 0 → is_index_of shape [] ≡ true
scalar_inside [] e = refl
scalar_inside (n ∷ shape) e = absurd (omega arith)

-- one more index, which is on its axis
pub one_more_inside : (n i : ℕ) (shape index : List ℕ) → OnAxis n i → is_index_of shape index ≡ true → is_index_of (n ∷ shape) (i ∷ index) ≡ true
one_more_inside n i shape index on rest = and_from _ _ (and_from _ _ (le-leb 1 i on.low) (le-leb i n on.high)) rest

-- each index of an index list is on its axis
pub on_axis : (shape index : List ℕ) (k : ℕ) → is_index_of shape index ≡ true → k < length shape → OnAxis (get_or shape k 0) (get_or index k 0)
on_axis [] index k h below = absurd (omega arith)
on_axis (n ∷ shape) [] k h below = absurd (false≢true h)
on_axis (n ∷ shape) (i ∷ index) zero h below =
    let bounds = and_parts _ _ (and_parts _ _ h).0 in
    record { low = leb-true 1 i bounds.0; high = leb-true i n bounds.1 }
on_axis (n ∷ shape) (i ∷ index) (suc k) h below = on_axis shape index k (and_parts _ _ h).1 (omega arith)

-- indices that lie on their axes are an index list
pub inside_by_axes : (shape index : List ℕ) → length index ≡ length shape → ((k : ℕ) → k < length shape → OnAxis (get_or shape k 0) (get_or index k 0))
    → is_index_of shape index ≡ true
inside_by_axes [] [] e h = refl
inside_by_axes [] (i ∷ index) e h = absurd (omega arith)
inside_by_axes (n ∷ shape) [] e h = absurd (omega arith)
inside_by_axes (n ∷ shape) (i ∷ index) e h =
    one_more_inside n i shape index (h 0 (omega arith)) (inside_by_axes shape index (omega arith) (λ k below. h (suc k) (omega arith)))

-- an index list with another index on one of its axes
pub set_inside : (shape index : List ℕ) (k i : ℕ) → is_index_of shape index ≡ true → (k < length shape → OnAxis (get_or shape k 0) i)
    → is_index_of shape (set index k i) ≡ true
set_inside [] [] k i h on = refl
set_inside [] (j ∷ index) k i h on = absurd (false≢true h)
set_inside (n ∷ shape) [] k i h on = absurd (false≢true h)
set_inside (n ∷ shape) (j ∷ index) zero i h on = one_more_inside n i shape index (on (omega arith)) (and_parts _ _ h).1
set_inside (n ∷ shape) (j ∷ index) (suc k) i h on =
    let parts = and_parts _ _ h in
    and_from _ _ parts.0 (set_inside shape index k i parts.1 (λ below. on (omega arith)))
