-- Intervals that take and drop move, axis by axis.
use Rattle.std.{proofs.Common.{◌≡◌, ◌+◌, ◌<◌, ◌≤◌, ℕ, zero, suc, ℤ, pos, List, [], ◌∷◌, length, get_or, drop, refl, true, arith}, proofs.lemmas.Bool.{and_parts, leb-true, false≢true}, proofs.lemmas.List.{drop_more}}
use Rattle.{index_region.specs.Boxes.{Interval, fits}, change_core.specs.Ways.{images}}
use Rattle.structural_fns.{specs.Take.{taken, taken_axes}, specs.Drop.{kept, kept_axes}}

pub taken_more : (shape : List ℕ) (counts : List ℤ) (region : List Interval) (k : ℕ) → k < length shape → k < length counts → k < length region
    → images (taken_axes (drop k shape) (drop k counts)) (drop k region)
    ≡ (taken (get_or shape k 0) (get_or counts k (pos 0))).image (get_or region k (0, 0)) ∷ images (taken_axes (drop (k + 1) shape) (drop (k + 1) counts)) (drop (k + 1) region)
taken_more shape counts region k s c r = rw (drop_more shape k 0 s, drop_more counts k (pos 0) c, drop_more region k (0, 0) r) refl

pub kept_more : (shape : List ℕ) (counts : List ℤ) (region : List Interval) (k : ℕ) → k < length shape → k < length counts → k < length region
    → images (kept_axes (drop k shape) (drop k counts)) (drop k region)
    ≡ (kept (get_or shape k 0) (get_or counts k (pos 0))).image (get_or region k (0, 0)) ∷ images (kept_axes (drop (k + 1) shape) (drop (k + 1) counts)) (drop (k + 1) region)
kept_more shape counts region k s c r = rw (drop_more shape k 0 s, drop_more counts k (pos 0) c, drop_more region k (0, 0) r) refl

-- an interval of a box lies on its axis
pub record IsOn (s : Interval) (n : ℕ) : Type 0 where
  pub order : s.0 ≤ s.1
  pub high : s.1 ≤ n

pub interval_on : (region : List Interval) (shape : List ℕ) (k : ℕ) → fits region shape ≡ true → k < length shape → IsOn (get_or region k (0, 0)) (get_or shape k 0)
interval_on [] [] k h l = absurd (omega arith)
interval_on [] (n ∷ shape) k h l = absurd (false≢true h)
interval_on (s ∷ region) [] k h l = absurd (false≢true h)
interval_on (s ∷ region) (n ∷ shape) zero h l =
    let parts = and_parts _ _ (and_parts _ _ h).0 in
    record { order = leb-true s.0 s.1 (and_parts _ _ parts.0).1; high = leb-true s.1 n parts.1 }
interval_on (s ∷ region) (n ∷ shape) (suc k) h l = interval_on region shape k (and_parts _ _ h).1 (omega arith)
