-- The ways in which a result uses an argument.
use Rattle.std.{specs.Prelude.{ℕ, ◌+◌, ◌≤◌, List, [], ◌∷◌, ◌++◌, Some, None, if◌then◌else◌, nat_eq, length, map, take, drop, set, get_or, insert, remove, min, max}, specs.List.{range_with_len}}
use Rattle.change_core.specs.RuleModels.{Use}
use Rattle.index_region.specs.Boxes.{Interval, whole_of}

-- no item of the argument is read, or it is a selector
abbrev pub unread : Use
unread = record { reads = λ _. []; box = λ _. None }

-- each item reads the item at its own index list
abbrev pub alike : Use
alike = record { reads = λ index. index ∷ []; box = λ region. Some region }

-- a change may change every item of the result
abbrev pub everywhere : List ℕ → (List ℕ → List (List ℕ)) → Use
everywhere shape reads = record { reads = reads; box = λ _. Some (whole_of shape) }

-- an axis of the result: its length, the source of each place on the argument's axis, and the image of an interval of that axis. A place
-- without a source is fill
pub record Axis : Type 0 where
  pub len : ℕ
  pub source : ℕ → ℕ
  pub image : Interval → Interval

-- every place that comes from an interval lies in its image
pub record IsSoundAxis (x : Axis) : Type 0 where
  pub low : (s : Interval) (i : ℕ) → 1 ≤ i → i ≤ x.len → 1 ≤ s.0 → s.0 ≤ x.source i → x.source i ≤ s.1 → (x.image s).0 ≤ i
  pub high : (s : Interval) (i : ℕ) → 1 ≤ i → i ≤ x.len → 1 ≤ s.0 → s.0 ≤ x.source i → x.source i ≤ s.1 → i ≤ (x.image s).1

abbrev pub lengths : List Axis → List ℕ
lengths axes = map (λ x. x.len) axes

abbrev pub sources : List Axis → List ℕ → List ℕ
sources (x ∷ axes) (i ∷ index) = x.source i ∷ sources axes index
sources _ _ = []

abbrev pub images : List Axis → List Interval → List Interval
images (x ∷ axes) (s ∷ intervals) = x.image s ∷ images axes intervals
images _ _ = []

-- each item reads a line along an axis (from 0) that the result lacks
abbrev pub lines : ℕ → ℕ → Use
lines axis len = record { reads = λ index. map (insert index axis) (range_with_len 1 len); box = λ region. Some (remove region axis) }

-- each item reads places on its own line along an axis; the image of a changed interval there
abbrev pub along : ℕ → (List ℕ → List ℕ) → (Interval → Interval) → Use
along axis places image = record {
  reads = λ index. map (set index axis) (places index);
  box = λ region. Some (set region axis (image (get_or region axis (0, 0))));
}

-- the argument has the first axes of the result
abbrev pub front : ℕ → List ℕ → Use
front rank rest = record { reads = λ index. take rank index ∷ []; box = λ region. Some (region ++ whole_of rest) }

-- the argument has the last axes of the result
abbrev pub back : List ℕ → Use
back first = record { reads = λ index. drop (length first) index ∷ []; box = λ region. Some (whole_of first ++ region) }

abbrev pub both_intervals : Interval → Interval → Interval
both_intervals s t = (max s.0 t.0, min s.1 t.1)

-- the part of an axis of n places that lies in every interval which maps to it
abbrev pub meet_at : ℕ → ℕ → List ℕ → List Interval → Interval
meet_at axis n (to ∷ axes) (s ∷ intervals) = if nat_eq to axis then both_intervals s (meet_at axis n axes intervals) else meet_at axis n axes intervals
meet_at axis n _ _ = (1, n)

abbrev pub meets : List ℕ → List Interval → ℕ → List ℕ → List Interval
meets axes intervals axis [] = []
meets axes intervals axis (n ∷ shape) = meet_at axis n axes intervals ∷ meets axes intervals (axis + 1) shape
