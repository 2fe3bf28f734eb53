-- The part of an array behind some places of each axis.
use Rattle.std.specs.Prelude.{◌≡◌, ℕ, ◌+◌, ◌-◌, ◌<◌, ◌≤◌, min, ℤ, pos, unsigned_abs, true, List, [], ◌∷◌, length, get_or, Result, Ok}
use Rattle.arrays_core.{specs.declared.item.Item.{Item}, specs.declared.item.Kind.{Kind}, specs.Arrays.{ArrayValue, item_of}, specs.Shapes.{is_index_of}}
use Rattle.structural_fns.{specs.Take.{taken_place}, specs.Drop.{kept_place}}

-- the index list in the array of an index list of the part
abbrev pub behind : List ℕ → List ℕ → List ℕ
behind (n ∷ before) (i ∷ index) = (n + i) ∷ behind before index
behind before index = []

-- the item at an index list of the part
abbrev pub part_item : ArrayValue → List ℕ → List ℕ → Result Item Kind
part_item b before index = Ok (item_of b (behind before index))

-- a part of this shape lies on the axes, behind these places
pub record IsPart (axes before shape : List ℕ) : Type 0 where
  pub as_many : length before ≡ length axes
  pub ranks : length shape ≡ length axes
  pub inside : (index : List ℕ) → is_index_of shape index ≡ true → is_index_of axes (behind before index) ≡ true

-- take lacks no place of these axes, and takes the places of each behind these
pub record AreBeforeTaken (axes : List ℕ) (counts : List ℤ) (before : List ℕ) : Type 0 where
  pub some : 0 < length axes
  pub as_many : length before ≡ length axes
  pub there : (k : ℕ) → k < length axes → unsigned_abs (get_or counts k (pos 0)) ≤ get_or axes k 0
  pub each : (k : ℕ) → k < length axes → get_or before k 0 ≡ taken_place (get_or axes k 0) (get_or counts k (pos 0)) 1 - 1

-- drop keeps the places of each axis behind these
pub record AreBeforeKept (axes : List ℕ) (counts : List ℤ) (before : List ℕ) : Type 0 where
  pub as_many : length before ≡ length axes
  pub each : (k : ℕ) → k < length axes → get_or before k 0 ≡ min (kept_place (get_or counts k (pos 0)) 0) (get_or axes k 0)
