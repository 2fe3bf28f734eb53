-- Counts and index lists, axis by axis.
use Rattle.std.proofs.Common.{◌≡◌, ℕ, zero, suc, ◌+◌, ◌-◌, ◌<◌, ◌≤◌, ℤ, pos, unsigned_abs, Bool, true, false, if◌then◌else◌, ◌&&◌, nat_le, Result, Ok, Err, All, List, [], ◌∷◌, length, replicate, ap, get_or, drop, refl, subst, sym, ◌∙◌, arith, w64, to_z, of_z, SFits}
use Rattle.std.{proofs.lemmas.List.{drop_more, length-map, length-replicate, get_or-map, get_or-replicate}, proofs.lemmas.Bool.{lt-leb}, proofs.lemmas.Int.{to_z-of_z}, specs.List.{list_all}}
use Rattle.arrays_core.{specs.declared.item.ItemType.{ItemType}, specs.declared.item.Kind.{Kind}, specs.declared.item.Kind.TheVariants.{Limit}, specs.Arrays.{ArrayValue}, specs.Shapes.{size, IsWithinLimits, is_index_of}, proofs.Shapes.{as_long}}
use Rattle.index_region.{specs.Checks.{form_of, check, Form, limited}, specs.Arguments.{numbers, number_of, is_scalar}, proofs.OnAxes.{on_axis}}
use Rattle.structural_fns.{specs.Reshape.{magnitudes}, specs.Take.{taken_place, taken_places}, specs.Drop.{dropped_shape, kept_place, kept_places}, specs.AxisCounts.{counted_shape}}

pub numbers_long : (a : ArrayValue) → length (numbers a) ≡ length a.items
numbers_long a = length-map a.items number_of

pub magnitudes_long : (a : ArrayValue) → length (magnitudes a) ≡ length a.items
magnitudes_long a = length-map (numbers a) unsigned_abs ∙ numbers_long a

pub magnitude_at : (a : ArrayValue) (k : ℕ) → k < length a.items → get_or (magnitudes a) k 0 ≡ unsigned_abs (get_or (numbers a) k (pos 0))
magnitude_at a k h =
    let long = numbers_long a in
    get_or-map unsigned_abs (numbers a) k (pos 0) 0 (omega arith)

-- a count that is read, as a number of 64 bits
pub count_read : (a : ArrayValue) (count : ℤ) (k : ℕ) → SFits w64 count → count ≡ get_or (numbers a) (k + 1 - 1) (pos 0) → to_z w64 (of_z w64 count) ≡ get_or (numbers a) k (pos 0)
count_read a count k fits e = to_z-of_z w64 count fits ∙ e ∙ ap (λ j. get_or (numbers a) j (pos 0)) (omega arith)

-- a count of a shape that is within the limits, and an index of that shape
pub record CountAt (a : ArrayValue) (index : List ℕ) (k : ℕ) : Type 0 where
  pub count : unsigned_abs (get_or (numbers a) k (pos 0)) ≤ 1048576
  pub there : k < length index
  pub low : 1 ≤ get_or index k 0
  pub high : get_or index k 0 ≤ unsigned_abs (get_or (numbers a) k (pos 0))

pub count_at : (a : ArrayValue) (index : List ℕ) (k : ℕ) → IsWithinLimits (magnitudes a) → is_index_of (magnitudes a) index ≡ true
    → k < length a.items → CountAt a index k
count_at a index k within inside h =
    let shape = magnitudes a in
    let long = magnitudes_long a in
    let same = as_long shape index inside in
    let head = on_axis shape index k inside (omega arith) in
    let e = magnitude_at a k h in
    record {
      count = subst (λ n. n ≤ 1048576) e (within.axes k 0 (omega arith));
      there = omega arith;
      low = head.low;
      high = subst (λ n. get_or index k 0 ≤ n) e head.high;
    }

pub taken_more : (shape : List ℕ) (counts : List ℤ) (index : List ℕ) (k : ℕ) → k < length shape → k < length counts → k < length index
    → taken_places (drop k shape) (drop k counts) (drop k index)
    ≡ taken_place (get_or shape k 0) (get_or counts k (pos 0)) (get_or index k 0) ∷ taken_places (drop (k + 1) shape) (drop (k + 1) counts) (drop (k + 1) index)
taken_more shape counts index k s c i = rw (drop_more shape k 0 s, drop_more counts k (pos 0) c, drop_more index k 0 i) refl

pub kept_more : (counts : List ℤ) (index : List ℕ) (k : ℕ) → k < length counts → k < length index
    → kept_places (drop k counts) (drop k index)
    ≡ kept_place (get_or counts k (pos 0)) (get_or index k 0) ∷ kept_places (drop (k + 1) counts) (drop (k + 1) index)
kept_more counts index k c i = rw (drop_more counts k (pos 0) c, drop_more index k 0 i) refl

pub dropped_long : (shape : List ℕ) (counts : List ℤ) → length shape ≡ length counts → length (dropped_shape shape counts) ≡ length shape
dropped_long [] counts h = refl
dropped_long (n ∷ shape) [] h = absurd (omega arith)
dropped_long (n ∷ shape) (count ∷ counts) h = ap suc (dropped_long shape counts (omega arith))

pub dropped_at : (shape : List ℕ) (counts : List ℤ) (k : ℕ) → k < length shape → k < length counts
    → get_or (dropped_shape shape counts) k 0 ≡ get_or shape k 0 - unsigned_abs (get_or counts k (pos 0))
dropped_at [] counts k s c = absurd (omega arith)
dropped_at (n ∷ shape) [] k s c = absurd (omega arith)
dropped_at (n ∷ shape) (count ∷ counts) zero s c = refl
dropped_at (n ∷ shape) (count ∷ counts) (suc k) s c = dropped_at shape counts k (omega arith) (omega arith)

pub by_rank : (scalar : Bool) (n : ℕ) (shape : List ℕ) → All (λ n. n ≤ 1048576) shape → All (λ n. n ≤ 1048576) (if scalar then replicate n 1 else shape)
by_rank true n shape h = λ k d i. subst (λ m. m ≤ 1048576) (sym (get_or-replicate n k 1 d (rw length-replicate at i))) (omega arith)
by_rank false n shape h = h

pub counted_within : (a b : ArrayValue) → All (λ n. n ≤ 1048576) b.shape → All (λ n. n ≤ 1048576) (counted_shape a b)
counted_within a b h = by_rank (is_scalar b) (length a.items) b.shape h

-- an index on an axis of the result, and the place that it comes from
pub record LeftAt (a b : ArrayValue) (index : List ℕ) (k : ℕ) : Type 0 where
  pub there : k < length index
  pub four : length a.items ≤ 4
  pub bound : get_or index k 0 + unsigned_abs (get_or (numbers a) k (pos 0)) ≤ 1048576

pub left_at : (a b : ArrayValue) (index : List ℕ) (k : ℕ) → All (λ n. n ≤ 1048576) b.shape → length a.items ≡ length (counted_shape a b)
    → IsWithinLimits (dropped_shape (counted_shape a b) (numbers a)) → is_index_of (dropped_shape (counted_shape a b) (numbers a)) index ≡ true
    → k < length a.items → LeftAt a b index k
left_at a b index k within long limits inside h =
    let shape = counted_shape a b in
    let left = dropped_shape shape (numbers a) in
    let counts = numbers_long a in
    let same = as_long left index inside in
    let as_left = dropped_long shape (numbers a) (omega arith) in
    let head = on_axis left index k inside (omega arith) in
    let e = dropped_at shape (numbers a) k (omega arith) (omega arith) in
    let high : get_or index k 0 ≤ get_or shape k 0 - unsigned_abs (get_or (numbers a) k (pos 0)) = subst (λ n. get_or index k 0 ≤ n) e head.high in
    let bound : get_or shape k 0 ≤ 1048576 = counted_within a b within k 0 (omega arith) in
    record { there = omega arith; four = omega (arith, limits.rank); bound = omega arith }

abbrev limited_by : Bool → List ℕ → ItemType → Result Form Kind
limited_by b shape item_type = check b Limit (Ok (form_of shape item_type))

-- a shape of more axes than an array may have
pub too_many : (shape : List ℕ) (item_type : ItemType) → 4 < length shape → limited shape item_type ≡ Err Limit
too_many shape item_type h =
    ap (λ b. limited_by ((b && list_all (λ n. nat_le n 1048576) shape) && nat_le (size shape) 1048576) shape item_type) (lt-leb (length shape) 4 h)
