-- Consequences of the checks of rotate for the lines.
use Rattle.std.{proofs.Common.{◌≡◌, ℕ, zero, suc, ◌<◌, Bool, true, ◌&&◌, ◌||◌, nat_eq, nat_le, List, [], ◌∷◌, length, remove, bytes_eq, inl, inr, arith}, proofs.lemmas.Bool.{and_parts, and_from, or_cases, eqb-true}, proofs.lemmas.Slice.Eq.{bytes_eq-Decides}}
use Rattle.arrays_core.{specs.Arrays.{ArrayValue}, specs.Shapes.{is_index_of}, proofs.Shapes.{head_of}}
use Rattle.function_names.{specs.declared.along.Along.{Along}, specs.Axes.{is_axis, axis_at}}
use Rattle.index_region.{specs.Arguments.{has_one_item, counts_as_numbers}, specs.Answers.{IsPlaceOf}, proofs.Passing.{passed, place_inside}}
use Rattle.structural_fns.specs.Rotate.{rotate_form}

-- an index list without one of its axes lies in the shape without that axis
pub removed_inside : (shape index : List ℕ) (k : ℕ) → k < length shape → is_index_of shape index ≡ true → is_index_of (remove shape k) (remove index k) ≡ true
removed_inside [] index k h inside = absurd (omega arith)
removed_inside (n ∷ shape) [] k h inside = cc
removed_inside (n ∷ shape) (i ∷ index) zero h inside = (head_of n i shape index inside).rest
removed_inside (n ∷ shape) (i ∷ index) (suc k) h inside =
    let parts = and_parts (nat_le 1 i && nat_le i n) (is_index_of shape index) inside in
    and_from _ _ parts.0 (removed_inside shape index k (omega arith) parts.1)

-- the facts that the checks establish
pub record RotationFacts (axis : ℕ) (a b : ArrayValue) (index : List ℕ) : Type 0 where
  pub inside : is_index_of b.shape index ≡ true
  pub there : (length a.items ≡ 1 → ⊥) → suc (length a.shape) ≡ length b.shape
  pub lines : (length a.items ≡ 1 → ⊥) → a.shape ≡ remove b.shape axis

many : (a : ArrayValue) (fits : Bool) → (has_one_item a || fits) ≡ true → (length a.items ≡ 1 → ⊥) → fits ≡ true
many a fits h some =
    elim (or_cases (has_one_item a) fits h) [
      | inl one ↦ absurd (some (eqb-true (length a.items) 1 one))
      | inr fit ↦ fit
    ]

pub rotation_facts : (along : Along) (a b : ArrayValue) (index : List ℕ) → IsPlaceOf (rotate_form along a b) index
    → RotationFacts (axis_at (length b.shape) along) a b index
rotation_facts along a b index h =
    let axis = axis_at (length b.shape) along in
    let on_axis = passed (is_axis (length b.shape) along) _ _ index h in
    let ranks = passed (has_one_item a || nat_eq (suc (length a.shape)) (length b.shape)) _ _ index on_axis.place in
    let shapes = passed (has_one_item a || bytes_eq a.shape (remove b.shape axis)) _ _ index ranks.place in
    let numbers = passed (counts_as_numbers a) _ _ index shapes.place in
    record {
      inside = place_inside b.shape b.item_type index numbers.place;
      there = λ some. eqb-true _ _ (many a _ ranks.test some);
      lines = λ some. (bytes_eq-Decides a.shape (remove b.shape axis)).0 (many a _ shapes.test some);
    }
