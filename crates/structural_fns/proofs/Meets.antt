-- The intersection of the intervals that go to one axis, one by one.
use Rattle.std.{proofs.Common.{◌≡◌, ℕ, zero, suc, ◌-◌, ◌<◌, List, [], ◌∷◌, length, drop, get_or, unsigned_abs, arith, ◌∙◌}, proofs.lemmas.List.{length-map}, proofs.lemmas.Bool.{cond-false, false_from_ne_true, eqb-true}}
use Rattle.{arrays_core.specs.Arrays.{ArrayValue}, index_region.{specs.Arguments.{number_of, numbers}, specs.Boxes.{Interval}}}
use Rattle.{change_core.specs.Ways.{meet_at}, structural_fns.specs.DyadicTranspose.{axes_to, axes_from_zero}}

-- one axis for each entry
pub axes_long : (a : ArrayValue) → length (axes_from_zero a) ≡ length a.items
axes_long a = length-map (axes_to a) (λ (j : ℕ). j - 1) ∙ length-map (numbers a) unsigned_abs ∙ length-map a.items number_of

-- an interval that goes to another axis
pub meet_past : (axis n k : ℕ) (axes : List ℕ) (intervals : List Interval) → k < length axes → k < length intervals → (get_or axes k 0 ≡ axis → ⊥)
    → meet_at axis n (drop k axes) (drop k intervals) ≡ meet_at axis n (drop (suc k) axes) (drop (suc k) intervals)
meet_past axis n k [] intervals h l f = absurd (omega arith)
meet_past axis n k (to ∷ axes) [] h l f = absurd (omega arith)
meet_past axis n zero (to ∷ axes) (s ∷ intervals) h l f = cond-false _ _ _ (false_from_ne_true _ (λ t. f (eqb-true to axis t)))
meet_past axis n (suc k) (to ∷ axes) (s ∷ intervals) h l f = meet_past axis n k axes intervals (omega arith) (omega arith) f
