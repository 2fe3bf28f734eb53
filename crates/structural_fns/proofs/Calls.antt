-- The arguments of a call of `box_of`.
use Rattle.std.proofs.Common.{◌≡◌, ◌<◌, ℕ, zero, suc, List, [], ◌∷◌, length, true, Result, Ok, Err, arith, refl, subst, sym}
use Rattle.arrays_core.{specs.declared.item.Kind.{Kind}, specs.Arrays.{ArrayValue}}
use Rattle.index_region.{specs.ArgumentLists.{of_two_arguments}, specs.Boxes.{Interval, fits}, specs.Checks.{Form}}
use Rattle.change_core.{specs.RuleModels.{Use, FitsAt, HasShape, box_at}, specs.Sourced.{uses_of_two}}

-- the checks have passed, and this is the shape of the result
pub record IsForm (checked : Result Form Kind) (shape : List ℕ) : Type 0 where
  pub form : Form
  pub is : checked ≡ Ok form
  pub shaped : form.shape ≡ shape

formed : (checked : Result Form Kind) (shape : List ℕ) → HasShape checked shape → IsForm checked shape
formed (Ok f) shape h = record { form = f; is = refl; shaped = h }
formed (Err kind) shape h = absurd h

pub form_of_two : (form : ArrayValue → ArrayValue → Result Form Kind) (args : List ArrayValue) (a b : ArrayValue) (shape : List ℕ) → args ≡ a ∷ b ∷ []
    → HasShape (of_two_arguments form args) shape → IsForm (form a b) shape
form_of_two form args a b shape e h = formed (form a b) shape (subst (λ (r : List ArrayValue). HasShape (of_two_arguments form r) shape) e h)

-- the box of the right argument of two
pub fit_of_right : (args : List ArrayValue) (a b : ArrayValue) (which : ℕ) (region : List Interval) → args ≡ a ∷ b ∷ [] → which < length args → 0 < which
    → FitsAt args which region → fits region b.shape ≡ true
fit_of_right args a b which region e below other fit =
    decide which (subst (λ (r : List ArrayValue). which < length r) e below) other (subst (λ (r : List ArrayValue). FitsAt r which region) e fit)
  where
    decide : (w : ℕ) → w < 2 → 0 < w → FitsAt (a ∷ b ∷ []) w region → fits region b.shape ≡ true
    decide zero h o fit = absurd (omega arith)
    decide (suc zero) h o fit = fit
    decide (suc (suc w)) h o fit = absurd (omega arith)

pub box_of_right : (left right : List ℕ → ArrayValue → ArrayValue → Use) (shape : List ℕ) (args : List ArrayValue) (a b : ArrayValue) (which : ℕ) (region : List Interval) → args ≡ a ∷ b ∷ []
    → which < length args → 0 < which → box_at (uses_of_two left right shape args) which region ≡ (right shape a b).box region
box_of_right left right shape args a b which region e below other =
    subst (λ (r : List ArrayValue). box_at (uses_of_two left right shape r) which region ≡ (right shape a b).box region) (sym e)
    (decide which (subst (λ (r : List ArrayValue). which < length r) e below) other)
  where
    decide : (w : ℕ) → w < 2 → 0 < w → box_at (uses_of_two left right shape (a ∷ b ∷ [])) w region ≡ (right shape a b).box region
    decide zero h o = absurd (omega arith)
    decide (suc zero) h o = refl
    decide (suc (suc w)) h o = absurd (omega arith)
