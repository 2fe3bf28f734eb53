-- The evaluation of a function's rule is the result of the function.
use Rattle.std.proofs.Common.{◌≡◌, ℕ, List, [], ◌∷◌, Result, Ok, Err, refl}
use Rattle.apl_expr.{specs.declared.functions.Function1.{Function1}, specs.declared.functions.Function2.{Function2}}
use Rattle.arrays_core.{specs.Arrays.{ArrayValue, collect}, specs.declared.item.Item.{Item}, specs.declared.item.ItemType.TheVariants.{Nums}, specs.declared.item.Kind.{Kind}, specs.Outcomes.{given}}
use Rattle.{scalar_fns.specs.ScalarExtension.{common, for_shape}, index_region.specs.Checks.{form_of, whole}}
use Rattle.{selection_fns.specs.Index.{index_whole, written_positions, index_rule}, change_rules.specs.Evaluation.{evaluation}}
use Rattle.formula_core.{specs.Meaning.{of_right, of_both}, specs.Rules.{right_rule, both_rule}}
use Rattle.apl_expr.specs.declared.expr.Monadic.TheVariants as monadic
use Rattle.apl_expr.specs.declared.functions.Function1.TheVariants as function1
use Rattle.apl_expr.specs.declared.expr.Dyadic.TheVariants as dyadic
use Rattle.apl_expr.specs.declared.functions.Function2.TheVariants as function2

pub right_meant : (f : Function1) (b : ArrayValue) → evaluation (right_rule f) (b ∷ []) ≡ given (of_right f b)
right_meant (function1.Monad (monadic.Scalar f)) b = refl
right_meant (function1.Monad monadic.Ravel) b = refl
right_meant (function1.Monad (monadic.Reverse k)) b = refl
right_meant (function1.Monad monadic.Transpose) b = refl
right_meant (function1.Monad monadic.Shape) b = refl
right_meant (function1.Monad monadic.Iota) b = refl
right_meant (function1.Reduce f k) b = refl
right_meant (function1.Scan f k) b = refl

-- a shape and then the items, in one step or in two
in_two_steps : (shape : Result (List ℕ) Kind) (item : List ℕ → Result Item Kind) → given (whole (for_shape shape (λ s. Ok (form_of s Nums))) item) ≡ given (for_shape shape (λ s. collect Nums s item))
in_two_steps (Ok s) item = refl
in_two_steps (Err kind) item = refl

pub both_meant : (f : Function2) (a b : ArrayValue) → evaluation (both_rule f) (a ∷ b ∷ []) ≡ given (of_both f a b)
both_meant (function2.Dyad (dyadic.Scalar f)) a b = in_two_steps (common a.shape b.shape) _
both_meant (function2.Dyad dyadic.Reshape) a b = refl
both_meant (function2.Dyad (dyadic.Catenate k)) a b = refl
both_meant (function2.Dyad dyadic.Take) a b = refl
both_meant (function2.Dyad dyadic.Drop) a b = refl
both_meant (function2.Dyad (dyadic.Rotate k)) a b = refl
both_meant (function2.Dyad dyadic.Transpose) a b = refl
both_meant (function2.Dyad (dyadic.Replicate k)) a b = refl
both_meant (function2.Dyad dyadic.IndexOf) a b = refl
both_meant (function2.Dyad dyadic.Member) a b = refl
both_meant (function2.Dyad dyadic.Encode) a b = refl
both_meant (function2.Dyad dyadic.Decode) a b = refl
both_meant (function2.Outer f) a b = refl
both_meant (function2.Inner f g) a b = refl

pub index_meant : (written : _) (a : ArrayValue) (args : List ArrayValue) → evaluation (index_rule written) (a ∷ args) ≡ given (index_whole a (written_positions written args))
index_meant written a args = refl
