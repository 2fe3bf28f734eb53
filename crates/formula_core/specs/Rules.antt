-- The change rule of each function of an expression.
use Rattle.std.{specs.Prelude.{◌≡◌, ◌+◌, ◌≤◌, ℕ, false, List, Result, Ok, Err, IfOk}, specs.declared.alloc.AllocError.{AllocError}}
use Rattle.apl_expr.{specs.declared.expr.Monadic.{Monadic}, specs.declared.expr.Dyadic.{Dyadic}, specs.declared.functions.Function1.{Function1}, specs.declared.functions.Function2.{Function2}}
use Rattle.change_core.{specs.Meters.{ticked}, specs.RuleModels.{RuleModel}}
use Rattle.arrays_core.{specs.Arrays.{ArrayValue}, specs.Outcomes.{Outcome}}
use Rattle.index_region.{specs.declared.delta.Delta.{Delta}, specs.declared.moved.Moved.{Moved}}
use Rattle.change_rules.specs.Nodes.{Argument, AreArguments, is_error, node_delta, node_cost}
use Rattle.scalar_fns.{specs.EachMonadic.{each_monadic_rule}, specs.EachDyadic.{each_dyadic_rule}}
use Rattle.structural_fns.{specs.Reshape.{reshape_rule}, specs.Ravel.{ravel_rule}, specs.Catenate.{catenate_rule}, specs.Take.{take_rule}, specs.Drop.{drop_rule}, specs.Reverse.{reverse_rule}, specs.Rotate.{rotate_rule}, specs.Transpose.{transpose_rule}, specs.DyadicTranspose.{transpose_by_rule}}
use Rattle.selection_fns.{specs.Shape.{shape_rule}, specs.IndexGenerator.{generator_rule}, specs.Replicate.{replicate_rule}}
use Rattle.search_fns.{specs.IndexOf.{index_of_rule}, specs.Member.{member_rule}, specs.Encode.{encode_rule}, specs.Decode.{decode_rule}}
use Rattle.reduce_fns.specs.Reduce.{reduce_rule}
use Rattle.scan_fns.specs.Scan.{scan_rule}
use Rattle.operator_fns.{specs.OuterProduct.{outer_rule}, specs.InnerProduct.{inner_rule}}
use Rattle.apl_expr.specs.declared.expr.Monadic.TheVariants as monadic
use Rattle.apl_expr.specs.declared.expr.Dyadic.TheVariants as dyadic
use Rattle.apl_expr.specs.declared.functions.Function1.TheVariants as function1
use Rattle.apl_expr.specs.declared.functions.Function2.TheVariants as function2

-- of a primitive function of one array
abbrev pub monadic_rule : Monadic → RuleModel
monadic_rule (monadic.Scalar f) = each_monadic_rule f
monadic_rule monadic.Ravel = ravel_rule
monadic_rule (monadic.Reverse k) = reverse_rule k
monadic_rule monadic.Transpose = transpose_rule
monadic_rule monadic.Shape = shape_rule
monadic_rule monadic.Iota = generator_rule

-- of a function of one array
abbrev pub right_rule : Function1 → RuleModel
right_rule (function1.Monad f) = monadic_rule f
right_rule (function1.Reduce f k) = reduce_rule f k
right_rule (function1.Scan f k) = scan_rule f k

-- of a primitive function of two arrays
abbrev pub dyadic_rule : Dyadic → RuleModel
dyadic_rule (dyadic.Scalar f) = each_dyadic_rule f
dyadic_rule dyadic.Reshape = reshape_rule
dyadic_rule (dyadic.Catenate k) = catenate_rule k
dyadic_rule dyadic.Take = take_rule
dyadic_rule dyadic.Drop = drop_rule
dyadic_rule (dyadic.Rotate k) = rotate_rule k
dyadic_rule dyadic.Transpose = transpose_by_rule
dyadic_rule (dyadic.Replicate k) = replicate_rule k
dyadic_rule dyadic.IndexOf = index_of_rule
dyadic_rule dyadic.Member = member_rule
dyadic_rule dyadic.Encode = encode_rule
dyadic_rule dyadic.Decode = decode_rule

-- of a function of two arrays
abbrev pub both_rule : Function2 → RuleModel
both_rule (function2.Dyad f) = dyadic_rule f
both_rule (function2.Outer f) = outer_rule f
both_rule (function2.Inner f g) = inner_rule f g

-- a returned cost with the change that was stored, or want of memory
abbrev pub with_change : Delta → Result ℕ AllocError → Result (Delta × ℕ) AllocError
with_change change (Ok cost) = Ok (change, cost)
with_change change (Err refused) = Err refused

-- the change of an operation by its rule, its cost, and the rise of the meter
pub record IsRefreshed (rule : RuleModel) (args : List Argument) (held : Outcome) (before after : ℕ) (r : Result (Delta × ℕ) AllocError) : Type 0 where
  pub delta : IfOk r (λ s. s.0 ≡ node_delta rule args held)
  pub cost : IfOk r (λ s. s.1 ≡ node_cost rule args held)
  pub ticks : after ≤ before + node_cost rule args held
  pub least : IfOk r (λ s. is_error s.0 ≡ false → ticked before s.1 ≤ after)
  pub rises : before ≤ after

-- the same for all arguments with these views and these changed places
abbrev pub IsRefreshedBy : RuleModel → List ArrayValue → List Moved → (held : Outcome) → (before after : ℕ) → Result (Delta × ℕ) AllocError → Type 0
IsRefreshedBy rule seen moved held before after r = (args : List Argument) → AreArguments seen moved args → IsRefreshed rule args held before after r
