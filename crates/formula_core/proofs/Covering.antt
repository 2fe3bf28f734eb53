-- The laws of the rule of each function of an expression.
use Rattle.apl_expr.{specs.declared.functions.Function1.{Function1}, specs.declared.functions.Function2.{Function2}}
use Rattle.change_core.{specs.Growth.{IsGrowing}, specs.Tightness.{IsTight, ReachCovers}, proofs.Covers.{covers}, proofs.Growing.{never_grows}}
use Rattle.scalar_fns.{specs.Laws.EachMonadic.{each_monadic_tight}, specs.Laws.EachMonadicGrowth.{each_monadic_growing}, specs.Laws.EachDyadic.{each_dyadic_tight}, specs.Laws.EachDyadicGrowth.{each_dyadic_growing}}
use Rattle.structural_fns.{specs.Laws.Reshape.{reshape_tight}, specs.Laws.Ravel.{ravel_tight}, specs.Laws.Catenate.{catenate_tight}, specs.Laws.Take.{take_tight}, specs.Laws.Drop.{drop_tight}, specs.Laws.Reverse.{reverse_tight}, specs.Laws.Rotate.{rotate_tight}, specs.Laws.Transpose.{transpose_tight}}
use Rattle.structural_fns.specs.Laws.DyadicTranspose.{transpose_by_tight}
use Rattle.selection_fns.{specs.Laws.Shape.{shape_tight}, specs.Laws.IndexGenerator.{generator_tight}, specs.Laws.Replicate.{replicate_tight}, specs.Index.{index_rule}, specs.Laws.Index.{index_tight}, specs.Laws.IndexGrowth.{index_growing}}
use Rattle.search_fns.{specs.Laws.IndexOf.{index_of_tight}, specs.Laws.Member.{member_tight}, specs.Laws.Encode.{encode_tight}, specs.Laws.Decode.{decode_tight}}
use Rattle.reduce_fns.{specs.Laws.Reduce.{reduce_tight}, specs.Laws.LinesGrowth.{reduce_growing}}
use Rattle.scan_fns.{specs.Laws.Scan.{scan_tight}, specs.Laws.ScanGrowth.{scan_growing}}
use Rattle.operator_fns.{specs.Laws.OuterProduct.{outer_tight}, specs.Laws.OuterProductGrowth.{outer_growing}, specs.Laws.InnerProduct.{inner_tight}}
use Rattle.{formula_core.specs.Rules.{right_rule, both_rule}, std.specs.Prelude.{List, Bool}}
use Rattle.apl_expr.specs.declared.expr.Monadic.TheVariants as monadic
use Rattle.apl_expr.specs.declared.functions.Function1.TheVariants as function1
use Rattle.apl_expr.specs.declared.expr.Dyadic.TheVariants as dyadic
use Rattle.apl_expr.specs.declared.functions.Function2.TheVariants as function2

-- the law of each rule: if the arguments agree outside their changed boxes, the results agree outside the reached box
pub record RulesCover : Type 0 where
  pub of_right : (f : Function1) → ReachCovers (right_rule f)
  pub of_both : (f : Function2) → ReachCovers (both_rule f)
  pub of_positions : (positions : List Bool) → ReachCovers (index_rule positions)

-- if a rule allows growth, the result grows by one place
pub record RulesGrow : Type 0 where
  pub of_right : (f : Function1) → IsGrowing (right_rule f) (right_rule f).grows
  pub of_both : (f : Function2) → IsGrowing (both_rule f) (both_rule f).grows
  pub of_positions : (positions : List Bool) → IsGrowing (index_rule positions) (index_rule positions).grows

right_tight : (f : Function1) → IsTight (right_rule f)
right_tight (function1.Monad (monadic.Scalar f)) = each_monadic_tight f
right_tight (function1.Monad monadic.Ravel) = ravel_tight
right_tight (function1.Monad (monadic.Reverse k)) = reverse_tight k
right_tight (function1.Monad monadic.Transpose) = transpose_tight
right_tight (function1.Monad monadic.Shape) = shape_tight
right_tight (function1.Monad monadic.Iota) = generator_tight
right_tight (function1.Reduce f k) = reduce_tight f k
right_tight (function1.Scan f k) = scan_tight f k

both_tight : (f : Function2) → IsTight (both_rule f)
both_tight (function2.Dyad (dyadic.Scalar f)) = each_dyadic_tight f
both_tight (function2.Dyad dyadic.Reshape) = reshape_tight
both_tight (function2.Dyad (dyadic.Catenate k)) = catenate_tight k
both_tight (function2.Dyad dyadic.Take) = take_tight
both_tight (function2.Dyad dyadic.Drop) = drop_tight
both_tight (function2.Dyad (dyadic.Rotate k)) = rotate_tight k
both_tight (function2.Dyad dyadic.Transpose) = transpose_by_tight
both_tight (function2.Dyad (dyadic.Replicate k)) = replicate_tight k
both_tight (function2.Dyad dyadic.IndexOf) = index_of_tight
both_tight (function2.Dyad dyadic.Member) = member_tight
both_tight (function2.Dyad dyadic.Encode) = encode_tight
both_tight (function2.Dyad dyadic.Decode) = decode_tight
both_tight (function2.Outer f) = outer_tight f
both_tight (function2.Inner f g) = inner_tight f g

-- the law of the rule of each function, and of an index with positions
pub rules_cover : RulesCover
rules_cover = record {
  of_right = λ f. covers (right_rule f) (right_tight f);
  of_both = λ f. covers (both_rule f) (both_tight f);
  of_positions = λ positions. covers (index_rule positions) (index_tight positions);
}

right_growing : (f : Function1) → IsGrowing (right_rule f) (right_rule f).grows
right_growing (function1.Monad (monadic.Scalar f)) = each_monadic_growing f
right_growing (function1.Monad monadic.Ravel) = never_grows _
right_growing (function1.Monad (monadic.Reverse k)) = never_grows _
right_growing (function1.Monad monadic.Transpose) = never_grows _
right_growing (function1.Monad monadic.Shape) = never_grows _
right_growing (function1.Monad monadic.Iota) = never_grows _
right_growing (function1.Reduce f k) = reduce_growing f k
right_growing (function1.Scan f k) = scan_growing f k

both_growing : (f : Function2) → IsGrowing (both_rule f) (both_rule f).grows
both_growing (function2.Dyad (dyadic.Scalar f)) = each_dyadic_growing f
both_growing (function2.Dyad dyadic.Reshape) = never_grows _
both_growing (function2.Dyad (dyadic.Catenate k)) = never_grows _
both_growing (function2.Dyad dyadic.Take) = never_grows _
both_growing (function2.Dyad dyadic.Drop) = never_grows _
both_growing (function2.Dyad (dyadic.Rotate k)) = never_grows _
both_growing (function2.Dyad dyadic.Transpose) = never_grows _
both_growing (function2.Dyad (dyadic.Replicate k)) = never_grows _
both_growing (function2.Dyad dyadic.IndexOf) = never_grows _
both_growing (function2.Dyad dyadic.Member) = never_grows _
both_growing (function2.Dyad dyadic.Encode) = never_grows _
both_growing (function2.Dyad dyadic.Decode) = never_grows _
both_growing (function2.Outer f) = outer_growing f
both_growing (function2.Inner f g) = never_grows _

-- if the rule of a function allows growth, its result grows
pub rules_grow : RulesGrow
rules_grow = record { of_right = right_growing; of_both = both_growing; of_positions = index_growing }
