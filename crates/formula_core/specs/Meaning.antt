-- The meaning of an expression, given the result of each name.
use Rattle.std.specs.Prelude.{ℕ, List, [], ◌∷◌, ◌++◌, Some, None, Result, Ok}
use Rattle.apl_expr.{specs.Trees.{Tree, Const, Name, Monad, Dyad, Index, Reduce, Scan, Outer, Inner, Positions, NoPositions, Empty, Filled, Literal, Numbers, Text}, specs.declared.expr.Monadic.{Monadic}, specs.declared.expr.Dyadic.{Dyadic}, specs.declared.functions.Function1.{Function1}}
use Rattle.apl_expr.specs.declared.functions.Function2.{Function2}
use Rattle.arrays_core.{specs.Items.{and_then}, specs.Arrays.{ArrayValue, scalar_of, vector_of, character_scalar_of, text_of}, specs.declared.item.Kind.{Kind}, specs.declared.fault.Fault.{Fault}, specs.Outcomes.{Outcome, given}}
use Rattle.scalar_fns.specs.ScalarExtension.{monadic_on_array, dyadic_on_arrays}
use Rattle.structural_fns.{specs.Reshape.{reshape_whole}, specs.Ravel.{ravel_whole}, specs.Catenate.{catenate_whole}, specs.Take.{take_whole}, specs.Drop.{drop_whole}, specs.Reverse.{reverse_whole}, specs.Rotate.{rotate_whole}, specs.Transpose.{transpose_whole}, specs.DyadicTranspose.{transpose_by_whole}}
use Rattle.selection_fns.{specs.Shape.{shape_whole}, specs.IndexGenerator.{generator_whole}, specs.Replicate.{replicate_whole}, specs.Index.{Position, index_whole}}
use Rattle.search_fns.{specs.IndexOf.{index_of_whole}, specs.Member.{member_whole}, specs.Encode.{encode_whole}, specs.Decode.{decode_whole}}
use Rattle.reduce_fns.specs.Reduce.{reduce_whole}
use Rattle.scan_fns.specs.Scan.{scan_whole}
use Rattle.operator_fns.{specs.OuterProduct.{outer_whole}, specs.InnerProduct.{inner_whole}}
use Rattle.apl_expr.specs.declared.expr.Monadic.TheVariants as monadic
use Rattle.apl_expr.specs.declared.expr.Dyadic.TheVariants as dyadic
use Rattle.apl_expr.specs.declared.functions.Function1.TheVariants as function1
use Rattle.apl_expr.specs.declared.functions.Function2.TheVariants as function2

-- a single number or character is a scalar, several are a vector
abbrev pub array_of : Literal → Result ArrayValue Kind
array_of (Numbers []) = vector_of []
array_of (Numbers (n ∷ [])) = Ok (scalar_of n)
array_of (Numbers (n ∷ m ∷ ns)) = vector_of (n ∷ m ∷ ns)
array_of (Text []) = text_of []
array_of (Text (c ∷ [])) = Ok (character_scalar_of c)
array_of (Text (c ∷ d ∷ cs)) = text_of (c ∷ d ∷ cs)

-- a primitive function of one array
abbrev pub of_monadic : Monadic → ArrayValue → Result ArrayValue Kind
of_monadic (monadic.Scalar f) b = monadic_on_array f b
of_monadic monadic.Ravel b = ravel_whole b
of_monadic (monadic.Reverse k) b = reverse_whole k b
of_monadic monadic.Transpose b = transpose_whole b
of_monadic monadic.Shape b = shape_whole b
of_monadic monadic.Iota b = generator_whole b

-- a function of one array
abbrev pub of_right : Function1 → ArrayValue → Result ArrayValue Kind
of_right (function1.Monad f) b = of_monadic f b
of_right (function1.Reduce f k) b = reduce_whole f k b
of_right (function1.Scan f k) b = scan_whole f k b

-- a primitive function of two arrays
abbrev pub of_dyadic : Dyadic → (left right : ArrayValue) → Result ArrayValue Kind
of_dyadic (dyadic.Scalar f) a b = dyadic_on_arrays f a b
of_dyadic dyadic.Reshape a b = reshape_whole a b
of_dyadic (dyadic.Catenate k) a b = catenate_whole k a b
of_dyadic dyadic.Take a b = take_whole a b
of_dyadic dyadic.Drop a b = drop_whole a b
of_dyadic (dyadic.Rotate k) a b = rotate_whole k a b
of_dyadic dyadic.Transpose a b = transpose_by_whole a b
of_dyadic (dyadic.Replicate k) a b = replicate_whole k a b
of_dyadic dyadic.IndexOf a b = index_of_whole a b
of_dyadic dyadic.Member a b = member_whole a b
of_dyadic dyadic.Encode a b = encode_whole a b
of_dyadic dyadic.Decode a b = decode_whole a b

-- a function of two arrays
abbrev pub of_both : Function2 → (left right : ArrayValue) → Result ArrayValue Kind
of_both (function2.Dyad f) a b = of_dyadic f a b
of_both (function2.Outer f) a b = outer_whole f a b
of_both (function2.Inner f g) a b = inner_whole f g a b

abbrev pub applied1 : Function1 → Outcome → Outcome
applied1 f right = and_then right (λ b. given (of_right f b))

-- the right argument's error comes before the left one's
abbrev pub applied2 : Function2 → (right left : Outcome) → Outcome
applied2 f right left = and_then right (λ b. and_then left (λ a. given (of_both f a b)))

-- a written position in front of others, whose error comes first
abbrev pub in_front : Outcome → Result (List Position) Fault → Result (List Position) Fault
in_front first others = and_then others (λ positions. and_then first (λ p. Ok (Some p ∷ positions)))

-- an empty position in front of others; their error stays
abbrev pub empty_in_front : Result (List Position) Fault → Result (List Position) Fault
empty_in_front others = and_then others (λ positions. Ok (None ∷ positions))

-- the error of the positions comes before the error of the indexed operand
abbrev pub indexed : Result (List Position) Fault → (operand : Outcome) → Outcome
indexed others operand = and_then others (λ positions. and_then operand (λ a. given (index_whole a positions)))

abbrev mutual
  -- the value of an expression with these results of its names
  pub eval : Tree → (List ℕ → Outcome) → Outcome
  eval (Const c) names = given (array_of c)
  eval (Name x) names = names x
  eval (Monad f b) names = applied1 (function1.Monad f) (eval b names)
  eval (Dyad f a b) names = applied2 (function2.Dyad f) (eval b names) (eval a names)
  eval (Index a ps) names = indexed (eval_positions ps names) (eval a names)
  eval (Reduce f k b) names = applied1 (function1.Reduce f k) (eval b names)
  eval (Scan f k b) names = applied1 (function1.Scan f k) (eval b names)
  eval (Outer f a b) names = applied2 (function2.Outer f) (eval b names) (eval a names)
  eval (Inner f g a b) names = applied2 (function2.Inner f g) (eval b names) (eval a names)

  -- the values of positions, or the error of the last that has one
  pub eval_positions : Positions → (List ℕ → Outcome) → Result (List Position) Fault
  eval_positions NoPositions names = Ok []
  eval_positions (Empty ps) names = empty_in_front (eval_positions ps names)
  eval_positions (Filled e ps) names = in_front (eval e names) (eval_positions ps names)

abbrev mutual
  -- the names in an expression, from the left
  pub names_in : Tree → List (List ℕ)
  names_in (Const c) = []
  names_in (Name x) = x ∷ []
  names_in (Monad f b) = names_in b
  names_in (Dyad f a b) = names_in a ++ names_in b
  names_in (Index a ps) = names_in a ++ names_in_positions ps
  names_in (Reduce f k b) = names_in b
  names_in (Scan f k b) = names_in b
  names_in (Outer f a b) = names_in a ++ names_in b
  names_in (Inner f g a b) = names_in a ++ names_in b

  pub names_in_positions : Positions → List (List ℕ)
  names_in_positions NoPositions = []
  names_in_positions (Empty ps) = names_in_positions ps
  names_in_positions (Filled e ps) = names_in e ++ names_in_positions ps
