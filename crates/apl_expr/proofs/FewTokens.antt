-- A tree has at most as many nodes as tokens, and its height is at most the number of its nodes.
use Rattle.std.{proofs.Common.{◌≡◌, ℕ, ◌+◌, ◌≤◌, List, [], ◌∷◌, length, Option, Some, None, refl, subst, arith}, specs.Prelude.{ℤ}}
use Rattle.apl_tokens.specs.Lexemes.{Lexeme}
use Rattle.apl_expr.{specs.declared.functions.Function1.{Function1}, specs.declared.functions.Function2.{Function2}, specs.Limits.{most_height, most_nodes}}
use Rattle.apl_expr.specs.Trees.{Tree, Const, Name, Monad, Dyad, Index, Reduce, Scan, Outer, Inner, before_argument, between_arguments, Positions, NoPositions, Empty, Filled, positions_of, height, height_in, nodes, nodes_in}
use Rattle.apl_expr.specs.Grammar.{IsNums, one, more, IsMonadicFunction, plain1, along1, folded, folded_along, IsDyadicFunction, plain2, along2, outer, inner, IsExpr, operand, mono, duo, IsWrittenOperand, nums, text, ref, IsRef, name, parens, index, IsPositions, last_position, more_positions, IsPosition, empty, filled, IsTreeOf}
use Rattle.apl_expr.specs.declared.functions.Function1.TheVariants as function1
use Rattle.apl_expr.specs.declared.functions.Function2.TheVariants as function2

nums_tokens : {ts us : List Lexeme} {ns : List ℤ} → IsNums ts ns us → 1 + length us ≤ length ts
nums_tokens one = omega arith
nums_tokens (more is) = let rest = nums_tokens is in omega arith

monadic_tokens : {ts us : List Lexeme} {f : Function1} → IsMonadicFunction ts f us → 1 + length us ≤ length ts
monadic_tokens (plain1 is) = omega arith
monadic_tokens (along1 is) = omega arith
monadic_tokens (folded is) = omega arith
monadic_tokens (folded_along is) = omega arith

dyadic_tokens : {ts us : List Lexeme} {f : Function2} → IsDyadicFunction ts f us → 1 + length us ≤ length ts
dyadic_tokens (plain2 is) = omega arith
dyadic_tokens (along2 is) = omega arith
dyadic_tokens (outer is) = omega arith
dyadic_tokens (inner is) = omega arith

-- the nodes of a position, if it is written
abbrev nodes_at : Option Tree → ℕ
nodes_at None = 0
nodes_at (Some e) = nodes e

nodes_more : (p : Option Tree) (ps : List (Option Tree)) → nodes_in (positions_of (p ∷ ps)) ≡ nodes_at p + nodes_in (positions_of ps)
nodes_more None ps = omega arith
nodes_more (Some e) ps = omega arith

index_nodes : (a e : Tree) (ps : List (Option Tree)) → Some (Index a (positions_of ps)) ≡ Some e → nodes e ≡ 1 + nodes a + nodes_in (positions_of ps)
index_nodes a e ps is = let same : Index a (positions_of ps) ≡ e = cc in subst (λ (d : Tree). nodes d ≡ 1 + nodes a + nodes_in (positions_of ps)) same (omega arith)

-- a function is one node
nodes_before : (f : Function1) (e : Tree) → nodes (before_argument f e) ≡ 1 + nodes e
nodes_before (function1.Monad f) e = refl
nodes_before (function1.Reduce f k) e = refl
nodes_before (function1.Scan f k) e = refl

nodes_between : (f : Function2) (a e : Tree) → nodes (between_arguments f a e) ≡ 1 + nodes a + nodes e
nodes_between (function2.Dyad f) a e = refl
nodes_between (function2.Outer f) a e = refl
nodes_between (function2.Inner f g) a e = refl

mutual
  expr_tokens : {ts us : List Lexeme} {e : Tree} → IsExpr ts e us → nodes e + length us ≤ length ts
  expr_tokens (operand is) = operand_tokens is
  expr_tokens (mono {f = f} {e = e} m is) = let first = monadic_tokens m in let rest = expr_tokens is in let size = nodes_before f e in omega arith
  expr_tokens (duo {f = f} {a = a} {e = e} o m is) = let left = operand_tokens o in let first = dyadic_tokens m in let rest = expr_tokens is in let size = nodes_between f a e in omega arith

  operand_tokens : {ts us : List Lexeme} {a : Tree} → IsWrittenOperand ts a us → nodes a + length us ≤ length ts
  operand_tokens (nums is) = let rest = nums_tokens is in omega arith
  operand_tokens text = omega arith
  operand_tokens (ref is) = ref_tokens is

  ref_tokens : {ts us : List Lexeme} {a : Tree} → IsRef ts a us → nodes a + length us ≤ length ts
  ref_tokens name = omega arith
  ref_tokens (parens is) = let rest = expr_tokens is in omega arith
  ref_tokens (index {a = a} {e = e} {positions = ps} is at made) = let left = ref_tokens is in let rest = positions_tokens at in let size = index_nodes a e ps made in omega arith

  positions_tokens : {ts us : List Lexeme} {ps : List (Option Tree)} → IsPositions ts ps us → nodes_in (positions_of ps) + length us ≤ length ts
  positions_tokens (last_position {s = s} is) = let first = position_tokens is in let size = nodes_more s [] in omega arith
  positions_tokens (more_positions {s = s} {positions = ps} is at) = let first = position_tokens is in let rest = positions_tokens at in let size = nodes_more s ps in omega arith

  position_tokens : {ts us : List Lexeme} {p : Option Tree} → IsPosition ts p us → nodes_at p + length us ≤ length ts
  position_tokens empty = omega arith
  position_tokens (filled is) = expr_tokens is

mutual
  height_nodes : (e : Tree) → height e ≤ nodes e
  height_nodes (Const l) = omega arith
  height_nodes (Name n) = omega arith
  height_nodes (Monad f e) = let rest = height_nodes e in omega arith
  height_nodes (Dyad f a e) = let left = height_nodes a in let rest = height_nodes e in omega arith
  height_nodes (Index a ps) = let left = height_nodes a in let rest = height_nodes_in ps in omega arith
  height_nodes (Reduce f k e) = let rest = height_nodes e in omega arith
  height_nodes (Scan f k e) = let rest = height_nodes e in omega arith
  height_nodes (Outer f a e) = let left = height_nodes a in let rest = height_nodes e in omega arith
  height_nodes (Inner f g a e) = let left = height_nodes a in let rest = height_nodes e in omega arith

  height_nodes_in : (ps : Positions) → height_in ps ≤ nodes_in ps
  height_nodes_in NoPositions = omega arith
  height_nodes_in (Empty ps) = height_nodes_in ps
  height_nodes_in (Filled e ps) = let first = height_nodes e in let rest = height_nodes_in ps in omega arith

pub few_tokens : (ts : List Lexeme) (e : Tree) → IsTreeOf ts e → length ts ≤ most_height → (height e ≤ most_height) × (nodes e ≤ most_nodes)
few_tokens ts e is few = let size = expr_tokens is in let low = height_nodes e in (omega arith, omega arith)
