-- The positions of an index, one after another.
use Rattle.std.{proofs.Common.{◌≡◌, ℕ, zero, suc, ◌+◌, ◌<◌, List, [], ◌∷◌, length, map, drop, get_or, Option, Some, None, is_some, Err, refl, ap, sym, arith}, proofs.lemmas.List.{drop_more}}
use Rattle.apl_expr.{specs.declared.expr.Expr.{Expr}, specs.Trees.{tree_of, position_of, positions_of}}
use Rattle.{arrays_core.{specs.declared.fault.Fault.{Fault}, specs.Outcomes.{Outcome}}, selection_fns.specs.Index.{Position, count_written, written_positions}}
use Rattle.formula_core.{specs.declared.evaluation.Evaluated.{Evaluated}, specs.Evaluated.{array_in, position_in, written_arrays}, specs.Meaning.{eval, eval_positions, in_front, empty_in_front}}

-- the value of one more position
pub value_written : (names : List ℕ → Outcome) (ps : List (Option Expr)) (k : ℕ) (e : Expr) → k < length ps → get_or ps k None ≡ Some e
    → eval_positions (positions_of (map position_of (drop k ps))) names ≡ in_front (eval (tree_of e) names) (eval_positions (positions_of (map position_of (drop (k + 1) ps))) names)
value_written names ps k e below is = rw (drop_more ps k None below, is) refl

-- the positions follow from which are written and the arrays of those
pub written_again : (ps : List (Option Evaluated)) → written_positions (map is_some ps) (written_arrays ps) ≡ map position_in ps
written_again [] = refl
written_again (Some o ∷ ps) = ap (λ (qs : List Position). Some (array_in o) ∷ qs) (written_again ps)
written_again (None ∷ ps) = ap (λ (qs : List Position). None ∷ qs) (written_again ps)

pub written_counted : (ps : List (Option Evaluated)) → length (written_arrays ps) ≡ count_written (map is_some ps)
written_counted [] = refl
written_counted (Some o ∷ ps) = ap (λ n. suc n) (written_counted ps)
written_counted (None ∷ ps) = written_counted ps

-- an error of the later positions is the error of all
pub error_stands : (names : List ℕ → Outcome) (ps : List (Option Expr)) (k : ℕ) (e : Fault) → eval_positions (positions_of (map position_of (drop k ps))) names ≡ Err e
    → eval_positions (positions_of (map position_of ps)) names ≡ Err e
error_stands names ps zero e h = h
error_stands names [] (suc k) e h = h
error_stands names (None ∷ ps) (suc k) e h = ap empty_in_front (error_stands names ps k e h)
error_stands names (Some t ∷ ps) (suc k) e h = ap (λ later. in_front (eval (tree_of t) names) later) (error_stands names ps k e h)

-- an entry within the list does not depend on the fallback
pub there : (ps : List (Option Expr)) (k : ℕ) (x : Option Expr) → k < length ps → x ≡ get_or ps k x → get_or ps k None ≡ x
there [] k x h is = absurd (omega arith)
there (p ∷ ps) zero x h is = sym is
there (p ∷ ps) (suc k) x h is = there ps k x (omega arith) is
