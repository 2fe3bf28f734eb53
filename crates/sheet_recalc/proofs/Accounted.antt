-- The counts that a sheet keeps of a change: its cost, and the items computed.
use Rattle.{std.{proofs.Common.{◌≡◌, ◌≢◌, ◌+◌, ◌≤◌, ◌<◌, ◌∙◌, ℕ, List, Some, Ok, sym, ap, arith}, specs.Prelude.{Vec}}, arrays_core.specs.Arrays.{ArrayValue}}
use Rattle.{index_region.{specs.declared.delta.Delta.{Delta}, specs.declared.delta.Delta.TheVariants.{Whole}}, change_core.specs.Meters.{ticked}}
use Rattle.apl_expr.specs.Trees.{Tree}
use Rattle.sheet_recalc.{specs.Names.{Names, Data, Formula, binding, put}, specs.Live.{TellsUsers}, specs.Meaning.{val}, proofs.Binding.{rebound_own, rebound_same}, proofs.Live.{val_data}}

-- a name that is bound to an array shows it
pub shows_put : (names : Names) (name : List ℕ) (a : ArrayValue) → val (put names name (Data a)) name ≡ Ok a
shows_put names name a = val_data (put names name (Data a)) name a (rebound_own names name (Some (Data a)))

-- its change, by its value
pub whole_put : (names new : Names) (name : List ℕ) (a : ArrayValue) (change : Delta) → change ≡ Whole (Ok a) → put names name (Data a) ≡ new → change ≡ Whole (val new name)
whole_put names new name a change is same = is ∙ (ap (λ r. Whole r) (sym (shows_put names name a)) ∙ ap (λ ns. Whole (val ns name)) same)

-- the change computes at most its cost in items
pub few_ticks : (spent cost ticks total : ℕ) → ticks ≤ spent + cost → ticks < 18446744073709551616 → total ≡ ticked spent cost → ticks ≤ total
few_ticks spent cost ticks total made fits sum = omega (arith, made, fits, sum)

-- the cost of an expression, then of its array
pub expression_more : (spent expression cost total : ℕ) → spent ≡ ticked 0 expression → total ≡ ticked spent cost → total ≡ ticked 0 (expression + cost)
expression_more spent expression cost total is sum = omega (arith, is, sum)

-- the references stay where data replaces data
pub table_kept : {S : Type 0} (names : Names) (name : List ℕ) (a b : ArrayValue) (users : List (List ℕ × Vec (List ℕ) S)) → binding names name ≡ Some (Data a) → TellsUsers names users → TellsUsers (put names name (Data b)) users
table_kept {S} names name a b users held tells x y = (
  (λ u. let r = (tells x y).0 u in (r.0, rebound_same names name (Some (Data b)) x (apart r.0 r.1) ∙ r.1, r.2)),
  (λ r. (tells x y).1 (r.0, sym (rebound_same names name (Some (Data b)) x (apart_now r.0 r.1)) ∙ r.1, r.2)),
)
  where
    never : (c : ArrayValue) (t : Tree) → Some (Data c) ≡ Some (Formula t) → ⊥
    never c t h = cc

    apart : (t : Tree) → binding names x ≡ Some (Formula t) → x ≢ name
    apart t is e = never a t (sym held ∙ (ap (binding names) (sym e) ∙ is))

    apart_now : (t : Tree) → binding (put names name (Data b)) x ≡ Some (Formula t) → x ≢ name
    apart_now t is e = never b t (sym (rebound_own names name (Some (Data b))) ∙ (ap (binding (put names name (Data b))) (sym e) ∙ is))
