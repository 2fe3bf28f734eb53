-- The count of items when an expression is evaluated once.
use Rattle.std.{specs.Prelude.{◌≡◌, ℕ, ◌+◌, ◌≤◌, List, Result, OnOk, IsOk, MatchResult}, specs.List.{sum_by}, specs.declared.alloc.AllocError.{AllocError}}
use Rattle.apl_expr.specs.Trees.{Tree, Positions}
use Rattle.arrays_core.{specs.Shapes.{size}, specs.declared.fault.Fault.{Fault}, specs.Outcomes.{Outcome}}
use Rattle.change_core.specs.Meters.{ticked}
use Rattle.formula_core.{specs.declared.evaluation.Evaluated.{Evaluated}, specs.Changes.{tree_size}, specs.Meaning.{eval, eval_positions}, specs.Evaluated.{array_in}, specs.Tables.{inside, inside_positions}}

-- the cost of the functions in a tree: the size of each one's result
abbrev pub cost_in : (List ℕ → Outcome) → Tree → ℕ
cost_in names t = sum_by (tree_size names) (inside t)

-- the cost of the functions in positions
abbrev pub cost_in_positions : (List ℕ → Outcome) → Positions → ℕ
cost_in_positions names ps = sum_by (tree_size names) (inside_positions ps)

-- counts at most the cost, even if memory is refused, and no less than the cost if nothing failed
pub record IsCounted {A : Type 0} (cost : ℕ) (Given : Type 0) (before after : ℕ) (r : Result A AllocError) : Type 0 where
  pub most : after ≤ before + cost
  pub least : OnOk r (Given → ticked before cost ≤ after)

-- the cost of a tree is counted; nothing failed if its value is an array
abbrev pub IsTreeCounted : {A : Type 0} → (List ℕ → Outcome) → Tree → (before after : ℕ) → Result A AllocError → Type 0
IsTreeCounted names t before after r = IsCounted (cost_in names t) (IsOk (eval t names)) before after r

-- the cost of positions is counted; nothing failed if each written one has an array
abbrev pub ArePositionsCounted : {A : Type 0} → (List ℕ → Outcome) → Positions → (before after : ℕ) → Result A AllocError → Type 0
ArePositionsCounted names ps before after r = IsCounted (cost_in_positions names ps) (IsOk (eval_positions ps names)) before after r

-- the items of a result are counted; an error adds none
abbrev pub AreItemsCounted : Result Evaluated Fault → (before after : ℕ) → Type 0
AreItemsCounted gives before after = MatchResult gives (λ operand. after ≡ ticked before (size (array_in operand).shape)) (λ fault. after ≡ before)
