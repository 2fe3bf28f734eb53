-- The progress of a plan.
use Rattle.std.{specs.Prelude.{◌≡◌, ◌<◌, ℕ, List, true, length, take}, specs.List.{count_by}}
use Rattle.formula_core.{specs.declared.kept.NodeChange.{NodeChange}, specs.Changes.{NamesChange}, specs.Formulas.{FormulaValue, is_operation}, specs.Plans.{PlanValue}, specs.Stages.{IsBegun}, specs.Tables.{subtrees, tree_at}}

-- the number of operations among the nodes that have a change
abbrev pub operations_among : FormulaValue → List NodeChange → ℕ
operations_among f changes = count_by is_operation (take (length changes) (subtrees f.tree))

-- the next node without a change, if any, is an operation
abbrev pub IsAtOperation : FormulaValue → List NodeChange → Type 0
IsAtOperation f changes = length changes < length f.nodes → is_operation (tree_at (subtrees f.tree) (length changes)) ≡ true

-- each change so far is right, and the next node, if any, is an operation
pub record IsPlannedTo (f : FormulaValue) (c : NamesChange) (p : PlanValue) : Type 0 where
  pub begun : IsBegun f c p.changes p.cost
  pub next : IsAtOperation f p.changes
