-- The plan of a formula: the changes of its nodes, computed while its results stay.
use Rattle.std.{specs.Prelude.{◌≡◌, ◌-◌, ◌<◌, ℕ, List, [], ◌∷◌, Bool, true, false, IfOk, length, get_or, map, if◌then◌else◌}, specs.List.{Contains, sum_by}}
use Rattle.apl_expr.specs.Trees.{Tree}
use Rattle.arrays_core.specs.Arrays.{IsArray}
use Rattle.index_region.{specs.declared.delta.Delta.{Delta}, specs.declared.delta.Delta.TheVariants.{Whole}}
use Rattle.change_core.specs.Meters.{ticked}
use Rattle.change_rules.specs.Nodes.{is_error}
use Rattle.formula_core.{specs.declared.input.Input.{Input}, specs.Meaning.{eval, names_in}, specs.Tables.{subtrees, tree_at}, specs.Formulas.{FormulaValue}, specs.Changes.{NamesChange, change, cost_at, tree_size, IsNameChanged}, specs.Inputs.{IsInput}, specs.Holdings.{holding_at, no_change, adopted, AllChangesFit}}
use Rattle.formula_core.specs.declared.kept.NodeChange.{NodeChange}

-- the changes of the nodes from the first on, and their cost; a whole plan has one for each node
pub record PlanValue : Type 0 where
  pub changes : List NodeChange
  pub cost : ℕ

-- the change of the whole tree, which the last node has
abbrev pub root_change : List NodeChange → Delta
root_change changes = (get_or changes (length changes - 1) no_change).delta

-- one change for each node, and each fits its holding
pub record IsPlanOf (f : FormulaValue) (p : PlanValue) : Type 0 where
  pub each : length p.changes ≡ length f.nodes
  pub fit : AllChangesFit p.changes f.nodes

-- the change of a node; in a new formula the whole
abbrev pub node_change : (is_new : Bool) → NamesChange → Tree → Delta
node_change is_new c t = if is_new then Whole (eval t c.new) else change c t

-- its cost; in a new formula the size of the result
abbrev pub node_cost_at : (is_new : Bool) → NamesChange → Tree → ℕ
node_cost_at is_new c t = if is_new then tree_size c.new t else cost_at c t

-- the cost of the change of a tree with all its nodes
abbrev pub tree_cost : (is_new : Bool) → NamesChange → Tree → ℕ
tree_cost is_new c t = sum_by (node_cost_at is_new c) (subtrees t)

-- no item of a node fails: its result is no error, or costs nothing
abbrev pub IsComputed : (is_new : Bool) → NamesChange → Tree → Type 0
IsComputed is_new c t = is_error (node_change is_new c t) ≡ true → node_cost_at is_new c t ≡ 0

-- no item of any node in a tree fails
abbrev pub AllComputed : (is_new : Bool) → NamesChange → Tree → Type 0
AllComputed is_new c t = (k : ℕ) → k < length (subtrees t) → IsComputed is_new c (tree_at (subtrees t) k)

-- one input for each name, with its new result and its change
abbrev pub AreInputs : NamesChange → List (List ℕ) → List Input → Type 0
AreInputs c [] [] = Unit {0}
AreInputs c (x ∷ names) (i ∷ inputs) = IsInput (c.new x) (c.delta x) i × AreInputs c names inputs
AreInputs c _ _ = ⊥

-- the old and the new result of a name is an error, or an array of a sound shape and type
pub record IsNameSound (c : NamesChange) (x : List ℕ) : Type 0 where
  pub old : IfOk (c.old x) IsArray
  pub new : IfOk (c.new x) IsArray

-- the inputs tell the changes of the formula's names, and the formula holds the old results unless it is new
pub record IsTold (f : FormulaValue) (c : NamesChange) (inputs : List Input) : Type 0 where
  pub holds : f.is_new ≡ false → f.nodes ≡ map (holding_at c.old) (subtrees f.tree)
  pub tell : AreInputs c (names_in f.tree) inputs
  pub changed : (x : List ℕ) → Contains (names_in f.tree) x → IsNameChanged c x
  pub sound : (x : List ℕ) → Contains (names_in f.tree) x → IsNameSound c x

-- each change follows from the names' changes, each node gets the value of its tree, and the cost is the sum of the nodes' costs
pub record IsPlanned (f : FormulaValue) (c : NamesChange) (p : PlanValue) : Type 0 where
  pub changes : map (λ d. d.delta) p.changes ≡ map (node_change f.is_new c) (subtrees f.tree)
  pub right : adopted p.changes f.nodes ≡ map (holding_at c.new) (subtrees f.tree)
  pub cost : p.cost ≡ ticked 0 (tree_cost f.is_new c f.tree)
