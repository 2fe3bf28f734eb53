-- The value of a formula in contracts: its tree, and the stored results of its nodes.
use Rattle.std.{specs.Prelude.{◌≡◌, ◌-◌, ℕ, List, [], Bool, true, false, length, get_or, map}, specs.List.{count_by}}
use Rattle.apl_expr.specs.Trees.{Tree, Const, Name}
use Rattle.formula_core.{specs.declared.table.Node.{Node}, specs.Holdings.{Holding, holding_at, not_worked_out}, specs.Meaning.{names_in}, specs.Tables.{tree_at, trees_after, subtrees, IsTable}}
use Rattle.arrays_core.specs.Outcomes.{Outcome}

-- its tree, whether it is new, and the holdings of its subtrees, its own last
pub record FormulaValue : Type 0 where
  pub tree : Tree
  pub is_new : Bool
  pub nodes : List Holding

-- the new formula of a tree: every result is VALUE ERROR, and no sums are kept
abbrev pub new_formula : Tree → FormulaValue
new_formula t = record { tree = t; is_new = true; nodes = map (λ u. not_worked_out) (subtrees t) }

-- each result is the value of its tree with these names, and each total keeps the sums of its argument's lines
pub record IsHeld (f : FormulaValue) (names : List ℕ → Outcome) : Type 0 where
  pub worked_out : f.is_new ≡ false
  pub nodes : f.nodes ≡ map (holding_at names) (subtrees f.tree)

-- the tree of the last node
abbrev pub root_of : List (List ℕ) → List Node → Tree
root_of names nodes = tree_at (trees_after names [] nodes) (length nodes - 1)

-- the nodes belong to the tree, with its names
pub record IsTableOf (names : List (List ℕ)) (nodes : List Node) (t : Tree) : Type 0 where
  pub root : root_of names nodes ≡ t
  pub named : names ≡ names_in t
  pub trees : trees_after names [] nodes ≡ subtrees t
  pub table : IsTable (length names) 0 nodes

-- the result of the whole tree
abbrev pub root_result : List Holding → Outcome
root_result held = (get_or held (length held - 1) not_worked_out).result

-- the tree applies a function
abbrev pub is_operation : Tree → Bool
is_operation (Const c) = false
is_operation (Name x) = false
is_operation _ = true

-- the number of functions in a tree
abbrev pub operations : Tree → ℕ
operations t = count_by is_operation (subtrees t)
