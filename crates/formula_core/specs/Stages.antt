-- The data from which the next change of a formula is computed, and the change of its node.
use Rattle.std.{specs.Prelude.{◌≡◌, ◌+◌, ◌≤◌, ◌<◌, ℕ, List, [], ◌∷◌, ◌++◌, Bool, true, false, Option, Some, None, Result, IfOk, length, map, take, get_or}, specs.declared.alloc.AllocError.{AllocError}, specs.List.{Contains, sum_by}}
use Rattle.apl_expr.specs.Trees.{Tree}
use Rattle.arrays_core.{specs.Arrays.{IsArray}, specs.declared.item.Kind.TheVariants.{Value}, specs.Outcomes.{Outcome, fault, given}}
use Rattle.reduce_fns.specs.declared.reduce.Reduce.{Reduce}
use Rattle.index_region.{specs.declared.delta.Delta.{Delta}, specs.declared.delta.Delta.TheVariants.{Same}}
use Rattle.change_core.specs.Meters.{ticked, MeterValue}
use Rattle.change_rules.{specs.Currency.{applied}, specs.Nodes.{is_whole, is_error}}
use Rattle.sum_rules.{specs.LineSums.{SummedValue}, specs.Totals.{total_rule}}
use Rattle.formula_core.{specs.declared.input.Input.{Input}, specs.declared.input.Input.TheVariants.{Bad}, specs.declared.stage.Stage.{Stage}, specs.declared.table.Operand.{Operand}, specs.Meaning.{array_of, eval}, specs.Tables.{tree_at, tree_of_node, trees_after, subtrees, IsTable}}
use Rattle.formula_core.{specs.Holdings.{Holding, holding_at, holdings_of, nodes_of, not_worked_out, no_change, taking, IsFit}, specs.Formulas.{FormulaValue}, specs.Changes.{NamesChange, change, arguments, operation_cost, IsNameChanged}, specs.Inputs.{shown, delta_of, IsInput}}
use Rattle.formula_core.{specs.Joins.{most_joins_of, least_joins_of, most_joins, least_joins}, specs.Plans.{node_change, node_cost_at, AreInputs, IsNameSound}, specs.Sums.{summed_at, resummed, FitsInSums}, specs.declared.sums.SumsDelta.{SumsDelta}, specs.declared.sums.SumsDelta.TheVariants.{Whole}}
use Rattle.formula_core.{specs.declared.table.Node.{Node}, specs.declared.kept.NodeChange.{NodeChange}}
use Rattle.formula_core.specs.declared.table.Operand.TheVariants as operand

-- the node's old holding with its change is the holding of its tree with the new names; the results are arrays or errors
pub record IsDone (is_new : Bool) (c : NamesChange) (t : Tree) (held : Holding) (d : NodeChange) : Type 0 where
  pub is : d.delta ≡ node_change is_new c t
  pub right : taking d held ≡ holding_at c.new t
  pub fit : IsFit d held
  pub sound_held : IfOk held.result IsArray
  pub sound_new : IfOk (eval t c.new) IsArray

-- the change of a tree's node, its cost, and the rise of the meter
pub record IsNodeStep (is_new : Bool) (c : NamesChange) (t : Tree) (held : Holding) (d : NodeChange) (items : ℕ) (before after : MeterValue) : Type 0 where
  pub done : IsDone is_new c t held d
  pub cost : items ≡ node_cost_at is_new c t
  pub ticks : after.ticks ≤ before.ticks + node_cost_at is_new c t
  pub least : is_error d.delta ≡ false → ticked before.ticks items ≤ after.ticks
  pub joins : after.joins ≤ before.joins + most_joins is_new c t
  pub joined : is_error d.delta ≡ false → ticked before.joins (least_joins is_new c t) ≤ after.joins

-- the names have this change, the nodes belong to these trees with the old results, and each change so far is right
pub record IsStaged (c : NamesChange) (names : List (List ℕ)) (trees : List Tree) (s : Stage) : Type 0 where
  pub tell : AreInputs c names s.inputs.now
  pub changed : (x : List ℕ) → Contains names x → IsNameChanged c x
  pub sound : (x : List ℕ) → Contains names x → IsNameSound c x
  pub table : IsTable (length names) 0 (nodes_of s.nodes.now)
  pub trees_are : trees_after names [] (nodes_of s.nodes.now) ≡ trees
  pub held : s.is_new ≡ false → holdings_of s.nodes.now ≡ map (holding_at c.old) trees
  pub few : length s.changes.now ≤ length s.nodes.now
  pub known : length s.nodes.now ≡ length trees
  pub done : (k : ℕ) → k < length s.changes.now → IsDone s.is_new c (tree_at trees k) (get_or (holdings_of s.nodes.now) k not_worked_out) (get_or s.changes.now k no_change)

-- some change of the names leads to the stage
abbrev pub StagedBy : Stage → Type 0
StagedBy s = (c : NamesChange) × ((names : List (List ℕ)) × ((trees : List Tree) × IsStaged c names trees s))

-- the kept sums of a node are those of its old argument
abbrev pub IsKeptBy : Stage → Node → Option SummedValue → Type 0
IsKeptBy s n kept = (c : NamesChange) × ((names : List (List ℕ)) × ((trees : List Tree) × (IsStaged c names trees s × (s.is_new ≡ false → kept ≡ summed_at c.old (tree_of_node names trees n)))))

-- the rebuilt sums of a node are those of its new argument
abbrev pub IsMadeBy : Stage → Node → SumsDelta → Type 0
IsMadeBy s n made = (c : NamesChange) × ((names : List (List ℕ)) × ((trees : List Tree) × (IsStaged c names trees s × ((sums : Option SummedValue) → made ≡ Whole sums → sums ≡ summed_at c.new (tree_of_node names trees n)))))

-- after this change the sums of a tree's node are those of its new argument
pub record IsSumsStep (c : NamesChange) (t : Tree) (kept : Option SummedValue) (s : SumsDelta) : Type 0 where
  pub right : resummed s kept ≡ summed_at c.new t
  pub fit : FitsInSums s kept

-- the change of every literal: the whole in a new formula, otherwise nothing
pub record IsLiteralChange (is_new : Bool) (d : Delta) : Type 0 where
  pub whole : is_new ≡ true → is_whole d ≡ true
  pub same : is_new ≡ false → d ≡ Same

-- the input of an operand: a literal with the change of literals, the input of a name, or a node's result with its change
abbrev pub IsTaken : List Input → List Holding → List NodeChange → Delta → Operand → Input → Type 0
IsTaken inputs held changes of_literals (operand.Literal literal) i = IsInput (given (array_of literal.value)) of_literals i
IsTaken inputs held changes of_literals (operand.Name k) i = i ≡ get_or inputs k (Bad (fault Value) false)
IsTaken inputs held changes of_literals (operand.Node k) i = IsInput (applied (get_or changes k no_change).delta (get_or held k not_worked_out).result) (get_or changes k no_change).delta i

-- the input has the value of its tree; in a new formula it is marked new
pub record GivesItsTree (is_new : Bool) (c : NamesChange) (t : Tree) (i : Input) : Type 0 where
  pub is : is_new ≡ false → IsInput (eval t c.new) (change c t) i
  pub shows : is_new ≡ true → shown i ≡ eval t c.new
  pub anew : is_new ≡ true → is_whole (delta_of i) ≡ true

-- the input of each written position has the value of its tree; in a new formula it is marked new
abbrev pub GiveTheirTrees : Bool → NamesChange → List (Option Tree) → List (Option Input) → Type 0
GiveTheirTrees is_new c [] [] = Unit {0}
GiveTheirTrees is_new c (None ∷ ts) (None ∷ is) = GiveTheirTrees is_new c ts is
GiveTheirTrees is_new c (Some t ∷ ts) (Some i ∷ is) = GivesItsTree is_new c t i × GiveTheirTrees is_new c ts is
GiveTheirTrees is_new c _ _ = ⊥

-- the change of a tree's node, its cost, and the rise of the meter
pub record IsStep (is_new : Bool) (c : NamesChange) (t : Tree) (before after : ℕ) (r : Result (Delta × ℕ) AllocError) : Type 0 where
  pub delta : IfOk r (λ s. s.0 ≡ node_change is_new c t)
  pub cost : IfOk r (λ s. s.1 ≡ node_cost_at is_new c t)
  pub ticks : after ≤ before + node_cost_at is_new c t
  pub least : IfOk r (λ s. is_error s.0 ≡ false → ticked before s.1 ≤ after)
  pub rises : before ≤ after

-- each change so far is right, and this is the cost of these nodes
pub record IsBegun (f : FormulaValue) (c : NamesChange) (changes : List NodeChange) (cost : ℕ) : Type 0 where
  pub known : length f.nodes ≡ length (subtrees f.tree)
  pub few : length changes ≤ length f.nodes
  pub done : (k : ℕ) → k < length changes → IsDone f.is_new c (tree_at (subtrees f.tree) k) (get_or f.nodes k not_worked_out) (get_or changes k no_change)
  pub costs : cost ≡ ticked 0 (sum_by (node_cost_at f.is_new c) (take (length changes) (subtrees f.tree)))

-- the change of the formula's next node is appended
pub record IsOneMore (f : FormulaValue) (c : NamesChange) (changes new : List NodeChange) (items : ℕ) (before after : MeterValue) : Type 0 where
  pub change : NodeChange
  pub pushed : new ≡ changes ++ change ∷ []
  pub step : IsNodeStep f.is_new c (tree_at (subtrees f.tree) (length changes)) (get_or f.nodes (length changes) not_worked_out) change items before after

-- the joins for the totals of an input lie within the bounds
pub record AreTotalsJoined (fold : Reduce) (right : Input) (held : Outcome) (before after : ℕ) (r : Result (Delta × ℕ) AllocError) : Type 0 where
  pub most : after ≤ before + most_joins_of fold (shown right) (delta_of right) held (operation_cost (total_rule fold) (arguments (shown right ∷ [])) (delta_of right ∷ []) held)
  pub least : IfOk r (λ s. is_error s.0 ≡ false → ticked before (least_joins_of fold (shown right) (delta_of right) held (operation_cost (total_rule fold) (arguments (shown right ∷ [])) (delta_of right ∷ []) held)) ≤ after)

-- the joins for the change of a tree's node lie within the bounds
pub record IsJoined (is_new : Bool) (c : NamesChange) (t : Tree) (before after : ℕ) (r : Result (Delta × ℕ) AllocError) : Type 0 where
  pub most : after ≤ before + most_joins is_new c t
  pub least : IfOk r (λ s. is_error s.0 ≡ false → ticked before (least_joins is_new c t) ≤ after)
