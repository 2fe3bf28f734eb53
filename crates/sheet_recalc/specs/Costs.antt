-- The change of every name after a change of the sheet, and its cost.
use Rattle.std.{specs.Prelude.{◌≡◌, ◌⊎◌, ◌↔◌, ◌||◌, ◌+◌, ◌<◌, ◌≤◌, ℕ, zero, suc, List, [], ◌∷◌, map, length, filter, Bool, true, Option, Some, Ok, Err, if◌then◌else◌}, specs.Str.{bytes_eq}, specs.List.{Contains, IsDistinct, list_any, sum_by}, specs.Option.{option_map_or}}
use Rattle.dep_order.specs.Reachability.{Reaches}
use Rattle.arrays_core.{specs.declared.item.Item.{Item}, specs.Items.{type_of}, specs.Outcomes.{Outcome}}
use Rattle.index_region.{specs.declared.delta.Delta.{Delta}, specs.declared.delta.Delta.TheVariants.{Same, Patch, Grown, Whole}, specs.Patches.{PatchValue}}
use Rattle.change_core.specs.Meters.{ticked}
use Rattle.formula_core.{specs.Meaning.{names_in}, specs.Formulas.{operations}, specs.Plans.{tree_cost, node_cost_at, AllComputed}, specs.Tables.{subtrees, tree_at}}
use Rattle.apl_expr.specs.Trees.{Tree}
use Rattle.sheet_recalc.{specs.Names.{Names, Binding, Data, Formula, binding, Refers}, specs.Meaning.{val, with_origin}, specs.Cells.{index_of_numbers, literal_items}, specs.Changes.{SheetChange, Accepts, Define, Store, Put, SetCell, AddRow, Erase}}
use Rattle.formula_core.specs.Changes as formula

-- a patch of one place
abbrev pub cell_patch : List ℕ → Item → PatchValue
cell_patch index item = record { region = map (λ i. (i, i)) index; item_type = type_of item; items = item ∷ [] }

-- the change of data by the first of these items at an index list, if there is one
abbrev pub cell_delta : List ℕ → List Item → Delta
cell_delta index [] = Same
cell_delta index (item ∷ items) = Patch (cell_patch index item)

-- the change of data that has one more row with these items
abbrev pub row_delta : Outcome → List Item → Delta
row_delta (Ok a) items = Grown (record { item_type = a.item_type; shape = a.shape; items = items })
row_delta (Err e) items = Whole (Err e)

-- the name that a change is about
abbrev pub changed_name : SheetChange → List ℕ
changed_name (Define n t) = n
changed_name (Store n t) = n
changed_name (Put n a) = n
changed_name (SetCell n positions literal) = n
changed_name (AddRow n literal) = n
changed_name (Erase n) = n

-- the change of that name: one place for a cell, one more place of the first axis for a row, otherwise the whole
abbrev pub own_delta : SheetChange → Names → Delta
own_delta (SetCell n positions literal) new = cell_delta (index_of_numbers positions) (literal_items literal)
own_delta (AddRow n literal) new = row_delta (val new n) (literal_items literal)
own_delta change new = Whole (val new (changed_name change))

-- the change of a name's result, from the change of its formula's result: an error gets its origin there
abbrev pub origin_delta : List ℕ → Delta → Delta
origin_delta name (Whole r) = Whole (with_origin name r)
origin_delta name d = d

-- the change of a name by its formula, from the changes of the names in it
abbrev pub delta_by : List ℕ → Option Binding → formula.NamesChange → Delta
delta_by name (Some (Formula t)) c = origin_delta name (formula.change c t)
delta_by name b c = Same

-- the old and the new results of names, with their changes
abbrev pub names_change : Names → Names → (List ℕ → Delta) → formula.NamesChange
names_change old new delta = record { old = val old; new = val new; delta = delta }

-- the change of a name, computed to a depth, given the change of the changed name
abbrev pub delta_at : ℕ → Names → Names → List ℕ → Delta → List ℕ → Delta
delta_at zero old new name own q = if bytes_eq q name then own else Same
delta_at (suc depth) old new name own q = if bytes_eq q name then own else delta_by q (binding new q) (names_change old new (delta_at depth old new name own))

-- the change of a name: computed to the depth of the number of names
abbrev pub name_delta : Names → Names → List ℕ → Delta → List ℕ → Delta
name_delta old new name own q = delta_at (length new) old new name own q

-- the change of every name
abbrev pub sheet_change : Names → Names → List ℕ → Delta → formula.NamesChange
sheet_change old new name own = names_change old new (name_delta old new name own)

-- the cost at one name; the formula of the changed name is new
abbrev pub binding_cost : List ℕ → formula.NamesChange → List ℕ × Binding → ℕ
binding_cost name c (q, Data a) = 0
binding_cost name c (q, Formula t) = tree_cost (bytes_eq q name) c t

-- the cost at all names
abbrev pub formulas_cost : List ℕ → formula.NamesChange → Names → ℕ
formulas_cost name c names = sum_by (binding_cost name c) names

-- the names without any change
abbrev pub names_at_rest : Names → formula.NamesChange
names_at_rest names = names_change names names (λ q. Same)

-- the cost of evaluating the expression of stored data, as for a new formula
abbrev pub expression_cost : Names → SheetChange → ℕ
expression_cost old (Store n t) = tree_cost true (names_at_rest old) t
expression_cost old change = 0

-- the change of every name for a requested change from old to new
abbrev pub asked_change : Names → SheetChange → Names → formula.NamesChange
asked_change old change new = sheet_change old new (changed_name change) (own_delta change new)

-- the cost of that change
abbrev pub change_cost : Names → SheetChange → Names → ℕ
change_cost old change new = expression_cost old change + formulas_cost (changed_name change) (asked_change old change new) new

-- the cost of the change, at most the greatest number of 64 bits
abbrev pub HasCost : Names → SheetChange → Names → ℕ → Type 0
HasCost old change new cost = cost ≡ ticked 0 (change_cost old change new)

-- no item fails that the formulas of the names compute
abbrev pub NoItemFails : List ℕ → formula.NamesChange → Names → Type 0
NoItemFails name c names = (q : List ℕ) (t : Tree) → binding names q ≡ Some (Formula t) → AllComputed (bytes_eq q name) c t

-- exactly the name and all names that reach it, each once
pub record AreAllThatReach (names : Names) (name : List ℕ) (found : List (List ℕ)) : Type 0 where
  pub once : IsDistinct bytes_eq found
  pub exact : (q : List ℕ) → Contains found q ↔ ((q ≡ name) ⊎ Reaches (Refers names) q name)

-- one of these names occurs in a tree
abbrev pub has_any : List (List ℕ) → Tree → Bool
has_any found t = list_any (λ x. list_any (bytes_eq x) found) (names_in t)

-- a node depends on a change that reaches these names: its tree contains one, or its formula is new
abbrev pub node_depends : (is_new : Bool) → List (List ℕ) → Tree → Bool
node_depends is_new found t = is_new || has_any found t

-- the cost of the nodes of one name that depend on the change
abbrev pub dependent_cost : List ℕ → formula.NamesChange → List (List ℕ) → List ℕ × Binding → ℕ
dependent_cost name c found (q, Data a) = 0
dependent_cost name c found (q, Formula t) = sum_by (node_cost_at (bytes_eq q name) c) (filter (node_depends (bytes_eq q name) found) (subtrees t))

-- the cost of these nodes for all reached names
abbrev pub dependents_cost : List ℕ → formula.NamesChange → Names → List (List ℕ) → ℕ
dependents_cost name c names found = sum_by (λ q. option_map_or (λ b. dependent_cost name c found (q, b)) (binding names q) 0) found

-- the number of items computed in the change: at most its cost, and exactly its cost if no item fails. At most the cost of the expression of stored
-- data and of the nodes that depend on the change
pub record HasTicks (old : Names) (change : SheetChange) (new : Names) (ticks : ℕ) : Type 0 where
  pub most : ticks ≤ ticked 0 (change_cost old change new)
  pub all : NoItemFails (changed_name change) (asked_change old change new) new → ticks ≡ ticked 0 (change_cost old change new)
  pub dependents : (found : List (List ℕ)) → AreAllThatReach new (changed_name change) found
      → ticks ≤ ticked 0 (expression_cost old change + dependents_cost (changed_name change) (asked_change old change new) new found)

-- the number of functions in a binding
abbrev pub functions_of : Binding → ℕ
functions_of (Data a) = 0
functions_of (Formula t) = operations t

-- the number of functions in the binding of a name; 0 if it is absent
abbrev pub functions_in : Names → List ℕ → ℕ
functions_in names q = option_map_or functions_of (binding names q) 0

-- the number of functions in the formulas of the name and of all names that reach it
pub record IsStepCount (names : Names) (name : List ℕ) (steps : ℕ) : Type 0 where
  pub found : List (List ℕ)
  pub all : AreAllThatReach names name found
  pub steps_are : steps ≡ sum_by (functions_in names) found

-- one node of the formulas has this cost: the node at this place of the tree of a name
pub record IsNodeCost (name : List ℕ) (c : formula.NamesChange) (names : Names) (cost : ℕ) : Type 0 where
  pub at : List ℕ
  pub tree : Tree
  pub bound : binding names at ≡ Some (Formula tree)
  pub place : ℕ
  pub below : place < length (subtrees tree)
  pub cost_is : cost ≡ node_cost_at (bytes_eq at name) c (tree_at (subtrees tree) place)

-- one node has this cost in an accepted change of the names
pub record IsStepCost (old : Names) (change : SheetChange) (cost : ℕ) : Type 0 where
  pub new : Names
  pub accepts : Accepts old change new
  pub node : IsNodeCost (changed_name change) (asked_change old change new) new cost
