-- The stored results of the nodes of a formula, and their changes.
use Rattle.std.specs.Prelude.{◌≡◌, ℕ, ◌<◌, All, Bool, true, false, ◌&&◌, List, Option, None, Err, length, get_or, map}
use Rattle.arrays_core.{specs.declared.item.Kind.TheVariants.{Value}, specs.Outcomes.{Outcome, fault}}
use Rattle.index_region.{specs.declared.delta.Delta.{Delta}, specs.declared.delta.Delta.TheVariants.{Same, Patch, Grown, Whole}}
use Rattle.change_rules.specs.Currency.{applied}
use Rattle.sum_rules.specs.LineSums.{SummedValue}
use Rattle.apl_expr.specs.Trees.{Tree}
use Rattle.formula_core.{specs.declared.kept.Kept.{Kept}, specs.declared.kept.NodeChange.{NodeChange}, specs.declared.sums.SumsDelta.{SumsDelta}, specs.declared.table.Node.{Node}, specs.Changes.{FitsIn, each_with}, specs.Meaning.{eval}, specs.Sums.{summed_at, resummed, FitsInSums}}
use Rattle.formula_core.specs.declared.sums.SumsDelta.TheVariants as sums

-- a node's result, and the fold and the array whose lines it keeps as trees, if it does
pub record Holding : Type 0 where
  pub result : Outcome
  pub sums : Option SummedValue

-- the holding of a node without a result
abbrev pub not_worked_out : Holding
not_worked_out = record { result = Err (fault Value); sums = None }

-- the right holding of a tree's node with these names
abbrev pub holding_at : (List ℕ → Outcome) → Tree → Holding
holding_at names t = record { result = eval t names; sums = summed_at names t }

-- the holding of a node in memory
abbrev pub holding : Kept → Holding
holding k = record { result = k.result; sums = k.sums }

abbrev pub holdings_of : List Kept → List Holding
holdings_of nodes = map holding nodes

abbrev pub nodes_of : List Kept → List Node
nodes_of nodes = map (λ k. k.node) nodes

-- all nodes are without results
abbrev pub AreNotWorkedOut : List Kept → Type 0
AreNotWorkedOut nodes = All (λ k. holding k ≡ not_worked_out) nodes

-- the change of a node that stays
abbrev pub no_change : NodeChange
no_change = record { delta = Same; sums = sums.Same }

-- nothing changes, or only items of the result
abbrev pub lent_delta : Delta → Bool
lent_delta Same = true
lent_delta (Patch p) = true
lent_delta (Grown t) = false
lent_delta (Whole r) = false

-- the sums do not change
abbrev pub lent_sums : SumsDelta → Bool
lent_sums sums.Same = true
lent_sums (sums.Patch p) = false
lent_sums (sums.Grown l) = false
lent_sums (sums.Whole s) = false

-- the change can be applied while it is borrowed
abbrev pub can_be_lent : NodeChange → Bool
can_be_lent d = lent_delta d.delta && lent_sums d.sums

-- a holding after its change
abbrev pub taking : NodeChange → Holding → Holding
taking d h = record { result = applied d.delta h.result; sums = resummed d.sums h.sums }

-- a node in memory after its change
abbrev pub node_taking : NodeChange → Kept → Kept
node_taking d k = record { node = k.node; result = applied d.delta k.result; sums = resummed d.sums k.sums }

-- holdings after their changes
abbrev pub adopted : List NodeChange → List Holding → List Holding
adopted changes held = each_with taking changes held

-- the changed boxes lie in the node's result and in the array of its sums
pub record IsFit (d : NodeChange) (h : Holding) : Type 0 where
  pub delta : FitsIn d.delta h.result
  pub sums : FitsInSums d.sums h.sums

-- each change fits the holding of its node
abbrev pub AllChangesFit : List NodeChange → List Holding → Type 0
AllChangesFit changes held = (k : ℕ) → k < length changes → IsFit (get_or changes k no_change) (get_or held k not_worked_out)
