use Rattle.std.proofs.Common.{length}
use Rattle.formula_core.{specs.declared.kept.Kept.{Kept}, specs.declared.kept.NodeChange.{NodeChange}, specs.Changes.{each_with}, specs.Holdings.{holding, node_taking, no_change, IsFit}, proofs.Adopted.{IsLeft, no_node}}
use Rattle.formula_core.proofs.kept.adopt_all.Given as goal

abbrev pub invariant-loop-changes : goal.invariant-loop-changes
invariant-loop-changes l = IsLeft NodeChange Kept node_taking (λ d k. IsFit d (holding k)) no_change no_node l.changes.items l.nodes.items (each_with node_taking l.fn.changes.items l.fn.nodes.items)

abbrev pub decreases-loop-changes : goal.decreases-loop-changes
decreases-loop-changes l = length l.changes.items
