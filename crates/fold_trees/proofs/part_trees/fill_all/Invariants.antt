use Rattle.{std.proofs.Common.{◌≡◌, ℕ, ◌*◌, ◌<◌, length}, fold_trees.{specs.LineTrees.{slot_of, node_of, ArePartsKept}, specs.LineBlocks.{line_at}}}
use Rattle.fold_trees.proofs.part_trees.fill_all.Given as goal

abbrev pub invariant-loop-block : goal.invariant-loop-block
invariant-loop-block g l = record {
  kept : (line : ℕ) → line < l.block * l.step
      → ArePartsKept g.P.Part.tells l.count (slot_of (line_at l.count l.step line) l.numbers) (node_of g.P.Part.blank (line_at l.count l.step line) l.nodes);
  sized : length l.nodes ≡ length l.initial.nodes;
}
