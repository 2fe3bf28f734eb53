use Rattle.std.proofs.Common.{◌≡◌, ◌+◌, ◌-◌, ◌*◌, ◌<◌, ◌≤◌, ◌⊎◌}
use Rattle.fold_trees.{specs.LineTrees.{slot_of, replaced, numbers_of_block}, proofs.LineParts.{IsClimb}}
use Rattle.fold_trees.proofs.line_tree.LineTree.with.Given as goal

abbrev pub invariant-loop-width : goal.invariant-loop-width
invariant-loop-width g l = record {
  climb : IsClimb l.place l.block l.width;
  few : l.width < 2 * l.self.line.count;
  told : g.P.Part.tells l.kept (numbers_of_block l.self.line.count (replaced (slot_of l.self.line l.self.numbers.now) l.place l.number) l.block l.width);
  most : l.joins ≤ climb.level;
  none : l.joins ≡ 0 → (l.block * l.width ≡ l.place) × (l.width ≡ 1 ⊎ l.self.line.count ≤ l.place + 1);
}

abbrev pub decreases-loop-width : goal.decreases-loop-width
decreases-loop-width g l = l.self.line.count - l.width
