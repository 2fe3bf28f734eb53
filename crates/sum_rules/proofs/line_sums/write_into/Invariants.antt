use Rattle.{std.proofs.Common.{◌≡◌, ◌<◌}, index_region.{specs.Boxes.{box_size, walk_at}, proofs.Written.{IsWritten}}, sum_rules.specs.LineSums.{array_of_shape}}
use Rattle.sum_rules.proofs.line_sums.write_into.Given as goal

abbrev pub invariant-loop-before : goal.invariant-loop-before
invariant-loop-before l = record {
  written : IsWritten (array_of_shape l.fn.shape.items l.fn.trees.lines.numbers) l.fn.patch l.before (array_of_shape l.fn.shape.items l.trees.lines.numbers);
  function : l.trees.function ≡ l.fn.trees.function;
  count : l.trees.lines.count ≡ l.fn.trees.lines.count;
  step : l.trees.lines.step ≡ l.fn.trees.lines.step;
  at : l.before < box_size l.fn.patch.region → l.index ≡ walk_at l.fn.patch.region l.before;
}
