use Rattle.{std.proofs.Common.{◌≡◌, ◌<◌}, index_region.{specs.Boxes.{box_size, walk_at}, proofs.Written.{IsWritten}}}
use Rattle.index_region.proofs.patch.Patch.write_many.Given as goal

abbrev pub invariant-loop-before : goal.invariant-loop-before
invariant-loop-before l = record {
  written : IsWritten l.fn.array l.fn.self l.before l.array;
  at : l.before < box_size l.fn.self.region → l.index ≡ walk_at l.fn.self.region l.before;
}
