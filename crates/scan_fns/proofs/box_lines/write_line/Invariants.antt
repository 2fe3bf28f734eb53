use Rattle.{std.proofs.Common.{◌<◌, ◌+◌, ℕ, get_or}, index_region.specs.Boxes.{box_size, walk_at}}
use Rattle.scan_fns.{specs.Scan.{scan_item}, specs.BoxLines.{Holds, IsOnLine, FillsBox}}
use Rattle.scan_fns.proofs.box_lines.write_line.Given as goal

abbrev pub invariant-loop-before : goal.invariant-loop-before
invariant-loop-before l =
    let item = scan_item l.scan.function l.scan.along l.array in
    record {
      table : FillsBox l.region l.table;
      keeps : (place : ℕ) → Holds item l.region l.initial.table place → Holds item l.region l.table place;
      made : (place : ℕ) → place < box_size l.region → IsOnLine l.region l.axis l.index place → get_or (walk_at l.region place) l.axis 1 < (get_or l.region l.axis (0, 0)).0 + l.before → Holds item l.region l.table place;
    }
