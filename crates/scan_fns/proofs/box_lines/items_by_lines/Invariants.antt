use Rattle.{std.proofs.Common.{◌≡◌, ◌<◌, ℕ}, index_region.specs.Boxes.{box_size, walk_at}}
use Rattle.scan_fns.{specs.Scan.{scan_item}, specs.BoxLines.{FillsBox}, proofs.BoxTables.{line_begins}, proofs.BoxErrors.{IsDone, IsMet}}
use Rattle.scan_fns.proofs.box_lines.items_by_lines.Given as goal

abbrev pub invariant-loop-place : goal.invariant-loop-place
invariant-loop-place l =
    let item = scan_item l.scan.function l.scan.along l.array in
    record {
      at : l._place < box_size l.region → l.index ≡ walk_at l.region l._place;
      table : FillsBox l.region l.table;
      met : IsMet item l.region l.axis l.failed;
      made : (place : ℕ) → place < box_size l.region → line_begins l.region l.axis place < l._place → IsDone item l.region l.axis l.table l.failed place;
    }
