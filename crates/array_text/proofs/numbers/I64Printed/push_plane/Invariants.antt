use Rattle.std.{proofs.Common.{◌≡◌, ◌++◌}, specs.Prelude.{string_bytes}, specs.List.{flat_map, range_with_len}}
use Rattle.array_text.specs.Text.{number_row, column_widths, part_of}
use Rattle.array_text.proofs.numbers.I64Printed.push_plane.Given as goal

abbrev pub invariant-loop-row : goal.invariant-loop-row
invariant-loop-row l = string_bytes l.out ≡ string_bytes l.initial.out
    ++ flat_map (λ row. number_row (column_widths l.rows l.columns l.numbers) (part_of l.columns row l.numbers)) (range_with_len 0 l.row)
