use Rattle.{std.{proofs.Common.{◌≡◌, map}, specs.List.{range_with_len}}, array_text.specs.Text.{column_width}}
use Rattle.array_text.proofs.numbers.column_widths.Given as goal

abbrev pub invariant-loop-column : goal.invariant-loop-column
invariant-loop-column l = l.widths.items ≡ map (column_width l.rows l.columns l.numbers) (range_with_len 0 l.column)
