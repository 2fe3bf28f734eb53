use Rattle.{std.proofs.Common.{◌≡◌}, array_text.specs.Text.{column_width}}
use Rattle.array_text.proofs.numbers.width_of_column.Given as goal

abbrev pub invariant-loop-row : goal.invariant-loop-row
invariant-loop-row l = l.widest ≡ column_width l.row l.columns l.numbers l.column
