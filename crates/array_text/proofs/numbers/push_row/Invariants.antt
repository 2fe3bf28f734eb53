use Rattle.std.{proofs.Common.{◌≡◌, ◌++◌, get_or, pos}, specs.Prelude.{string_bytes}, specs.List.{join_by, range_with_len}}
use Rattle.array_text.specs.Text.{right_justified, between_numbers}
use Rattle.array_text.proofs.numbers.push_row.Given as goal

abbrev pub invariant-loop-column : goal.invariant-loop-column
invariant-loop-column l = string_bytes l.out ≡ string_bytes l.initial.out
    ++ join_by (λ column. right_justified (get_or l.widths column 0) (get_or l.row column (pos 0))) between_numbers (range_with_len 0 l.column)
