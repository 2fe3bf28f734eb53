use Rattle.std.{proofs.Common.{◌≡◌, ◌++◌}, specs.Prelude.{string_bytes}, specs.List.{flat_map, range_with_len}}
use Rattle.array_text.{specs.Text.{part_of}, specs.Tables.{record_text}}
use Rattle.array_text.proofs.table_writer.push_records.Given as goal

abbrev pub invariant-loop-row : goal.invariant-loop-row
invariant-loop-row l = string_bytes l.out ≡ string_bytes l.initial.out ++ flat_map (λ row. record_text (part_of l.columns row l.numbers)) (range_with_len 0 l.row)
