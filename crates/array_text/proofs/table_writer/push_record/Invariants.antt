use Rattle.std.{proofs.Common.{◌≡◌, ◌++◌, take}, specs.Prelude.{string_bytes}, specs.Fmt.{signed_decimal}, specs.List.{join_by}}
use Rattle.array_text.specs.Tables.{between_fields}
use Rattle.array_text.proofs.table_writer.push_record.Given as goal

abbrev pub invariant-loop-column : goal.invariant-loop-column
invariant-loop-column l = string_bytes l.out ≡ string_bytes l.initial.out ++ join_by signed_decimal between_fields (take l.column l.numbers)
