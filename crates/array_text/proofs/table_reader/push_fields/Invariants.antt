use Rattle.{std.proofs.Common.{◌≡◌, ◌+◌, ◌++◌, drop}, csv.specs.Records.{fields_of}, array_text.specs.Tables.{first_bad, numbers_of}}
use Rattle.array_text.proofs.table_reader.push_fields.Given as goal

abbrev pub invariant-loop-column : goal.invariant-loop-column
invariant-loop-column l = record {
  bad : first_bad (l.column + 1) (drop l.column (fields_of l.row)) ≡ first_bad 1 (fields_of l.row);
  read : l.numbers.items ++ numbers_of (drop l.column (fields_of l.row)) ≡ l.initial.numbers.items ++ numbers_of (fields_of l.row);
}
