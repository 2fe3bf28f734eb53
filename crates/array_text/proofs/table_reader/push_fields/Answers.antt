use Rattle.std.{proofs.Common.{◌<◌, ◌∙◌, sym, length, arith, rules, w64}, proofs.lemmas.Int.{to_z-of_z}}
use Rattle.{csv.{specs.Records.{fields_of}, proofs.RecordFacts.{field-there}}, array_text.proofs.Tables.{bad_found, good_found, number_found}}
use Rattle.array_text.proofs.table_reader.push_fields.Goals as goal

pub unreachable-requires : goal.unreachable-requires
unreachable-requires c =
    let none = sym (rw c.in_default.is at c.get.ensures.value) in
    field-there (fields_of c.args.row.now) c.loop-column.column (omega (arith, c.len-column-end.ensures)) none

pub returns-in_default-field_number : goal.returns-in_default-field_number
returns-in_default-field_number c =
    let inside : c.loop-column.column < length (fields_of c.args.row.now) = omega (arith, c.len-column-end.ensures) in
    bad_found (fields_of c.args.row.now) c.loop-column.column c.in-Some.field.now inside c.in-Some.ensures.value c.args.number
    (sym c.field_number.ensures ∙ c.in_default-field_number.is) c.loop-column.invariant.bad

pub loop-column-preserved : goal.loop-column-preserved
loop-column-preserved c =
    let fields = fields_of c.args.row.now in
    let column = c.loop-column.column in
    let value = c.in-Some-field_number.value in
    let pushed = rw (to_z-of_z w64 value (search rules)) at c.in_ok-push.ensures.items in
    let inside : column < length fields = omega (arith, c.len-column-end.ensures) in
    let spelled = sym c.field_number.ensures ∙ c.in-Some-field_number.is in record {
      bad = good_found fields column c.in-Some.field.now inside c.in-Some.ensures.value value spelled c.loop-column.invariant.bad;
      read = number_found fields column c.in-Some.field.now inside c.in-Some.ensures.value _ _ _ value spelled pushed c.loop-column.invariant.read;
    }
