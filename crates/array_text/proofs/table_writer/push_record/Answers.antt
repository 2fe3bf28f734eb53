use lib.Utf8.{encode}
use Rattle.std.{proofs.Common.{◌∷◌, [], ap, pos, get_or, rules, w64}, specs.Fmt.{signed_decimal}, specs.List.{join_by}, proofs.lemmas.List.{take_all}, proofs.lemmas.Int.{to_z-of_z}}
use Rattle.array_text.{specs.Tables.{between_fields, record_text}, proofs.Writing.{pushed_behind, grown_twice, join_by-more}}
use Rattle.array_text.proofs.table_writer.push_record.Goals as goal

pub loop-column-preserved : goal.loop-column-preserved
loop-column-preserved c =
    let k = c.loop-column.column in
    grown_twice _ _ _ _ _ _ _ _ (rw (to_z-of_z w64 (get_or c.args.numbers.now k (pos 0)) (search rules)) at c.in_ok-push_field.ensures)
    c.in_ok-push_comma_between.ensures c.loop-column.invariant (join_by-more signed_decimal between_fields c.args.numbers.now k (pos 0) c.loop-column-test.true)

pub returns : goal.returns
unfolding record_text encode
returns c =
    pushed_behind c.push.result _ _ _ _ _ (10 ∷ []) c.push.ensures.bytes c.loop-column.invariant
    (ap (join_by signed_decimal between_fields) (take_all c.loop-column.column c.args.numbers.now c.loop-column-test.false))
