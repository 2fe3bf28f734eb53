use lib.Utf8.{encode}
use Rattle.std.{proofs.Common.{◌≡◌, refl, length, ◌∷◌, [], pos, get_or, rules, w64, arith}, proofs.lemmas.Int.{to_z-of_z}}
use Rattle.array_text.{specs.Text.{right_justified, number_row, between_numbers}, proofs.Writing.{pushed_behind, grown_twice, join_by-range_step}}
use Rattle.array_text.proofs.numbers.push_row.Goals as goal

pub loop-column-preserved : goal.loop-column-preserved
loop-column-preserved c =
    grown_twice _ _ _ _ _ _ _ _ (rw (to_z-of_z w64 (get_or c.args.row.now c.loop-column.column (pos 0)) (search rules)) at c.in_ok-push_cell.ensures)
    c.in_ok-push_blank_between.ensures c.loop-column.invariant
    (join_by-range_step (λ column. right_justified (get_or c.args.widths.now column 0) (get_or c.args.row.now column (pos 0))) between_numbers c.loop-column.column)

pub returns : goal.returns
unfolding number_row encode
returns c =
    let all : c.loop-column.column ≡ length c.args.row.now = omega arith in
    pushed_behind c.push.result _ _ _ _ _ (10 ∷ []) c.push.ensures.bytes c.loop-column.invariant (rw all refl)
