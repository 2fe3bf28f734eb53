use Rattle.std.{proofs.Common.{◌≡◌, ◌+◌, ◌*◌, ◌∙◌, ap, refl, get_or, pos, rules, w64, arith}, proofs.lemmas.Int.{to_z-of_z}}
use Rattle.array_text.{specs.Text.{column_width, number_width}, proofs.Numerals.{column_width-more}, proofs.numbers.width_of_column.Goals.{then-width-widest, else-width-widest}}
use Rattle.array_text.proofs.numbers.width_of_column.Goals as goal

pub loop-row-init : goal.loop-row-init
unfolding column_width
loop-row-init c = refl

pub loop-row-preserved : goal.loop-row-preserved
loop-row-preserved c =
    let number = get_or c.args.numbers.now (c.loop-row.row * c.args.columns + c.args.column) (pos 0) in
    let width : c.width_of-width.result ≡ number_width number = c.width_of-width.ensures.value ∙ ap number_width (to_z-of_z w64 number (search rules)) in
    rw (column_width-more c.args.columns c.args.numbers.now c.args.column c.loop-row.row, ← width, ← c.loop-row.invariant)
    (elim c.if-width-widest.branch [ then-width-widest w ↦ omega arith | else-width-widest w ↦ omega arith ])
