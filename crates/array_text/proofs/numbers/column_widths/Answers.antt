use Rattle.{std.{proofs.Common.{◌≡◌, refl, arith}, proofs.lemmas.List.FromFn.{map-range_with_len_more}}, array_text.specs.Text.{column_width, column_widths}}
use Rattle.array_text.proofs.numbers.column_widths.Goals as goal

pub loop-column-preserved : goal.loop-column-preserved
loop-column-preserved c =
    let width = column_width c.args.rows c.args.columns c.args.numbers.now in
    let k = c.loop-column.column in
    rw (map-range_with_len_more width 0 k k (omega arith), c.in_ok-push.ensures.items, c.loop-column.invariant, c.width_of_column.ensures) refl

pub returns : goal.returns
unfolding column_widths
returns c = let all : c.loop-column.column ≡ c.args.columns = omega arith in rw all at c.loop-column.invariant
