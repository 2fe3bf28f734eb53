use Rattle.std.{proofs.Common.{◌≡◌, ◌*◌, ◌+◌, ◌≤◌, refl, ℕ, List, ℤ, length, drop, arith}, proofs.lemmas.List.{length-take-le, length-drop}, proofs.Math.Nat.{mul-le-mul_right}, proofs.lemmas.List.FromFn.{length-map-range_with_len}}
use Rattle.array_text.{specs.Text.{column_width, column_widths, number_plane}, proofs.Writing.{grown, flat_map-range_step, part_width}}
use Rattle.array_text.proofs.numbers.I64Printed.push_plane.Goals as goal

as_many_widths : (rows columns : ℕ) (zs : List ℤ) → length (column_widths rows columns zs) ≡ columns
unfolding column_widths
as_many_widths rows columns zs = length-map-range_with_len (column_width rows columns zs) 0 columns

pub push_row-requires : goal.push_row-requires
push_row-requires c =
    let columns = c.args.columns in
    let rest = drop (c.loop-row.row * columns) c.args.numbers.now in
    let end : (c.loop-row.row + 1) * columns ≤ c.args.rows * columns = mul-le-mul_right columns (omega arith) in
    let inside : columns ≤ length rest = omega (arith, length-drop (c.loop-row.row * columns) c.args.numbers.now) in
    let ends = part_width c.loop-row.row columns in
    rw (c.as_slice.ensures.value, c.in_ok-widths.ensures, as_many_widths c.args.rows columns c.args.numbers.now, ends, length-take-le columns rest inside) refl

pub loop-row-preserved : goal.loop-row-preserved
loop-row-preserved c =
    let pushed = rw (part_width, c.as_slice.ensures.value, c.in_ok-widths.ensures) at c.in_ok-push_row.ensures in
    grown _ _ _ _ _ _ pushed c.loop-row.invariant (flat_map-range_step _ c.loop-row.row)

pub returns : goal.returns
unfolding number_plane
returns c = let all : c.loop-row.row ≡ c.args.rows = omega arith in rw all at c.loop-row.invariant
