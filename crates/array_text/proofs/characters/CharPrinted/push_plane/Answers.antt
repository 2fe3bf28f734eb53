use Rattle.{std.proofs.Common.{◌≡◌, arith}, array_text.{specs.Text.{character_plane}, proofs.Writing.{grown, flat_map-range_step, part_width}}}
use Rattle.array_text.proofs.characters.CharPrinted.push_plane.Goals as goal

pub loop-row-preserved : goal.loop-row-preserved
loop-row-preserved c = grown _ _ _ _ _ _ (rw part_width at c.in_ok-push_line.ensures) c.loop-row.invariant (flat_map-range_step _ c.loop-row.row)

pub returns : goal.returns
unfolding character_plane
returns c = let all : c.loop-row.row ≡ c.args.rows = omega arith in rw all at c.loop-row.invariant
