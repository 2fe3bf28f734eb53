use Rattle.{std.{proofs.Common.{w64}, proofs.lemmas.Int.{to_z-of_z}}, item_fns.proofs.Signs.{magnitude_fits}}
use Rattle.item_fns.proofs.kernels.MagnitudeOneNumber.at.Goals as goal

pub returns : goal.returns
returns c = c.in_range.ensures _ (magnitude_fits _ c.args.b c.ranges.b (rw (to_z-of_z w64 c.args.b c.ranges.b) at c.checked_abs.ensures))
