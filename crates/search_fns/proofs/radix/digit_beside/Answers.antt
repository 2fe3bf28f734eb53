use Rattle.search_fns.proofs.Leftovers.{digit_by_left}
use Rattle.search_fns.proofs.radix.digit_beside.Goals as goal

pub returns : goal.returns
returns c = digit_by_left c.args.radix c.args.number c.args.left c.ranges.radix c.ranges.number c.ranges.left c.requires
