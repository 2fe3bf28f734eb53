use Rattle.{std.proofs.Common.{sym, rules}, index_region.proofs.Boxes.{set_in_front}}
use Rattle.index_region.proofs.intervals.Intervals.with.Goals as goal

pub returns : goal.returns
returns c = set_in_front c.self.inside.rank c.args.axis (c.args.first, c.args.last) c.self.inside.intervals c.args.self (sym c.self.view_is) (search rules)
