use Rattle.{std.proofs.Common.{sym}, selection_fns.proofs.ResultAxes.{none_selected}}
use Rattle.selection_fns.proofs.index_rule.IndexAnnounced.selects.Goals as goal

pub returns : goal.returns
returns c = sym (none_selected c.args.self.now.written.now c.args._which)
