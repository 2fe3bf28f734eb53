use Rattle.{std.proofs.Common.{◌∙◌, length, ap, sym}, index_region.proofs.Boxes.{length-hull}}
use Rattle.selection_fns.proofs.index_rule.with_place.Goals as goal

pub returns-in-Some-clause-long : goal.returns-in-Some-clause-long
returns-in-Some-clause-long c = ap length c.hull.ensures ∙ length-hull c.args.place c.in-Some.found (let same = rw c.in-Some.is at c.requires in sym same)
