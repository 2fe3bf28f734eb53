use Rattle.change_core.proofs.Covers.{covers, reaches_inside}
use Rattle.change_core.proofs.reach.reach_covers.Goals as goal

pub returns-clause-covers : goal.returns-clause-covers
returns-clause-covers g c = covers (g.R.Rule.model c.args.rule.now) (g.met.R.Rule.tight c.args.rule.now)

pub returns-clause-lies : goal.returns-clause-lies
returns-clause-lies g c = reaches_inside (g.R.Rule.model c.args.rule.now)
