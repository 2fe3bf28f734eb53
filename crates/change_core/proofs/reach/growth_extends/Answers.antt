use Rattle.change_core.proofs.reach.growth_extends.Goals as goal

pub returns : goal.returns
returns g c = g.met.R.Rule.growing c.args.rule.now
