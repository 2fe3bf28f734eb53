use Rattle.formula_core.proofs.Told.{refreshed_by}
use Rattle.formula_core.proofs.refreshing.Operation.by.Goals as goal

pub returns-clause-refreshed : goal.returns-clause-refreshed
returns-clause-refreshed g c =
    refreshed_by (g.R.Rule.model c.args.rule.now) c.args.self.now.seen.now c.args.self.now.moved.now c.args.self.now.held.now _ _ c.change_of.new.change c.change_of.result
    c.change_of.ensures.delta c.change_of.ensures.cost c.change_of.ensures.ticks c.change_of.ensures.exact c.change_of.ensures.rises
