use Rattle.sheet_recalc.proofs.Dependents.{costs_nothing_unreached}
use Rattle.sheet_recalc.proofs.laws.unreached_nodes_cost_nothing.Goals as goal

pub returns : goal.returns
returns c = costs_nothing_unreached
