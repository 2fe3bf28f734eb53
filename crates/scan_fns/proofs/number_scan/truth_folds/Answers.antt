use Rattle.scan_fns.proofs.NextOutcomes.{truths_closed}
use Rattle.scan_fns.proofs.number_scan.truth_folds.Goals as goal

pub prefix_folds-requires-clause-closed : goal.prefix_folds-requires-clause-closed
prefix_folds-requires-clause-closed g c = rw c.none-none.ensures.same (truths_closed _ c.requires)
