use Rattle.index_region.proofs.Numbers.{numbers_read}
use Rattle.selection_fns.proofs.replicate.summed.Goals as goal

pub returns-in-Some-clause-total : goal.returns-in-Some-clause-total
returns-in-Some-clause-total c = rw (numbers_read c.args.counts.now c.in-Some.list.now c.in-Some.ensures.is.1) c.summed_list.ensures.total

pub returns-in-Some-clause-beyond : goal.returns-in-Some-clause-beyond
returns-in-Some-clause-beyond c = rw (numbers_read c.args.counts.now c.in-Some.list.now c.in-Some.ensures.is.1) c.summed_list.ensures.beyond
