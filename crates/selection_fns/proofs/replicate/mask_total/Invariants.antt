use Rattle.selection_fns.proofs.Copies.{IsMaskSoFar}
use Rattle.selection_fns.proofs.replicate.mask_total.Given as goal

abbrev pub invariant-loop-count : goal.invariant-loop-count
invariant-loop-count l = IsMaskSoFar l.counts l.count-index l.are_bits l.ones
