use Rattle.scalar_fns.proofs.ScalarAnswers.{checked_rank}
use Rattle.scalar_fns.proofs.each_dyadic.EachDyadicAnnounced.box_of.Goals as goal

pub whole-requires : goal.whole-requires
whole-requires c = checked_rank c.args.args.now c.index-args-0.result c.index-args-1.result c.args.shape.now c.requires.count c.index-args-0.is c.index-args-1.is c.shape-left.ensures.sound c.shape-right.ensures.sound c.requires.checked
