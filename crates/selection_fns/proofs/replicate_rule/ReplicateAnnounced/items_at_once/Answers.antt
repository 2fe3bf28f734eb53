use Rattle.{std.proofs.Common.{arith}, change_core.proofs.Filling.{few_places}}
use Rattle.selection_fns.proofs.replicate_rule.ReplicateAnnounced.items_at_once.Goals as goal

pub is_small-requires : goal.is_small-requires
is_small-requires c = omega (arith, few_places c.args.region.now c.args.shape.now c.requires.fit c.requires.within)
