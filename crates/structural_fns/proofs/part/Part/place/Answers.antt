use Rattle.std.proofs.Common.{arith}
use Rattle.structural_fns.proofs.Parts.{small_indices}
use Rattle.structural_fns.proofs.part.Part.place.Goals as goal

pub invariant_of-source : goal.invariant_of-source
invariant_of-source c =
    let within = c.shape.ensures.sound.within in
    record { rank = omega (arith, within.rank, c.args.self.now.is.as_many); few = small_indices c.args.self.now.array.now.shape _ within.axes c.requires }
