use Rattle.std.{proofs.Common.{arith}, proofs.lemmas.Grind.{common_steps}}
use Rattle.selection_fns.proofs.index_generator.IndexGeneratorPrimitive.shape_of.Goals as goal

pub returns : goal.returns
returns c = grind (arith, common_steps)
