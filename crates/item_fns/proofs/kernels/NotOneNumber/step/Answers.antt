use Rattle.{std.{proofs.Common.{w64}, proofs.lemmas.Int.{to_z-of_z}}, item_fns.proofs.Doubts.{not_is}}
use Rattle.item_fns.proofs.kernels.NotOneNumber.step.Goals as goal

pub returns : goal.returns
returns c = λ h. not_is c.args.b (rw (to_z-of_z w64 c.args.b c.ranges.b) at c.untrue.ensures h)
