use Rattle.{std.{proofs.Common.{refl, arith}, proofs.Math.Seq.{take-append_seam}}, names.{proofs.Names.{name_room, name_zeros}, specs.Limits.{longest_name}}}
use Rattle.names.proofs.name.Name.of_letters.Goals as goal

pub invariant_of-result : goal.invariant_of-result
invariant_of-result c = rw c.copy_from_slice.ensures.after (omega arith, name_room longest_name _ c.args.letters.now refl (omega arith), name_zeros longest_name _ c.args.letters.now refl (omega arith), rw take-append_seam (c.requires), refl)
