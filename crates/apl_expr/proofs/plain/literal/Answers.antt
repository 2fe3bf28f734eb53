use Rattle.std.proofs.Common.{refl}
use Rattle.apl_expr.proofs.plain.literal.Goals as goal

pub returns-in-len1-clause-plain : goal.returns-in-len1-clause-plain
returns-in-len1-clause-plain c = refl
