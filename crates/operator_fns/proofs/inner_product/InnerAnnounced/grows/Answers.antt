use Rattle.std.proofs.Common.{refl}
use Rattle.operator_fns.proofs.inner_product.InnerAnnounced.grows.Goals as goal

pub returns : goal.returns
returns c = refl
