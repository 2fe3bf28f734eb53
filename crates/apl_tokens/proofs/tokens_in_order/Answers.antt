use Rattle.apl_tokens.proofs.Order.{in_order}
use Rattle.apl_tokens.proofs.tokens_in_order.Goals as goal

pub returns : goal.returns
returns c = in_order
