use Rattle.sheet_desk.proofs.AsPlain.{opened_as_plain}
use Rattle.sheet_desk.proofs.laws.opened_is_as_plain.Goals as goal

pub returns : goal.returns
returns c = opened_as_plain
