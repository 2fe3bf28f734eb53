use Rattle.sheet_recalc.proofs.Arising.{errors_arise}
use Rattle.sheet_recalc.proofs.laws.errors_arise_where_reached.Goals as goal

pub returns : goal.returns
returns c = errors_arise
