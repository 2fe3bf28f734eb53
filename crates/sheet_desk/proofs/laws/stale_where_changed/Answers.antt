use Rattle.sheet_desk.proofs.Kept.{stale_changed}
use Rattle.sheet_desk.proofs.laws.stale_where_changed.Goals as goal

pub returns : goal.returns
returns c = stale_changed
