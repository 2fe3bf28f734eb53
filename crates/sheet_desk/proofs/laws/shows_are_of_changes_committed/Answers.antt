use Rattle.sheet_desk.proofs.Committed.{shows_committed}
use Rattle.sheet_desk.proofs.laws.shows_are_of_changes_committed.Goals as goal

pub returns : goal.returns
returns c = shows_committed
