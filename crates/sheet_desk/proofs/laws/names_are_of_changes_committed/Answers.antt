use Rattle.sheet_desk.proofs.Committed.{names_committed}
use Rattle.sheet_desk.proofs.laws.names_are_of_changes_committed.Goals as goal

pub returns : goal.returns
returns c = names_committed
