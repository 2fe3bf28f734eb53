use Rattle.sheet_recalc.proofs.Locality.{stays_unreached}
use Rattle.sheet_recalc.proofs.laws.unreached_names_stay.Goals as goal

pub returns : goal.returns
returns c = stays_unreached
