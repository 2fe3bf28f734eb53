use Rattle.std.proofs.Common.{length}
use Rattle.selection_fns.proofs.index_places.+places_of.Given as goal

abbrev pub decreases-places_of : goal.decreases-places_of
decreases-places_of l = length l.written.now
