use Rattle.{std.proofs.Common.{◌≡◌, ◌<◌, ℕ, get_or, false}, arrays_core.specs.Items.{fill}, search_fns.specs.SameItem.{same_item}}
use Rattle.search_fns.proofs.index_of.first_place.Given as goal

abbrev pub invariant-loop-before : goal.invariant-loop-before
invariant-loop-before l = (k : ℕ) → k < l.before → same_item l.item (get_or l.array.items k (fill l.array.item_type)) ≡ false
