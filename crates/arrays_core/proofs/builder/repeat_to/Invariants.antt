use Rattle.{std.proofs.Common.{◌≡◌, ◌≤◌, ◌<◌, ◌-◌, ◌%◌, get_or, length}, arrays_core.specs.Building.{listed}}
use Rattle.arrays_core.proofs.builder.repeat_to.Given as goal

abbrev pub invariant-loop-items : goal.invariant-loop-items
invariant-loop-items g l = record {
  low : length l.fn.items.items ≤ length l.items.items;
  high : length l.items.items ≤ l.places;
  whole : length l.items.items < l.places → length l.items.items % length l.fn.items.items ≡ 0;
  made : (d : g.row.T.Denot) → l.items.items ≡ listed (length l.items.items) (λ k. get_or l.fn.items.items (k % length l.fn.items.items) d);
}

abbrev pub decreases-loop-items : goal.decreases-loop-items
decreases-loop-items g l = l.places - length l.items.items
