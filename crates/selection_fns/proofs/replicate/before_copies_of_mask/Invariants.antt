use Rattle.{std.proofs.Common.{◌≡◌, ◌+◌, length, map, take, unsigned_abs}, selection_fns.proofs.Copies.{AreBefore}}
use Rattle.selection_fns.proofs.replicate.before_copies_of_mask.Given as goal

abbrev pub invariant-loop-place : goal.invariant-loop-place
invariant-loop-place l = record {
  room : length l.before.items ≡ l.total + 1;
  counted : length (take l.copies l.before.items) ≡ l.copies;
  made : AreBefore (map unsigned_abs l.counts) l.place (take l.copies l.before.items);
}
