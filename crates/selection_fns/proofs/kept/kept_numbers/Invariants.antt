use Rattle.{std.{proofs.Common.{◌≡◌, ◌≤◌, true, take, length, vec_capacity}, specs.List.{list_all}}, selection_fns.{specs.Replicate.{is_bit}, proofs.KeptNumbers.{AreKeptSoFar}}}
use Rattle.selection_fns.proofs.kept.kept_numbers.Given as goal

abbrev pub invariant-loop-place : goal.invariant-loop-place
invariant-loop-place l = record {
  bits : list_all is_bit (take l.place l.counts) ≡ true;
  room : length l.counts ≤ vec_capacity l.kept;
  few : length l.kept.items ≤ l.place;
  so_far : AreKeptSoFar l.counts l.numbers l.place l.kept.items;
}
