use Rattle.std.{proofs.Common.{◌≡◌, ◌≤◌, take, map, Ok, vec_len, vec_capacity}, specs.List.{range_with_len}}
use Rattle.arrays_core.specs.Items.{all_or_first_error}
use Rattle.item_fns.proofs.loops.made.Given as goal

abbrev pub invariant-loop-place : goal.invariant-loop-place
invariant-loop-place g l = record {
  made : all_or_first_error (take l.place (map (g.P.AtPlaces.number l.function) (range_with_len 0 l.count))) ≡ Ok l.results.items;
  long : vec_len l.results ≡ l.place;
  room : l.count ≤ vec_capacity l.results;
}
