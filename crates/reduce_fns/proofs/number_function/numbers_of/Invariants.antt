use Rattle.{std.{proofs.Common.{◌≡◌, take, map, Ok, vec_len}, specs.List.{range_with_len}}, arrays_core.specs.Items.{all_or_first_error}}
use Rattle.reduce_fns.proofs.number_function.numbers_of.Given as goal

abbrev pub invariant-loop-place : goal.invariant-loop-place
invariant-loop-place g l = record {
  made : all_or_first_error (take l.place (map (g.F.NumberFunction.number l.function) (range_with_len 0 l.places))) ≡ Ok l.numbers.items;
  long : vec_len l.numbers ≡ l.place;
}
