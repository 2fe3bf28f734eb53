use Rattle.{std.proofs.Common.{◌≡◌, ◌-◌, ◌≤◌, pos, vec_len, vec_capacity}, item_fns.specs.Folds.{strided}, index_region.specs.Arguments.{numbers}}
use Rattle.reduce_fns.proofs.right_fold.numbers_apart.Given as goal

abbrev pub invariant-loop-before : goal.invariant-loop-before
invariant-loop-before l = record {
  read : l.numbers.items ≡ strided (pos 0) (numbers l.array) (l.first - 1) l.stride l.before;
  long : vec_len l.numbers ≡ l.before;
  room : l.count ≤ vec_capacity l.numbers;
}
