use Rattle.std.{proofs.Common.{◌≡◌, ◌≤◌, ◌+◌, map, pos, vec_len, vec_capacity}, specs.List.{range_with_len}}
use Rattle.selection_fns.proofs.index_generator.first_numbers.Given as goal

abbrev pub invariant-loop-k : goal.invariant-loop-k
invariant-loop-k l = record { room : vec_len l.numbers + l.count ≤ vec_capacity l.numbers + l.k; made : l.numbers.items ≡ map pos (range_with_len 1 l.k) }
