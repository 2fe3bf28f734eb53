use Rattle.{std.proofs.Common.{◌≡◌, ℕ, ◌<◌, length, get_or, pos, Ok}, search_fns.specs.DecodedRows.{with_one_more}}
use Rattle.search_fns.proofs.more_digits.put_checked.Given as goal

abbrev pub invariant-loop-place : goal.invariant-loop-place
invariant-loop-place l = record {
  long : length l.sums ≡ length l.initial.sums;
  made : (k : ℕ) → k < l.place → with_one_more (get_or l.numbers k (pos 0)) l.radix (get_or l.digits k (pos 0)) ≡ Ok (get_or l.sums k (pos 0));
}
