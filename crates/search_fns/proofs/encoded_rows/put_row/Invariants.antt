use Rattle.{std.proofs.Common.{◌≡◌, ℕ, ◌+◌, ◌<◌, ◌≤◌, length, get_or, pos}, item_fns.specs.Numbers.{residue}}
use Rattle.search_fns.proofs.encoded_rows.put_row.Given as goal

abbrev pub invariant-loop-place : goal.invariant-loop-place
invariant-loop-place l = record {
  long : length l.digits ≡ length l.initial.digits;
  made : (k : ℕ) → k < l.place → get_or l.digits (l.before + k) (pos 0) ≡ residue l.radix (get_or l.rests k (pos 0));
  in_front : (m : ℕ) → m < l.before → get_or l.digits m (pos 0) ≡ get_or l.initial.digits m (pos 0);
  behind : (m : ℕ) → l.before + l.place ≤ m → get_or l.digits m (pos 0) ≡ get_or l.initial.digits m (pos 0);
}
