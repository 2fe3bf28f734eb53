use Rattle.{std.proofs.Common.{◌≡◌, ℕ, ◌+◌, ◌<◌, ◌≤◌, length, get_or, pos, Ok}, item_fns.specs.Numbers.{residue}, search_fns.specs.Encode.{carried}}
use Rattle.search_fns.proofs.encoded_rows.put_row_and_carry.Given as goal

abbrev pub invariant-loop-place : goal.invariant-loop-place
invariant-loop-place l = record {
  long : length l.digits ≡ length l.initial.digits;
  made : (k : ℕ) → k < l.place → get_or l.digits (l.before + k) (pos 0) ≡ residue l.radix (get_or l.initial.rests k (pos 0));
  in_front : (m : ℕ) → m < l.before → get_or l.digits m (pos 0) ≡ get_or l.initial.digits m (pos 0);
  behind : (m : ℕ) → l.before + l.place ≤ m → get_or l.digits m (pos 0) ≡ get_or l.initial.digits m (pos 0);
  many : length l.rests ≡ length l.initial.rests;
  carried : (k : ℕ) → k < l.place → carried l.radix (get_or l.initial.rests k (pos 0)) ≡ Ok (get_or l.rests k (pos 0));
  left : (k : ℕ) → l.place ≤ k → get_or l.rests k (pos 0) ≡ get_or l.initial.rests k (pos 0);
}
