use Rattle.{std.proofs.Common.{◌≡◌, ℕ, ◌+◌, ◌*◌, ◌<◌, ◌≤◌, drop, length, get_or, pos, Ok}, search_fns.specs.Encode.{carried_through, digit}}
use Rattle.search_fns.proofs.encoded_rows.put_rows.Given as goal

abbrev pub invariant-loop-place : goal.invariant-loop-place
invariant-loop-place l = record {
  carried : (j : ℕ) → j < l.places → carried_through (drop l.place l.radices) (get_or l.initial.rests j (pos 0)) ≡ Ok (get_or l.rests j (pos 0));
  low : 1 ≤ length l.radices → 1 ≤ l.place;
  made : (k j : ℕ) → l.place ≤ k → k < length l.radices → j < l.places → digit l.radices (k + 1) (get_or l.initial.rests j (pos 0)) ≡ Ok (get_or l.digits (k * l.places + j) (pos 0));
}
