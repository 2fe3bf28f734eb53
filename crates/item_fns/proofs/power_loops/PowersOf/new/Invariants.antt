use Rattle.{std.proofs.Common.{◌≡◌, ◌<◌, ℕ, pos, length, get_or, Ok}, item_fns.specs.Numbers.{power}}
use Rattle.item_fns.proofs.power_loops.PowersOf.new.Given as goal

abbrev pub invariant-loop-exponent : goal.invariant-loop-exponent
invariant-loop-exponent l = record {
  long : length l.powers ≡ 64;
  count : l.count ≡ l.exponent;
  is : (k : ℕ) → k < l.count → power l.base (pos k) ≡ Ok (get_or l.powers k (pos 0));
}
