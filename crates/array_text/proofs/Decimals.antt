-- A number of few digits is less than a power of ten.
use Rattle.std.{proofs.Common.{◌≡◌, ℕ, ◌^◌, ◌<◌, ◌≤◌, nat_lt, Bool, true, false, List, length, Some, refl, arith}, specs.List.{prefix_len}, specs.Char.{is_ascii_digit}, proofs.Math.Nat.{pow-le-pow_right}, proofs.lemmas.Bool.Decides.{nat_tests}, proofs.lemmas.List.{drop_all, take_all}}
use Rattle.{apl_tokens.specs.Characters.{decimal_from, fits_number, signed}, array_text.specs.Tables.{digits_number, unsigned_number}}

-- i digits are a number below ten to the power n, for i at most n
pub below_power : (m i n : ℕ) → m < 10 ^ i → i ≤ n → m < 10 ^ n
below_power m i n below few = let most : 10 ^ i ≤ 10 ^ n = pow-le-pow_right {n = 10} (omega arith) few in omega (arith, most)

few_fit : (is_negative : Bool) (n : ℕ) → n < 10 ^ 18 → fits_number is_negative n ≡ true
few_fit true n small = grind (arith, nat_tests)
few_fit false n small = grind (arith, nat_tests)

-- a few bytes that are digits alone are the number of these digits
pub few_alone : (is_negative : Bool) (bytes : List ℕ) (n : ℕ) → 0 < length bytes → prefix_len is_ascii_digit bytes ≡ length bytes → n ≡ decimal_from 0 bytes → n < 10 ^ 18
    → unsigned_number is_negative bytes ≡ Some (signed is_negative n)
unfolding unsigned_number digits_number
few_alone is_negative bytes n some digits is small =
    let there : nat_lt 0 (length bytes) ≡ true = grind (arith, nat_tests) in
    rw (digits, drop_all (length bytes) bytes (omega arith), take_all (length bytes) bytes (omega arith), there, ← is, few_fit is_negative n small) refl
