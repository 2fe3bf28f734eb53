-- Binary digits.
use Rattle.std.{proofs.Common.{◌≡◌, ℕ, zero, suc, ◌+◌, ◌*◌, ◌^◌, ◌<◌, ◌≤◌, Bool, cond, nat_le, ap, subst, arith, inl, inr}, specs.List.{count_by, range_with_len}, proofs.lemmas.Bool.{cases_Bool, leb-false}, proofs.lemmas.List.Sums.{sum_by-cons}, proofs.Math.Nat.{pow-succ'}, proofs.Math.Pow.{pow-lt}}
use Rattle.formula_core.specs.Joins.{binary_digits}

higher : (a b : ℕ) → 2 ^ a ≤ 2 ^ (a + b)
higher a zero = let same : a ≡ a + 0 = omega arith in subst (λ k. 2 ^ a ≤ 2 ^ k) same (omega arith)
higher a (suc b) = let below : 2 ^ a < 2 ^ (a + suc b) = pow-lt (omega arith) in omega (arith, below)

one_more : (a all rest first : ℕ) → all ≡ first + rest → first ≡ 1 → a + 1 + rest ≡ a + all
one_more a all rest first is one = omega (arith, is, one)

-- a number is less than the first power of two that exceeds it
below_counted : (a m n : ℕ) → n < 2 ^ (a + m) → n < 2 ^ (a + count_by (λ k. nat_le (2 ^ k) n) (range_with_len a m))
below_counted a zero n h = h
below_counted a (suc m) n h =
    let rest = count_by (λ k. nat_le (2 ^ k) n) (range_with_len (a + 1) m) in
    let all = count_by (λ k. nat_le (2 ^ k) n) (range_with_len a (suc m)) in
    let first : all ≡ cond (nat_le (2 ^ a) n) 1 0 + rest = sum_by-cons (λ k. cond (nat_le (2 ^ k) n) 1 0) a (range_with_len (a + 1) m) in
    let further : a + suc m ≡ a + 1 + m = omega arith in
    elim (cases_Bool (nat_le (2 ^ a) n)) [
      | inl t ↦
          let one : cond (nat_le (2 ^ a) n) 1 0 ≡ 1 = ap {B = ℕ} (λ (b : Bool). cond b 1 0) t in
          let same : a + 1 + rest ≡ a + all = one_more a all rest _ first one in
          subst (λ k. n < 2 ^ k) same (below_counted (a + 1) m n (subst (λ k. n < 2 ^ k) further h))
      | inr f ↦
          let below : n < 2 ^ a = leb-false (2 ^ a) n f in
          omega (arith, below, higher a all)
    ]

below_power : (n : ℕ) → n < 2 ^ n
below_power zero = omega arith
below_power (suc n) = let h = below_power n in let twice : 2 ^ suc n ≡ 2 * 2 ^ n = pow-succ' 2 n in omega (arith, h, twice)

-- a number fits into its binary digits
pub within_digits : (n : ℕ) → n < 2 ^ binary_digits n
within_digits n =
    let from : n ≡ 0 + n = omega arith in
    let digits : 0 + binary_digits n ≡ binary_digits n = omega arith in
    subst (λ k. n < 2 ^ k) digits (below_counted 0 n n (subst (λ k. n < 2 ^ k) from (below_power n)))

-- a number of at most 2 has at least that many digits
pub few_within_digits : (n : ℕ) → n ≤ 2 → n ≤ binary_digits n
few_within_digits zero h = omega arith
few_within_digits (suc zero) h = omega arith
few_within_digits (suc (suc zero)) h = omega arith
few_within_digits (suc (suc (suc n))) h = absurd (omega (arith, h))
