-- Quotients by a reciprocal that is scaled by 2 to the power 64.
use Rattle.std.{proofs.Common.{◌≡◌, ℕ, ◌+◌, ◌-◌, ◌*◌, ◌/◌, ◌%◌, ◌^◌, ◌<◌, ◌≤◌, ap, sym, ◌∙◌, arith}, proofs.lemmas.Nat.{mod_below, div-mul-add, div-add-mod', mul-le}, proofs.Math.Nat.{lt_of_mul-lt-mul_right}}

-- q divisors and a rest r, times a reciprocal that is e too large: q words and less than one more
module _ (q r d m e : ℕ) (is : m * d ≡ 2 ^ 64 + e) (near : e < d) (below : r < d) (few : q * d + r < m) where
  short : (q * d + r) * d < 2 ^ 64
  short =
      let h = mul-le (q * d + r + 1) d m d (omega arith) (omega arith) in
      omega arith

  excess : e * (q * d + r) < 2 ^ 64
  excess = let h = mul-le e (q * d + r) d (q * d + r) (omega arith) (omega arith) in omega (arith, short)

  within : q * e + r * m < 2 ^ 64
  within =
      let word : r * (m * d) ≡ r * (2 ^ 64 + e) = ap (λ n. r * n) is in
      let less : (q * e + r * m) * d < 2 ^ 64 * d = omega (arith, excess) in
      lt_of_mul-lt-mul_right d less

  product : (q * d + r) * m ≡ q * 2 ^ 64 + (q * e + r * m)
  product = let words : q * (m * d) ≡ q * (2 ^ 64 + e) = ap (λ n. q * n) is in omega arith

pub by_reciprocal : (n d m : ℕ) → 2 ≤ d → 2 ^ 64 ≤ m * d → m * d < 2 ^ 64 + d → n < m → n * m / 2 ^ 64 ≡ n / d
by_reciprocal n d m two enough near few =
    let q = n / d in
    let r = n % d in
    let e = m * d - 2 ^ 64 in
    let is : m * d ≡ 2 ^ 64 + e = omega arith in
    let below : r < d = mod_below n d (omega arith) in
    let split : q * d + r ≡ n = div-add-mod' n d in
    let fit : q * d + r < m = omega arith in
    ap (λ a. a * m / 2 ^ 64) (sym split) ∙ ap (λ a. a / 2 ^ 64) (product q r d m e is (omega arith) below fit)
    ∙ div-mul-add q (2 ^ 64) (q * e + r * m) (within q r d m e is (omega arith) below fit)
