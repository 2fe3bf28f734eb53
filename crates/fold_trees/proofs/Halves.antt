-- The widths of the halves of parts, and the places where they meet.
use Rattle.std.{proofs.Common.{◌≡◌, ◌∙◌, ℕ, suc, ◌+◌, ◌-◌, ◌*◌, ◌/◌, ◌^◌, ◌<◌, ◌≤◌, ◌⊎◌, ap, sym, arith, inl, inr}, proofs.lemmas.Nat.{pow_pos, pow-add}, proofs.Math.Nat.{mul-div_cancel, pow-le-pow_right}, proofs.lemmas.Bool.{cases_lt}}

-- different multiples of a step are different
pub steps_apart : (a b step : ℕ) → 0 < step → a * step ≡ b * step → a ≡ b
steps_apart a b step some e = sym (mul-div_cancel a some) ∙ ap (λ n. n / step) e ∙ mul-div_cancel b some

-- an odd multiple of a power of two is an odd multiple of no other power
pub odd_multiples : (a b i j : ℕ) → (2 * a + 1) * 2 ^ i ≡ (2 * b + 1) * 2 ^ j → i ≡ j
odd_multiples a b i j e = elim (cases_lt i j) [
  | inl less ↦ absurd (uneven a b i j less e)
  | inr enough ↦ elim (cases_lt j i) [
    | inl less ↦ absurd (uneven b a j i less (sym e))
    | inr rest ↦ omega (arith, enough, rest)
  ]
]
  where
    uneven : (a b i j : ℕ) → i < j → (2 * a + 1) * 2 ^ i ≡ (2 * b + 1) * 2 ^ j → ⊥
    uneven a b i j less e =
        let more = j - i - 1 in
        let power : 2 ^ j ≡ 2 * 2 ^ more * 2 ^ i = ap (λ k. 2 ^ k) (omega (arith, less)) ∙ pow-add 2 (suc more) i ∙ ap (λ p. p * 2 ^ i) (grind arith) in
        omega (arith, steps_apart (2 * a + 1) (2 * ((2 * b + 1) * 2 ^ more)) (2 ^ i) (pow_pos i) (e ∙ (ap (λ p. (2 * b + 1) * p) power ∙ grind arith)))

-- ---- widths

pub half_up : (level : ℕ) → 2 ^ suc level ≡ 2 * 2 ^ level
half_up level = grind arith

pub half_grows : (low high : ℕ) → low ≤ high → 2 ^ low ≤ 2 ^ high
half_grows low high less = let two : 0 < 2 = omega arith in pow-le-pow_right two less

pub half_doubled : (low high : ℕ) → low < high → 2 * 2 ^ low ≤ 2 ^ high
half_doubled low high less = omega (arith, half_up low, half_grows (suc low) high (omega (arith, less)))

pub half_or_same : (level at : ℕ) → 2 ^ level ≤ 2 ^ at → 2 * 2 ^ level ≤ 2 ^ at ⊎ 2 ^ level ≡ 2 ^ at
half_or_same level at few = elim (cases_lt level at) [
  | inl less ↦ inl (half_doubled level at less)
  | inr enough ↦ inr (omega (arith, half_grows at level enough, few))
]

pub half_below : (low high : ℕ) → 2 ^ low < 2 ^ high → low < high
half_below low high more = elim (cases_lt low high) [
  | inl less ↦ less
  | inr enough ↦ let no : ⊥ = omega (arith, half_grows high low enough, more) in absurd no
]

-- a wider width is a multiple of a narrower one
pub half_times : (low high : ℕ) → low ≤ high → 2 ^ high ≡ 2 ^ (high - low) * 2 ^ low
half_times low high less = let all : high ≡ high - low + low = omega (arith, less) in ap (λ k. 2 ^ k) all ∙ pow-add 2 (high - low) low

-- ---- the places where two halves meet

meets : (level place : ℕ) → place * (2 * 2 ^ level) + 2 ^ level ≡ (2 * place + 1) * 2 ^ level
meets level place = grind arith

-- it is never place 0
pub meeting_some : (level place : ℕ) → 1 ≤ place * (2 * 2 ^ level) + 2 ^ level
meeting_some level place = let p = pow_pos level in omega (arith, p)

-- parts with the same meeting have the same width
pub meetings_apart : (level place other_level other : ℕ) → place * (2 * 2 ^ level) + 2 ^ level ≡ other * (2 * 2 ^ other_level) + 2 ^ other_level → level ≡ other_level
meetings_apart level place other_level other e = odd_multiples place other level other_level (sym (meets level place) ∙ e ∙ meets other_level other)
