-- Radices that are powers of two.
use Rattle.std.proofs.Common.{◌≡◌, ℕ, ◌+◌, ◌-◌, ◌*◌, ◌^◌, ◌<◌, ◌≤◌, ◌++◌, List, [], ◌∷◌, length, map, get_or, take, drop, ap, append_assoc, sym, subst, ◌∙◌, inl, inr, arith, ℤ, pos, SFits, w64, Ok}
use Rattle.std.{specs.Int.{int_shr, trailing_zeros}, proofs.Math.Pow.{pow_mono}, proofs.lemmas.Nat.{pow_pos, pow_below}, proofs.lemmas.Nat.Bits.{bit_at-trailing_zeros, bit_at-pow_same, bit_at-pow_other}, proofs.lemmas.Int.{ints}, proofs.lemmas.Bool.{cases_lt}, proofs.lemmas.List.{take_more, map-append, drop_more, get_or-map, length-map, length-append, get_or_append_left, get_or-append_right}, proofs.Math.Nat.{mul-le-mul_right}}
use Rattle.{arrays_core.specs.Items.{and_then}, item_fns.specs.Numbers.{residue, floor_div}}
use Rattle.search_fns.{specs.Encode.{carried, carried_through, digit}, specs.EncodedRows.{ArePowers, AreRows}, proofs.Bits.{shifted, shift_fits, left_by_shift, not_shifted, shifted_twice}, proofs.DigitRows.{digit_here}}

-- ---- exponents

same_exponent : (a b : ℕ) → 2 ^ a ≡ 2 ^ b → a ≡ b
same_exponent a b e = elim (cases_lt a b) [
  | inl below ↦ let less = pow_below a b below in absurd (omega arith)
  | inr above ↦ elim (cases_lt b a) [
    | inl below ↦ let less = pow_below b a below in absurd (omega arith)
    | inr same ↦ omega arith
  ]
]

pub trailing_of_power : (b : ℕ) → b < 64 → trailing_zeros w64 (2 ^ b) ≡ b
trailing_of_power b few =
    let lowest = bit_at-trailing_zeros w64 (2 ^ b) (pow_pos b) (pow_below b 64 few) in
    let bit = lowest.1 in
    elim (cases_lt (trailing_zeros w64 (2 ^ b)) b) [
      | inl below ↦ let none = bit_at-pow_other b (trailing_zeros w64 (2 ^ b)) (omega arith) in absurd (omega arith)
      | inr above ↦ elim (cases_lt b (trailing_zeros w64 (2 ^ b))) [
        | inl below ↦ let none = lowest.2 b below in let one = bit_at-pow_same b in absurd (omega arith)
        | inr same ↦ omega arith
      ]
    ]

pub exponent_below : (b : ℕ) → SFits w64 (pos (2 ^ b)) → b < 63
exponent_below b f = elim (cases_lt b 63) [
  | inl below ↦ below
  | inr above ↦ let most : 2 ^ 63 ≤ 2 ^ b = pow_mono {i = 63} above in let h = f.sfits in absurd (omega arith)
]

-- ---- the rests that they leave

pub left_by_powers : (radices : List ℤ) (bits : ℕ) (z : ℤ) → ArePowers radices bits → SFits w64 z → carried_through radices z ≡ Ok (int_shr z bits)
left_by_powers [] bits z none f = ap (λ (x : ℤ). Ok x) (sym (ap (int_shr z) none ∙ not_shifted z))
left_by_powers (radix ∷ radices) bits z (own, is, some, few, others) f =
    let later = bits - own in
    let sum : later + own ≡ bits = omega arith in
    ap (λ r. and_then r (carried radix)) (left_by_powers radices later z others f)
    ∙ ap (λ r. carried r (int_shr z later)) is
    ∙ left_by_shift (int_shr z later) own (shift_fits z later f)
    ∙ ap (λ (x : ℤ). Ok x) (shifted_twice z later own ∙ ap (int_shr z) sum)

-- the powers after the first
pub record FirstPower (radices : List ℤ) (k bits own : ℕ) : Type 0 where
  pub some : 1 ≤ own
  pub few : own ≤ bits
  pub others : ArePowers (drop (k + 1) radices) (bits - own)

pub first_power : (radices : List ℤ) (k bits own : ℕ) → k < length radices → ArePowers (drop k radices) bits → get_or radices k (pos 0) ≡ pos (2 ^ own) → FirstPower radices k bits own
first_power radices k bits own below powers is = decide (subst (λ xs. ArePowers xs bits) (drop_more radices k (pos 0) below) powers)
  where
    decide : ArePowers (get_or radices k (pos 0) ∷ drop (k + 1) radices) bits → FirstPower radices k bits own
    decide (other, also, some, few, others) =
        let both : pos (2 ^ own) ≡ pos (2 ^ other) = sym is ∙ also in
        let e : own ≡ other = same_exponent own other (omega (arith, ints)) in
        rw e (record { some = some; few = few; others = others })

-- a power is known by its exponent
pub record HasExponent (z : ℤ) : Type 0 where
  pub exponent : ℕ
  pub is : z ≡ pos (2 ^ exponent)
  pub some : 1 ≤ exponent

pub exponent_there : (radices : List ℤ) (k bits : ℕ) → k < length radices → ArePowers (drop k radices) bits → HasExponent (get_or radices k (pos 0))
exponent_there radices k bits below powers = decide (subst (λ xs. ArePowers xs bits) (drop_more radices k (pos 0) below) powers)
  where
    decide : ArePowers (get_or radices k (pos 0) ∷ drop (k + 1) radices) bits → HasExponent (get_or radices k (pos 0))
    decide (own, is, some, few, others) = record { exponent = own; is = is; some = some }

-- ---- their digits

-- the digit before the powers
pub digit_before : (radices : List ℤ) (k bits : ℕ) (z : ℤ) → ArePowers (drop (k + 1) radices) bits → SFits w64 z
    → digit radices (k + 1) z ≡ Ok (residue (get_or radices k (pos 0)) (floor_div z (pos (2 ^ bits))))
digit_before radices k bits z powers f =
    digit_here radices k z (int_shr z bits) (left_by_powers (drop (k + 1) radices) bits z powers f)
    ∙ ap (λ x. Ok (residue (get_or radices k (pos 0)) x)) (shifted z bits)

-- one more row
pub one_more_row : (radices zs : List ℤ) (rows : ℕ) (old new : List ℤ) (f : ℤ → ℤ) → AreRows radices zs rows old → new ≡ old ++ map f zs
    → ((j : ℕ) → j < length zs → digit radices (rows + 1) (get_or zs j (pos 0)) ≡ Ok (f (get_or zs j (pos 0))))
    → AreRows radices zs (rows + 1) new
one_more_row radices zs rows old new f are is digits =
    let n = length zs in
    let row = length-map zs f in
    record {
      long = ap length is ∙ length-append old (map f zs) ∙ omega (arith, are.long, row);
      each = λ k j high inside. elim (cases_lt k rows) [
        | inl below ↦
            let more : (k + 1) * n ≤ rows * n = mul-le-mul_right n (omega arith) in
            are.each k j below inside
            ∙ ap (λ (x : ℤ). Ok x) (sym (ap (λ xs. get_or xs (k * n + j) (pos 0)) is ∙ get_or_append_left old (map f zs) (pos 0) (k * n + j) (omega (arith, are.long))))
        | inr above ↦
            let e : k ≡ rows = omega arith in
            let place : k * n + j - rows * n ≡ j = rw e (omega arith) in
            let from : rows * n ≤ k * n + j = rw e (omega arith) in
            ap (λ p. digit radices (p + 1) (get_or zs j (pos 0))) e ∙ digits j inside
            ∙ ap (λ (x : ℤ). Ok x) (sym (ap (λ xs. get_or xs (k * n + j) (pos 0)) is
            ∙ get_or-append_right old (map f zs) (rows * n) (k * n + j) (pos 0) are.long from
            ∙ ap (λ p. get_or (map f zs) p (pos 0)) place
            ∙ get_or-map f zs j (pos 0) (pos 0) inside))
      ];
    }

pub no_rows : (radices zs : List ℤ) → AreRows radices zs 0 []
no_rows radices zs = record { long = omega arith; each = λ k j high inside. absurd (omega arith) }

-- one more number of a row
pub one_more_number : (f : ℤ → ℤ) (before old new zs : List ℤ) (k : ℕ) (y : ℤ) → k < length zs → old ≡ before ++ map f (take k zs) → new ≡ old ++ y ∷ [] → y ≡ f (get_or zs k (pos 0))
    → new ≡ before ++ map f (take (k + 1) zs)
one_more_number f before old new zs k y below made is value =
    is ∙ ap (λ xs. xs ++ y ∷ []) made ∙ append_assoc before (map f (take k zs)) (y ∷ [])
    ∙ ap (λ xs. before ++ xs) (ap (λ x. map f (take k zs) ++ x ∷ []) value ∙ sym (map-append f (take k zs) (get_or zs k (pos 0) ∷ [])) ∙ ap (map f) (sym (take_more zs k (pos 0) below)))
