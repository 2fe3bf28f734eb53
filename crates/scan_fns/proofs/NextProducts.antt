-- The product for the next number after one more number.
use Rattle.std.{proofs.Common.{◌≡◌, ℕ, suc, zero, ◌+◌, ◌*◌, ◌/◌, ◌<◌, ◌≤◌, ◌^◌, min, nat_le, nat_lt, refl, ap, sym, ◌∙◌, arith, Bool, true, false, if◌then◌else◌, ℤ, pos, negsuc, neg_ℤ, unsigned_abs, ◌*ℤ◌, ◌≤ℤ◌, ◌<ℤ◌, SFits, w64, Err}, specs.Bool.{Decides}, proofs.lemmas.Int.{ints}}
use Rattle.std.{proofs.lemmas.Bool.{leb-true, ltb-true, lt-ltb, le-leb}, proofs.lemmas.Bool.Decides.{same_from_decides}, proofs.Math.Nat.{le-div_iff_mul-le}}
use Rattle.{arrays_core.{specs.declared.item.Kind.TheVariants.{Limit}, specs.Items.{and_then}}, item_fns.specs.Numbers.{is_number, number_or_limit}}
use Rattle.scan_fns.specs.Prefixes.{lies_within, product}
use borrow.Author.Differences.{up, down, product_is}

up_to : (a b : ℕ) → Decides (nat_le a b) (a ≤ b)
up_to a b = (λ e. leb-true a b e, λ h. le-leb a b h)

below : (a b : ℕ) → Decides (nat_lt a b) (a < b)
below a b = (λ e. ltb-true a b e, λ h. lt-ltb a b h)

same : {P Q : Type 0} (a b : Bool) → Decides a P → Decides b Q → (P → Q) → (Q → P) → a ≡ b
same a b one other to from = same_from_decides a b one (λ e. from (other.0 e), λ h. other.1 (to h))

-- a number below 0 within the margin
low_margin : (low high p : ℕ) → 0 < p → Decides (lies_within low high (neg_ℤ (pos p))) (p ≤ low)
low_margin low high zero h = absurd (omega arith)
low_margin low high (suc n) h = (λ e. let r = (below n low).0 e in omega arith, λ g. (below n low).1 (omega arith))

-- a margin divided by a number above 0
module _ (low high m : ℕ) where
  low_quotient : (n : ℕ) → (n < low / suc m → suc m * suc n ≤ low) × (suc m * suc n ≤ low → n < low / suc m)
  low_quotient n =
      let both = le-div_iff_mul-le {k = suc m} {x = suc n} {y = low} (omega arith) in
      (λ h. let r : suc n * suc m ≤ low = both.0 (omega arith) in omega arith, λ h. let r : suc n ≤ low / suc m = both.1 (omega arith) in omega arith)

  high_quotient : (n : ℕ) → (n ≤ high / suc m → suc m * n ≤ high) × (suc m * n ≤ high → n ≤ high / suc m)
  high_quotient n =
      let both = le-div_iff_mul-le {k = suc m} {x = n} {y = high} (omega arith) in
      (λ h. let r : n * suc m ≤ high = both.0 h in omega arith, λ h. both.1 (omega arith))

pub margin_above : (low high m : ℕ) (v : ℤ) → lies_within (low / suc m) (high / suc m) v ≡ lies_within low high (pos (suc m) *ℤ v)
margin_above low high m (pos n) =
    let q = high_quotient low high m n in
    same (nat_le n (high / suc m)) (nat_le (suc m * n) high) (up_to n (high / suc m)) (up_to (suc m * n) high) q.0 q.1
margin_above low high m (negsuc n) =
    let q = low_quotient low high m n in
    same (nat_lt n (low / suc m)) (lies_within low high (neg_ℤ (pos (suc m * suc n)))) (below n (low / suc m)) (low_margin low high (suc m * suc n) (omega arith)) q.0 q.1

-- a margin divided by a number below 0
pub margin_below : (low high m : ℕ) (v : ℤ) → SFits w64 v → lies_within (high / suc m) (min (low / suc m) 9223372036854775807) v ≡ lies_within low high (negsuc m *ℤ v)
margin_below low high m (negsuc n) fits =
    let q = low_quotient high low m n in
    same (nat_lt n (high / suc m)) (nat_le (suc m * suc n) high) (below n (high / suc m)) (up_to (suc m * suc n) high) q.0 q.1
margin_below low high m (pos zero) fits =
    let none : suc m * 0 ≡ 0 = omega arith in
    le-leb 0 (min (low / suc m) 9223372036854775807) (omega arith) ∙ sym (le-leb 0 high (omega arith)) ∙ ap (λ p. lies_within low high (neg_ℤ (pos p))) (sym none)
margin_below low high m (pos (suc n)) fits =
    let q = high_quotient high low m (suc n) in
    same (nat_le (suc n) (min (low / suc m) 9223372036854775807)) (lies_within low high (neg_ℤ (pos (suc m * suc n)))) (up_to (suc n) (min (low / suc m) 9223372036854775807))
    (low_margin low high (suc m * suc n) (omega arith)) (λ h. q.0 (omega arith)) (λ h. let r = q.1 h in omega arith)

-- a number within the margin fits 64 bits
margin_number : (low high : ℕ) (z : ℤ) → low ≤ 2 ^ 63 → high < 2 ^ 63 → lies_within low high z ≡ true → is_number z ≡ true
margin_number low high (pos n) l h e = let r = leb-true n high e in lt-ltb n (2 ^ 63) (omega arith)
margin_number low high (negsuc n) l h e = let r = ltb-true n low e in lt-ltb n (2 ^ 63) (omega arith)

mul_assoc : (a b c : ℤ) → a *ℤ b *ℤ c ≡ a *ℤ (b *ℤ c)
mul_assoc a b c =
    let ab = product_is a b in
    let bc = product_is b c in
    let l1 : up (a *ℤ b) * up c ≡ (up a * up b + down a * down b) * up c = ap (λ n. n * up c) ab.0 in
    let l2 : down (a *ℤ b) * down c ≡ (up a * down b + down a * up b) * down c = ap (λ n. n * down c) ab.1 in
    let l3 : up (a *ℤ b) * down c ≡ (up a * up b + down a * down b) * down c = ap (λ n. n * down c) ab.0 in
    let l4 : down (a *ℤ b) * up c ≡ (up a * down b + down a * up b) * up c = ap (λ n. n * up c) ab.1 in
    let r1 : up a * up (b *ℤ c) ≡ up a * (up b * up c + down b * down c) = ap (λ n. up a * n) bc.0 in
    let r2 : down a * down (b *ℤ c) ≡ down a * (up b * down c + down b * up c) = ap (λ n. down a * n) bc.1 in
    let r3 : up a * down (b *ℤ c) ≡ up a * (up b * down c + down b * up c) = ap (λ n. up a * n) bc.1 in
    let r4 : down a * up (b *ℤ c) ≡ down a * (up b * up c + down b * down c) = ap (λ n. down a * n) bc.0 in
    omega (arith, ints)

pub next_product : (total x v : ℤ) (low high new_low new_high : ℕ) → low ≤ 2 ^ 63 → high < 2 ^ 63 → lies_within new_low new_high v ≡ lies_within low high (x *ℤ v)
    → product (total *ℤ x) new_low new_high v ≡ and_then (number_or_limit (x *ℤ v)) (product total low high)
next_product total x v low high new_low new_high fit_low fit_high there =
    ap (λ b. if b then number_or_limit (total *ℤ x *ℤ v) else Err Limit) there
    ∙ ap (λ t. if lies_within low high (x *ℤ v) then number_or_limit t else Err Limit) (mul_assoc total x v)
    ∙ decide (lies_within low high (x *ℤ v)) refl (is_number (x *ℤ v)) refl
  where
    decide : (b : Bool) → lies_within low high (x *ℤ v) ≡ b → (w : Bool) → is_number (x *ℤ v) ≡ w
        → (if lies_within low high (x *ℤ v) then number_or_limit (total *ℤ (x *ℤ v)) else Err Limit) ≡ and_then (number_or_limit (x *ℤ v)) (product total low high)
    decide true e w f = rw (margin_number low high (x *ℤ v) fit_low fit_high e, e) refl
    decide false e true f = rw (f, e) refl
    decide false e false f = rw (f, e) refl

-- ---- quotients of a margin

module _ (low high : ℕ) where
  pub by_none : (x v : ℤ) (new_low new_high : ℕ) → unsigned_abs x ≡ 0 → lies_within new_low new_high v ≡ true → lies_within new_low new_high v ≡ lies_within low high (x *ℤ v)
  by_none (negsuc n) v new_low new_high e all = absurd (omega arith)
  by_none (pos (suc n)) v new_low new_high e all = absurd (omega arith)
  by_none (pos zero) (pos n) new_low new_high e all = let none : 0 * n ≡ 0 = omega arith in all ∙ sym (le-leb 0 high (omega arith)) ∙ ap (λ p. nat_le p high) (sym none)
  by_none (pos zero) (negsuc n) new_low new_high e all =
      let none : 0 * suc n ≡ 0 = omega arith in all ∙ sym (le-leb 0 high (omega arith)) ∙ ap (λ p. lies_within low high (neg_ℤ (pos p))) (sym none)

  pub by_above : (x v : ℤ) (new_low new_high : ℕ) → pos 0 ≤ℤ x → 0 < unsigned_abs x → new_low ≡ low / unsigned_abs x → new_high ≡ high / unsigned_abs x
      → lies_within new_low new_high v ≡ lies_within low high (x *ℤ v)
  by_above (negsuc m) v new_low new_high above some low_is high_is = absurd (omega (arith, ints))
  by_above (pos zero) v new_low new_high above some low_is high_is = absurd (omega arith)
  by_above (pos (suc m)) v new_low new_high above some low_is high_is = rw (low_is, high_is) (margin_above low high m v)

  pub by_below : (x v : ℤ) (new_low new_high : ℕ) → x <ℤ pos 0 → SFits w64 v → new_low ≡ high / unsigned_abs x → new_high ≡ min (low / unsigned_abs x) 9223372036854775807
      → lies_within new_low new_high v ≡ lies_within low high (x *ℤ v)
  by_below (pos n) v new_low new_high less fits low_is high_is = absurd (omega (arith, ints))
  by_below (negsuc m) v new_low new_high less fits low_is high_is = rw (low_is, high_is) (margin_below low high m v fits)
