-- The difference for the next number after one more number.
use Rattle.std.{proofs.Common.{◌≡◌, suc, zero, refl, ap, ◌∙◌, arith, Bool, true, false, not, ◌&&◌, if◌then◌else◌, ℤ, pos, negsuc, ◌+ℤ◌, ◌-ℤ◌, ◌≤ℤ◌, SFits, w64, Err}, specs.Prelude.{int_le}, specs.Int.{saturate_signed}, specs.Bool.{Decides}, proofs.lemmas.Int.{ints}, proofs.lemmas.Bool.{and_parts}}
use Rattle.std.{proofs.lemmas.Bool.Decides.{same_from_decides}, proofs.Math.Bool.{and_comm}}
use Rattle.arrays_core.{specs.declared.item.Kind.TheVariants.{Limit}, specs.Items.{and_then}}
use Rattle.{item_fns.{specs.Numbers.{is_number, number_or_limit}, proofs.Within.{Within, within_of, held_within}}, scan_fns.specs.Prefixes.{difference}}

at_most : (a b : ℤ) → Decides (int_le a b) (a ≤ℤ b)
at_most a b = (λ e. grind (arith, ints), λ h. grind (arith, ints))

same_order : (a b c d : ℤ) → (a ≤ℤ b → c ≤ℤ d) → (c ≤ℤ d → a ≤ℤ b) → int_le a b ≡ int_le c d
same_order a b c d to from =
    let other = at_most c d in
    same_from_decides (int_le a b) (int_le c d) (at_most a b) (λ e. from (other.0 e), λ h. other.1 (to h))

-- a bound saturated to 64 bits in place of one beyond them
low_of : (z v : ℤ) → Within v → z ≤ℤ pos 0 → int_le (saturate_signed w64 z) v ≡ int_le z v
low_of (pos zero) v h low = refl
low_of (pos (suc n)) v h low = absurd (omega (arith, ints))
low_of (negsuc n) v h low = same_order (saturate_signed w64 (negsuc n)) v (negsuc n) v (λ e. omega (arith, ints)) (λ e. omega (arith, ints))

high_of : (z v : ℤ) → Within v → pos 0 ≤ℤ z → int_le v (saturate_signed w64 z) ≡ int_le v z
high_of (negsuc n) v h high = absurd (omega (arith, ints))
high_of (pos n) v h high = same_order v (saturate_signed w64 (pos n)) v (pos n) (λ e. omega (arith, ints)) (λ e. omega (arith, ints))

lies_within : (low high x v : ℤ) → low ≤ℤ x → x ≤ℤ high → Within v
    → (int_le (saturate_signed w64 (x -ℤ high)) v && int_le v (saturate_signed w64 (x -ℤ low))) ≡ (int_le low (x -ℤ v) && int_le (x -ℤ v) high)
lies_within low high x v above below h =
    let first : int_le (saturate_signed w64 (x -ℤ high)) v ≡ int_le (x -ℤ v) high =
    low_of (x -ℤ high) v h (omega (arith, ints)) ∙ same_order (x -ℤ high) v (x -ℤ v) high (λ e. omega (arith, ints)) (λ e. omega (arith, ints)) in
    let second : int_le v (saturate_signed w64 (x -ℤ low)) ≡ int_le low (x -ℤ v) =
    high_of (x -ℤ low) v h (omega (arith, ints)) ∙ same_order v (x -ℤ low) low (x -ℤ v) (λ e. omega (arith, ints)) (λ e. omega (arith, ints)) in
    ap (λ p. p && int_le v (saturate_signed w64 (x -ℤ low))) first
    ∙ ap (λ q. int_le (x -ℤ v) high && q) second
    ∙ and_comm (int_le (x -ℤ v) high) (int_le low (x -ℤ v))

turned : (total x v : ℤ) (is_added : Bool)
    → (if not is_added then (if is_added then total +ℤ x else total -ℤ x) +ℤ v else (if is_added then total +ℤ x else total -ℤ x) -ℤ v) ≡ (if is_added then total +ℤ (x -ℤ v) else total -ℤ (x -ℤ v))
turned total x v true = omega (arith, ints)
turned total x v false = omega (arith, ints)

pub next_difference : (total low high x z v : ℤ) (is_added : Bool) → Within low → Within high → low ≤ℤ x → x ≤ℤ high → z ≡ (if is_added then total +ℤ x else total -ℤ x) → SFits w64 v
    → difference z (not is_added) (saturate_signed w64 (x -ℤ high)) (saturate_signed w64 (x -ℤ low)) v ≡ and_then (number_or_limit (x -ℤ v)) (difference total is_added low high)
next_difference total low high x z v is_added fit_low fit_high above below is fits =
    let sum = if is_added then total +ℤ (x -ℤ v) else total -ℤ (x -ℤ v) in
    let same : (if not is_added then z +ℤ v else z -ℤ v) ≡ sum = ap (λ t. if not is_added then t +ℤ v else t -ℤ v) is ∙ turned total x v is_added in
    ap (λ b. if b then number_or_limit (if not is_added then z +ℤ v else z -ℤ v) else Err Limit) (lies_within low high x v above below (within_of v fits))
    ∙ ap (λ t. if int_le low (x -ℤ v) && int_le (x -ℤ v) high then number_or_limit t else Err Limit) same
    ∙ decide (int_le low (x -ℤ v) && int_le (x -ℤ v) high) refl (is_number (x -ℤ v)) refl
  where
    decide : (b : Bool) → (int_le low (x -ℤ v) && int_le (x -ℤ v) high) ≡ b → (w : Bool) → is_number (x -ℤ v) ≡ w
        → (if int_le low (x -ℤ v) && int_le (x -ℤ v) high then number_or_limit (if is_added then total +ℤ (x -ℤ v) else total -ℤ (x -ℤ v)) else Err Limit)
        ≡ and_then (number_or_limit (x -ℤ v)) (difference total is_added low high)
    decide true e w f =
        let parts = and_parts (int_le low (x -ℤ v)) (int_le (x -ℤ v) high) e in
        let lower = (at_most low (x -ℤ v)).0 parts.0 in
        let upper = (at_most (x -ℤ v) high).0 parts.1 in
        rw (held_within (x -ℤ v) (record { low = omega (arith, ints); high = omega (arith, ints) })) refl
    decide false e true f = rw f refl
    decide false e false f = rw (e, f) refl
