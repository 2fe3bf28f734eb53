-- Numbers of 64 bits.
use Rattle.std.{proofs.Common.{◌≡◌, ◌^◌, refl, sym, arith, ltb, Bool, true, false, if◌then◌else◌, ℤ, pos, negsuc, ◌≤ℤ◌, SFits, w64, Ok, Err}, proofs.lemmas.Int.{ints}, proofs.lemmas.Bool.{lt-ltb, ltb-true}}
use Rattle.arrays_core.{specs.declared.item.Kind.{Kind}, specs.declared.item.Kind.TheVariants.{Limit}}
use Rattle.item_fns.{specs.Numbers.{number_or_limit, is_number}, specs.Identities.{least, greatest}}

pub record Within (z : ℤ) : Type 0 where
  pub low : least ≤ℤ z
  pub high : z ≤ℤ greatest

pub within_of : (z : ℤ) → SFits w64 z → Within z
within_of (pos n) f = let h = f.sfits in record { low = omega (arith, ints); high = omega (arith, ints) }
within_of (negsuc n) f = let h = f.sfits in record { low = omega (arith, ints); high = omega (arith, ints) }

-- the test for them

pub in_64_bits : (z : ℤ) → is_number z ≡ true → Within z
in_64_bits (pos n) e = let below = ltb-true n (2 ^ 63) e in record { low = omega (arith, ints); high = omega (arith, ints) }
in_64_bits (negsuc n) e = let below = ltb-true n (2 ^ 63) e in record { low = omega (arith, ints); high = omega (arith, ints) }

pub is_in_64_bits : (z : ℤ) → Within z → is_number z ≡ true
is_in_64_bits (pos n) h = lt-ltb n (2 ^ 63) (omega (arith, ints, h.high))
is_in_64_bits (negsuc n) h = lt-ltb n (2 ^ 63) (omega (arith, ints, h.low))

-- a number or LIMIT

pub held_within : (z : ℤ) → Within z → number_or_limit z ≡ Ok z
held_within (pos n) h = let inside : ltb n (2 ^ 63) ≡ true = lt-ltb n (2 ^ 63) (omega (arith, ints, h.high)) in rw inside refl
held_within (negsuc n) h = let inside : ltb n (2 ^ 63) ≡ true = lt-ltb n (2 ^ 63) (omega (arith, ints, h.low)) in rw inside refl

pub held : (z : ℤ) → SFits w64 z → number_or_limit z ≡ Ok z
held z f = held_within z (within_of z f)

pub record Holds (z t : ℤ) : Type 0 where
  pub within : Within z
  pub same : t ≡ z

pub held_ok : (z t : ℤ) → number_or_limit z ≡ Ok t → Holds z t
held_ok z t h = decide (is_number z) refl h
  where
    decide : (b : Bool) → is_number z ≡ b → (if b then Ok z else Err Limit) ≡ Ok t → Holds z t
    decide true e h = let same : t ≡ z = cc in record { within = in_64_bits z e; same = same }
    decide false e h = let no : ⊥ = cc in absurd no

pub held_error : (z : ℤ) (k : Kind) → number_or_limit z ≡ Err k → k ≡ Limit
held_error z k h = decide (is_number z) h
  where
    decide : (b : Bool) → (if b then Ok z else Err Limit) ≡ Err k → k ≡ Limit
    decide true h = let no : ⊥ = cc in absurd no
    decide false h = let same : Limit ≡ k = cc in sym same
