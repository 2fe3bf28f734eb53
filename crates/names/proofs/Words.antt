-- The bytes after the end of a name are zero; names with the same words are equal.
use Rattle.std.{proofs.Common.{◌≡◌, ℕ, zero, suc, ◌+◌, ◌-◌, ◌/◌, ◌<◌, ◌≤◌, List, [], ◌∷◌, length, take, drop, refl, ap, ◌∙◌, sym, get_or, arith}, specs.Prelude.{replicate, true, false, ◌^◌}, proofs.lemmas.Grind.{same_number_lists}, specs.Bool.{one_answer}, specs.Int.{w64, to_le_bytes, from_le_bytes}}
use Rattle.std.{specs.Str.{bytes_eq}, proofs.lemmas.Nat.{from_le_bytes-to_le_bytes_8}, proofs.lemmas.Slice.Eq.{bytes_eq-Decides}}
use Rattle.names.{specs.Limits.{longest_name}, specs.Words.{eight_bytes, word_at, word_start, count_of_words}}

zeros : (m k : ℕ) → ◌≡◌ {A = ℕ} (get_or (replicate m 0) k 0) 0
zeros zero k = refl
zeros (suc m) zero = refl
zeros (suc m) (suc k) = zeros m k

pub padded : (bytes : List ℕ) (n room k : ℕ) → ◌≡◌ {A = List ℕ} (drop n bytes) (replicate room 0) → ◌≡◌ {A = ℕ} (get_or (take n bytes) k 0) (get_or bytes k 0)
padded bytes zero room k h = sym (ap (λ (xs : List ℕ). get_or xs k 0) h ∙ zeros room k)
padded [] (suc n) room k h = refl
padded (b ∷ bs) (suc n) room zero h = refl
padded (b ∷ bs) (suc n) room (suc k) h = padded bs n room k h

byte_of_eight : (name : List ℕ) (from d : ℕ) → d < 8 → ◌≡◌ {A = ℕ} (get_or (eight_bytes name from) d 0) (get_or name (from + d) 0)
unfolding eight_bytes
byte_of_eight name from zero h = ap (λ i. get_or name i 0) (omega arith)
byte_of_eight name from (suc zero) h = refl
byte_of_eight name from (suc (suc zero)) h = refl
byte_of_eight name from (suc (suc (suc zero))) h = refl
byte_of_eight name from (suc (suc (suc (suc zero)))) h = refl
byte_of_eight name from (suc (suc (suc (suc (suc zero))))) h = refl
byte_of_eight name from (suc (suc (suc (suc (suc (suc zero)))))) h = refl
byte_of_eight name from (suc (suc (suc (suc (suc (suc (suc zero))))))) h = refl
byte_of_eight name from (suc (suc (suc (suc (suc (suc (suc (suc d)))))))) h = absurd (omega arith)

-- a byte of a name, from its word
byte_of_word : (name : List ℕ) (i : ℕ) → i < longest_name → ◌≡◌ {A = ℕ} (get_or name i 0) (get_or (word_at name (i / 8)) (i - word_start (i / 8)) 0)
byte_of_word name i h = sym (byte_of_eight name (word_start (i / 8)) (i - word_start (i / 8)) (omega arith) ∙ ap (λ j. get_or name j 0) (omega arith))

pub same_words : (a b : List ℕ) → length a ≡ length b → length a ≤ longest_name → ((k : ℕ) → k < count_of_words a → word_at a k ≡ word_at b k) → a ≡ b
same_words a b len short same =
    same_number_lists a b len (λ i h.
    (byte_of_word a i (omega arith)) ∙ ap (λ w. get_or w (i - word_start (i / 8)) 0) (same (i / 8) (omega arith)) ∙ sym (byte_of_word b i (omega arith)))

pub same_answer : (a b : List ℕ) → a ≡ b → true ≡ bytes_eq a b
same_answer a b same = one_answer true (bytes_eq a b) (λ h. same, λ h. refl) (bytes_eq-Decides a b)

pub other_answer : (a b : List ℕ) → (a ≡ b → ⊥) → false ≡ bytes_eq a b
other_answer a b other = one_answer false (bytes_eq a b) (λ h. cc, λ h. absurd (other h)) (bytes_eq-Decides a b)

-- different numbers have different bytes
pub one_number : (m n : ℕ) → m < 2 ^ 64 → n < 2 ^ 64 → to_le_bytes w64 m ≡ to_le_bytes w64 n → m ≡ n
one_number m n fits fits' same = sym (from_le_bytes-to_le_bytes_8 m fits) ∙ ap (from_le_bytes w64) same ∙ from_le_bytes-to_le_bytes_8 n fits'

-- a claim for all numbers below n, and for n, holds for all below n + 1
pub one_more : (P : ℕ → Type 0) (n : ℕ) → ((k : ℕ) → k < n → P k) → P n → (k : ℕ) → k < n + 1 → P k
one_more P zero below at zero h = at
one_more P zero below at (suc k) h = absurd (omega (arith, h))
one_more P (suc n) below at zero h = below zero (omega arith)
one_more P (suc n) below at (suc k) h = one_more (λ j. P (suc j)) n (λ j less. below (suc j) (omega (arith, less))) at k (omega (arith, h))
