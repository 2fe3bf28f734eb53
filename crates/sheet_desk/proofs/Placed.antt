-- The contents of slots after a write to one.
use Rattle.std.{proofs.Common.{◌≡◌, ◌≢◌, ℕ, zero, suc, ℤ, pos, negsuc, List, [], ◌∷◌, set, Option, Some, slice_get, refl, sym, ap, ◌∙◌}, proofs.lemmas.List.{set-get_or}, proofs.lemmas.Option.{get_or_from_slice_get}}
use Rattle.sheet_desk.specs.Slots.{slot_in, with_slot}

module _ {A : Type 0} where
  there_same : (xs : List A) (i : ℕ) (x y : A) → slice_get xs i ≡ Some y → slice_get (set xs i x) i ≡ Some x
  there_same [] i x y h = cc
  there_same (z ∷ xs) zero x y h = refl
  there_same (z ∷ xs) (suc i) x y h = there_same xs i x y h

  there_other : (xs : List A) (i j : ℕ) (x : A) → i ≢ j → slice_get (set xs i x) j ≡ slice_get xs j
  there_other [] i j x h = refl
  there_other (z ∷ xs) zero zero x h = absurd (h refl)
  there_other (z ∷ xs) zero (suc j) x h = refl
  there_other (z ∷ xs) (suc i) zero x h = refl
  there_other (z ∷ xs) (suc i) (suc j) x h = there_other xs i j x (λ e. h (ap suc e))

module _ {A : Type 0} where
  -- the slot itself has the new contents
  pub slot_in-same : (slots : List (Option A)) (k : ℤ) (held before : Option A) → slot_in slots k ≡ Some before → slot_in (with_slot slots k held) k ≡ Some held
  slot_in-same slots (pos zero) held before h = cc
  slot_in-same slots (pos (suc place)) held before h = there_same slots place held before h
  slot_in-same slots (negsuc n) held before h = cc

  -- the other slots keep theirs
  pub slot_in-other : (slots : List (Option A)) (j k : ℤ) (held : Option A) → j ≢ k → slot_in (with_slot slots j held) k ≡ slot_in slots k
  slot_in-other slots (pos zero) k held h = refl
  slot_in-other slots (negsuc n) k held h = refl
  slot_in-other slots (pos (suc i)) (pos zero) held h = refl
  slot_in-other slots (pos (suc i)) (negsuc n) held h = refl
  slot_in-other slots (pos (suc i)) (pos (suc j)) held h = there_other slots i j held (λ e. h (ap (λ n. pos (suc n)) e))

  -- writing the same contents changes nothing
  pub with_slot_same : (slots : List (Option A)) (k : ℤ) (held : Option A) → slot_in slots k ≡ Some held → with_slot slots k held ≡ slots
  with_slot_same slots (pos zero) held h = refl
  with_slot_same slots (negsuc n) held h = refl
  with_slot_same slots (pos (suc place)) held h = ap (set slots place) (sym (get_or_from_slice_get slots place held held h)) ∙ set-get_or slots place held
