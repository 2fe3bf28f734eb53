-- Residues of numbers on one side of 0.
use Rattle.std.{proofs.Common.{◌≡◌, ℕ, zero, suc, ◌<◌, ◌≤◌, ◌%◌, List, length, get_or, refl, ap, ◌∙◌, inl, inr, ◌⊎◌, arith, pos, negsuc, neg_ℤ, ℤ, unsigned_abs, FitsSigned, w64, IsTrue, false}, specs.Ordering.{int_eq}, proofs.lemmas.Bool.{false_from_ne_true, leb-true, le-leb}}
use Rattle.std.{proofs.lemmas.Bool.Decides.{Decides-int_eq}, proofs.lemmas.List.Sums.{AllPass-from_list_all}, proofs.lemmas.Nat.{mod_below}, proofs.Math.Nat.{mod-eq_of_lt}}
use Rattle.item_fns.{specs.Numbers.{residue}, proofs.Residues.{both_positive, both_negative, negative_divisor_whole}}
use Rattle.scan_fns.specs.ResidueScan.{extent_of, is_low, is_high, IsBeside}

-- two numbers on one side of 0
abbrev pub AreBeside : ℤ → ℤ → Type 0
AreBeside a b = (IsTrue (is_low a) × IsTrue (is_low b)) ⊎ (IsTrue (is_high a) × IsTrue (is_high b))

some : (a : ℕ) → int_eq (pos (suc a)) (pos 0) ≡ false
some a = false_from_ne_true _ (λ t. let e = (Decides-int_eq (pos (suc a)) (pos 0)).0 t in absurd (cc))

positive_residue : (a b : ℕ) → residue (pos (suc a)) (pos b) ≡ pos (b % suc a)
positive_residue a b = rw (some a) (both_positive b a)

positive_extent : (a : ℕ) → extent_of (pos (suc a)) ≡ suc a
positive_extent a = rw (some a) refl

whole : (a : ℕ) → 0 % suc a ≡ 0
whole a = mod-eq_of_lt (omega arith)

nothing_left : (a : ℕ) → residue (negsuc a) (pos 0) ≡ pos 0
nothing_left a = negative_divisor_whole 0 a (whole a)

distance : (n : ℕ) → unsigned_abs (neg_ℤ (pos n)) ≡ n
distance zero = refl
distance (suc n) = refl

below_zero : (n : ℕ) → IsTrue (is_low (neg_ℤ (pos n)))
below_zero zero = refl
below_zero (suc n) = refl

not_low : (a : ℕ) → IsTrue (is_low (pos (suc a))) → ⊥
not_low a h = let e = leb-true (suc a) 0 h in omega (arith, e)

high : (n : ℕ) → IsTrue (is_high (pos n))
high n = le-leb 0 n (omega arith)

-- a value of smaller magnitude stays
pub stays : (a b : ℤ) → AreBeside a b → unsigned_abs b < extent_of a → residue a b ≡ b
stays (pos zero) b beside near = refl
stays (pos (suc a)) (pos b) beside near = positive_residue a b ∙ ap pos (mod-eq_of_lt (omega (arith, near, positive_extent a)))
stays (pos (suc a)) (negsuc b) (inl h) near = absurd (not_low a h.0)
stays (pos (suc a)) (negsuc b) (inr h) near = absurd (let no = h.1 in cc)
stays (negsuc a) (pos zero) beside near = nothing_left a
stays (negsuc a) (pos (suc b)) (inl h) near = absurd (not_low b h.1)
stays (negsuc a) (pos (suc b)) (inr h) near = absurd (let no = h.0 in cc)
stays (negsuc a) (negsuc b) beside near = both_negative b a ∙ ap (λ n. neg_ℤ (pos n)) (mod-eq_of_lt (omega (arith, near)))

-- a residue stays on its side of 0
pub rest_low : (a b : ℤ) → IsTrue (is_low a) → IsTrue (is_low b) → IsTrue (is_low (residue a b))
rest_low (pos zero) b left right = right
rest_low (pos (suc a)) b left right = absurd (not_low a left)
rest_low (negsuc a) (pos zero) left right = rw (nothing_left a) right
rest_low (negsuc a) (pos (suc b)) left right = absurd (not_low b right)
rest_low (negsuc a) (negsuc b) left right = rw (both_negative b a) (below_zero (suc b % suc a))

pub rest_high : (a b : ℤ) → IsTrue (is_high a) → IsTrue (is_high b) → IsTrue (is_high (residue a b))
rest_high (pos zero) b left right = right
rest_high (pos (suc a)) (pos b) left right = rw (positive_residue a b) (high (b % suc a))
rest_high (pos (suc a)) (negsuc b) left right = absurd (let no = right in cc)
rest_high (negsuc a) b left right = absurd (let no = left in cc)

-- any other value becomes smaller than the divisor
pub comes_near : (a b : ℤ) → AreBeside a b → extent_of a ≤ unsigned_abs b → FitsSigned w64 b → unsigned_abs (residue a b) < extent_of a
comes_near (pos zero) (pos b) beside far fit = omega (arith, fit)
comes_near (pos zero) (negsuc b) beside far fit = omega (arith, fit)
comes_near (pos (suc a)) (pos b) beside far fit = rw (positive_residue a b, positive_extent a) (omega (arith, mod_below b (suc a) (omega arith)))
comes_near (pos (suc a)) (negsuc b) (inl h) far fit = absurd (not_low a h.0)
comes_near (pos (suc a)) (negsuc b) (inr h) far fit = absurd (let no = h.1 in cc)
comes_near (negsuc a) (pos zero) beside far fit = absurd (omega (arith, far))
comes_near (negsuc a) (pos (suc b)) (inl h) far fit = absurd (not_low b h.1)
comes_near (negsuc a) (pos (suc b)) (inr h) far fit = absurd (let no = h.0 in cc)
comes_near (negsuc a) (negsuc b) beside far fit = rw (both_negative b a, distance (suc b % suc a)) (omega (arith, mod_below (suc b) (suc a) (omega arith)))

-- ---- numbers of a list

pub beside_at : (zs : List ℤ) (w : ℤ) (q : ℕ) → IsBeside zs w → q < length zs → AreBeside (get_or zs q (pos 0)) w
beside_at zs w q (inl h) below = inl (AllPass-from_list_all is_low zs h.0 q (pos 0) below, h.1)
beside_at zs w q (inr h) below = inr (AllPass-from_list_all is_high zs h.0 q (pos 0) below, h.1)

pub rest_stays_beside : (zs : List ℤ) (w : ℤ) (q : ℕ) → IsBeside zs w → q < length zs → IsBeside zs (residue (get_or zs q (pos 0)) w)
rest_stays_beside zs w q (inl h) below = inl (h.0, rest_low (get_or zs q (pos 0)) w (AllPass-from_list_all is_low zs h.0 q (pos 0) below) h.1)
rest_stays_beside zs w q (inr h) below = inr (h.0, rest_high (get_or zs q (pos 0)) w (AllPass-from_list_all is_high zs h.0 q (pos 0) below) h.1)
