-- Numbers carried through radices, and the places of their digits.
use Rattle.std.{proofs.Common.{◌≡◌, ℕ, zero, suc, ◌+◌, ◌-◌, ◌/◌, ◌%◌, min, Bool, false, cond, negsuc, neg_ℤ, ◌-ℤ◌, ◌*ℤ◌, Result, ◌<◌, ◌≤◌, true, List, [], ◌∷◌, ◌++◌, length, get_or, drop, ℤ, pos, Ok, Err, refl, ap, ◌∙◌, arith}, specs.Prelude.{◌&&◌, nat_le}, specs.Ordering.{int_eq}, proofs.Math.Nat.{div-eq_of_lt}}
use Rattle.std.{proofs.lemmas.Int.{ints}, proofs.lemmas.Bool.Decides.{nat_tests}, proofs.lemmas.List.{drop-drop, drop_more}}
use Rattle.item_fns.specs.Numbers.{residue, floor_div, number_or_limit}
use Rattle.arrays_core.{specs.declared.item.Kind.{Kind}, specs.declared.item.ItemType.TheVariants.{Nums}, specs.Items.{and_then}, specs.Shapes.{size, is_index_of}, specs.Arrays.{ArrayValue}, proofs.Shapes.{head_of}}
use Rattle.index_region.{specs.Arguments.{is_list, counts_as_numbers}, specs.Answers.{IsPlaceOf}, proofs.Passing.{passed, place_inside}}
use Rattle.search_fns.specs.Encode.{carried, carried_through, encode_form}

-- an error at a later radix is an error of all radices
pub error_through : (radices : List ℤ) (n : ℕ) (z : ℤ) (e : Kind) → carried_through (drop n radices) z ≡ Err e → carried_through radices z ≡ Err e
error_through radices zero z e h = h
error_through [] (suc n) z e h = h
error_through (radix ∷ radices) (suc n) z e h = ap (λ r. and_then r (carried radix)) (error_through radices n z e h)

pub error_in_front : (radices : List ℤ) (place k : ℕ) (z : ℤ) (e : Kind) → place ≤ k → carried_through (drop k radices) z ≡ Err e → carried_through (drop place radices) z ≡ Err e
error_in_front radices place k z e h failed =
    let there : carried_through (drop (k - place) (drop place radices)) z ≡ Err e =
    ap (λ xs. carried_through xs z) (drop-drop (k - place) place radices ∙ ap (λ n. drop n radices) (omega arith)) ∙ failed in
    error_through (drop place radices) (k - place) z e there

-- ---- 0 leaves 0

zero_divided : (radix : ℤ) → floor_div (pos 0) radix ≡ pos 0
zero_divided (pos zero) = refl
zero_divided (pos (suc a)) = let none : 0 / suc a ≡ 0 = div-eq_of_lt (omega arith) in ap pos none
zero_divided (negsuc a) =
    let up : 0 / suc a + min 1 (0 % suc a) ≡ 0 = omega arith in
    ap (λ n. neg_ℤ (pos n)) up

zero_carried : (radix : ℤ) → carried radix (pos 0) ≡ Ok (pos 0)
zero_carried radix = decide (int_eq radix (pos 0))
  where
    decide : (w : Bool) → cond {A = Result ℤ Kind} w (Ok (pos 0)) (number_or_limit (floor_div (pos 0) radix)) ≡ Ok (pos 0)
    decide true = refl
    decide false = ap number_or_limit (zero_divided radix)

pub zero_digit : (radix : ℤ) → residue radix (pos 0) ≡ pos 0
zero_digit radix = decide (int_eq radix (pos 0))
  where
    nothing : (r : ℤ) → pos 0 -ℤ r *ℤ pos 0 ≡ pos 0
    nothing r = omega (arith, ints)

    decide : (w : Bool) → cond w (pos 0) (pos 0 -ℤ radix *ℤ floor_div (pos 0) radix) ≡ pos 0
    decide true = refl
    decide false = rw (zero_divided radix) (nothing radix)

zero_through : (radices : List ℤ) (n : ℕ) (z : ℤ) → carried_through (drop n radices) z ≡ Ok (pos 0) → carried_through radices z ≡ Ok (pos 0)
zero_through radices zero z h = h
zero_through [] (suc n) z h = h
zero_through (radix ∷ radices) (suc n) z h = ap (λ r. and_then r (carried radix)) (zero_through radices n z h) ∙ zero_carried radix

pub zero_in_front : (radices : List ℤ) (place k : ℕ) (z : ℤ) → place ≤ k → carried_through (drop k radices) z ≡ Ok (pos 0) → carried_through (drop place radices) z ≡ Ok (pos 0)
zero_in_front radices place k z h none =
    let there : carried_through (drop (k - place) (drop place radices)) z ≡ Ok (pos 0) =
    ap (λ xs. carried_through xs z) (drop-drop (k - place) place radices ∙ ap (λ n. drop n radices) (omega arith)) ∙ none in
    zero_through (drop place radices) (k - place) z there

-- ---- index lists of encode's result

pub encode_inside : (a b : ArrayValue) (index : List ℕ) → IsPlaceOf (encode_form a b) index → is_index_of (a.shape ++ b.shape) index ≡ true
encode_inside a b index h =
    place_inside (a.shape ++ b.shape) Nums index (passed (counts_as_numbers a && counts_as_numbers b) _ _ index (passed (is_list a) _ _ index h).place).place

pub encode_rank : (a b : ArrayValue) (index : List ℕ) → IsPlaceOf (encode_form a b) index → length a.shape ≤ 1
encode_rank a b index h = within (length a.shape) (passed (is_list a) _ _ index h).test
  where
    within : (n : ℕ) → nat_le n 1 ≡ true → n ≤ 1
    within n e = grind (arith, nat_tests)

-- the index of the one axis in front
pub record InFront (front index : List ℕ) : Type 0 where
  pub some : 0 < length index
  pub low : 1 ≤ get_or index 0 0
  pub high : get_or index 0 0 ≤ size front

pub in_front : (front rest index : List ℕ) → length front ≡ 1 → is_index_of (front ++ rest) index ≡ true → InFront front index
in_front [] rest index one h = absurd (omega arith)
in_front (m ∷ n ∷ front) rest index one h = absurd (omega arith)
in_front (n ∷ []) rest [] one h = cc
in_front (n ∷ []) rest (i ∷ index) one h =
    let head = head_of n i rest index h in
    record { some = omega arith; low = head.low; high = omega (arith, head.high) }

-- the rest before one more radix
pub one_more_radix : (radices : List ℤ) (k : ℕ) (z rest : ℤ) → k < length radices → carried_through (drop (k + 1) radices) z ≡ Ok rest
    → carried_through (drop k radices) z ≡ carried (get_or radices k (pos 0)) rest
one_more_radix radices k z rest below h =
    ap (λ xs. carried_through xs z) (drop_more radices k (pos 0) below) ∙ ap (λ r. and_then r (carried (get_or radices k (pos 0)))) h
