-- Concatenated index lists of two arrays.
use Rattle.std.{proofs.Common.{◌≡◌, ℕ, ◌+◌, ◌-◌, ◌*◌, ◌/◌, ◌%◌, true, List, [], ◌∷◌, ◌++◌, length, take, drop, refl, ap, sym, ◌∙◌, arith}, proofs.lemmas.Bool.{and_from, le-leb}, proofs.lemmas.List.{take-append-drop}, proofs.lemmas.Nat.{div-mul-add, mod-mul-add}}
use Rattle.arrays_core.{specs.Shapes.{size, is_index_of, places_before}, proofs.Shapes.{head_of, as_long, places_below}}

pub size-append : (s t : List ℕ) → size (s ++ t) ≡ size s * size t
size-append [] t = omega arith
size-append (n ∷ s) t = let e = size-append s t in ap (λ m. n * m) e ∙ omega arith

-- a concatenated index list has the place of its first part, times the size of the second shape, plus the place of its second part
places_more : (x p s t q : ℕ) → x * (s * t) + (p * t + q) ≡ (x * s + p) * t + q
places_more x p s t q = omega arith

pub places-append : (s t i j : List ℕ) → length i ≡ length s → places_before (s ++ t) (i ++ j) ≡ places_before s i * size t + places_before t j
places-append [] t [] j h = omega arith
places-append [] t (x ∷ i) j h = absurd (omega arith)
places-append (n ∷ s) t [] j h = absurd (omega arith)
places-append (n ∷ s) t (x ∷ i) j h =
    let rest = places-append s t i j (omega arith) in
    let whole = size-append s t in
    (rw (rest, whole) refl) ∙ places_more (x - 1) (places_before s i) (size s) (size t) (places_before t j)

pub front_inside : (s t index : List ℕ) → is_index_of (s ++ t) index ≡ true → is_index_of s (take (length s) index) ≡ true
front_inside [] t index h = refl
front_inside (n ∷ s) t [] h = cc
front_inside (n ∷ s) t (i ∷ index) h =
    let head = head_of n i (s ++ t) index h in
    and_from _ _ (and_from _ _ (le-leb 1 i head.low) (le-leb i n head.high)) (front_inside s t index head.rest)

pub back_inside : (s t index : List ℕ) → is_index_of (s ++ t) index ≡ true → is_index_of t (drop (length s) index) ≡ true
back_inside [] t index h = h
back_inside (n ∷ s) t [] h = cc
back_inside (n ∷ s) t (i ∷ index) h = back_inside s t index (head_of n i (s ++ t) index h).rest

pub joined_inside : (s t i j : List ℕ) → is_index_of s i ≡ true → is_index_of t j ≡ true → is_index_of (s ++ t) (i ++ j) ≡ true
joined_inside [] t [] j h g = g
joined_inside [] t (x ∷ i) j h g = cc
joined_inside (n ∷ s) t [] j h g = cc
joined_inside (n ∷ s) t (x ∷ i) j h g =
    let head = head_of n x s i h in
    and_from _ _ (and_from _ _ (le-leb 1 x head.low) (le-leb x n head.high)) (joined_inside s t i j head.rest g)

-- the places of the two parts of a concatenated index list
pub record Parts (s t index : List ℕ) : Type 0 where
  pub front : is_index_of s (take (length s) index) ≡ true
  pub back : is_index_of t (drop (length s) index) ≡ true
  pub front_place : places_before (s ++ t) index / size t ≡ places_before s (take (length s) index)
  pub back_place : places_before (s ++ t) index % size t ≡ places_before t (drop (length s) index)

pub parts : (s t index : List ℕ) → is_index_of (s ++ t) index ≡ true → Parts s t index
parts s t index h =
    let k = length s in
    let front = front_inside s t index h in
    let back = back_inside s t index h in
    let below = places_below t (drop k index) back in
    let place : places_before (s ++ t) index ≡ places_before s (take k index) * size t + places_before t (drop k index) =
    ap (places_before (s ++ t)) (sym (take-append-drop k index)) ∙ places-append s t (take k index) (drop k index) (as_long s (take k index) front) in
    record {
      front = front;
      back = back;
      front_place = ap (λ p. p / size t) place ∙ div-mul-add (places_before s (take k index)) (size t) (places_before t (drop k index)) below;
      back_place = ap (λ p. p % size t) place ∙ mod-mul-add (places_before s (take k index)) (size t) (places_before t (drop k index)) below;
    }
