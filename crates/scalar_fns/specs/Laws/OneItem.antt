-- An array of one item has it everywhere; any other array has the item at the index list.
use Rattle.std.{proofs.Common.{◌≡◌, ℕ, zero, suc, ◌≤◌, true, eqb, List, [], ◌∷◌, map, refl, arith, inl, inr, if◌then◌else◌}, proofs.lemmas.Bool.{eqb-true, eqb-false, cases_Bool, cond-true, cond-false, and_parts, leb-true, false≢true}}
use Rattle.arrays_core.{specs.declared.item.Item.{Item}, specs.Shapes.{size, is_index_of, places_before}, specs.Arrays.{ArrayValue, item_of, item_if_there}, proofs.Shapes.{factor_le}}
use Rattle.scalar_fns.specs.ScalarExtension.{extended}
use Rattle.change_core.{specs.Sourced.{other}, proofs.ReadAlike.{one_same}}

-- the only index list of a shape of one place
pub ones_inside : (shape : List ℕ) → size shape ≡ 1 → is_index_of shape (map (λ _. 1) shape) ≡ true
ones_inside [] h = refl
ones_inside (zero ∷ shape) h = absurd (omega arith)
ones_inside (suc zero ∷ shape) h = ones_inside shape (omega arith)
ones_inside (suc (suc n) ∷ shape) h = let no = factor_le (suc (suc n)) (size shape) 1 h (omega arith) in absurd (omega arith)

pub ones_first : (shape : List ℕ) → places_before shape (map (λ _. 1) shape) ≡ 0
ones_first [] = refl
ones_first (n ∷ shape) = omega (arith, ones_first shape)

pub only_index : (shape index : List ℕ) → size shape ≡ 1 → is_index_of shape index ≡ true → map (λ _. 1) shape ≡ index
only_index [] [] h place = refl
only_index [] (i ∷ index) h place = absurd (false≢true place)
only_index (n ∷ shape) [] h place = absurd (false≢true place)
only_index (zero ∷ shape) (i ∷ index) h place = absurd (omega arith)
only_index (suc zero ∷ shape) (i ∷ index) h place =
    let parts = and_parts _ _ place in
    let first = and_parts _ _ parts.0 in
    let low : 1 ≤ i = leb-true 1 i first.0 in
    let high : i ≤ 1 = leb-true i 1 first.1 in
    let one : 1 ≡ i = omega (arith, low, high) in
    λ k. one k ∷ only_index shape index (omega arith) parts.1 k
only_index (suc (suc n) ∷ shape) (i ∷ index) h place = let no = factor_le (suc (suc n)) (size shape) 1 h (omega arith) in absurd (omega arith)

-- an array that is read alike is extended alike
pub extended_same : (c : ArrayValue) (xs : List Item) (index : List ℕ) → ((size c.shape ≡ 1 → ⊥) → is_index_of c.shape index ≡ true)
    → map (item_if_there (other c xs)) ((if eqb (size c.shape) 1 then map (λ _. 1) c.shape else index) ∷ []) ≡ map (item_if_there c) ((if eqb (size c.shape) 1 then map (λ _. 1) c.shape else index) ∷ [])
    → extended (other c xs) index ≡ extended c index
extended_same c xs index fits read = elim (cases_Bool (eqb (size c.shape) 1)) [
  | inl one ↦
      let at = map {A = ℕ} (λ _. 1) c.shape in
      let here : (if eqb (size c.shape) 1 then at else index) ≡ at = cond-true _ _ _ one in
      let inside = ones_inside c.shape (eqb-true _ _ one) in
      let same : item_of (other c xs) at ≡ item_of c at = one_same (other c xs) c at inside inside (rw here at read) in
      rw one (rw (ones_first c.shape) at same)
  | inr many ↦
      let here : (if eqb (size c.shape) 1 then map {A = ℕ} (λ _. 1) c.shape else index) ≡ index = cond-false _ _ _ many in
      let inside : is_index_of c.shape index ≡ true = fits (eqb-false _ _ many) in
      let same : item_of (other c xs) index ≡ item_of c index = one_same (other c xs) c index inside inside (rw here at read) in
      rw many same
]
