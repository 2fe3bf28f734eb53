-- Lines of two arrays whose items read the same.
use Rattle.std.{proofs.Common.{◌≡◌, ℕ, ◌+◌, ◌<◌, ◌≤◌, zero, suc, true, List, [], ◌∷◌, length, map, remove, refl, arith}, specs.List.{range_with_len}, proofs.lemmas.Bool.{false≢true}}
use Rattle.arrays_core.{specs.Arrays.{ArrayValue, item_of, item_if_there}, specs.Shapes.{is_index_of}}
use Rattle.change_core.proofs.ReadAlike.{item_same}
use Rattle.reduce_fns.specs.Lines.{line}

-- if the items at a run of places read the same in two arrays, they are the same
pub items_same : (a c : ArrayValue) (place : ℕ → List ℕ) (from n : ℕ) → ((j : ℕ) → from ≤ j → j < from + n → (is_index_of a.shape (place j) ≡ true) × (is_index_of c.shape (place j) ≡ true))
    → map (item_if_there a) (map place (range_with_len from n)) ≡ map (item_if_there c) (map place (range_with_len from n))
    → map (λ j. item_of a (place j)) (range_with_len from n) ≡ map (λ j. item_of c (place j)) (range_with_len from n)
items_same a c place from zero h read = refl
items_same a c place from (suc n) h read =
    let here = h from (omega arith) (omega arith) in
    let first : item_of a (place from) ≡ item_of c (place from) = item_same a c (place from) here.0 here.1 (cc) in
    let rest = items_same a c place (from + 1) n (λ j l u. h j (omega arith) (omega arith)) (cc) in
    λ i. first i ∷ rest i

pub no_axes : (shape : List ℕ) → length shape ≡ 0 → shape ≡ []
no_axes [] h = refl
no_axes (n ∷ shape) h = absurd (omega arith)

-- a scalar is a line of its one item
pub scalar_line : (d : ArrayValue) (shape : List ℕ) (axis : ℕ) (index : List ℕ) → d.shape ≡ shape → shape ≡ [] → is_index_of (remove shape axis) index ≡ true → line d axis index ≡ item_of d [] ∷ []
scalar_line d [] zero [] e h place = rw e refl
scalar_line d [] (suc k) [] e h place = rw e refl
scalar_line d [] zero (i ∷ index) e h place = absurd (false≢true place)
scalar_line d [] (suc k) (i ∷ index) e h place = absurd (false≢true place)
scalar_line d (n ∷ shape) axis index e h place = let no : ⊥ = cc in absurd no
