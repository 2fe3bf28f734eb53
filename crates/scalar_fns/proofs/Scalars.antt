-- A number beside an array, as a scalar.
use Rattle.std.{proofs.Common.{◌≡◌, ℕ, ℤ, List, [], ◌∷◌, length, eqb, refl, Ok, inl, inr, arith}, proofs.lemmas.Bool.{cases_Bool, lt-ltb, le-ltb}}
use Rattle.{arrays_core.{specs.Arrays.{scalar_of}, specs.Shapes.{size}}, scalar_fns.{specs.ScalarExtension.{common}, proofs.Joint.{IsOfNumbers}}}

-- the result has the shape of the other array
pub common_right : (a : List ℕ) → common a [] ≡ Ok a
common_right [] = refl
common_right (n ∷ a) =
    elim (cases_Bool (eqb (size (n ∷ a)) 1)) [
      | inl one ↦ rw (one, le-ltb (length (n ∷ a)) 0 (omega arith)) refl
      | inr many ↦ rw many refl
    ]

pub common_left : (b : List ℕ) → common [] b ≡ Ok b
common_left [] = refl
common_left (n ∷ b) =
    elim (cases_Bool (eqb (size (n ∷ b)) 1)) [
      | inl one ↦ rw (one, lt-ltb 0 (length (n ∷ b)) (omega arith)) refl
      | inr many ↦ rw many refl
    ]

-- the ravel of the scalar is a list of the number
pub of_number : (z : ℤ) → IsOfNumbers (scalar_of z) (z ∷ [])
of_number z = record { items = refl; long = refl }
