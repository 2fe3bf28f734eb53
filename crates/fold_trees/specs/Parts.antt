-- The parts of folds by ⌈, ⌊, ∧ and ∨.
use Rattle.std.specs.Prelude.{◌≡◌, ◌<◌, ℤ, List, [], ◌∷◌, length, Result, Ok, ◌⊎◌}
use Rattle.arrays_core.{specs.declared.item.Kind.{Kind}, specs.Items.{and_then}}
use Rattle.function_names.specs.declared.scalar.Scalar2.{Scalar2}
use Rattle.item_fns.{specs.Numbers.{dyadic_on_numbers, as_truth, truth}, specs.Folds.{folded}}

-- z is the fold of a list
abbrev pub IsFold : Scalar2 → ℤ → List ℤ → Type 0
IsFold f z xs = folded (dyadic_on_numbers f) xs ≡ Ok z

-- a truth value, or DOMAIN
abbrev pub truth_value : ℤ → Result ℤ Kind
truth_value z = and_then (as_truth z) (λ p. Ok (truth p))

-- z is the single number of a list, or the fold of several numbers; any z but a truth value stands for the error
abbrev pub IsTruthFold : Scalar2 → ℤ → List ℤ → Type 0
IsTruthFold f z xs = (xs ≡ z ∷ []) ⊎ ((1 < length xs) × (folded (dyadic_on_numbers f) xs ≡ truth_value z))
