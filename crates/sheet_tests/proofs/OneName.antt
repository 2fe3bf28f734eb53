-- A formula of one name, which shows an array.
use Rattle.{std.proofs.Common.{◌≡◌, ℕ, List, [], ◌∷◌, length, false, Ok, arith}, arrays_core.specs.Arrays.{ArrayValue, IsArray}}
use Rattle.{index_region.specs.declared.delta.Delta.{Delta}, change_rules.specs.Currency.{applied}}
use Rattle.formula_core.{specs.declared.input.Input.{Input}, specs.Changes.{NamesChange, FitsIn}, specs.Formulas.{FormulaValue, IsHeld}, specs.Inputs.{IsInput}, specs.Meaning.{names_in}, specs.Plans.{AreInputs, IsTold}}

-- an array before and after a change, and the change
module _ (a b : ArrayValue) (d : Delta) (becomes : applied d (Ok a) ≡ Ok b) (fit : FitsIn d (Ok a)) (sound_a : IsArray a) (sound_b : IsArray b) where
  abbrev pub one_change : NamesChange
  one_change = record { old = λ x. Ok a; new = λ x. Ok b; delta = λ x. d }

  one_input : (names : List (List ℕ)) (i : Input) → length names ≡ 1 → IsInput (Ok b) d i → AreInputs one_change names (i ∷ [])
  one_input [] i h is = absurd (omega (arith, h))
  one_input (x ∷ []) i h is = (is, tt)
  one_input (x ∷ y ∷ names) i h is = absurd (omega (arith, h))

  pub told_of_one : (f : FormulaValue) → (f.is_new ≡ false → IsHeld f (λ x. Ok a)) → length (names_in f.tree) ≡ 1 → (i : Input) → IsInput (Ok b) d i → IsTold f one_change (i ∷ [])
  told_of_one f held one i is = record {
    holds = λ old. (held old).nodes;
    tell = one_input (names_in f.tree) i one is;
    changed = λ x h. record { right = becomes; fit = fit };
    sound = λ x h. record { old = sound_a; new = sound_b };
  }
