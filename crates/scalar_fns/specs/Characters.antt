-- Equality of the characters of two plain lists.
use Rattle.std.specs.Prelude.{◌≡◌, ℕ, ◌<◌, ◌==◌, ℤ, pos, Bool, true, false, not, List, length, get_or, map, if◌then◌else◌, Result, Ok}
use Rattle.arrays_core.{specs.declared.item.Item.TheVariants.{Num}, specs.declared.item.ItemType.TheVariants.{Nums}, specs.declared.item.Kind.{Kind}, specs.Arrays.{ArrayValue}}
use Rattle.function_names.{specs.declared.scalar.Scalar2.{Scalar2}, specs.declared.scalar.Scalar2.TheVariants.{Equal, NotEqual}}
use Rattle.item_fns.specs.Numbers.{truth}

-- the function `=` or `≠`
abbrev pub equality : Bool → Scalar2
equality true = Equal
equality false = NotEqual

-- its result, given whether the items are the same
abbrev pub told : Bool → Bool → ℤ
told true same = truth same
told false same = truth (not same)

-- the character at a place; a list of one character is extended
abbrev pub character_at : List ℕ → ℕ → ℕ
character_at cs k = get_or cs (if length cs == 1 then 0 else k) 0

-- the results at each place of two lists of characters
pub record AreTold (equal : Bool) (xs ys : List ℕ) (places : ℕ) (answers : List ℤ) : Type 0 where
  pub long : length answers ≡ places
  pub each : (k : ℕ) → k < places → get_or answers k (pos 0) ≡ told equal (character_at xs k == character_at ys k)

-- the array of these results
abbrev pub answers_of : List ℕ → List ℤ → Result ArrayValue Kind
answers_of shape zs = Ok (record { item_type = Nums; shape = shape; items = map (λ z. Num z) zs })
