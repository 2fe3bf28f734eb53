-- Words for worked cases.
use Rattle.std.{proofs.Common.{◌≡◌, ℕ, ℤ, pos, negsuc, List, [], ◌∷◌, map, Result, Ok, Err}, specs.Prelude.{◌-◌, ◌^◌}}
use Rattle.arrays_core.{specs.declared.item.Item.TheVariants.{Num, Char}, specs.declared.item.ItemType.TheVariants.{Nums, Chars}, specs.declared.item.Kind.{Kind}, specs.Arrays.{ArrayValue}}

infix 68 ◌⇒◌
-- a computation and its expected value
abbrev pub ◌⇒◌ : {A : Type 0} → A → A → A × A
◌⇒◌ computed wanted = (computed, wanted)

-- each case of a table computes to its expected value, by refl
abbrev pub AllSame : {A : Type 0} → List (A × A) → Type 0
AllSame cases = map (λ c. c.0) cases ≡ map (λ c. c.1) cases

-- an array of numbers from 0 up, and one of any numbers
abbrev pub nums : List ℕ → List ℕ → ArrayValue
nums shape items = record { item_type = Nums; shape = shape; items = map (λ n. Num (pos n)) items }

abbrev pub ints : List ℕ → List ℤ → ArrayValue
ints shape items = record { item_type = Nums; shape = shape; items = map (λ z. Num z) items }

-- an array of characters, 97 being a
abbrev pub chars : List ℕ → List ℕ → ArrayValue
chars shape items = record { item_type = Chars; shape = shape; items = map (λ c. Char c) items }

abbrev pub is : ArrayValue → Result ArrayValue Kind
is a = Ok a

abbrev pub fails : Kind → Result ArrayValue Kind
fails k = Err k

abbrev pub scalar : ℕ → ArrayValue
scalar n = nums [] (n ∷ [])

abbrev pub integer : ℤ → ArrayValue
integer z = ints [] (z ∷ [])

abbrev pub no_text : ArrayValue
no_text = chars (0 ∷ []) []

abbrev pub no_numbers : ArrayValue
no_numbers = nums (0 ∷ []) []

-- minus n
abbrev pub minus : ℕ → ℤ
minus n = negsuc (n - 1)

-- the ends of 64 bits
abbrev pub greatest : ℤ
greatest = pos (2 ^ 63 - 1)

abbrev pub least : ℤ
least = negsuc (2 ^ 63 - 1)
