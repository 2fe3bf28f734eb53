-- Decode, a row of digits at a time.
use Rattle.std.specs.Prelude.{◌≡◌, IsTrue, ℕ, ◌<◌, ◌≤◌, nat_eq, ◌||◌, ℤ, pos, ◌+ℤ◌, ◌*ℤ◌, List, length, get_or, drop, Result, Ok, Err}
use Rattle.arrays_core.{specs.declared.item.Item.TheVariants.{Num}, specs.declared.item.Kind.{Kind}, specs.declared.item.Kind.TheVariants.{Limit}, specs.Items.{and_then}, specs.Shapes.{size, index_after}, specs.Arrays.{ArrayValue}}
use Rattle.item_fns.specs.Numbers.{number_or_limit}
use Rattle.index_region.{specs.Arguments.{has_one_item}, specs.Axes.{places_along}}
use Rattle.search_fns.specs.Decode.{decode_item}

-- a is a scalar or a vector, with a radix for each digit of b, or either has one
pub record HaveRadices (a b : ArrayValue) : Type 0 where
  pub list : length a.shape ≤ 1
  pub agree : IsTrue (has_one_item a || (nat_eq (places_along b.shape 0) 1 || nat_eq (length a.items) (places_along b.shape 0)))

-- a number with one more digit: times its radix, plus the digit
abbrev pub with_one_more : ℤ → ℤ → ℤ → Result ℤ Kind
with_one_more number radix digit = and_then (number_or_limit (number *ℤ radix)) (λ product. number_or_limit (product +ℤ digit))

-- each number is the one before, with the digit at its place appended
pub record HaveOneMore (radix : ℤ) (digits before numbers : List ℤ) : Type 0 where
  pub each : (place : ℕ) → place < length digits → with_one_more (get_or before place (pos 0)) radix (get_or digits place (pos 0)) ≡ Ok (get_or numbers place (pos 0))

-- a number leaves 64 bits
pub record LeavesNumbers (radix : ℤ) (digits before : List ℤ) : Type 0 where
  pub place : ℕ
  pub below : place < length digits
  pub is : with_one_more (get_or before place (pos 0)) radix (get_or digits place (pos 0)) ≡ Err Limit

-- the numbers of the digits of b by the radices a, in row-major order
pub record AreDecoded (a b : ArrayValue) (numbers : List ℤ) : Type 0 where
  pub each : (place : ℕ) → place < length numbers → decode_item a b (index_after (drop 1 b.shape) place) ≡ Ok (Num (get_or numbers place (pos 0)))

-- a number leaves 64 bits
pub record HasLimit (a b : ArrayValue) : Type 0 where
  pub place : ℕ
  pub below : place < size (drop 1 b.shape)
  pub is : decode_item a b (index_after (drop 1 b.shape) place) ≡ Err Limit
