-- Prefixes of a line, as functions of the next number.
use Rattle.std.{specs.Prelude.{◌≡◌, ◌≤◌, ℕ, unsigned_abs, nat_le, nat_lt, ℤ, pos, negsuc, ◌+ℤ◌, ◌-ℤ◌, ◌*ℤ◌, int_le, ◌&&◌, FitsSigned, List, Bool, true, ◌||◌, if◌then◌else◌, Option, Some, None, Result, Ok, Err}, specs.Int.{w64}, specs.Ordering.{int_eq}}
use Rattle.arrays_core.{specs.Items.{and_then}, specs.declared.item.Kind.{Kind}, specs.declared.item.Kind.TheVariants.{Limit}}
use Rattle.item_fns.{specs.Numbers.{number_or_limit}, specs.Folds.{folded}}
use Rattle.scan_fns.specs.LinearScan.{run_to}

-- the right fold up to a place of its line
abbrev pub fold_to : (ℤ → ℤ → Result ℤ Kind) → List ℤ → (stride count place : ℕ) → Result ℤ Kind
fold_to f zs stride count place = folded f (run_to (pos 0) zs stride count place)

-- the empty prefix yields the next 64-bit number itself
pub record IsFresh (gives : ℤ → Result ℤ Kind) : Type 0 where
  pub is : (v : ℤ) → FitsSigned w64 v → gives v ≡ Ok v

-- after one more number, the prefix applies that number first and then its old function
pub record Continues (first before after : ℤ → Result ℤ Kind) : Type 0 where
  pub is : (v : ℤ) → FitsSigned w64 v → after v ≡ and_then (first v) before

-- results for 64-bit numbers fit 64 bits
pub record IsClosed (f : ℤ → ℤ → Result ℤ Kind) : Type 0 where
  pub is : (a b z : ℤ) → FitsSigned w64 a → FitsSigned w64 b → f a b ≡ Ok z → FitsSigned w64 z

-- a total plus or minus a number between two bounds, else LIMIT, since an intermediate value leaves 64 bits
abbrev pub difference : (total : ℤ) (is_added : Bool) (low high : ℤ) → ℤ → Result ℤ Kind
difference total is_added low high v = if int_le low v && int_le v high then number_or_limit (if is_added then total +ℤ v else total -ℤ v) else Err Limit

-- at most `below` below 0, and at most `above` above it
abbrev pub lies_within : (below above : ℕ) → ℤ → Bool
lies_within below above (pos n) = nat_le n above
lies_within below above (negsuc n) = nat_lt n below

-- the product of a total and a number within the margin, else LIMIT, since an intermediate value leaves 64 bits
abbrev pub product : (total : ℤ) (below above : ℕ) → ℤ → Result ℤ Kind
product total below above v = if lies_within below above v then number_or_limit (total *ℤ v) else Err Limit

-- 0, 1 or ¯1
pub record IsUnit (z : ℤ) : Type 0 where
  pub near : unsigned_abs z ≤ 1

-- every result without an error is 0 or 1
pub record GivesTruths (f : ℤ → ℤ → Result ℤ Kind) : Type 0 where
  pub is : (a b z : ℤ) → f a b ≡ Ok z → (int_eq z (pos 0) || int_eq z (pos 1)) ≡ true

-- the first result if the number is 0, else the second
abbrev pub chosen : Result ℤ Kind → Result ℤ Kind → ℤ → Result ℤ Kind
chosen at_zero at_one z = if int_eq z (pos 0) then at_zero else at_one

-- the result chosen by f of the last number and the next; without a last number, the next number itself
abbrev pub outcome : (ℤ → ℤ → Result ℤ Kind) → Option ℤ → Result ℤ Kind → Result ℤ Kind → ℤ → Result ℤ Kind
outcome f None at_zero at_one v = Ok v
outcome f (Some last) at_zero at_one v = and_then (f last v) (chosen at_zero at_one)
