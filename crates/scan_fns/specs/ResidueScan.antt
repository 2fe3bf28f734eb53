-- Scans by residue of numbers of which none is below 0, or none above.
use Rattle.std.{specs.Prelude.{◌≡◌, ℕ, suc, ◌-◌, ◌^◌, ◌<◌, ◌≤◌, nat_eq, ℤ, pos, int_le, IsTrue, Bool, ◌||◌, unsigned_abs, List, length, get_or, IfSome, Option, Some, None, ◌⊎◌, if◌then◌else◌, Result, Ok}, specs.List.{list_all}, specs.Ordering.{int_eq}}
use Rattle.arrays_core.specs.declared.item.Kind.{Kind}
use Rattle.function_names.specs.declared.scalar.Scalar2.TheVariants.{Residue as ByResidue}
use Rattle.item_fns.specs.Numbers.{residue, dyadic_on_numbers}
use Rattle.scan_fns.{specs.declared.residue_scan.Divisor.{Divisor}, specs.LinearScan.{depth}, specs.RecalledScan.{given_at}}

-- the magnitude of a divisor, and 2 to the power 64 less 1 for 0: a value of smaller magnitude is its own residue
abbrev pub extent_of : ℤ → ℕ
extent_of z = if int_eq z (pos 0) then 2 ^ 64 - 1 else unsigned_abs z

abbrev pub extent_at : List ℤ → ℕ → ℕ
extent_at zs place = extent_of (get_or zs place (pos 0))

-- a number is at most 0; it is at least 0
abbrev pub is_low : ℤ → Bool
is_low z = int_le z (pos 0)

abbrev pub is_high : ℤ → Bool
is_high z = int_le (pos 0) z

-- no number is above 0, or none is below
abbrev pub are_one_sided : List ℤ → Bool
are_one_sided zs = list_all is_high zs || list_all is_low zs

-- the next number keeps the list on one side of 0
abbrev pub IsBeside : List ℤ → ℤ → Type 0
IsBeside zs w = (IsTrue (list_all is_low zs) × IsTrue (is_low w)) ⊎ (IsTrue (list_all is_high zs) × IsTrue (is_high w))

-- the place before one on its line
abbrev pub place_before : (stride count place : ℕ) → Option ℕ
place_before stride count place = if nat_eq (depth stride count place) 0 then None else Some (place - stride)

-- a place counted from 1, and 0 for none
abbrev pub rank : Option ℕ → ℕ
rank None = 0
rank (Some place) = suc place

-- the residue of a value by the numbers of a line from a place back to the first
abbrev pub from : List ℤ → (stride count : ℕ) → Option ℕ → ℤ → Result ℤ Kind
from zs stride count None w = Ok w
from zs stride count (Some place) w = given_at (dyadic_on_numbers ByResidue) zs stride count place (residue (get_or zs place (pos 0)) w)

-- values of smaller magnitude than `extent` have the same residue from two places
abbrev pub AreTheSame : List ℤ → (stride count extent : ℕ) → Option ℕ → Option ℕ → Type 0
AreTheSame zs stride count extent start end = (w : ℤ) → IsBeside zs w → unsigned_abs w < extent → from zs stride count start w ≡ from zs stride count end w

-- from `start` to an `end` of no greater extent: values of smaller magnitude than that extent have the same residue from both
pub record Leads (zs : List ℤ) (stride count : ℕ) (start : Option ℕ) (end : ℕ) : Type 0 where
  pub less : IfSome start (λ place. extent_at zs end ≤ extent_at zs place)
  pub same : AreTheSame zs stride count (extent_at zs end) start (Some end)

pub record LeadsTo (zs : List ℤ) (stride count : ℕ) (start end : Option ℕ) : Type 0 where
  pub before : rank end ≤ rank start
  pub leads : IfSome end (Leads zs stride count start)

-- the links of a place are correct
pub record IsDivisor (zs : List ℤ) (stride count place : ℕ) (d : Divisor) : Type 0 where
  pub extent : d.extent ≡ extent_at zs place
  pub below : AreTheSame zs stride count (extent_at zs place) (Some place) d.below
  pub before : rank d.below ≤ place
  pub before_far : rank d.far ≤ place
  pub far : IfSome d.far (Leads zs stride count (Some place))

-- a default for lookups out of range
abbrev pub no_divisor : Divisor
no_divisor = record { extent = 0; below = None; far = None; steps = 0 }

abbrev pub AreDivisors : List ℤ → (stride count : ℕ) → List Divisor → Type 0
AreDivisors zs stride count ds = (place : ℕ) → place < length ds → IsDivisor zs stride count place (get_or ds place no_divisor)
