-- The parts of folds by +.
use Rattle.std.{specs.Prelude.{◌≡◌, ◌^◌, true, ℤ, pos, ◌+ℤ◌, ◌-ℤ◌, ◌≤ℤ◌, neg_ℤ, List, [], ◌∷◌, ◌&&◌, if◌then◌else◌, Result, Ok, Err, ◌⊎◌}, specs.Int.{int_max, int_min}, specs.List.{All}}
use Rattle.arrays_core.{specs.declared.item.Kind.{Kind}, specs.declared.item.Kind.TheVariants.{Limit}}
use Rattle.item_fns.specs.Numbers.{is_number}
use Rattle.fold_trees.specs.declared.summary.Summary.{Summary}

-- ---- the sum of a list, and the range of its suffix sums, with 0 for the empty suffix

pub record Sums : Type 0 where
  pub total : ℤ
  pub least : ℤ
  pub greatest : ℤ

-- of the empty list
abbrev pub sums_of_none : Sums
sums_of_none = record { total = pos 0; least = pos 0; greatest = pos 0 }

-- of one number
abbrev pub single : ℤ → Sums
single z = record { total = z; least = int_min z (pos 0); greatest = int_max z (pos 0) }

-- of two lists joined
abbrev pub join : (earlier later : Sums) → Sums
join a b = record { total = a.total +ℤ b.total; least = int_min b.least (a.least +ℤ b.total); greatest = int_max b.greatest (a.greatest +ℤ b.total) }

-- of a list
abbrev pub sums_of : List ℤ → Sums
sums_of [] = sums_of_none
sums_of (z ∷ rest) = join (single z) (sums_of rest)

-- the sum from the right by these values
abbrev pub sum_told : Sums → Result ℤ Kind
sum_told s = if is_number s.least && is_number s.greatest then Ok s.total else Err Limit

-- total and 0 lie within the range
pub record IsOrdered (s : Sums) : Type 0 where
  pub least_total : s.least ≤ℤ s.total
  pub total_greatest : s.total ≤ℤ s.greatest
  pub least_zero : s.least ≤ℤ pos 0
  pub zero_greatest : pos 0 ≤ℤ s.greatest

-- ---- the stored part

-- the values that a part stores
abbrev pub told_sums : Summary → Sums
told_sums s = record { total = pos s.total -ℤ pos s.below; least = neg_ℤ (pos s.below); greatest = pos s.above }

-- the range is too wide for any list with these numbers in it
abbrev pub IsFar : Sums → Type 0
IsFar m = (m.least +ℤ pos (2 ^ 64)) ≤ℤ m.greatest

-- a summary stands for these sums; where their range is too wide, it stores others that are too wide
pub record IsSummaryOf (s : Summary) (m : Sums) : Type 0 where
  pub ordered : IsOrdered m
  pub sound : IsOrdered (told_sums s)
  pub is : told_sums s ≡ m ⊎ IsFar m × IsFar (told_sums s)

-- a summary stands for a list of 64-bit numbers
pub record IsSumKept (xs : List ℤ) (s : Summary) : Type 0 where
  pub numbers : All (λ z. is_number z ≡ true) xs
  pub tells : IsSummaryOf s (sums_of xs)
