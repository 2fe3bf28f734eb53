-- Prefixes of the lines of a list in row-major order, and their folds.
use Rattle.std.{specs.Prelude.{◌≡◌, ℕ, ◌+◌, ◌-◌, ◌*◌, ◌/◌, ◌%◌, ◌<◌, ◌≤◌, ℤ, pos, FitsSigned, List, map, length, take, get_or, All, Result, Ok, Err, Vec, vec_len, vec_capacity}, specs.Int.{w64}, specs.List.{range_with_len}}
use Rattle.arrays_core.{specs.Items.{all_or_first_error}, specs.declared.item.Kind.{Kind}, specs.declared.fault.ApplyFault.{ApplyFault}, specs.declared.fault.ApplyFault.TheVariants.{Kind as KindFault, NoMemory}}
use Rattle.item_fns.specs.Folds.{strided, folded}
use Rattle.reduce_fns.{specs.declared.axis_lines.AxisLines.{AxisLines}, specs.LeftFolds.{folded_left}}

-- the number of entries before a place on its line
abbrev pub depth : (stride count place : ℕ) → ℕ
depth stride count place = place / stride % count

-- the entries of the line of a place up to that place
abbrev pub run_to : {A : Type 0} → A → List A → (stride count place : ℕ) → List A
run_to default xs stride count place = strided default xs (place - depth stride count place * stride) stride (depth stride count place + 1)

-- the folds up to each place of its line, or the error of the first place that fails
abbrev pub scanned : (List ℤ → Result ℤ Kind) → List ℤ → (stride count : ℕ) → Result (List ℤ) Kind
scanned fold zs stride count = all_or_first_error (map (λ place. fold (run_to (pos 0) zs stride count place)) (range_with_len 0 (length zs)))

-- the right folds up to each place of its line
abbrev pub scans_of : (ℤ → ℤ → Result ℤ Kind) → AxisLines → Result (List ℤ) Kind
scans_of f lines = scanned (folded f) lines.numbers.now lines.stride lines.count

-- the right folds of a list up to each place from `first` on, counted from 1
abbrev pub folds_from : (ℤ → ℤ → Result ℤ Kind) → List ℤ → (first : ℕ) → Result (List ℤ) Kind
folds_from f zs first = all_or_first_error (map (λ before. folded f (take (first + before) zs)) (range_with_len 0 (length zs + 1 - first)))

-- the left fold up to a place of its line
abbrev pub left_rule : (ℤ → ℤ → Result ℤ Kind) → List ℤ → (stride count place : ℕ) → Result ℤ Kind
left_rule f zs stride count place = folded_left f (run_to (pos 0) zs stride count place)

-- the results of a rule at the places before one, with capacity for the rest; the numbers at these places fit 64 bits
pub record AreResultsTo {G : Type 0} (place : ℕ) (rule : ℕ → Result ℤ Kind) (zs : List ℤ) (results : Vec ℤ G) : Type 0 where
  pub long : vec_len results ≡ place
  pub room : length zs ≤ vec_capacity results
  pub made : all_or_first_error (take place (map rule (range_with_len 0 (length zs)))) ≡ Ok results.items
  pub read : (k : ℕ) → k < place → FitsSigned w64 (get_or zs k (pos 0))

-- the rule fails with this error at some place, and the numbers up to there fit 64 bits
pub record FailsAt (rule : ℕ → Result ℤ Kind) (zs : List ℤ) (kind : Kind) : Type 0 where
  pub place : ℕ
  pub below : place < length zs
  pub is : rule place ≡ Err kind
  pub numbers : (k : ℕ) → k ≤ place → FitsSigned w64 (get_or zs k (pos 0))

-- the numbers that a call read fit 64 bits: all of them, or those up to its error
abbrev pub HasRead : {G : Type 0} → (List ℤ → Result ℤ Kind) → List ℤ → (stride count : ℕ) → Result (Vec ℤ G) ApplyFault → Type 0
HasRead fold zs stride count (Ok v) = All (FitsSigned w64) zs
HasRead fold zs stride count (Err (KindFault kind)) = FailsAt (λ place. fold (run_to (pos 0) zs stride count place)) zs kind
HasRead fold zs stride count (Err NoMemory) = Unit {0}
