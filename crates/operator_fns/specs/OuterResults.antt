-- A function of each number of a list with each of another.
use Rattle.std.{specs.Prelude.{◌≡◌, ℤ, List, map, ◌++◌, Result, Ok, Err}, specs.List.{flat_map}}
use Rattle.arrays_core.{specs.declared.item.Kind.{Kind}, specs.declared.fault.ApplyFault.{ApplyFault}, specs.declared.fault.ApplyFault.TheVariants.{Kind as KindFault, NoMemory}, specs.Items.{all_or_first_error, and_then}}

-- the results in row-major order: a row for each number on the left
abbrev pub outer_results : (ℤ → ℤ → Result ℤ Kind) → List ℤ → List ℤ → List (Result ℤ Kind)
outer_results f xs ys = flat_map (λ x. map (f x) ys) xs

-- some numbers followed by all results, or the first error
abbrev pub with_results : List ℤ → List (Result ℤ Kind) → Result (List ℤ) Kind
with_results zs rs = and_then (all_or_first_error rs) (λ more. Ok (zs ++ more))

-- a call leaves the expected numbers, or returns their error, or runs out of memory
abbrev pub LeavesOrFails : {U : Type 0} → Result (List ℤ) Kind → List ℤ → Result U ApplyFault → Type 0
LeavesOrFails wanted left (Ok u) = wanted ≡ Ok left
LeavesOrFails wanted left (Err (KindFault k)) = wanted ≡ Err k
LeavesOrFails wanted left (Err NoMemory) = Unit {0}
