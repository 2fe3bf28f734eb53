-- Running totals of lines, without checks.
use Rattle.std.{specs.Prelude.{ℕ, ◌%◌, ◌<◌, ◌≤◌, nat_eq, Bool, true, false, not, ◌||◌, if◌then◌else◌, ℤ, pos, ◌+ℤ◌, ◌-ℤ◌, List, [], ◌∷◌, get_or, Result, Ok}, specs.Int.{int_wrap, w64}}
use Rattle.{arrays_core.specs.declared.item.Kind.{Kind}, function_names.specs.declared.scalar.Scalar2.{Scalar2}, function_names.specs.declared.scalar.Scalar2.TheVariants.{Plus, Minus}}
use Rattle.{item_fns.specs.AtOnce.{IsSum}, scan_fns.specs.LinearScan.{run_to}}

-- the function of the totals
abbrev pub total_function : (turned : Bool) → Scalar2
total_function true = Minus
total_function false = Plus

-- the sum of a list; if turned, x1 - (x2 - (.. xk))
abbrev pub total_of : (turned : Bool) → List ℤ → ℤ
total_of turned [] = pos 0
total_of true (x ∷ rest) = x -ℤ total_of true rest
total_of false (x ∷ rest) = x +ℤ total_of false rest

-- the total, wrapped to 64 bits
abbrev pub wrapped_total : (turned : Bool) → List ℤ → Result ℤ Kind
wrapped_total turned xs = Ok (int_wrap w64 (total_of turned xs))

-- the same up to a place of its line
abbrev pub wrapped_to : (turned : Bool) → List ℤ → (stride count place : ℕ) → Result ℤ Kind
wrapped_to turned zs stride count place = wrapped_total turned (run_to (pos 0) zs stride count place)

-- a total with one more number after `before` others
abbrev pub next_total : (turned : Bool) (before : ℕ) → ℤ → ℤ → ℤ
next_total turned before total z = if not turned || nat_eq (before % 2) 0 then total +ℤ z else total -ℤ z

-- the numbers at these places are so near that an array of them has totals within 64 bits
abbrev pub AreNear : List ℤ → (first end : ℕ) → Type 0
AreNear zs first end = (k : ℕ) → k < end → first ≤ k → IsSum 1 (get_or zs k (pos 0))
