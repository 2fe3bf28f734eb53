-- Scans that keep the value that reached each place.
use Rattle.std.specs.Prelude.{◌≡◌, ℕ, ◌-◌, ◌*◌, ◌<◌, ℤ, pos, List, [], ◌∷◌, ◌++◌, length, get_or, Result}
use Rattle.arrays_core.specs.declared.item.Kind.{Kind}
use Rattle.item_fns.specs.Folds.{strided, folded}
use Rattle.scan_fns.{specs.declared.recalled_scan.Recalled.{Recalled}, specs.LinearScan.{depth}, specs.Prefixes.{fold_to}}

-- the entries of the line of a place before that place
abbrev pub run_before : List ℤ → (stride count place : ℕ) → List ℤ
run_before zs stride count place = strided (pos 0) zs (place - depth stride count place * stride) stride (depth stride count place)

-- the right fold up to a place where another number stands
abbrev pub given_at : (ℤ → ℤ → Result ℤ Kind) → List ℤ → (stride count place : ℕ) → ℤ → Result ℤ Kind
given_at f zs stride count place z = folded f (run_before zs stride count place ++ z ∷ [])

-- a default for lookups out of range
abbrev pub nothing : Recalled
nothing = record { number = pos 0; later = 0 }

-- the fold up to this place, with the kept value in it, equals the fold up to the later place
abbrev pub IsRecalled : (ℤ → ℤ → Result ℤ Kind) → List ℤ → (stride count place : ℕ) → Recalled → Type 0
IsRecalled f zs stride count place r = given_at f zs stride count place r.number ≡ fold_to f zs stride count r.later

abbrev pub AreRecalled : (ℤ → ℤ → Result ℤ Kind) → List ℤ → (stride count : ℕ) → List Recalled → Type 0
AreRecalled f zs stride count rs = (place : ℕ) → place < length rs → IsRecalled f zs stride count place (get_or rs place nothing)
