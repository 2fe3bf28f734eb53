-- Scalar functions of lists of numbers.
use Rattle.std.{specs.Prelude.{◌≡◌, ℕ, ◌==◌, ℤ, pos, List, length, map, get_or, if◌then◌else◌, Result, Ok, Err, Vec}, specs.List.{range_with_len}}
use Rattle.arrays_core.{specs.declared.item.Item.{Item}, specs.declared.item.Item.TheVariants.{Num}, specs.declared.item.Kind.{Kind}, specs.declared.fault.ApplyFault.{ApplyFault}, specs.declared.fault.ApplyFault.TheVariants.{Kind as KindFault, NoMemory}}
use Rattle.function_names.{specs.declared.scalar.Scalar1.{Scalar1}, specs.declared.scalar.Scalar2.{Scalar2}}
use Rattle.item_fns.specs.Numbers.{monadic_on_number, dyadic_on_numbers}

-- the results at each place of a list
abbrev pub monadic_results : Scalar1 → List ℤ → List (Result ℤ Kind)
monadic_results f xs = map (monadic_on_number f) xs

-- the number at a place; a list of one number is extended
abbrev pub number_at : List ℤ → ℕ → ℤ
number_at xs k = get_or xs (if length xs == 1 then 0 else k) (pos 0)

-- the common length of two lists; a list of one number is extended
abbrev pub paired_length : List ℤ → List ℤ → ℕ
paired_length xs ys = if length xs == 1 then length ys else length xs

-- the results of a function of two numbers at each place of two lists
abbrev pub results_by : (ℤ → ℤ → Result ℤ Kind) → List ℤ → List ℤ → List (Result ℤ Kind)
results_by function xs ys = map (λ k. function (number_at xs k) (number_at ys k)) (range_with_len 0 (paired_length xs ys))

abbrev pub dyadic_results : Scalar2 → List ℤ → List ℤ → List (Result ℤ Kind)
dyadic_results f xs ys = results_by (dyadic_on_numbers f) xs ys

-- the result of a call: the wanted list, the wanted error, or lack of memory
abbrev pub IsListAnswerTo : {G : Type 0} → Result (List ℤ) Kind → Result (Vec ℤ G) ApplyFault → Type 0
IsListAnswerTo wanted (Ok v) = wanted ≡ Ok v.items
IsListAnswerTo wanted (Err (KindFault k)) = wanted ≡ Err k
IsListAnswerTo wanted (Err NoMemory) = Unit {0}

-- numbers as the items of an array
abbrev pub number_items : Result (List ℤ) Kind → Result (List Item) Kind
number_items (Ok zs) = Ok (map (λ z. Num z) zs)
number_items (Err k) = Err k
