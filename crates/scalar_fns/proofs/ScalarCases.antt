-- Worked cases of the reach of scalar functions, computed.
use Rattle.std.proofs.Common.{ℕ, List, [], ◌∷◌, Some, None, replicate, pos, refl}
use Rattle.arrays_core.{specs.declared.item.Item.TheVariants.{Num}, specs.declared.item.ItemType.TheVariants.{Nums}, specs.Arrays.{ArrayValue}, specs.Shapes.{size}, proofs.CaseWords.{◌⇒◌, AllSame}}
use Rattle.function_names.{specs.declared.scalar.Scalar1.TheVariants.{Negative}, specs.declared.scalar.Scalar2.TheVariants.{Plus}}
use Rattle.change_core.{specs.declared.reach.Reach.TheVariants.{Unmoved, Inside, Anew}, specs.Reaches.{reach_of}}
use Rattle.scalar_fns.{specs.EachMonadic.{each_monadic_rule}, specs.EachDyadic.{each_dyadic_rule}}

-- an array of zeros
abbrev zeros : List ℕ → ArrayValue
zeros shape = record { item_type = Nums; shape = shape; items = replicate (size shape) (Num (pos 0)) }

-- ---- of one array

of_one_array_cases : AllSame (
    reach_of (each_monadic_rule Negative) (zeros (5 ∷ []) ∷ []) (Some ((2, 3) ∷ []) ∷ []) ⇒ Inside ((2, 3) ∷ []) ∷  -- vector negated
    reach_of (each_monadic_rule Negative) (zeros [] ∷ []) (Some [] ∷ []) ⇒ Inside [] ∷  -- scalar negated
    reach_of (each_monadic_rule Negative) (zeros (0 ∷ []) ∷ []) (Some ((1, 1) ∷ []) ∷ []) ⇒ Unmoved ∷  -- nothing negated
    [])
of_one_array_cases = refl

-- ---- of two arrays

of_two_arrays_cases : AllSame (
    reach_of (each_dyadic_rule Plus) (zeros (5 ∷ []) ∷ zeros (5 ∷ []) ∷ []) (Some ((2, 2) ∷ []) ∷ None ∷ []) ⇒ Inside ((2, 2) ∷ []) ∷  -- left place
    -- both places
    reach_of (each_dyadic_rule Plus) (zeros (5 ∷ []) ∷ zeros (5 ∷ []) ∷ []) (Some ((1, 2) ∷ []) ∷ Some ((4, 4) ∷ []) ∷ []) ⇒ Inside ((1, 4) ∷ []) ∷
    -- beside a scalar
    reach_of (each_dyadic_rule Plus) (zeros (3 ∷ 4 ∷ []) ∷ zeros [] ∷ []) (Some ((2, 2) ∷ (1, 3) ∷ []) ∷ None ∷ []) ⇒ Inside ((2, 2) ∷ (1, 3) ∷ []) ∷
    reach_of (each_dyadic_rule Plus) (zeros (3 ∷ 4 ∷ []) ∷ zeros [] ∷ []) (None ∷ Some [] ∷ []) ⇒ Inside ((1, 3) ∷ (1, 4) ∷ []) ∷  -- scalar extended
    reach_of (each_dyadic_rule Plus) (zeros (1 ∷ []) ∷ zeros (3 ∷ []) ∷ []) (Some ((1, 1) ∷ []) ∷ None ∷ []) ⇒ Inside ((1, 3) ∷ []) ∷  -- vector of one extended
    reach_of (each_dyadic_rule Plus) (zeros [] ∷ zeros (0 ∷ []) ∷ []) (Some [] ∷ None ∷ []) ⇒ Unmoved ∷  -- extended over nothing
    reach_of (each_dyadic_rule Plus) (zeros [] ∷ zeros [] ∷ []) (Some [] ∷ None ∷ []) ⇒ Inside [] ∷  -- two scalars
    -- a failed check reaches everything
    reach_of (each_dyadic_rule Plus) (zeros (2 ∷ []) ∷ zeros (3 ∷ []) ∷ []) (Some ((1, 1) ∷ []) ∷ None ∷ []) ⇒ Anew ∷
    [])
of_two_arrays_cases = refl
