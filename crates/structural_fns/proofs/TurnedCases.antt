-- Worked cases of the reach of reverse, rotate and transpose, computed.
use Rattle.std.proofs.Common.{ℕ, ℤ, List, [], ◌∷◌, length, map, Some, None, replicate, pos, refl}
use Rattle.arrays_core.{specs.declared.item.Item.TheVariants.{Num}, specs.declared.item.ItemType.TheVariants.{Nums}, specs.Arrays.{ArrayValue}, specs.Shapes.{size}, proofs.CaseWords.{◌⇒◌, AllSame}}
use Rattle.function_names.specs.declared.along.Along.TheVariants.{First, Last, Axis}
use Rattle.change_core.{specs.declared.reach.Reach.TheVariants.{Unmoved, Inside, Anew}, specs.Reaches.{reach_of}}
use Rattle.structural_fns.{specs.Reverse.{reverse_rule}, specs.Rotate.{rotate_rule}, specs.Transpose.{transpose_rule}, specs.DyadicTranspose.{transpose_by_rule}}

-- an array of zeros
abbrev zeros : List ℕ → ArrayValue
zeros shape = record { item_type = Nums; shape = shape; items = replicate (size shape) (Num (pos 0)) }

-- a vector of these numbers
abbrev vector : List ℤ → ArrayValue
vector zs = record { item_type = Nums; shape = length zs ∷ []; items = map (λ z. Num z) zs }

-- ---- reverse

reverse_cases : AllSame (
    reach_of (reverse_rule Last) (zeros (5 ∷ []) ∷ []) (Some ((2, 3) ∷ []) ∷ []) ⇒ Inside ((3, 4) ∷ []) ∷  -- vector reversed
    reach_of (reverse_rule Last) (zeros (3 ∷ 4 ∷ []) ∷ []) (Some ((2, 3) ∷ (1, 1) ∷ []) ∷ []) ⇒ Inside ((2, 3) ∷ (4, 4) ∷ []) ∷  -- last axis reversed
    reach_of (reverse_rule First) (zeros (3 ∷ 4 ∷ []) ∷ []) (Some ((2, 3) ∷ (1, 1) ∷ []) ∷ []) ⇒ Inside ((1, 2) ∷ (1, 1) ∷ []) ∷  -- first axis reversed
    reach_of (reverse_rule Last) (zeros [] ∷ []) (Some [] ∷ []) ⇒ Inside [] ∷  -- scalar reversed
    reach_of (reverse_rule Last) (zeros (0 ∷ []) ∷ []) (Some ((1, 1) ∷ []) ∷ []) ⇒ Unmoved ∷  -- nothing reversed
    reach_of (reverse_rule Last) (zeros (5 ∷ []) ∷ []) (None ∷ []) ⇒ Unmoved ∷  -- unchanged reversed
    -- a failed check reaches everything
    reach_of (reverse_rule (Axis (pos 2))) (zeros (5 ∷ []) ∷ []) (Some ((2, 3) ∷ []) ∷ []) ⇒ Anew ∷
    [])
reverse_cases = refl

-- ---- rotate

rotate_cases : AllSame (
    reach_of (rotate_rule Last) (zeros [] ∷ zeros (5 ∷ []) ∷ []) (None ∷ Some ((2, 2) ∷ []) ∷ []) ⇒ Inside ((1, 5) ∷ []) ∷  -- vector rotated
    reach_of (rotate_rule Last) (zeros [] ∷ zeros (3 ∷ 4 ∷ []) ∷ []) (None ∷ Some ((2, 3) ∷ (1, 1) ∷ []) ∷ []) ⇒ Inside ((2, 3) ∷ (1, 4) ∷ []) ∷  -- rows rotated
    -- columns rotated
    reach_of (rotate_rule First) (zeros [] ∷ zeros (3 ∷ 4 ∷ []) ∷ []) (None ∷ Some ((2, 3) ∷ (1, 1) ∷ []) ∷ []) ⇒ Inside ((1, 3) ∷ (1, 1) ∷ []) ∷
    reach_of (rotate_rule Last) (zeros [] ∷ zeros (3 ∷ 4 ∷ []) ∷ []) (Some [] ∷ None ∷ []) ⇒ Inside ((1, 3) ∷ (1, 4) ∷ []) ∷  -- one amount
    reach_of (rotate_rule Last) (zeros (3 ∷ []) ∷ zeros (3 ∷ 4 ∷ []) ∷ []) (Some ((2, 2) ∷ []) ∷ None ∷ []) ⇒ Inside ((2, 2) ∷ (1, 4) ∷ []) ∷  -- amount of a row
    -- amount of a column
    reach_of (rotate_rule First) (zeros (4 ∷ []) ∷ zeros (3 ∷ 4 ∷ []) ∷ []) (Some ((2, 3) ∷ []) ∷ None ∷ []) ⇒ Inside ((1, 3) ∷ (2, 3) ∷ []) ∷
    -- amount and place
    reach_of (rotate_rule Last) (zeros (3 ∷ []) ∷ zeros (3 ∷ 4 ∷ []) ∷ []) (Some ((1, 1) ∷ []) ∷ Some ((2, 2) ∷ (3, 3) ∷ []) ∷ []) ⇒ Inside ((1, 2) ∷ (1, 4) ∷ []) ∷
    reach_of (rotate_rule Last) (zeros [] ∷ zeros [] ∷ []) (None ∷ Some [] ∷ []) ⇒ Inside [] ∷  -- scalar rotated
    reach_of (rotate_rule Last) (zeros [] ∷ zeros (0 ∷ []) ∷ []) (Some [] ∷ None ∷ []) ⇒ Unmoved ∷  -- nothing rotated
    [])
rotate_cases = refl

-- ---- transpose

transpose_cases : AllSame (
    reach_of transpose_rule (zeros (3 ∷ 4 ∷ []) ∷ []) (Some ((2, 3) ∷ (1, 1) ∷ []) ∷ []) ⇒ Inside ((1, 1) ∷ (2, 3) ∷ []) ∷  -- matrix transposed
    reach_of transpose_rule (zeros [] ∷ []) (Some [] ∷ []) ⇒ Inside [] ∷  -- scalar transposed
    reach_of transpose_rule (zeros (0 ∷ 3 ∷ []) ∷ []) (Some ((1, 1) ∷ (1, 1) ∷ []) ∷ []) ⇒ Unmoved ∷  -- nothing transposed
    [])
transpose_cases = refl

-- ---- dyadic transpose

dyadic_transpose_cases : AllSame (
    reach_of transpose_by_rule (vector (pos 1 ∷ pos 1 ∷ []) ∷ zeros (3 ∷ 3 ∷ []) ∷ []) (None ∷ Some ((1, 1) ∷ (2, 2) ∷ []) ∷ []) ⇒ Unmoved ∷  -- off the diagonal
    -- on the diagonal
    reach_of transpose_by_rule (vector (pos 1 ∷ pos 1 ∷ []) ∷ zeros (3 ∷ 3 ∷ []) ∷ []) (None ∷ Some ((1, 2) ∷ (2, 3) ∷ []) ∷ []) ⇒ Inside ((2, 2) ∷ []) ∷
    -- a place that lies beyond the shorter axis is on no diagonal
    reach_of transpose_by_rule (vector (pos 1 ∷ pos 1 ∷ []) ∷ zeros (2 ∷ 3 ∷ []) ∷ []) (None ∷ Some ((1, 2) ∷ (3, 3) ∷ []) ∷ []) ⇒ Unmoved ∷
    -- axes moved
    reach_of transpose_by_rule (vector (pos 2 ∷ pos 3 ∷ pos 1 ∷ []) ∷ zeros (2 ∷ 3 ∷ 4 ∷ []) ∷ []) (None ∷ Some ((1, 1) ∷ (2, 3) ∷ (4, 4) ∷ []) ∷ []) ⇒ Inside ((4, 4) ∷ (1, 1) ∷ (2, 3) ∷ []) ∷
    reach_of transpose_by_rule (vector (pos 2 ∷ pos 1 ∷ []) ∷ zeros (2 ∷ 3 ∷ []) ∷ []) (Some ((1, 2) ∷ []) ∷ None ∷ []) ⇒ Anew ∷  -- other axes
    reach_of transpose_by_rule (vector [] ∷ zeros [] ∷ []) (None ∷ Some [] ∷ []) ⇒ Inside [] ∷  -- scalar transposed by
    [])
dyadic_transpose_cases = refl
