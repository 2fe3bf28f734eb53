-- Worked cases of boxes, computed.
use Rattle.std.proofs.Common.{refl, pos, ℕ, List, [], ◌∷◌, replicate, Option, Some, None}
use Rattle.arrays_core.{specs.Arrays.{ArrayValue}, specs.Shapes.{size}, proofs.CaseWords.{◌⇒◌, AllSame, nums}}
use Rattle.{function_names.specs.declared.along.Along.TheVariants.{First, Last, Axis}, index_region.specs.Boxes.{Interval}}
use Rattle.{change_core.{specs.declared.reach.Reach.TheVariants.{Unmoved, Inside, Anew}, specs.Reaches.{reach_of}}, reduce_fns.specs.Reduce.{reduce_rule}}
use Rattle.{scan_fns.specs.Scan.{scan_rule}, operator_fns.{specs.OuterProduct.{outer_rule}, specs.InnerProduct.{inner_rule}}}
use Rattle.function_names.specs.declared.scalar.Scalar2.TheVariants as two

-- an array of zeros of this shape
abbrev array : List ℕ → ArrayValue
array shape = nums shape (replicate (size shape) 0)

abbrev box : List Interval → Option (List Interval)
box region = Some region

-- ---- reduction

reduction_cases : AllSame (
    -- +/B of 3 by 4, where rows 2 to 3 and columns 1 to 2 changed; along the first axis; along the first of three
    reach_of (reduce_rule two.Plus Last) (array (3 ∷ 4 ∷ []) ∷ []) (box ((2, 3) ∷ (1, 2) ∷ []) ∷ []) ⇒ Inside ((2, 3) ∷ []) ∷
    reach_of (reduce_rule two.Plus First) (array (3 ∷ 4 ∷ []) ∷ []) (box ((2, 3) ∷ (1, 2) ∷ []) ∷ []) ⇒ Inside ((1, 2) ∷ []) ∷  -- columns
    -- of three
    reach_of (reduce_rule two.Minus (Axis (pos 1))) (array (2 ∷ 3 ∷ 4 ∷ []) ∷ []) (box ((1, 1) ∷ (2, 2) ∷ (3, 4) ∷ []) ∷ []) ⇒ Inside ((2, 2) ∷ (3, 4) ∷ []) ∷
    -- a vector and a scalar, of one place each
    reach_of (reduce_rule two.Plus Last) (array (5 ∷ []) ∷ []) (box ((2, 3) ∷ []) ∷ []) ⇒ Inside [] ∷
    reach_of (reduce_rule two.Plus Last) (array [] ∷ []) (box [] ∷ []) ⇒ Inside [] ∷  -- scalar
    -- nothing changed; the array has no such axis
    reach_of (reduce_rule two.Plus Last) (array (5 ∷ []) ∷ []) (None ∷ []) ⇒ Unmoved ∷
    reach_of (reduce_rule two.Plus (Axis (pos 3))) (array (3 ∷ 4 ∷ []) ∷ []) (box ((2, 3) ∷ (1, 2) ∷ []) ∷ []) ⇒ Anew ∷  -- no such axis
    -- a result without items
    reach_of (reduce_rule two.Plus Last) (array (0 ∷ 4 ∷ []) ∷ []) (box ((1, 0) ∷ (1, 2) ∷ []) ∷ []) ⇒ Unmoved ∷
    [])
reduction_cases = refl

-- ---- scan

scan_cases : AllSame (
    reach_of (scan_rule two.Plus Last) (array (3 ∷ 4 ∷ []) ∷ []) (box ((2, 3) ∷ (2, 2) ∷ []) ∷ []) ⇒ Inside ((2, 3) ∷ (2, 4) ∷ []) ∷  -- runs
    reach_of (scan_rule two.Plus First) (array (3 ∷ 4 ∷ []) ∷ []) (box ((2, 2) ∷ (1, 2) ∷ []) ∷ []) ⇒ Inside ((2, 3) ∷ (1, 2) ∷ []) ∷  -- runs down
    reach_of (scan_rule two.Minus Last) (array (5 ∷ []) ∷ []) (box ((5, 5) ∷ []) ∷ []) ⇒ Inside ((5, 5) ∷ []) ∷  -- run
    reach_of (scan_rule two.Minus Last) (array [] ∷ []) (box [] ∷ []) ⇒ Inside [] ∷  -- scalar run
    reach_of (scan_rule two.Minus Last) (array (3 ∷ 0 ∷ []) ∷ []) (box ((1, 3) ∷ (1, 0) ∷ []) ∷ []) ⇒ Unmoved ∷  -- no run
    [])
scan_cases = refl

-- ---- outer product

outer_product_cases : AllSame (
    -- fronts
    reach_of (outer_rule two.Times) (array (3 ∷ []) ∷ array (4 ∷ 5 ∷ []) ∷ []) (box ((2, 2) ∷ []) ∷ None ∷ []) ⇒ Inside ((2, 2) ∷ (1, 4) ∷ (1, 5) ∷ []) ∷
    -- backs
    reach_of (outer_rule two.Times) (array (3 ∷ []) ∷ array (4 ∷ 5 ∷ []) ∷ []) (None ∷ box ((2, 3) ∷ (5, 5) ∷ []) ∷ []) ⇒ Inside ((1, 3) ∷ (2, 3) ∷ (5, 5) ∷ []) ∷
    -- both changed: the hull
    reach_of (outer_rule two.Times) (array (3 ∷ []) ∷ array (4 ∷ []) ∷ []) (box ((2, 2) ∷ []) ∷ box ((3, 3) ∷ []) ∷ []) ⇒ Inside ((1, 3) ∷ (1, 4) ∷ []) ∷
    reach_of (outer_rule two.Times) (array [] ∷ array (4 ∷ []) ∷ []) (box [] ∷ None ∷ []) ⇒ Inside ((1, 4) ∷ []) ∷  -- scalar front
    reach_of (outer_rule two.Times) (array (3 ∷ []) ∷ array (0 ∷ []) ∷ []) (box ((2, 2) ∷ []) ∷ None ∷ []) ⇒ Unmoved ∷  -- nothing beside
    [])
outer_product_cases = refl

-- ---- inner product

inner_product_cases : AllSame (
    -- row
    reach_of (inner_rule two.Plus two.Times) (array (2 ∷ 3 ∷ []) ∷ array (3 ∷ 4 ∷ []) ∷ []) (box ((2, 2) ∷ (1, 1) ∷ []) ∷ None ∷ []) ⇒ Inside ((2, 2) ∷ (1, 4) ∷ []) ∷
    -- column
    reach_of (inner_rule two.Plus two.Times) (array (2 ∷ 3 ∷ []) ∷ array (3 ∷ 4 ∷ []) ∷ []) (None ∷ box ((3, 3) ∷ (2, 4) ∷ []) ∷ []) ⇒ Inside ((1, 2) ∷ (2, 4) ∷ []) ∷
    -- row and column
    reach_of (inner_rule two.Plus two.Times) (array (5 ∷ 3 ∷ []) ∷ array (3 ∷ 4 ∷ []) ∷ []) (box ((2, 2) ∷ (1, 1) ∷ []) ∷ box ((1, 3) ∷ (2, 2) ∷ []) ∷ []) ⇒ Inside ((1, 5) ∷ (1, 4) ∷ []) ∷
    reach_of (inner_rule two.Plus two.Times) (array (3 ∷ []) ∷ array (3 ∷ []) ∷ []) (box ((2, 3) ∷ []) ∷ None ∷ []) ⇒ Inside [] ∷  -- vectors
    -- one item on a side
    reach_of (inner_rule two.Plus two.Times) (array [] ∷ array (3 ∷ 4 ∷ []) ∷ []) (box [] ∷ None ∷ []) ⇒ Inside ((1, 4) ∷ []) ∷
    -- beside a scalar
    reach_of (inner_rule two.Plus two.Times) (array [] ∷ array (3 ∷ 4 ∷ []) ∷ []) (None ∷ box ((2, 2) ∷ (3, 3) ∷ []) ∷ []) ⇒ Inside ((3, 3) ∷ []) ∷
    -- one column
    reach_of (inner_rule two.Plus two.Times) (array (2 ∷ 3 ∷ []) ∷ array (1 ∷ 1 ∷ []) ∷ []) (None ∷ box ((1, 1) ∷ (1, 1) ∷ []) ∷ []) ⇒ Inside ((1, 2) ∷ (1, 1) ∷ []) ∷
    -- no pairs, and no columns
    reach_of (inner_rule two.Plus two.Times) (array (2 ∷ 3 ∷ []) ∷ array (3 ∷ 0 ∷ []) ∷ []) (box ((1, 1) ∷ (1, 1) ∷ []) ∷ None ∷ []) ⇒ Unmoved ∷
    [])
inner_product_cases = refl
