-- Worked boxes, computed: the places of a result that a box of an argument changes.
use Rattle.std.proofs.Common.{◌≡◌, ℕ, List, [], ◌∷◌, refl, true, false, Option, Some, None}
use Rattle.arrays_core.{specs.Arrays.{ArrayValue}, proofs.CaseWords.{◌⇒◌, AllSame, nums, scalar, no_numbers}}
use Rattle.{function_names.specs.declared.along.Along.TheVariants.{First, Last}, index_region.specs.Boxes.{Interval}}
use Rattle.change_core.{specs.declared.reach.Reach.{Reach}, specs.declared.reach.Reach.TheVariants.{Anew, Inside, Unmoved}, specs.Reaches.{reach_of}}
use Rattle.selection_fns.{specs.Shape.{shape_rule}, specs.IndexGenerator.{generator_rule}, specs.Replicate.{replicate_rule}, specs.Index.{index_rule}}

-- 2 3⍴⍳6, and a vector
abbrev pub table : ArrayValue
table = nums (2 ∷ 3 ∷ []) (1 ∷ 2 ∷ 3 ∷ 4 ∷ 5 ∷ 6 ∷ [])

abbrev pub three : ArrayValue
three = nums (3 ∷ []) (7 ∷ 8 ∷ 9 ∷ [])

-- the box of a scalar, of places of a vector, and of rows and columns
abbrev pub place : Option (List Interval)
place = Some []

abbrev pub places : ℕ → ℕ → Option (List Interval)
places first last = Some ((first, last) ∷ [])

abbrev pub block : ℕ → ℕ → ℕ → ℕ → Option (List Interval)
block top bottom left right = Some ((top, bottom) ∷ (left, right) ∷ [])

abbrev pub one : ℕ → ℕ → Reach
one first last = Inside ((first, last) ∷ [])

abbrev pub two : ℕ → ℕ → ℕ → ℕ → Reach
two top bottom left right = Inside ((top, bottom) ∷ (left, right) ∷ [])

-- ---- shape

shape_of_vector : reach_of shape_rule (three ∷ []) (places 2 2 ∷ []) ≡ Unmoved
shape_of_vector = refl

shape_of_scalar : reach_of shape_rule (scalar 5 ∷ []) (place ∷ []) ≡ Unmoved
shape_of_scalar = refl

-- ---- index generator

index_generator_cases : AllSame (
    reach_of generator_rule (scalar 5 ∷ []) (place ∷ []) ⇒ Anew ∷  -- generator of scalar
    reach_of generator_rule (nums (1 ∷ []) (3 ∷ []) ∷ []) (places 1 1 ∷ []) ⇒ Anew ∷  -- generator of vector
    reach_of generator_rule (scalar 5 ∷ []) (None ∷ []) ⇒ Unmoved ∷  -- generator unmoved
    [])
index_generator_cases = refl

-- ---- replicate

-- 2 0 1/B
abbrev counts : ArrayValue
counts = nums (3 ∷ []) (2 ∷ 0 ∷ 1 ∷ [])

replicate_cases : AllSame (
    reach_of (replicate_rule Last) (counts ∷ three ∷ []) (None ∷ places 1 1 ∷ []) ⇒ one 1 2 ∷  -- replicate first
    reach_of (replicate_rule Last) (counts ∷ three ∷ []) (None ∷ places 2 2 ∷ []) ⇒ Unmoved ∷  -- replicate without copies
    reach_of (replicate_rule Last) (counts ∷ three ∷ []) (None ∷ places 2 3 ∷ []) ⇒ one 3 3 ∷  -- replicate last
    reach_of (replicate_rule Last) (counts ∷ table ∷ []) (None ∷ block 2 2 1 2 ∷ []) ⇒ two 2 2 1 2 ∷  -- replicate columns
    reach_of (replicate_rule First) (nums (2 ∷ []) (3 ∷ 1 ∷ []) ∷ table ∷ []) (None ∷ block 2 2 1 2 ∷ []) ⇒ two 4 4 1 2 ∷  -- replicate rows
    reach_of (replicate_rule Last) (scalar 3 ∷ three ∷ []) (None ∷ places 2 2 ∷ []) ⇒ one 4 6 ∷  -- replicate by one count
    reach_of (replicate_rule Last) (counts ∷ scalar 5 ∷ []) (None ∷ place ∷ []) ⇒ one 1 3 ∷  -- replicate scalar
    -- an axis of one place, extended to the counts
    reach_of (replicate_rule First) (counts ∷ nums (1 ∷ 2 ∷ []) (5 ∷ 6 ∷ []) ∷ []) (None ∷ block 1 1 2 2 ∷ []) ⇒ two 1 3 2 2 ∷
    reach_of (replicate_rule Last) (counts ∷ three ∷ []) (places 1 1 ∷ places 1 1 ∷ []) ⇒ Anew ∷  -- replicate by counts
    reach_of (replicate_rule Last) (scalar 0 ∷ three ∷ []) (None ∷ places 1 3 ∷ []) ⇒ Unmoved ∷  -- replicate never
    [])
replicate_cases = refl

-- ---- indexed reference

-- B[1 3 1]
abbrev picks : ArrayValue
picks = nums (3 ∷ []) (1 ∷ 3 ∷ 1 ∷ [])

indexed_reference_cases : AllSame (
    reach_of (index_rule (true ∷ [])) (three ∷ picks ∷ []) (places 1 1 ∷ None ∷ []) ⇒ one 1 3 ∷  -- index array
    reach_of (index_rule (true ∷ [])) (three ∷ picks ∷ []) (places 2 3 ∷ None ∷ []) ⇒ one 2 2 ∷  -- index array once
    reach_of (index_rule (true ∷ [])) (three ∷ picks ∷ []) (places 2 2 ∷ None ∷ []) ⇒ Unmoved ∷  -- index array missed
    reach_of (index_rule (true ∷ [])) (three ∷ picks ∷ []) (None ∷ places 3 3 ∷ []) ⇒ one 3 3 ∷  -- index position
    reach_of (index_rule (true ∷ [])) (three ∷ picks ∷ []) (places 3 3 ∷ places 3 3 ∷ []) ⇒ one 2 3 ∷  -- index both
    -- B[2;], B[;1 3] and B[2;1 3]
    reach_of (index_rule (true ∷ false ∷ [])) (table ∷ scalar 2 ∷ []) (block 1 2 2 3 ∷ None ∷ []) ⇒ one 2 3 ∷
    reach_of (index_rule (true ∷ false ∷ [])) (table ∷ scalar 2 ∷ []) (block 1 1 2 3 ∷ None ∷ []) ⇒ Unmoved ∷  -- index other row
    reach_of (index_rule (true ∷ false ∷ [])) (table ∷ scalar 2 ∷ []) (None ∷ place ∷ []) ⇒ one 1 3 ∷  -- index row by position
    reach_of (index_rule (false ∷ true ∷ [])) (table ∷ picks ∷ []) (block 2 2 3 3 ∷ None ∷ []) ⇒ two 2 2 2 2 ∷  -- index columns
    reach_of (index_rule (false ∷ true ∷ [])) (table ∷ picks ∷ []) (None ∷ places 2 3 ∷ []) ⇒ two 1 2 2 3 ∷  -- index columns by position
    reach_of (index_rule (true ∷ true ∷ [])) (table ∷ nums (2 ∷ []) (2 ∷ 1 ∷ []) ∷ picks ∷ []) (block 1 1 3 3 ∷ None ∷ None ∷ []) ⇒ two 2 2 2 2 ∷  -- index place
    -- index positions
    reach_of (index_rule (true ∷ true ∷ [])) (table ∷ nums (2 ∷ []) (2 ∷ 1 ∷ []) ∷ picks ∷ []) (None ∷ places 1 1 ∷ places 3 3 ∷ []) ⇒ two 1 2 1 3 ∷
    -- index second position
    reach_of (index_rule (true ∷ true ∷ [])) (table ∷ nums (2 ∷ []) (2 ∷ 1 ∷ []) ∷ picks ∷ []) (None ∷ None ∷ places 3 3 ∷ []) ⇒ two 1 2 3 3 ∷
    -- a table as a position: its places that name the changed one
    reach_of (index_rule (true ∷ [])) (three ∷ nums (2 ∷ 2 ∷ []) (1 ∷ 2 ∷ 3 ∷ 2 ∷ []) ∷ []) (places 2 2 ∷ None ∷ []) ⇒ two 1 2 2 2 ∷
    reach_of (index_rule (true ∷ [])) (three ∷ no_numbers ∷ []) (places 1 3 ∷ None ∷ []) ⇒ Unmoved ∷  -- index nowhere
    [])
indexed_reference_cases = refl
