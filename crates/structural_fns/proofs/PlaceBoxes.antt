-- Worked cases of the boxes of ravel, reshape, take, drop and catenate, computed.
use Rattle.std.proofs.Common.{◌≡◌, refl, ℕ, pos, negsuc, List, [], ◌∷◌, Some, None}
use Rattle.arrays_core.{specs.Arrays.{ArrayValue}, proofs.CaseWords.{◌⇒◌, AllSame, nums, ints, chars, scalar, no_text}}
use Rattle.{function_names.specs.declared.along.Along.TheVariants.{First, Last, Axis}, index_region.specs.Boxes.{Interval}}
use Rattle.change_core.{specs.declared.reach.Reach.{Reach}, specs.declared.reach.Reach.TheVariants.{Unmoved, Inside, Anew}, specs.RuleModels.{RuleModel}, specs.Reaches.{reach_of}}
use Rattle.structural_fns.{specs.Ravel.{ravel_rule}, specs.Reshape.{reshape_rule}, specs.Take.{take_rule}, specs.Drop.{drop_rule}, specs.Catenate.{catenate_rule}}

-- the reach of f B after a change of a box of B
abbrev of_one : RuleModel → ArrayValue → List Interval → Reach
of_one rule b region = reach_of rule (b ∷ []) (Some region ∷ [])

-- the reach of A f B after a change of a box of A, of B, and of both
abbrev of_left : RuleModel → ArrayValue → ArrayValue → List Interval → Reach
of_left rule a b region = reach_of rule (a ∷ b ∷ []) (Some region ∷ None ∷ [])

abbrev of_right : RuleModel → ArrayValue → ArrayValue → List Interval → Reach
of_right rule a b region = reach_of rule (a ∷ b ∷ []) (None ∷ Some region ∷ [])

abbrev of_both : RuleModel → ArrayValue → ArrayValue → List Interval → List Interval → Reach
of_both rule a b left right = reach_of rule (a ∷ b ∷ []) (Some left ∷ Some right ∷ [])

abbrev three : ArrayValue
three = nums (3 ∷ []) (1 ∷ 2 ∷ 3 ∷ [])

abbrev five : ArrayValue
five = nums (5 ∷ []) (1 ∷ 2 ∷ 3 ∷ 4 ∷ 5 ∷ [])

abbrev twelve : ArrayValue
twelve = nums (12 ∷ []) (1 ∷ 2 ∷ 3 ∷ 4 ∷ 5 ∷ 6 ∷ 7 ∷ 8 ∷ 9 ∷ 10 ∷ 11 ∷ 12 ∷ [])

-- 2 3⍴⍳6
abbrev table : ArrayValue
table = nums (2 ∷ 3 ∷ []) (1 ∷ 2 ∷ 3 ∷ 4 ∷ 5 ∷ 6 ∷ [])

abbrev counts : ℕ → ℕ → ArrayValue
counts m n = nums (2 ∷ []) (m ∷ n ∷ [])

-- ---- ravel

ravel_cases : AllSame (
    of_one ravel_rule table ((1, 2) ∷ (3, 3) ∷ []) ⇒ Inside ((3, 6) ∷ []) ∷  -- ravel of column
    of_one ravel_rule table ((2, 2) ∷ (1, 2) ∷ []) ⇒ Inside ((4, 5) ∷ []) ∷  -- ravel of row
    of_one ravel_rule (scalar 7) [] ⇒ Inside ((1, 1) ∷ []) ∷  -- ravel of scalar
    [])
ravel_cases = refl

-- ---- reshape

reshape_cases : AllSame (
    of_right reshape_rule (counts 3 4) twelve ((6, 7) ∷ []) ⇒ Inside ((2, 2) ∷ (2, 3) ∷ []) ∷  -- reshape in row
    of_right reshape_rule (counts 3 4) twelve ((4, 5) ∷ []) ⇒ Inside ((1, 2) ∷ (1, 4) ∷ []) ∷  -- reshape over rows
    -- items are repeated
    of_right reshape_rule (counts 3 4) five ((2, 2) ∷ []) ⇒ Inside ((1, 3) ∷ (1, 4) ∷ []) ∷
    -- as many items as places, and places that are left out
    of_right reshape_rule (scalar 5) five ((2, 2) ∷ []) ⇒ Inside ((2, 2) ∷ []) ∷
    of_right reshape_rule (counts 2 2) twelve ((5, 5) ∷ []) ⇒ Unmoved ∷  -- reshape past
    of_right reshape_rule (counts 2 2) twelve ((4, 9) ∷ []) ⇒ Inside ((2, 2) ∷ (2, 2) ∷ []) ∷  -- reshape partly past
    of_right reshape_rule three (scalar 7) [] ⇒ Inside ((1, 1) ∷ (1, 2) ∷ (1, 3) ∷ []) ∷  -- reshape of scalar
    of_right reshape_rule no_text five ((1, 2) ∷ []) ⇒ Inside [] ∷  -- reshape to scalar
    of_right reshape_rule (counts 0 3) five ((1, 5) ∷ []) ⇒ Unmoved ∷  -- reshape to no items
    [])
reshape_cases = refl

reshape_counts : of_left reshape_rule (counts 2 2) twelve ((1, 1) ∷ []) ≡ Anew
reshape_counts = refl

reshape_both : of_both reshape_rule (counts 2 2) twelve ((1, 1) ∷ []) ((5, 5) ∷ []) ≡ Anew
reshape_both = refl

-- ---- take

take_cases : AllSame (
    -- ¯3↑
    of_right take_rule (ints [] (negsuc 2 ∷ [])) five ((3, 3) ∷ []) ⇒ Inside ((1, 1) ∷ []) ∷
    of_right take_rule (ints [] (negsuc 2 ∷ [])) five ((2, 2) ∷ []) ⇒ Unmoved ∷  -- take last past
    of_right take_rule (ints [] (negsuc 2 ∷ [])) five ((1, 4) ∷ []) ⇒ Inside ((1, 2) ∷ []) ∷  -- take last partly
    -- ¯7↑, two places of fill before
    of_right take_rule (ints [] (negsuc 6 ∷ [])) five ((1, 2) ∷ []) ⇒ Inside ((3, 4) ∷ []) ∷
    of_right take_rule (scalar 2) five ((2, 4) ∷ []) ⇒ Inside ((2, 2) ∷ []) ∷  -- take first
    of_right take_rule (scalar 2) five ((3, 4) ∷ []) ⇒ Unmoved ∷  -- take first past
    -- ¯1 2↑
    of_right take_rule (ints (2 ∷ []) (negsuc 0 ∷ pos 2 ∷ [])) table ((1, 2) ∷ (2, 3) ∷ []) ⇒ Inside ((1, 1) ∷ (2, 2) ∷ []) ∷
    -- ¯2 3↑7
    of_right take_rule (ints (2 ∷ []) (negsuc 1 ∷ pos 3 ∷ [])) (scalar 7) [] ⇒ Inside ((2, 2) ∷ (1, 1) ∷ []) ∷
    of_right take_rule (scalar 0) five ((1, 5) ∷ []) ⇒ Unmoved ∷  -- take nothing
    [])
take_cases = refl

take_counts : of_left take_rule (scalar 2) five [] ≡ Anew
take_counts = refl

-- ---- drop

drop_cases : AllSame (
    of_right drop_rule (scalar 2) five ((2, 4) ∷ []) ⇒ Inside ((1, 2) ∷ []) ∷  -- drop first
    of_right drop_rule (scalar 2) five ((1, 2) ∷ []) ⇒ Unmoved ∷  -- drop first past
    -- ¯2↓
    of_right drop_rule (ints [] (negsuc 1 ∷ [])) five ((3, 5) ∷ []) ⇒ Inside ((3, 3) ∷ []) ∷
    of_right drop_rule (ints [] (negsuc 1 ∷ [])) five ((4, 5) ∷ []) ⇒ Unmoved ∷  -- drop last past
    of_right drop_rule (counts 0 1) table ((1, 2) ∷ (2, 2) ∷ []) ⇒ Inside ((1, 2) ∷ (1, 1) ∷ []) ∷  -- drop of table
    of_right drop_rule (counts 0 0) (scalar 7) [] ⇒ Inside ((1, 1) ∷ (1, 1) ∷ []) ∷  -- drop of scalar
    of_right drop_rule (scalar 7) five ((1, 5) ∷ []) ⇒ Unmoved ∷  -- drop all
    [])
drop_cases = refl

drop_counts : of_left drop_rule (scalar 2) five [] ≡ Anew
drop_counts = refl

-- ---- catenate

catenate_left : of_left (catenate_rule Last) three five ((2, 3) ∷ []) ≡ Inside ((2, 3) ∷ [])
catenate_left = refl

catenate_right : of_right (catenate_rule Last) three five ((2, 2) ∷ []) ≡ Inside ((5, 5) ∷ [])
catenate_right = refl

-- the hull of both reaches
catenate_both : of_both (catenate_rule Last) three five ((3, 3) ∷ []) ((2, 2) ∷ []) ≡ Inside ((3, 5) ∷ [])
catenate_both = refl

catenate_rows : of_right (catenate_rule First) table table ((1, 1) ∷ (2, 3) ∷ []) ≡ Inside ((3, 3) ∷ (2, 3) ∷ [])
catenate_rows = refl

-- an array of one rank less is one place
catenate_row : of_right (catenate_rule First) table three ((2, 3) ∷ []) ≡ Inside ((3, 3) ∷ (2, 3) ∷ [])
catenate_row = refl

catenate_row_before : of_left (catenate_rule First) three table ((2, 2) ∷ []) ≡ Inside ((1, 1) ∷ (2, 2) ∷ [])
catenate_row_before = refl

catenate_cases : AllSame (
    -- a scalar is repeated over the other axes
    of_right (catenate_rule (Axis (pos 2))) table (scalar 0) [] ⇒ Inside ((1, 2) ∷ (4, 4) ∷ []) ∷
    of_right (catenate_rule (Axis (pos 2))) (scalar 0) table ((2, 2) ∷ (1, 2) ∷ []) ⇒ Inside ((2, 2) ∷ (2, 3) ∷ []) ∷  -- catenate after column
    of_right (catenate_rule Last) (scalar 1) (scalar 2) [] ⇒ Inside ((2, 2) ∷ []) ∷  -- catenate scalars
    -- a result without items: (0 0⍴0),'a'
    of_right (catenate_rule Last) (nums (0 ∷ 0 ∷ []) []) (chars [] (97 ∷ [])) [] ⇒ Unmoved ∷
    [])
catenate_cases = refl
