-- Worked cases of the definitions, computed.
use Rattle.std.proofs.Common.{◌≡◌, refl, ℕ, pos, negsuc, List, [], ◌∷◌}
use Rattle.arrays_core.{specs.declared.item.Kind.TheVariants.{Axis as AxisError, Rank, Length, Domain, Limit}, specs.Arrays.{ArrayValue}, proofs.CaseWords.{◌⇒◌, AllSame, nums, ints, chars, is, fails, scalar, no_text, no_numbers}}
use Rattle.function_names.specs.declared.along.Along.TheVariants.{First, Last, Axis}
use Rattle.structural_fns.{specs.Reshape.{reshape_whole}, specs.Ravel.{ravel_whole}, specs.Take.{take_whole}, specs.Drop.{drop_whole}, specs.Reverse.{reverse_whole}, specs.Rotate.{rotate_whole}, specs.Catenate.{catenate_whole}, specs.Transpose.{transpose_whole}, specs.DyadicTranspose.{transpose_by_whole}}

-- 2 3⍴⍳6
abbrev table : ArrayValue
table = nums (2 ∷ 3 ∷ []) (1 ∷ 2 ∷ 3 ∷ 4 ∷ 5 ∷ 6 ∷ [])

abbrev vector : List ℕ → ArrayValue
vector ns = nums (3 ∷ []) ns

-- ---- reshape

reshape_cases : AllSame (
    -- 2 3⍴1 2
    reshape_whole (nums (2 ∷ []) (2 ∷ 3 ∷ [])) (nums (2 ∷ []) (1 ∷ 2 ∷ [])) ⇒ is (nums (2 ∷ 3 ∷ []) (1 ∷ 2 ∷ 1 ∷ 2 ∷ 1 ∷ 2 ∷ [])) ∷
    -- 2⍴⍳0 and 2⍴'' are fill
    reshape_whole (scalar 2) no_numbers ⇒ is (nums (2 ∷ []) (0 ∷ 0 ∷ [])) ∷
    reshape_whole (scalar 2) no_text ⇒ is (chars (2 ∷ []) (32 ∷ 32 ∷ [])) ∷  -- reshape of no text
    -- ''⍴5 6 is a scalar, 1 1 1 1⍴7 has rank 4, 0 3⍴'a' keeps its type
    reshape_whole no_text (nums (2 ∷ []) (5 ∷ 6 ∷ [])) ⇒ is (scalar 5) ∷
    reshape_whole (nums (4 ∷ []) (1 ∷ 1 ∷ 1 ∷ 1 ∷ [])) (scalar 7) ⇒ is (nums (1 ∷ 1 ∷ 1 ∷ 1 ∷ []) (7 ∷ [])) ∷  -- reshape to rank 4
    reshape_whole (nums (2 ∷ []) (0 ∷ 3 ∷ [])) (chars [] (97 ∷ [])) ⇒ is (chars (0 ∷ 3 ∷ []) []) ∷  -- reshape to no items
    -- RANK goes before DOMAIN, DOMAIN before LIMIT
    reshape_whole (chars (1 ∷ 1 ∷ []) (97 ∷ [])) (scalar 5) ⇒ fails Rank ∷
    reshape_whole (ints (2 ∷ []) (pos 1048577 ∷ negsuc 0 ∷ [])) (scalar 5) ⇒ fails Domain ∷  -- reshape domain
    reshape_whole (nums (2 ∷ []) (1048577 ∷ 0 ∷ [])) (scalar 0) ⇒ fails Limit ∷  -- reshape limit
    reshape_whole (nums (5 ∷ []) (1 ∷ 1 ∷ 1 ∷ 1 ∷ 1 ∷ [])) (scalar 0) ⇒ fails Limit ∷  -- reshape five axes
    [])
reshape_cases = refl

-- ---- ravel

ravel_cases : AllSame (
    ravel_whole table ⇒ is (nums (6 ∷ []) (1 ∷ 2 ∷ 3 ∷ 4 ∷ 5 ∷ 6 ∷ [])) ∷  -- ravel of table
    ravel_whole (chars [] (97 ∷ [])) ⇒ is (chars (1 ∷ []) (97 ∷ [])) ∷  -- ravel of scalar
    ravel_whole (nums (1 ∷ 1 ∷ 1 ∷ 1 ∷ []) (7 ∷ [])) ⇒ is (nums (1 ∷ []) (7 ∷ [])) ∷  -- ravel of rank 4
    ravel_whole (chars (2 ∷ 0 ∷ []) []) ⇒ is no_text ∷  -- ravel of no items
    [])
ravel_cases = refl

-- ---- catenate

catenate_cases : AllSame (
    catenate_whole Last table table ⇒ is (nums (2 ∷ 6 ∷ []) (1 ∷ 2 ∷ 3 ∷ 1 ∷ 2 ∷ 3 ∷ 4 ∷ 5 ∷ 6 ∷ 4 ∷ 5 ∷ 6 ∷ [])) ∷  -- catenate rows
    -- a vector is one row, a scalar is repeated
    catenate_whole First table (vector (7 ∷ 8 ∷ 9 ∷ [])) ⇒ is (nums (3 ∷ 3 ∷ []) (1 ∷ 2 ∷ 3 ∷ 4 ∷ 5 ∷ 6 ∷ 7 ∷ 8 ∷ 9 ∷ [])) ∷
    catenate_whole (Axis (pos 2)) (scalar 0) table ⇒ is (nums (2 ∷ 4 ∷ []) (0 ∷ 1 ∷ 2 ∷ 3 ∷ 0 ∷ 4 ∷ 5 ∷ 6 ∷ [])) ∷  -- catenate column
    catenate_whole (Axis (pos 1)) (scalar 1) (scalar 2) ⇒ is (nums (2 ∷ []) (1 ∷ 2 ∷ [])) ∷  -- catenate scalars
    -- the side that has items determines the type, even if the result has none: (0 0⍴0),'a'
    catenate_whole Last no_numbers (chars [] (97 ∷ [])) ⇒ is (chars (1 ∷ []) (97 ∷ [])) ∷
    catenate_whole Last (nums (0 ∷ 0 ∷ []) []) (chars [] (97 ∷ [])) ⇒ is (chars (0 ∷ 1 ∷ []) []) ∷  -- catenate no items
    catenate_whole Last no_text no_numbers ⇒ is no_text ∷  -- catenate no types
    -- AXIS, RANK, LENGTH and DOMAIN in this order
    catenate_whole (Axis (pos 3)) table (chars (1 ∷ 1 ∷ 1 ∷ 1 ∷ []) (97 ∷ [])) ⇒ fails Rank ∷
    catenate_whole (Axis (pos 3)) table (chars [] (97 ∷ [])) ⇒ fails AxisError ∷  -- catenate no axis
    catenate_whole (Axis (pos 0)) (scalar 1) (scalar 2) ⇒ fails AxisError ∷  -- catenate axis 0
    catenate_whole Last table (chars (3 ∷ []) (97 ∷ 97 ∷ 97 ∷ [])) ⇒ fails Length ∷  -- catenate length
    catenate_whole First table (chars (3 ∷ []) (97 ∷ 97 ∷ 97 ∷ [])) ⇒ fails Domain ∷  -- catenate domain
    [])
catenate_cases = refl

-- ---- take

take_cases : AllSame (
    -- ¯5↑1 2
    take_whole (ints [] (negsuc 4 ∷ [])) (nums (2 ∷ []) (1 ∷ 2 ∷ [])) ⇒ is (nums (5 ∷ []) (0 ∷ 0 ∷ 0 ∷ 1 ∷ 2 ∷ [])) ∷
    -- 2 3↑7
    take_whole (nums (2 ∷ []) (2 ∷ 3 ∷ [])) (scalar 7) ⇒ is (nums (2 ∷ 3 ∷ []) (7 ∷ 0 ∷ 0 ∷ 0 ∷ 0 ∷ 0 ∷ [])) ∷
    -- 1 ¯2↑2 3⍴⍳6
    take_whole (ints (2 ∷ []) (pos 1 ∷ negsuc 1 ∷ [])) table ⇒ is (nums (1 ∷ 2 ∷ []) (2 ∷ 3 ∷ [])) ∷
    take_whole (ints (1 ∷ []) (negsuc 2 ∷ [])) (chars (1 ∷ []) (97 ∷ [])) ⇒ is (chars (3 ∷ []) (32 ∷ 32 ∷ 97 ∷ [])) ∷  -- take of text
    take_whole (scalar 2) no_text ⇒ is (chars (2 ∷ []) (32 ∷ 32 ∷ [])) ∷  -- take of no text
    take_whole (nums (2 ∷ []) (0 ∷ 2 ∷ [])) table ⇒ is (nums (0 ∷ 2 ∷ []) []) ∷  -- take none
    -- ''↑5 is 5
    take_whole no_text (scalar 5) ⇒ is (scalar 5) ∷
    take_whole (nums (1 ∷ 1 ∷ []) (1 ∷ [])) table ⇒ fails Rank ∷  -- take rank
    take_whole (chars (1 ∷ []) (97 ∷ [])) table ⇒ fails Length ∷  -- take length
    take_whole (chars (2 ∷ []) (97 ∷ 97 ∷ [])) table ⇒ fails Domain ∷  -- take domain
    take_whole (nums (5 ∷ []) (1 ∷ 1 ∷ 1 ∷ 1 ∷ 1 ∷ [])) (scalar 5) ⇒ fails Limit ∷  -- take five axes
    take_whole (ints [] (negsuc 9223372036854775807 ∷ [])) (vector (1 ∷ 2 ∷ 3 ∷ [])) ⇒ fails Limit ∷  -- take limit
    [])
take_cases = refl

-- ---- drop

drop_cases : AllSame (
    -- 9↓1 2, 1↓1 2 3 and ¯1↓1 2 3
    drop_whole (scalar 9) (nums (2 ∷ []) (1 ∷ 2 ∷ [])) ⇒ is no_numbers ∷
    drop_whole (scalar 1) (vector (1 ∷ 2 ∷ 3 ∷ [])) ⇒ is (nums (2 ∷ []) (2 ∷ 3 ∷ [])) ∷  -- drop first
    drop_whole (ints [] (negsuc 0 ∷ [])) (vector (1 ∷ 2 ∷ 3 ∷ [])) ⇒ is (nums (2 ∷ []) (1 ∷ 2 ∷ [])) ∷  -- drop last
    drop_whole (ints (2 ∷ []) (pos 1 ∷ negsuc 0 ∷ [])) table ⇒ is (nums (1 ∷ 2 ∷ []) (4 ∷ 5 ∷ [])) ∷  -- drop corner
    -- 0↓5 is a vector, ''↓5 a scalar
    drop_whole (nums (1 ∷ []) (0 ∷ [])) (scalar 5) ⇒ is (nums (1 ∷ []) (5 ∷ [])) ∷
    drop_whole no_text (scalar 5) ⇒ is (scalar 5) ∷  -- drop no counts
    drop_whole (ints [] (negsuc 9223372036854775807 ∷ [])) (chars (1 ∷ []) (97 ∷ [])) ⇒ is no_text ∷  -- drop least
    drop_whole (nums (5 ∷ []) (0 ∷ 0 ∷ 0 ∷ 0 ∷ 0 ∷ [])) (scalar 5) ⇒ fails Limit ∷  -- drop five axes
    drop_whole (scalar 1) table ⇒ fails Length ∷  -- drop length
    [])
drop_cases = refl

-- ---- reverse

reverse_cases : AllSame (
    reverse_whole Last table ⇒ is (nums (2 ∷ 3 ∷ []) (3 ∷ 2 ∷ 1 ∷ 6 ∷ 5 ∷ 4 ∷ [])) ∷  -- reverse columns
    reverse_whole (Axis (pos 1)) table ⇒ is (nums (2 ∷ 3 ∷ []) (4 ∷ 5 ∷ 6 ∷ 1 ∷ 2 ∷ 3 ∷ [])) ∷  -- reverse rows
    reverse_whole First (chars [] (97 ∷ [])) ⇒ is (chars [] (97 ∷ [])) ∷  -- reverse of scalar
    reverse_whole First (chars (0 ∷ 2 ∷ []) []) ⇒ is (chars (0 ∷ 2 ∷ []) []) ∷  -- reverse of no items
    reverse_whole (Axis (pos 3)) table ⇒ fails AxisError ∷  -- reverse no axis
    reverse_whole (Axis (pos 1)) (scalar 5) ⇒ fails AxisError ∷  -- reverse axis of scalar
    reverse_whole (Axis (negsuc 0)) table ⇒ fails AxisError ∷  -- reverse negative axis
    [])
reverse_cases = refl

-- ---- rotate

rotate_cases : AllSame (
    rotate_whole Last (scalar 1) (vector (1 ∷ 2 ∷ 3 ∷ [])) ⇒ is (vector (2 ∷ 3 ∷ 1 ∷ [])) ∷  -- rotate one
    rotate_whole Last (ints (1 ∷ 1 ∷ []) (negsuc 0 ∷ [])) table ⇒ is (nums (2 ∷ 3 ∷ []) (3 ∷ 1 ∷ 2 ∷ 6 ∷ 4 ∷ 5 ∷ [])) ∷  -- rotate back
    rotate_whole Last (scalar 9223372036854775807) (vector (1 ∷ 2 ∷ 3 ∷ [])) ⇒ is (vector (2 ∷ 3 ∷ 1 ∷ [])) ∷  -- rotate by the greatest
    rotate_whole First (vector (0 ∷ 1 ∷ 2 ∷ [])) table ⇒ is (nums (2 ∷ 3 ∷ []) (1 ∷ 5 ∷ 3 ∷ 4 ∷ 2 ∷ 6 ∷ [])) ∷  -- rotate each line
    rotate_whole Last (scalar 4) (scalar 5) ⇒ is (scalar 5) ∷  -- rotate scalar
    rotate_whole Last (scalar 4) no_text ⇒ is no_text ∷  -- rotate no items
    -- AXIS, RANK, LENGTH and DOMAIN in this order; 1 2 3⌽5 is RANK
    rotate_whole (Axis (pos 2)) (chars (1 ∷ 2 ∷ 1 ∷ []) (97 ∷ 97 ∷ [])) (vector (1 ∷ 2 ∷ 3 ∷ [])) ⇒ fails AxisError ∷
    rotate_whole Last (vector (1 ∷ 2 ∷ 3 ∷ [])) (scalar 5) ⇒ fails Rank ∷  -- rotate rank
    rotate_whole Last (chars (3 ∷ []) (97 ∷ 97 ∷ 97 ∷ [])) table ⇒ fails Length ∷  -- rotate length
    rotate_whole Last (chars [] (97 ∷ [])) table ⇒ fails Domain ∷  -- rotate domain
    [])
rotate_cases = refl

-- ---- transpose

transpose_cases : AllSame (
    transpose_whole table ⇒ is (nums (3 ∷ 2 ∷ []) (1 ∷ 4 ∷ 2 ∷ 5 ∷ 3 ∷ 6 ∷ [])) ∷  -- transpose of table
    transpose_whole (scalar 5) ⇒ is (scalar 5) ∷  -- transpose of scalar
    transpose_whole (vector (1 ∷ 2 ∷ 3 ∷ [])) ⇒ is (vector (1 ∷ 2 ∷ 3 ∷ [])) ∷  -- transpose of vector
    transpose_whole (chars (0 ∷ 2 ∷ []) []) ⇒ is (chars (2 ∷ 0 ∷ []) []) ∷  -- transpose of no items
    [])
transpose_cases = refl

-- ---- dyadic transpose

-- 1 1⍉ takes the diagonal, to the least length
transpose_diagonal : transpose_by_whole (nums (2 ∷ []) (1 ∷ 1 ∷ [])) table ≡ is (nums (2 ∷ []) (1 ∷ 5 ∷ []))
transpose_diagonal = refl

transpose_by_2_1 : transpose_by_whole (nums (2 ∷ []) (2 ∷ 1 ∷ [])) table ≡ is (nums (3 ∷ 2 ∷ []) (1 ∷ 4 ∷ 2 ∷ 5 ∷ 3 ∷ 6 ∷ []))
transpose_by_2_1 = refl

-- 2 1 2⍉2 2 3⍴⍳12: the first and the last axis become one
transpose_that_meet : transpose_by_whole (vector (2 ∷ 1 ∷ 2 ∷ [])) (nums (2 ∷ 2 ∷ 3 ∷ []) (1 ∷ 2 ∷ 3 ∷ 4 ∷ 5 ∷ 6 ∷ 7 ∷ 8 ∷ 9 ∷ 10 ∷ 11 ∷ 12 ∷ []))
    ≡ is (nums (2 ∷ 2 ∷ []) (1 ∷ 8 ∷ 4 ∷ 11 ∷ []))
transpose_that_meet = refl

dyadic_transpose_cases : AllSame (
    -- ''⍉5 is 5, 1⍉5 is LENGTH
    transpose_by_whole no_text (scalar 5) ⇒ is (scalar 5) ∷
    transpose_by_whole (scalar 1) (scalar 5) ⇒ fails Length ∷  -- transpose by length
    transpose_by_whole (scalar 1) (vector (1 ∷ 2 ∷ 3 ∷ [])) ⇒ is (vector (1 ∷ 2 ∷ 3 ∷ [])) ∷  -- transpose by scalar
    transpose_by_whole (nums (2 ∷ []) (1 ∷ 1 ∷ [])) (chars (0 ∷ 2 ∷ []) []) ⇒ is no_text ∷  -- transpose by no items
    transpose_by_whole (nums (1 ∷ 1 ∷ []) (1 ∷ [])) (scalar 5) ⇒ fails Rank ∷  -- transpose by rank
    transpose_by_whole (nums (2 ∷ []) (0 ∷ 1 ∷ [])) table ⇒ fails Domain ∷  -- transpose by 0
    transpose_by_whole (nums (2 ∷ []) (1 ∷ 3 ∷ [])) table ⇒ fails Domain ∷  -- transpose by 1 3
    transpose_by_whole (chars (2 ∷ []) (97 ∷ 97 ∷ [])) table ⇒ fails Domain ∷  -- transpose by text
    [])
dyadic_transpose_cases = refl
