-- Worked cases of shape, index generator, replicate and indexed reference, computed.
use Rattle.std.proofs.Common.{◌≡◌, refl, pos, [], ◌∷◌, Some, None, Ok}
use Rattle.arrays_core.{specs.declared.item.ItemType.TheVariants.{Nums}, specs.declared.item.Kind.TheVariants.{Axis as AxisError, Rank, Length, Domain, Index, Limit}, specs.Arrays.{ArrayValue}, proofs.CaseWords.{◌⇒◌, AllSame, nums, ints, chars, is, fails, scalar, integer, no_text, no_numbers, minus, greatest, least}}
use Rattle.function_names.specs.declared.along.Along.TheVariants.{First, Last, Axis}
use Rattle.selection_fns.{specs.Shape.{shape_whole}, specs.IndexGenerator.{generator_form, generator_whole}, specs.Replicate.{replicate_form, replicate_whole}, specs.Index.{index_whole}}
use Rattle.index_region.specs.Checks.{form_of}

-- 2 3⍴⍳6
abbrev table : ArrayValue
table = nums (2 ∷ 3 ∷ []) (1 ∷ 2 ∷ 3 ∷ 4 ∷ 5 ∷ 6 ∷ [])

-- ---- shape

shape_cases : AllSame (
    -- a scalar has no axes
    shape_whole (scalar 5) ⇒ is no_numbers ∷
    shape_whole (chars [] (97 ∷ [])) ⇒ is no_numbers ∷  -- shape of letter
    shape_whole (nums (3 ∷ []) (7 ∷ 8 ∷ 9 ∷ [])) ⇒ is (nums (1 ∷ []) (3 ∷ [])) ∷  -- shape of vector
    shape_whole table ⇒ is (nums (2 ∷ []) (2 ∷ 3 ∷ [])) ∷  -- shape of table
    -- without items: ⍴⍳0, ⍴'', ⍴2 0 3⍴''
    shape_whole no_numbers ⇒ is (nums (1 ∷ []) (0 ∷ [])) ∷
    shape_whole no_text ⇒ is (nums (1 ∷ []) (0 ∷ [])) ∷  -- shape of no text
    shape_whole (chars (2 ∷ 0 ∷ 3 ∷ []) []) ⇒ is (nums (3 ∷ []) (2 ∷ 0 ∷ 3 ∷ [])) ∷  -- shape of rank 3 without items
    shape_whole (nums (1 ∷ 2 ∷ 1 ∷ 1 ∷ []) (5 ∷ 6 ∷ [])) ⇒ is (nums (4 ∷ []) (1 ∷ 2 ∷ 1 ∷ 1 ∷ [])) ∷  -- shape of rank 4
    -- the longest axis
    shape_whole (nums (1048576 ∷ 0 ∷ []) []) ⇒ is (nums (2 ∷ []) (1048576 ∷ 0 ∷ [])) ∷
    [])
shape_cases = refl

-- ---- index generator

index_generator_cases : AllSame (
    -- ⍳3, ⍳,2, ⍳1 and ⍳0
    generator_whole (scalar 3) ⇒ is (nums (3 ∷ []) (1 ∷ 2 ∷ 3 ∷ [])) ∷
    generator_whole (nums (1 ∷ []) (2 ∷ [])) ⇒ is (nums (2 ∷ []) (1 ∷ 2 ∷ [])) ∷  -- generator of vector
    generator_whole (scalar 1) ⇒ is (nums (1 ∷ []) (1 ∷ [])) ∷  -- generator of 1
    generator_whole (scalar 0) ⇒ is no_numbers ∷  -- generator of 0
    [])
index_generator_cases = refl

-- the longest
generator_of_the_longest : generator_form (scalar 1048576) ≡ Ok (form_of (1048576 ∷ []) Nums)
generator_of_the_longest = refl

index_generator_cases_2 : AllSame (
    -- RANK goes before LENGTH and DOMAIN
    generator_whole (nums (1 ∷ 1 ∷ []) (2 ∷ [])) ⇒ fails Rank ∷
    generator_whole (chars (0 ∷ 2 ∷ []) []) ⇒ fails Rank ∷  -- generator rank before length
    generator_whole (chars (1 ∷ 1 ∷ 1 ∷ 1 ∷ []) (97 ∷ [])) ⇒ fails Rank ∷  -- generator rank before domain
    -- LENGTH before DOMAIN: ⍳⍳0, ⍳'', ⍳1 2 and ⍳'ab'
    generator_whole no_numbers ⇒ fails Length ∷
    generator_whole no_text ⇒ fails Length ∷  -- generator of no text
    generator_whole (nums (2 ∷ []) (1 ∷ 2 ∷ [])) ⇒ fails Length ∷  -- generator of two
    generator_whole (chars (2 ∷ []) (97 ∷ 98 ∷ [])) ⇒ fails Length ∷  -- generator length before domain
    -- DOMAIN: ⍳'a', ⍳¯1 and the least
    generator_whole (chars [] (97 ∷ [])) ⇒ fails Domain ∷
    generator_whole (chars (1 ∷ []) (97 ∷ [])) ⇒ fails Domain ∷  -- generator of text
    generator_whole (integer (minus 1)) ⇒ fails Domain ∷  -- generator of negative
    generator_whole (integer least) ⇒ fails Domain ∷  -- generator of least
    -- LIMIT
    generator_whole (scalar 1048577) ⇒ fails Limit ∷
    generator_whole (integer greatest) ⇒ fails Limit ∷  -- generator of greatest
    [])
index_generator_cases_2 = refl

-- ---- replicate

replicate_cases : AllSame (
    -- 1 0 2/7 8 9
    replicate_whole Last (nums (3 ∷ []) (1 ∷ 0 ∷ 2 ∷ [])) (nums (3 ∷ []) (7 ∷ 8 ∷ 9 ∷ [])) ⇒ is (nums (3 ∷ []) (7 ∷ 9 ∷ 9 ∷ [])) ∷
    -- 2/7 8 9: a single count applies to every place; so does a vector of one
    replicate_whole Last (scalar 2) (nums (3 ∷ []) (7 ∷ 8 ∷ 9 ∷ [])) ⇒ is (nums (6 ∷ []) (7 ∷ 7 ∷ 8 ∷ 8 ∷ 9 ∷ 9 ∷ [])) ∷
    replicate_whole First (nums (1 ∷ []) (2 ∷ [])) (nums (3 ∷ []) (7 ∷ 8 ∷ 9 ∷ [])) ⇒ is (nums (6 ∷ []) (7 ∷ 7 ∷ 8 ∷ 8 ∷ 9 ∷ 9 ∷ [])) ∷  -- replicate by one
    -- 0 0 0/7 8 9, 0/'abc' and 0 0 3/'abc'
    replicate_whole Last (nums (3 ∷ []) (0 ∷ 0 ∷ 0 ∷ [])) (nums (3 ∷ []) (7 ∷ 8 ∷ 9 ∷ [])) ⇒ is no_numbers ∷
    replicate_whole Last (scalar 0) (chars (3 ∷ []) (97 ∷ 98 ∷ 99 ∷ [])) ⇒ is no_text ∷  -- replicate no letters
    -- replicate last letter
    replicate_whole Last (nums (3 ∷ []) (0 ∷ 0 ∷ 3 ∷ [])) (chars (3 ∷ []) (97 ∷ 98 ∷ 99 ∷ [])) ⇒ is (chars (3 ∷ []) (99 ∷ 99 ∷ 99 ∷ [])) ∷
    -- along the last axis, and the first: 1 0 2/2 3⍴⍳6, 2 1⌿2 3⍴⍳6
    replicate_whole Last (nums (3 ∷ []) (1 ∷ 0 ∷ 2 ∷ [])) table ⇒ is (nums (2 ∷ 3 ∷ []) (1 ∷ 3 ∷ 3 ∷ 4 ∷ 6 ∷ 6 ∷ [])) ∷
    replicate_whole First (nums (2 ∷ []) (2 ∷ 1 ∷ [])) table ⇒ is (nums (3 ∷ 3 ∷ []) (1 ∷ 2 ∷ 3 ∷ 1 ∷ 2 ∷ 3 ∷ 4 ∷ 5 ∷ 6 ∷ [])) ∷  -- replicate rows
    replicate_whole (Axis (pos 2)) (nums (3 ∷ []) (0 ∷ 1 ∷ 1 ∷ [])) table ⇒ is (nums (2 ∷ 2 ∷ []) (2 ∷ 3 ∷ 5 ∷ 6 ∷ [])) ∷  -- replicate columns by axis
    replicate_whole (Axis (pos 1)) (nums (2 ∷ []) (0 ∷ 1 ∷ [])) table ⇒ is (nums (1 ∷ 3 ∷ []) (4 ∷ 5 ∷ 6 ∷ [])) ∷  -- replicate rows by axis
    replicate_whole First (scalar 2) table ⇒ is (nums (4 ∷ 3 ∷ []) (1 ∷ 2 ∷ 3 ∷ 1 ∷ 2 ∷ 3 ∷ 4 ∷ 5 ∷ 6 ∷ 4 ∷ 5 ∷ 6 ∷ [])) ∷  -- replicate all rows
    replicate_whole First (scalar 0) table ⇒ is (nums (0 ∷ 3 ∷ []) []) ∷  -- replicate no rows
    replicate_whole Last (scalar 0) table ⇒ is (nums (2 ∷ 0 ∷ []) []) ∷  -- replicate no columns
    -- of rank 3 and 4
    replicate_whole (Axis (pos 2)) (scalar 2) (nums (1 ∷ 2 ∷ 2 ∷ []) (1 ∷ 2 ∷ 3 ∷ 4 ∷ [])) ⇒ is (nums (1 ∷ 4 ∷ 2 ∷ []) (1 ∷ 2 ∷ 1 ∷ 2 ∷ 3 ∷ 4 ∷ 3 ∷ 4 ∷ [])) ∷
    -- replicate rank 3
    replicate_whole First (nums (2 ∷ []) (1 ∷ 2 ∷ [])) (chars (2 ∷ 1 ∷ 2 ∷ []) (97 ∷ 98 ∷ 99 ∷ 100 ∷ [])) ⇒ is (chars (3 ∷ 1 ∷ 2 ∷ []) (97 ∷ 98 ∷ 99 ∷ 100 ∷ 99 ∷ 100 ∷ [])) ∷
    -- replicate rank 4
    replicate_whole Last (nums (2 ∷ []) (0 ∷ 2 ∷ [])) (nums (1 ∷ 1 ∷ 1 ∷ 2 ∷ []) (5 ∷ 6 ∷ [])) ⇒ is (nums (1 ∷ 1 ∷ 1 ∷ 2 ∷ []) (6 ∷ 6 ∷ [])) ∷
    -- replicate rank 4 first
    replicate_whole First (nums (2 ∷ []) (2 ∷ 1 ∷ [])) (nums (2 ∷ 1 ∷ 1 ∷ 1 ∷ []) (5 ∷ 6 ∷ [])) ⇒ is (nums (3 ∷ 1 ∷ 1 ∷ 1 ∷ []) (5 ∷ 5 ∷ 6 ∷ [])) ∷
    -- replicate rank 4 third
    replicate_whole (Axis (pos 3)) (nums (2 ∷ []) (1 ∷ 2 ∷ [])) (nums (2 ∷ 1 ∷ 2 ∷ 1 ∷ []) (1 ∷ 2 ∷ 3 ∷ 4 ∷ [])) ⇒ is (nums (2 ∷ 1 ∷ 3 ∷ 1 ∷ []) (1 ∷ 2 ∷ 2 ∷ 3 ∷ 4 ∷ 4 ∷ [])) ∷
    -- a scalar B is a vector of one item, and axis 1 may be written: 3/5, 1 2/5, 0/'a', ''/5, 2/[1]5
    replicate_whole Last (scalar 3) (scalar 5) ⇒ is (nums (3 ∷ []) (5 ∷ 5 ∷ 5 ∷ [])) ∷
    replicate_whole First (nums (2 ∷ []) (1 ∷ 2 ∷ [])) (scalar 5) ⇒ is (nums (3 ∷ []) (5 ∷ 5 ∷ 5 ∷ [])) ∷  -- replicate of scalar each
    replicate_whole Last (scalar 0) (chars [] (97 ∷ [])) ⇒ is no_text ∷  -- replicate of letter none
    replicate_whole Last no_text (scalar 5) ⇒ is no_numbers ∷  -- replicate of scalar no count
    replicate_whole (Axis (pos 1)) (scalar 2) (scalar 5) ⇒ is (nums (2 ∷ []) (5 ∷ 5 ∷ [])) ∷  -- replicate of scalar by axis
    -- an axis of length 1 extends to the counts: 1 2/,5, 1 0 2⌿1 3⍴7 8 9, ''/,5
    replicate_whole Last (nums (2 ∷ []) (1 ∷ 2 ∷ [])) (nums (1 ∷ []) (5 ∷ [])) ⇒ is (nums (3 ∷ []) (5 ∷ 5 ∷ 5 ∷ [])) ∷
    -- replicate of one row
    replicate_whole First (nums (3 ∷ []) (1 ∷ 0 ∷ 2 ∷ [])) (nums (1 ∷ 3 ∷ []) (7 ∷ 8 ∷ 9 ∷ [])) ⇒ is (nums (3 ∷ 3 ∷ []) (7 ∷ 8 ∷ 9 ∷ 7 ∷ 8 ∷ 9 ∷ 7 ∷ 8 ∷ 9 ∷ [])) ∷
    -- replicate of one column
    replicate_whole Last (nums (3 ∷ []) (0 ∷ 1 ∷ 1 ∷ [])) (nums (2 ∷ 1 ∷ []) (7 ∷ 8 ∷ [])) ⇒ is (nums (2 ∷ 2 ∷ []) (7 ∷ 7 ∷ 8 ∷ 8 ∷ [])) ∷
    replicate_whole Last no_text (nums (1 ∷ []) (5 ∷ [])) ⇒ is no_numbers ∷  -- replicate of one no count
    -- without items, of either type: 2/'', ''/'', ''/⍳0, 2/0 3⍴0, 2⌿0 3⍴''
    replicate_whole Last (scalar 2) no_text ⇒ is no_text ∷
    replicate_whole Last no_numbers no_text ⇒ is no_text ∷  -- replicate no text by none
    replicate_whole First no_text no_numbers ⇒ is no_numbers ∷  -- replicate no numbers by none
    replicate_whole Last (scalar 2) (nums (0 ∷ 3 ∷ []) []) ⇒ is (nums (0 ∷ 6 ∷ []) []) ∷  -- replicate columns without items
    replicate_whole First (scalar 2) (chars (0 ∷ 3 ∷ []) []) ⇒ is (chars (0 ∷ 3 ∷ []) []) ∷  -- replicate rows without items
    -- a count that no place uses may be great: 1048577/⍳0
    replicate_whole Last (scalar 1048577) no_numbers ⇒ is no_numbers ∷
    replicate_whole First (scalar 1048577) (nums (0 ∷ 2 ∷ []) []) ⇒ is (nums (0 ∷ 2 ∷ []) []) ∷  -- replicate great unused rows
    -- AXIS goes before RANK
    replicate_whole (Axis (pos 3)) (chars (2 ∷ 2 ∷ []) (97 ∷ 98 ∷ 99 ∷ 100 ∷ [])) table ⇒ fails AxisError ∷
    replicate_whole (Axis (pos 0)) (scalar 2) table ⇒ fails AxisError ∷  -- replicate axis 0
    replicate_whole (Axis (minus 1)) (scalar 2) table ⇒ fails AxisError ∷  -- replicate axis below 0
    replicate_whole (Axis (pos 2)) (scalar 2) (nums (3 ∷ []) (7 ∷ 8 ∷ 9 ∷ [])) ⇒ fails AxisError ∷  -- replicate axis of vector
    replicate_whole (Axis (pos 2)) (scalar 2) (scalar 5) ⇒ fails AxisError ∷  -- replicate axis of scalar
    replicate_whole (Axis (pos 0)) (scalar 2) (scalar 5) ⇒ fails AxisError ∷  -- replicate axis 0 of scalar
    -- RANK before LENGTH and DOMAIN, also of one count
    replicate_whole Last (nums (1 ∷ 1 ∷ []) (2 ∷ [])) (nums (3 ∷ []) (7 ∷ 8 ∷ 9 ∷ [])) ⇒ fails Rank ∷
    replicate_whole Last (chars (2 ∷ 1 ∷ []) (97 ∷ 98 ∷ [])) (nums (3 ∷ []) (7 ∷ 8 ∷ 9 ∷ [])) ⇒ fails Rank ∷  -- replicate rank before length
    replicate_whole Last (nums (0 ∷ 0 ∷ []) []) no_numbers ⇒ fails Rank ∷  -- replicate rank without items
    -- LENGTH before DOMAIN
    replicate_whole Last (nums (2 ∷ []) (1 ∷ 2 ∷ [])) (nums (3 ∷ []) (7 ∷ 8 ∷ 9 ∷ [])) ⇒ fails Length ∷
    replicate_whole First (nums (3 ∷ []) (1 ∷ 1 ∷ 1 ∷ [])) table ⇒ fails Length ∷  -- replicate length of rows
    replicate_whole Last no_numbers (nums (3 ∷ []) (7 ∷ 8 ∷ 9 ∷ [])) ⇒ fails Length ∷  -- replicate length of none
    replicate_whole Last (nums (2 ∷ []) (1 ∷ 2 ∷ [])) no_numbers ⇒ fails Length ∷  -- replicate length for none
    replicate_whole Last (chars (2 ∷ []) (97 ∷ 98 ∷ [])) (nums (3 ∷ []) (7 ∷ 8 ∷ 9 ∷ [])) ⇒ fails Length ∷  -- replicate length before domain
    replicate_whole Last (ints (2 ∷ []) (minus 1 ∷ minus 1 ∷ [])) (nums (3 ∷ []) (7 ∷ 8 ∷ 9 ∷ [])) ⇒ fails Length ∷  -- replicate length before negative
    -- DOMAIN, also of counts that no place uses: ¯1/⍳0, 'a'/⍳0
    replicate_whole Last (chars [] (97 ∷ [])) (nums (3 ∷ []) (7 ∷ 8 ∷ 9 ∷ [])) ⇒ fails Domain ∷
    replicate_whole Last (chars (3 ∷ []) (97 ∷ 98 ∷ 99 ∷ [])) (nums (3 ∷ []) (7 ∷ 8 ∷ 9 ∷ [])) ⇒ fails Domain ∷  -- replicate by text
    replicate_whole Last (ints (3 ∷ []) (pos 1 ∷ pos 1 ∷ minus 1 ∷ [])) (nums (3 ∷ []) (7 ∷ 8 ∷ 9 ∷ [])) ⇒ fails Domain ∷  -- replicate by negative
    replicate_whole Last (integer least) (scalar 5) ⇒ fails Domain ∷  -- replicate by least
    replicate_whole Last (integer (minus 1)) no_numbers ⇒ fails Domain ∷  -- replicate none by negative
    replicate_whole Last (chars [] (97 ∷ [])) no_numbers ⇒ fails Domain ∷  -- replicate none by letter
    replicate_whole First (integer (minus 1)) (nums (2 ∷ 0 ∷ []) []) ⇒ fails Domain ∷  -- replicate rows of none by negative
    -- DOMAIN before LIMIT
    replicate_whole Last (ints (2 ∷ []) (greatest ∷ minus 1 ∷ [])) (nums (2 ∷ []) (7 ∷ 8 ∷ [])) ⇒ fails Domain ∷
    [])
replicate_cases = refl

-- LIMIT of the sum, and of the shape
replicate_of_the_longest : replicate_form Last (scalar 1048576) (scalar 5) ≡ Ok (form_of (1048576 ∷ []) Nums)
replicate_of_the_longest = refl

replicate_cases_2 : AllSame (
    replicate_whole Last (scalar 1048577) (scalar 5) ⇒ fails Limit ∷  -- replicate limit
    replicate_whole Last (nums (2 ∷ []) (1048576 ∷ 1 ∷ [])) (nums (2 ∷ []) (7 ∷ 8 ∷ [])) ⇒ fails Limit ∷  -- replicate limit of sum
    replicate_whole Last (nums (2 ∷ []) (1048576 ∷ 1 ∷ [])) (scalar 5) ⇒ fails Limit ∷  -- replicate limit of sum of one
    replicate_whole Last (scalar 524289) (nums (2 ∷ []) (7 ∷ 8 ∷ [])) ⇒ fails Limit ∷  -- replicate limit of product
    replicate_whole Last (ints (3 ∷ []) (greatest ∷ greatest ∷ pos 2 ∷ [])) (nums (3 ∷ []) (7 ∷ 8 ∷ 9 ∷ [])) ⇒ fails Limit ∷  -- replicate limit of greatest
    replicate_whole Last (scalar 524289) (nums (2 ∷ 1 ∷ []) (7 ∷ 8 ∷ [])) ⇒ fails Limit ∷  -- replicate limit of items
    replicate_whole Last (scalar 1048577) (nums (0 ∷ 2 ∷ []) []) ⇒ fails Limit ∷  -- replicate limit without items
    [])
replicate_cases_2 = refl

-- ---- indexed reference

indexed_reference_cases : AllSame (
    -- (7 8 9)[2], [3 1 1], [] and 'abc'[3 1]
    index_whole (nums (3 ∷ []) (7 ∷ 8 ∷ 9 ∷ [])) (Some (scalar 2) ∷ []) ⇒ is (scalar 8) ∷
    index_whole (nums (3 ∷ []) (7 ∷ 8 ∷ 9 ∷ [])) (Some (nums (3 ∷ []) (3 ∷ 1 ∷ 1 ∷ [])) ∷ []) ⇒ is (nums (3 ∷ []) (9 ∷ 7 ∷ 7 ∷ [])) ∷  -- index vector
    index_whole (nums (3 ∷ []) (7 ∷ 8 ∷ 9 ∷ [])) (Some (nums (1 ∷ []) (2 ∷ [])) ∷ []) ⇒ is (nums (1 ∷ []) (8 ∷ [])) ∷  -- index one
    index_whole (nums (3 ∷ []) (7 ∷ 8 ∷ 9 ∷ [])) (None ∷ []) ⇒ is (nums (3 ∷ []) (7 ∷ 8 ∷ 9 ∷ [])) ∷  -- index all
    index_whole (chars (3 ∷ []) (97 ∷ 98 ∷ 99 ∷ [])) (Some (nums (2 ∷ []) (3 ∷ 1 ∷ [])) ∷ []) ⇒ is (chars (2 ∷ []) (99 ∷ 97 ∷ [])) ∷  -- index text
    index_whole (chars (3 ∷ []) (97 ∷ 98 ∷ 99 ∷ [])) (Some (scalar 3) ∷ []) ⇒ is (chars [] (99 ∷ [])) ∷  -- index letter
    -- (2 3⍴⍳6)[2;3], [2;], [;3], [;], [2 1;3 1]
    index_whole table (Some (scalar 2) ∷ Some (scalar 3) ∷ []) ⇒ is (scalar 6) ∷
    index_whole table (Some (scalar 2) ∷ None ∷ []) ⇒ is (nums (3 ∷ []) (4 ∷ 5 ∷ 6 ∷ [])) ∷  -- index row
    index_whole table (None ∷ Some (scalar 3) ∷ []) ⇒ is (nums (2 ∷ []) (3 ∷ 6 ∷ [])) ∷  -- index column
    index_whole table (None ∷ None ∷ []) ⇒ is table ∷  -- index table
    -- index corners
    index_whole table (Some (nums (2 ∷ []) (2 ∷ 1 ∷ [])) ∷ Some (nums (2 ∷ []) (3 ∷ 1 ∷ [])) ∷ []) ⇒ is (nums (2 ∷ 2 ∷ []) (6 ∷ 4 ∷ 3 ∷ 1 ∷ [])) ∷
    index_whole table (Some (nums (2 ∷ []) (2 ∷ 1 ∷ [])) ∷ None ∷ []) ⇒ is (nums (2 ∷ 3 ∷ []) (4 ∷ 5 ∷ 6 ∷ 1 ∷ 2 ∷ 3 ∷ [])) ∷  -- index rows swapped
    index_whole table (None ∷ Some (nums (2 ∷ []) (3 ∷ 1 ∷ [])) ∷ []) ⇒ is (nums (2 ∷ 2 ∷ []) (3 ∷ 1 ∷ 6 ∷ 4 ∷ [])) ∷  -- index columns
    -- the shape is the shapes of the positions, joined
    index_whole (nums (3 ∷ []) (7 ∷ 8 ∷ 9 ∷ [])) (Some (nums (2 ∷ 2 ∷ []) (1 ∷ 2 ∷ 3 ∷ 1 ∷ [])) ∷ []) ⇒ is (nums (2 ∷ 2 ∷ []) (7 ∷ 8 ∷ 9 ∷ 7 ∷ [])) ∷
    -- index row by matrix
    index_whole table (Some (nums (1 ∷ []) (2 ∷ [])) ∷ Some (nums (2 ∷ 2 ∷ []) (1 ∷ 2 ∷ 3 ∷ 1 ∷ [])) ∷ []) ⇒ is (nums (1 ∷ 2 ∷ 2 ∷ []) (4 ∷ 5 ∷ 6 ∷ 4 ∷ [])) ∷
    index_whole table (Some (nums (1 ∷ 2 ∷ []) (2 ∷ 1 ∷ [])) ∷ Some (scalar 3) ∷ []) ⇒ is (nums (1 ∷ 2 ∷ []) (6 ∷ 3 ∷ [])) ∷  -- index matrix by row
    -- index by rank 4
    index_whole (nums (3 ∷ []) (7 ∷ 8 ∷ 9 ∷ [])) (Some (nums (1 ∷ 2 ∷ 1 ∷ 1 ∷ []) (3 ∷ 2 ∷ [])) ∷ []) ⇒ is (nums (1 ∷ 2 ∷ 1 ∷ 1 ∷ []) (9 ∷ 8 ∷ [])) ∷
    -- index matrix by matrix
    index_whole table (Some (nums (1 ∷ 2 ∷ []) (2 ∷ 1 ∷ [])) ∷ Some (nums (2 ∷ 1 ∷ []) (3 ∷ 1 ∷ [])) ∷ []) ⇒ is (nums (1 ∷ 2 ∷ 2 ∷ 1 ∷ []) (6 ∷ 4 ∷ 3 ∷ 1 ∷ [])) ∷
    -- of rank 3 and 4
    index_whole (nums (2 ∷ 1 ∷ 2 ∷ []) (1 ∷ 2 ∷ 3 ∷ 4 ∷ [])) (Some (scalar 2) ∷ Some (scalar 1) ∷ Some (scalar 2) ∷ []) ⇒ is (scalar 4) ∷
    index_whole (nums (2 ∷ 1 ∷ 2 ∷ []) (1 ∷ 2 ∷ 3 ∷ 4 ∷ [])) (None ∷ Some (scalar 1) ∷ None ∷ []) ⇒ is (nums (2 ∷ 2 ∷ []) (1 ∷ 2 ∷ 3 ∷ 4 ∷ [])) ∷  -- index plane
    -- index ends of rank 3
    index_whole (nums (2 ∷ 1 ∷ 2 ∷ []) (1 ∷ 2 ∷ 3 ∷ 4 ∷ [])) (Some (scalar 2) ∷ None ∷ Some (nums (2 ∷ []) (2 ∷ 1 ∷ [])) ∷ []) ⇒ is (nums (1 ∷ 2 ∷ []) (4 ∷ 3 ∷ [])) ∷
    -- index rank 4
    index_whole (chars (1 ∷ 2 ∷ 1 ∷ 1 ∷ []) (97 ∷ 98 ∷ [])) (None ∷ Some (scalar 2) ∷ None ∷ None ∷ []) ⇒ is (chars (1 ∷ 1 ∷ 1 ∷ []) (98 ∷ [])) ∷
    -- index item of rank 4
    index_whole (nums (1 ∷ 2 ∷ 1 ∷ 2 ∷ []) (1 ∷ 2 ∷ 3 ∷ 4 ∷ [])) (Some (scalar 1) ∷ Some (scalar 2) ∷ Some (scalar 1) ∷ Some (scalar 1) ∷ []) ⇒ is (scalar 3) ∷
    -- without items: a position of characters without items has no indices
    index_whole (nums (3 ∷ []) (7 ∷ 8 ∷ 9 ∷ [])) (Some no_text ∷ []) ⇒ is no_numbers ∷
    index_whole (chars (3 ∷ []) (97 ∷ 98 ∷ 99 ∷ [])) (Some no_numbers ∷ []) ⇒ is no_text ∷  -- index by no numbers
    index_whole table (Some no_text ∷ None ∷ []) ⇒ is (nums (0 ∷ 3 ∷ []) []) ∷  -- index no rows
    index_whole table (Some (scalar 2) ∷ Some (chars (2 ∷ 0 ∷ []) []) ∷ []) ⇒ is (nums (2 ∷ 0 ∷ []) []) ∷  -- index no columns
    index_whole no_text (None ∷ []) ⇒ is no_text ∷  -- index all of no text
    index_whole no_numbers (Some no_text ∷ []) ⇒ is no_numbers ∷  -- index none of no numbers
    index_whole (chars (0 ∷ 2 ∷ []) []) (None ∷ Some (scalar 2) ∷ []) ⇒ is no_text ∷  -- index column without items
    -- RANK: a scalar has no position, whatever they are; a position for each axis
    index_whole (scalar 5) [] ⇒ fails Rank ∷
    index_whole (scalar 5) (None ∷ []) ⇒ fails Rank ∷  -- index of scalar by none
    index_whole (scalar 5) (Some (scalar 1) ∷ []) ⇒ fails Rank ∷  -- index of scalar by one
    index_whole table [] ⇒ fails Rank ∷  -- index of table by none
    index_whole table (Some (scalar 1) ∷ []) ⇒ fails Rank ∷  -- index of table by one
    index_whole (nums (3 ∷ []) (7 ∷ 8 ∷ 9 ∷ [])) (Some (scalar 1) ∷ None ∷ []) ⇒ fails Rank ∷  -- index of vector by two
    -- RANK goes before DOMAIN, and before INDEX
    index_whole table (Some (chars [] (97 ∷ [])) ∷ []) ⇒ fails Rank ∷
    index_whole (nums (3 ∷ []) (7 ∷ 8 ∷ 9 ∷ [])) (Some (scalar 4) ∷ Some (scalar 1) ∷ []) ⇒ fails Rank ∷  -- index rank before index
    -- DOMAIN before INDEX, also DOMAIN of a later position
    index_whole (nums (3 ∷ []) (7 ∷ 8 ∷ 9 ∷ [])) (Some (chars (1 ∷ []) (97 ∷ [])) ∷ []) ⇒ fails Domain ∷
    index_whole table (Some (scalar 3) ∷ Some (chars [] (97 ∷ [])) ∷ []) ⇒ fails Domain ∷  -- index domain of later
    index_whole table (Some (chars [] (97 ∷ [])) ∷ Some (scalar 4) ∷ []) ⇒ fails Domain ∷  -- index domain of earlier
    index_whole table (None ∷ Some (chars (1 ∷ []) (97 ∷ [])) ∷ []) ⇒ fails Domain ∷  -- index domain after none written
    index_whole no_numbers (Some (chars (1 ∷ []) (97 ∷ [])) ∷ []) ⇒ fails Domain ∷  -- index domain of no numbers
    -- INDEX: each index is from 1 to the length of its own axis
    index_whole (nums (3 ∷ []) (7 ∷ 8 ∷ 9 ∷ [])) (Some (scalar 0) ∷ []) ⇒ fails Index ∷
    index_whole (nums (3 ∷ []) (7 ∷ 8 ∷ 9 ∷ [])) (Some (scalar 4) ∷ []) ⇒ fails Index ∷  -- index of 4
    index_whole (nums (3 ∷ []) (7 ∷ 8 ∷ 9 ∷ [])) (Some (integer (minus 1)) ∷ []) ⇒ fails Index ∷  -- index of negative
    index_whole (nums (3 ∷ []) (7 ∷ 8 ∷ 9 ∷ [])) (Some (integer greatest) ∷ []) ⇒ fails Index ∷  -- index of greatest
    index_whole (nums (3 ∷ []) (7 ∷ 8 ∷ 9 ∷ [])) (Some (integer least) ∷ []) ⇒ fails Index ∷  -- index of least
    index_whole (nums (3 ∷ []) (7 ∷ 8 ∷ 9 ∷ [])) (Some (nums (3 ∷ []) (1 ∷ 2 ∷ 4 ∷ [])) ∷ []) ⇒ fails Index ∷  -- index of last item
    index_whole table (Some (scalar 3) ∷ Some (scalar 2) ∷ []) ⇒ fails Index ∷  -- index of row
    index_whole table (None ∷ Some (nums (2 ∷ []) (3 ∷ 4 ∷ [])) ∷ []) ⇒ fails Index ∷  -- index of column
    index_whole no_numbers (Some (scalar 1) ∷ []) ⇒ fails Index ∷  -- index in no numbers
    -- INDEX, also where the result has no items
    index_whole table (Some (scalar 0) ∷ Some no_numbers ∷ []) ⇒ fails Index ∷
    index_whole table (Some no_text ∷ Some (scalar 4) ∷ []) ⇒ fails Index ∷  -- index without items of later
    index_whole (nums (0 ∷ 2 ∷ []) []) (None ∷ Some (nums (2 ∷ []) (1 ∷ 3 ∷ [])) ∷ []) ⇒ fails Index ∷  -- index without items of array
    -- LIMIT of the shape comes last
    index_whole table (Some (nums (1 ∷ 1 ∷ 1 ∷ []) (1 ∷ [])) ∷ Some (nums (1 ∷ 1 ∷ []) (1 ∷ [])) ∷ []) ⇒ fails Limit ∷
    index_whole table (Some (nums (1 ∷ 1 ∷ 1 ∷ 1 ∷ []) (1 ∷ [])) ∷ None ∷ []) ⇒ fails Limit ∷  -- index limit beside none written
    index_whole table (Some (chars (0 ∷ 1 ∷ 1 ∷ 1 ∷ []) []) ∷ None ∷ []) ⇒ fails Limit ∷  -- index limit without items
    index_whole table (Some (nums (1 ∷ 1 ∷ 1 ∷ []) (1 ∷ [])) ∷ Some (chars (1 ∷ 1 ∷ []) (97 ∷ [])) ∷ []) ⇒ fails Domain ∷  -- index domain before limit
    index_whole table (Some (nums (1 ∷ 1 ∷ 1 ∷ []) (3 ∷ [])) ∷ Some (nums (1 ∷ 1 ∷ []) (1 ∷ [])) ∷ []) ⇒ fails Index ∷  -- index index before limit
    [])
indexed_reference_cases = refl
