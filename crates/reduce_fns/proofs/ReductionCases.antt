-- Worked cases of reduction, computed.
use Rattle.std.proofs.Common.{refl, pos, [], ◌∷◌}
use Rattle.arrays_core.{specs.declared.item.Kind.TheVariants.{Axis as AxisError, Domain, Limit}, proofs.CaseWords.{◌⇒◌, AllSame, nums, ints, chars, is, fails, minus, greatest, least}}
use Rattle.{function_names.specs.declared.along.Along.TheVariants.{First, Last, Axis}, reduce_fns.specs.Reduce.{reduce_whole}}
use Rattle.function_names.specs.declared.scalar.Scalar2.TheVariants as two

worked_cases : AllSame (
    -- -/2 3⍴⍳6 and -⌿2 3⍴⍳6, and with the axis written
    reduce_whole two.Minus Last (nums (2 ∷ 3 ∷ []) (1 ∷ 2 ∷ 3 ∷ 4 ∷ 5 ∷ 6 ∷ [])) ⇒ is (nums (2 ∷ []) (2 ∷ 5 ∷ [])) ∷
    reduce_whole two.Minus First (nums (2 ∷ 3 ∷ []) (1 ∷ 2 ∷ 3 ∷ 4 ∷ 5 ∷ 6 ∷ [])) ⇒ is (ints (3 ∷ []) (minus 3 ∷ minus 3 ∷ minus 3 ∷ [])) ∷  -- columns
    reduce_whole two.Minus (Axis (pos 1)) (nums (2 ∷ 3 ∷ []) (1 ∷ 2 ∷ 3 ∷ 4 ∷ 5 ∷ 6 ∷ [])) ⇒ is (ints (3 ∷ []) (minus 3 ∷ minus 3 ∷ minus 3 ∷ [])) ∷  -- axis 1
    reduce_whole two.Minus (Axis (pos 2)) (nums (2 ∷ 3 ∷ []) (1 ∷ 2 ∷ 3 ∷ 4 ∷ 5 ∷ 6 ∷ [])) ⇒ is (nums (2 ∷ []) (2 ∷ 5 ∷ [])) ∷  -- axis 2
    reduce_whole two.Minus (Axis (pos 3)) (nums (2 ∷ 3 ∷ []) (1 ∷ 2 ∷ 3 ∷ 4 ∷ 5 ∷ 6 ∷ [])) ⇒ fails AxisError ∷  -- axis 3
    reduce_whole two.Minus (Axis (pos 0)) (nums (2 ∷ 3 ∷ []) (1 ∷ 2 ∷ 3 ∷ 4 ∷ 5 ∷ 6 ∷ [])) ⇒ fails AxisError ∷  -- axis 0
    reduce_whole two.Minus (Axis (minus 1)) (nums (2 ∷ 3 ∷ []) (1 ∷ 2 ∷ 3 ∷ 4 ∷ 5 ∷ 6 ∷ [])) ⇒ fails AxisError ∷  -- axis below 0
    -- rank 3 axis 1
    reduce_whole two.Minus (Axis (pos 1)) (nums (2 ∷ 2 ∷ 2 ∷ []) (1 ∷ 2 ∷ 3 ∷ 4 ∷ 5 ∷ 6 ∷ 7 ∷ 8 ∷ [])) ⇒ is (ints (2 ∷ 2 ∷ []) (minus 4 ∷ minus 4 ∷ minus 4 ∷ minus 4 ∷ [])) ∷
    -- rank 3 axis 2
    reduce_whole two.Minus (Axis (pos 2)) (nums (2 ∷ 2 ∷ 2 ∷ []) (1 ∷ 2 ∷ 3 ∷ 4 ∷ 5 ∷ 6 ∷ 7 ∷ 8 ∷ [])) ⇒ is (ints (2 ∷ 2 ∷ []) (minus 2 ∷ minus 2 ∷ minus 2 ∷ minus 2 ∷ [])) ∷
    -- rank 3 axis 3
    reduce_whole two.Minus (Axis (pos 3)) (nums (2 ∷ 2 ∷ 2 ∷ []) (1 ∷ 2 ∷ 3 ∷ 4 ∷ 5 ∷ 6 ∷ 7 ∷ 8 ∷ [])) ⇒ is (ints (2 ∷ 2 ∷ []) (minus 1 ∷ minus 1 ∷ minus 1 ∷ minus 1 ∷ [])) ∷
    -- rank 4 axis 1
    reduce_whole two.Minus (Axis (pos 1)) (nums (2 ∷ 1 ∷ 2 ∷ 2 ∷ []) (1 ∷ 2 ∷ 3 ∷ 4 ∷ 5 ∷ 6 ∷ 7 ∷ 8 ∷ [])) ⇒ is (ints (1 ∷ 2 ∷ 2 ∷ []) (minus 4 ∷ minus 4 ∷ minus 4 ∷ minus 4 ∷ [])) ∷
    -- rank 4 axis 2
    reduce_whole two.Minus (Axis (pos 2)) (nums (2 ∷ 1 ∷ 2 ∷ 2 ∷ []) (1 ∷ 2 ∷ 3 ∷ 4 ∷ 5 ∷ 6 ∷ 7 ∷ 8 ∷ [])) ⇒ is (nums (2 ∷ 2 ∷ 2 ∷ []) (1 ∷ 2 ∷ 3 ∷ 4 ∷ 5 ∷ 6 ∷ 7 ∷ 8 ∷ [])) ∷
    -- rank 4 axis 3
    reduce_whole two.Minus (Axis (pos 3)) (nums (2 ∷ 1 ∷ 2 ∷ 2 ∷ []) (1 ∷ 2 ∷ 3 ∷ 4 ∷ 5 ∷ 6 ∷ 7 ∷ 8 ∷ [])) ⇒ is (ints (2 ∷ 1 ∷ 2 ∷ []) (minus 2 ∷ minus 2 ∷ minus 2 ∷ minus 2 ∷ [])) ∷
    -- rank 4 axis 4
    reduce_whole two.Minus (Axis (pos 4)) (nums (2 ∷ 1 ∷ 2 ∷ 2 ∷ []) (1 ∷ 2 ∷ 3 ∷ 4 ∷ 5 ∷ 6 ∷ 7 ∷ 8 ∷ [])) ⇒ is (ints (2 ∷ 1 ∷ 2 ∷ []) (minus 1 ∷ minus 1 ∷ minus 1 ∷ minus 1 ∷ [])) ∷
    -- rank 3 first
    reduce_whole two.Minus First (nums (2 ∷ 2 ∷ 2 ∷ []) (1 ∷ 2 ∷ 3 ∷ 4 ∷ 5 ∷ 6 ∷ 7 ∷ 8 ∷ [])) ⇒ is (ints (2 ∷ 2 ∷ []) (minus 4 ∷ minus 4 ∷ minus 4 ∷ minus 4 ∷ [])) ∷
    -- rank 3 last
    reduce_whole two.Minus Last (nums (2 ∷ 2 ∷ 2 ∷ []) (1 ∷ 2 ∷ 3 ∷ 4 ∷ 5 ∷ 6 ∷ 7 ∷ 8 ∷ [])) ⇒ is (ints (2 ∷ 2 ∷ []) (minus 1 ∷ minus 1 ∷ minus 1 ∷ minus 1 ∷ [])) ∷
    -- a scalar is itself, also of characters; it has no axis to write
    reduce_whole two.Plus Last (nums [] (5 ∷ [])) ⇒ is (nums [] (5 ∷ [])) ∷
    reduce_whole two.Plus First (chars [] (97 ∷ [])) ⇒ is (chars [] (97 ∷ [])) ∷  -- scalar character
    reduce_whole two.Plus (Axis (pos 1)) (nums [] (5 ∷ [])) ⇒ fails AxisError ∷  -- scalar axis
    -- a line of one item keeps its type
    reduce_whole two.Plus Last (chars (1 ∷ []) (97 ∷ [])) ⇒ is (chars [] (97 ∷ [])) ∷
    reduce_whole two.Plus Last (chars (2 ∷ 1 ∷ []) (97 ∷ 98 ∷ [])) ⇒ is (chars (2 ∷ []) (97 ∷ 98 ∷ [])) ∷  -- characters one a line
    reduce_whole two.Plus First (chars (1 ∷ 2 ∷ []) (97 ∷ 98 ∷ [])) ⇒ is (chars (2 ∷ []) (97 ∷ 98 ∷ [])) ∷  -- characters one a column
    reduce_whole two.Plus Last (chars (2 ∷ []) (97 ∷ 98 ∷ [])) ⇒ fails Domain ∷  -- characters two
    reduce_whole two.Equal Last (chars (2 ∷ []) (97 ∷ 98 ∷ [])) ⇒ is (nums [] (0 ∷ [])) ∷  -- characters equal
    reduce_whole two.Equal Last (chars (3 ∷ []) (97 ∷ 98 ∷ 98 ∷ [])) ⇒ is (nums [] (0 ∷ [])) ∷  -- characters three equal
    reduce_whole two.NotEqual Last (chars (3 ∷ []) (97 ∷ 98 ∷ 98 ∷ [])) ⇒ is (nums [] (1 ∷ [])) ∷  -- characters not equal
    -- empty lines give the identity, and no lines give numbers
    reduce_whole two.Plus Last (chars (0 ∷ []) []) ⇒ is (nums [] (0 ∷ [])) ∷
    reduce_whole two.Times Last (nums (2 ∷ 0 ∷ []) []) ⇒ is (nums (2 ∷ []) (1 ∷ 1 ∷ [])) ∷  -- lines without items
    reduce_whole two.Times Last (nums (0 ∷ 2 ∷ []) []) ⇒ is (nums (0 ∷ []) []) ∷  -- no lines
    reduce_whole two.Times Last (chars (0 ∷ 2 ∷ []) []) ⇒ is (nums (0 ∷ []) []) ∷  -- no lines of characters
    reduce_whole two.Times Last (chars (0 ∷ 1 ∷ []) []) ⇒ is (chars (0 ∷ []) []) ∷  -- no lines of one character
    reduce_whole two.Times First (nums (0 ∷ 2 ∷ []) []) ⇒ is (nums (2 ∷ []) (1 ∷ 1 ∷ [])) ∷  -- columns without lines
    reduce_whole two.Nand Last (nums (0 ∷ 0 ∷ []) []) ⇒ is (nums (0 ∷ []) []) ∷  -- no identity of no lines
    reduce_whole two.Nor Last (nums (1 ∷ 0 ∷ []) []) ⇒ fails Domain ∷  -- no identity
    -- the shape is checked also beside an axis of no places
    reduce_whole two.Plus Last (nums (1048576 ∷ 1048576 ∷ 0 ∷ []) []) ⇒ fails Limit ∷
    -- folding from the right: in range all the way, or not
    reduce_whole two.Plus Last (ints (3 ∷ []) (minus 5 ∷ greatest ∷ pos 0 ∷ [])) ⇒ is (nums [] (9223372036854775802 ∷ [])) ∷
    reduce_whole two.Plus Last (ints (3 ∷ []) (minus 5 ∷ greatest ∷ pos 1 ∷ [])) ⇒ fails Limit ∷  -- order shows the error
    reduce_whole two.Plus Last (ints (3 ∷ []) (pos 1 ∷ greatest ∷ minus 1 ∷ [])) ⇒ is (ints [] (greatest ∷ [])) ∷  -- from the left out of range
    reduce_whole two.Plus Last (ints (3 ∷ []) (minus 1 ∷ pos 1 ∷ greatest ∷ [])) ⇒ fails Limit ∷  -- from the right out of range
    reduce_whole two.Times Last (ints (3 ∷ []) (greatest ∷ pos 2 ∷ pos 0 ∷ [])) ⇒ is (nums [] (0 ∷ [])) ∷  -- times 0 last
    reduce_whole two.Times Last (ints (3 ∷ []) (pos 0 ∷ pos 2 ∷ greatest ∷ [])) ⇒ fails Limit ∷  -- times 0 first
    reduce_whole two.Minus Last (ints (2 ∷ []) (pos 0 ∷ least ∷ [])) ⇒ fails Limit ∷  -- minus of the least
    reduce_whole two.Minus Last (ints (2 ∷ []) (minus 1 ∷ least ∷ [])) ⇒ is (ints [] (greatest ∷ [])) ∷  -- minus back in range
    -- the first error met is the last in the line
    reduce_whole two.Divide Last (ints (4 ∷ []) (pos 1 ∷ pos 0 ∷ least ∷ minus 1 ∷ [])) ⇒ fails Limit ∷
    reduce_whole two.Divide Last (ints (3 ∷ []) (least ∷ minus 1 ∷ pos 0 ∷ [])) ⇒ fails Domain ∷  -- domain before limit
    reduce_whole two.Divide Last (ints (3 ∷ []) (pos 0 ∷ least ∷ minus 1 ∷ [])) ⇒ fails Limit ∷  -- limit then nothing
    reduce_whole two.Times Last (ints (3 ∷ []) (pos 0 ∷ greatest ∷ pos 2 ∷ [])) ⇒ fails Limit ∷  -- error stays beside 0
    reduce_whole two.And Last (nums (2 ∷ []) (0 ∷ 2 ∷ [])) ⇒ fails Domain ∷  -- and of 2
    reduce_whole two.And Last (nums (1 ∷ []) (2 ∷ [])) ⇒ is (nums [] (2 ∷ [])) ∷  -- and of 2 alone
    reduce_whole two.Or Last (nums (2 ∷ []) (1 ∷ 2 ∷ [])) ⇒ fails Domain ∷  -- or of 1 and 2
    -- if several lines fail, the first gives the error
    reduce_whole two.Divide Last (ints (2 ∷ 2 ∷ []) (least ∷ minus 1 ∷ pos 1 ∷ pos 0 ∷ [])) ⇒ fails Limit ∷
    reduce_whole two.Divide Last (ints (2 ∷ 2 ∷ []) (pos 1 ∷ pos 0 ∷ least ∷ minus 1 ∷ [])) ⇒ fails Domain ∷  -- second line with an error
    reduce_whole two.Divide First (ints (2 ∷ 2 ∷ []) (pos 1 ∷ least ∷ pos 0 ∷ minus 1 ∷ [])) ⇒ fails Domain ∷  -- first column with an error
    [])
worked_cases = refl
