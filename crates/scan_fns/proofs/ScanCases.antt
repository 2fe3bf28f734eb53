-- Worked cases of scan, computed.
use Rattle.std.proofs.Common.{refl, pos, [], ◌∷◌}
use Rattle.arrays_core.{specs.declared.item.Kind.TheVariants.{Axis as AxisError, Domain, Limit}, proofs.CaseWords.{◌⇒◌, AllSame, nums, ints, chars, is, fails, minus, greatest, least}}
use Rattle.{function_names.specs.declared.along.Along.TheVariants.{First, Last, Axis}, scan_fns.specs.Scan.{scan_whole}}
use Rattle.function_names.specs.declared.scalar.Scalar2.TheVariants as two

worked_cases : AllSame (
    -- -\4 3 2 1, and other functions along a vector
    scan_whole two.Minus Last (nums (4 ∷ []) (4 ∷ 3 ∷ 2 ∷ 1 ∷ [])) ⇒ is (nums (4 ∷ []) (4 ∷ 1 ∷ 3 ∷ 2 ∷ [])) ∷
    scan_whole two.Plus Last (ints (5 ∷ []) (pos 3 ∷ minus 1 ∷ pos 4 ∷ pos 1 ∷ pos 5 ∷ [])) ⇒ is (nums (5 ∷ []) (3 ∷ 2 ∷ 6 ∷ 7 ∷ 12 ∷ [])) ∷  -- sums
    scan_whole two.Times Last (nums (4 ∷ []) (1 ∷ 2 ∷ 3 ∷ 4 ∷ [])) ⇒ is (nums (4 ∷ []) (1 ∷ 2 ∷ 6 ∷ 24 ∷ [])) ∷  -- products
    scan_whole two.Less Last (nums (4 ∷ []) (0 ∷ 0 ∷ 1 ∷ 0 ∷ [])) ⇒ is (nums (4 ∷ []) (0 ∷ 0 ∷ 1 ∷ 0 ∷ [])) ∷  -- first one
    scan_whole two.Less Last (nums (4 ∷ []) (1 ∷ 0 ∷ 1 ∷ 0 ∷ [])) ⇒ is (nums (4 ∷ []) (1 ∷ 0 ∷ 0 ∷ 0 ∷ [])) ∷  -- first two
    scan_whole two.Maximum Last (ints (5 ∷ []) (pos 2 ∷ pos 1 ∷ pos 3 ∷ least ∷ pos 4 ∷ [])) ⇒ is (nums (5 ∷ []) (2 ∷ 2 ∷ 3 ∷ 3 ∷ 4 ∷ [])) ∷  -- greatest so far
    scan_whole two.Minimum Last (ints (5 ∷ []) (pos 2 ∷ pos 1 ∷ pos 3 ∷ greatest ∷ pos 0 ∷ [])) ⇒ is (nums (5 ∷ []) (2 ∷ 1 ∷ 1 ∷ 1 ∷ 0 ∷ [])) ∷  -- least so far
    scan_whole two.And Last (nums (4 ∷ []) (1 ∷ 1 ∷ 0 ∷ 1 ∷ [])) ⇒ is (nums (4 ∷ []) (1 ∷ 1 ∷ 0 ∷ 0 ∷ [])) ∷  -- all so far
    scan_whole two.Or Last (nums (4 ∷ []) (0 ∷ 0 ∷ 1 ∷ 0 ∷ [])) ⇒ is (nums (4 ∷ []) (0 ∷ 0 ∷ 1 ∷ 1 ∷ [])) ∷  -- any so far
    scan_whole two.Divide Last (nums (3 ∷ []) (8 ∷ 4 ∷ 2 ∷ [])) ⇒ is (nums (3 ∷ []) (8 ∷ 2 ∷ 4 ∷ [])) ∷  -- quotients
    scan_whole two.Power Last (nums (3 ∷ []) (2 ∷ 3 ∷ 2 ∷ [])) ⇒ is (nums (3 ∷ []) (2 ∷ 8 ∷ 512 ∷ [])) ∷  -- powers
    scan_whole two.Residue Last (ints (4 ∷ []) (pos 7 ∷ minus 3 ∷ pos 5 ∷ pos 2 ∷ [])) ⇒ is (nums (4 ∷ []) (7 ∷ 4 ∷ 6 ∷ 6 ∷ [])) ∷  -- residues
    scan_whole two.Equal Last (nums (4 ∷ []) (1 ∷ 0 ∷ 0 ∷ 1 ∷ [])) ⇒ is (nums (4 ∷ []) (1 ∷ 0 ∷ 1 ∷ 1 ∷ [])) ∷  -- equal so far
    scan_whole two.NotEqual Last (nums (4 ∷ []) (1 ∷ 0 ∷ 1 ∷ 1 ∷ [])) ⇒ is (nums (4 ∷ []) (1 ∷ 1 ∷ 0 ∷ 1 ∷ [])) ∷  -- not equal so far
    scan_whole two.Nand Last (nums (3 ∷ []) (1 ∷ 1 ∷ 1 ∷ [])) ⇒ is (nums (3 ∷ []) (1 ∷ 0 ∷ 1 ∷ [])) ∷  -- nand so far
    scan_whole two.Nor Last (nums (3 ∷ []) (0 ∷ 0 ∷ 1 ∷ [])) ⇒ is (nums (3 ∷ []) (0 ∷ 1 ∷ 1 ∷ [])) ∷  -- nor so far
    -- along each axis
    scan_whole two.Minus Last (nums (2 ∷ 3 ∷ []) (1 ∷ 2 ∷ 3 ∷ 4 ∷ 5 ∷ 6 ∷ [])) ⇒ is (ints (2 ∷ 3 ∷ []) (pos 1 ∷ minus 1 ∷ pos 2 ∷ pos 4 ∷ minus 1 ∷ pos 5 ∷ [])) ∷
    -- columns
    scan_whole two.Minus First (nums (2 ∷ 3 ∷ []) (1 ∷ 2 ∷ 3 ∷ 4 ∷ 5 ∷ 6 ∷ [])) ⇒ is (ints (2 ∷ 3 ∷ []) (pos 1 ∷ pos 2 ∷ pos 3 ∷ minus 3 ∷ minus 3 ∷ minus 3 ∷ [])) ∷
    -- axis 1
    scan_whole two.Minus (Axis (pos 1)) (nums (2 ∷ 3 ∷ []) (1 ∷ 2 ∷ 3 ∷ 4 ∷ 5 ∷ 6 ∷ [])) ⇒ is (ints (2 ∷ 3 ∷ []) (pos 1 ∷ pos 2 ∷ pos 3 ∷ minus 3 ∷ minus 3 ∷ minus 3 ∷ [])) ∷
    -- axis 2
    scan_whole two.Minus (Axis (pos 2)) (nums (2 ∷ 3 ∷ []) (1 ∷ 2 ∷ 3 ∷ 4 ∷ 5 ∷ 6 ∷ [])) ⇒ is (ints (2 ∷ 3 ∷ []) (pos 1 ∷ minus 1 ∷ pos 2 ∷ pos 4 ∷ minus 1 ∷ pos 5 ∷ [])) ∷
    scan_whole two.Minus (Axis (pos 3)) (nums (2 ∷ 3 ∷ []) (1 ∷ 2 ∷ 3 ∷ 4 ∷ 5 ∷ 6 ∷ [])) ⇒ fails AxisError ∷  -- axis 3
    scan_whole two.Minus (Axis (pos 0)) (nums (2 ∷ 3 ∷ []) (1 ∷ 2 ∷ 3 ∷ 4 ∷ 5 ∷ 6 ∷ [])) ⇒ fails AxisError ∷  -- axis 0
    -- plus rank 3 axis 1
    scan_whole two.Plus (Axis (pos 1)) (nums (2 ∷ 2 ∷ 2 ∷ []) (1 ∷ 2 ∷ 3 ∷ 4 ∷ 5 ∷ 6 ∷ 7 ∷ 8 ∷ [])) ⇒ is (nums (2 ∷ 2 ∷ 2 ∷ []) (1 ∷ 2 ∷ 3 ∷ 4 ∷ 6 ∷ 8 ∷ 10 ∷ 12 ∷ [])) ∷
    -- plus rank 3 axis 2
    scan_whole two.Plus (Axis (pos 2)) (nums (2 ∷ 2 ∷ 2 ∷ []) (1 ∷ 2 ∷ 3 ∷ 4 ∷ 5 ∷ 6 ∷ 7 ∷ 8 ∷ [])) ⇒ is (nums (2 ∷ 2 ∷ 2 ∷ []) (1 ∷ 2 ∷ 4 ∷ 6 ∷ 5 ∷ 6 ∷ 12 ∷ 14 ∷ [])) ∷
    -- plus rank 3 axis 3
    scan_whole two.Plus (Axis (pos 3)) (nums (2 ∷ 2 ∷ 2 ∷ []) (1 ∷ 2 ∷ 3 ∷ 4 ∷ 5 ∷ 6 ∷ 7 ∷ 8 ∷ [])) ⇒ is (nums (2 ∷ 2 ∷ 2 ∷ []) (1 ∷ 3 ∷ 3 ∷ 7 ∷ 5 ∷ 11 ∷ 7 ∷ 15 ∷ [])) ∷
    -- maximum rank 3 axis 1
    scan_whole two.Maximum (Axis (pos 1)) (nums (2 ∷ 2 ∷ 2 ∷ []) (1 ∷ 2 ∷ 3 ∷ 4 ∷ 5 ∷ 6 ∷ 7 ∷ 8 ∷ [])) ⇒ is (nums (2 ∷ 2 ∷ 2 ∷ []) (1 ∷ 2 ∷ 3 ∷ 4 ∷ 5 ∷ 6 ∷ 7 ∷ 8 ∷ [])) ∷
    -- maximum rank 3 axis 2
    scan_whole two.Maximum (Axis (pos 2)) (nums (2 ∷ 2 ∷ 2 ∷ []) (1 ∷ 2 ∷ 3 ∷ 4 ∷ 5 ∷ 6 ∷ 7 ∷ 8 ∷ [])) ⇒ is (nums (2 ∷ 2 ∷ 2 ∷ []) (1 ∷ 2 ∷ 3 ∷ 4 ∷ 5 ∷ 6 ∷ 7 ∷ 8 ∷ [])) ∷
    -- maximum rank 3 axis 3
    scan_whole two.Maximum (Axis (pos 3)) (nums (2 ∷ 2 ∷ 2 ∷ []) (1 ∷ 2 ∷ 3 ∷ 4 ∷ 5 ∷ 6 ∷ 7 ∷ 8 ∷ [])) ⇒ is (nums (2 ∷ 2 ∷ 2 ∷ []) (1 ∷ 2 ∷ 3 ∷ 4 ∷ 5 ∷ 6 ∷ 7 ∷ 8 ∷ [])) ∷
    -- and rank 3 axis 1
    scan_whole two.And (Axis (pos 1)) (nums (2 ∷ 2 ∷ 2 ∷ []) (1 ∷ 0 ∷ 1 ∷ 1 ∷ 1 ∷ 1 ∷ 0 ∷ 1 ∷ [])) ⇒ is (nums (2 ∷ 2 ∷ 2 ∷ []) (1 ∷ 0 ∷ 1 ∷ 1 ∷ 1 ∷ 0 ∷ 0 ∷ 1 ∷ [])) ∷
    -- and rank 3 axis 2
    scan_whole two.And (Axis (pos 2)) (nums (2 ∷ 2 ∷ 2 ∷ []) (1 ∷ 0 ∷ 1 ∷ 1 ∷ 1 ∷ 1 ∷ 0 ∷ 1 ∷ [])) ⇒ is (nums (2 ∷ 2 ∷ 2 ∷ []) (1 ∷ 0 ∷ 1 ∷ 0 ∷ 1 ∷ 1 ∷ 0 ∷ 1 ∷ [])) ∷
    -- and rank 3 axis 3
    scan_whole two.And (Axis (pos 3)) (nums (2 ∷ 2 ∷ 2 ∷ []) (1 ∷ 0 ∷ 1 ∷ 1 ∷ 1 ∷ 1 ∷ 0 ∷ 1 ∷ [])) ⇒ is (nums (2 ∷ 2 ∷ 2 ∷ []) (1 ∷ 0 ∷ 1 ∷ 1 ∷ 1 ∷ 1 ∷ 0 ∷ 0 ∷ [])) ∷
    -- minus rank 3 axis 1
    scan_whole two.Minus (Axis (pos 1)) (nums (2 ∷ 2 ∷ 2 ∷ []) (1 ∷ 2 ∷ 3 ∷ 4 ∷ 5 ∷ 6 ∷ 7 ∷ 8 ∷ [])) ⇒ is (ints (2 ∷ 2 ∷ 2 ∷ []) (pos 1 ∷ pos 2 ∷ pos 3 ∷ pos 4 ∷ minus 4 ∷ minus 4 ∷ minus 4 ∷ minus 4 ∷ [])) ∷
    -- minus rank 3 axis 2
    scan_whole two.Minus (Axis (pos 2)) (nums (2 ∷ 2 ∷ 2 ∷ []) (1 ∷ 2 ∷ 3 ∷ 4 ∷ 5 ∷ 6 ∷ 7 ∷ 8 ∷ [])) ⇒ is (ints (2 ∷ 2 ∷ 2 ∷ []) (pos 1 ∷ pos 2 ∷ minus 2 ∷ minus 2 ∷ pos 5 ∷ pos 6 ∷ minus 2 ∷ minus 2 ∷ [])) ∷
    -- minus rank 3 axis 3
    scan_whole two.Minus (Axis (pos 3)) (nums (2 ∷ 2 ∷ 2 ∷ []) (1 ∷ 2 ∷ 3 ∷ 4 ∷ 5 ∷ 6 ∷ 7 ∷ 8 ∷ [])) ⇒ is (ints (2 ∷ 2 ∷ 2 ∷ []) (pos 1 ∷ minus 1 ∷ pos 3 ∷ minus 1 ∷ pos 5 ∷ minus 1 ∷ pos 7 ∷ minus 1 ∷ [])) ∷
    -- rank 4 axis 3
    scan_whole two.Plus (Axis (pos 3)) (nums (2 ∷ 1 ∷ 2 ∷ 2 ∷ []) (1 ∷ 2 ∷ 3 ∷ 4 ∷ 5 ∷ 6 ∷ 7 ∷ 8 ∷ [])) ⇒ is (nums (2 ∷ 1 ∷ 2 ∷ 2 ∷ []) (1 ∷ 2 ∷ 4 ∷ 6 ∷ 5 ∷ 6 ∷ 12 ∷ 14 ∷ [])) ∷
    -- rank 4 axis 1
    scan_whole two.Plus (Axis (pos 1)) (nums (2 ∷ 1 ∷ 2 ∷ 2 ∷ []) (1 ∷ 2 ∷ 3 ∷ 4 ∷ 5 ∷ 6 ∷ 7 ∷ 8 ∷ [])) ⇒ is (nums (2 ∷ 1 ∷ 2 ∷ 2 ∷ []) (1 ∷ 2 ∷ 3 ∷ 4 ∷ 6 ∷ 8 ∷ 10 ∷ 12 ∷ [])) ∷
    -- a scalar, and an array with lines shorter than two, yield themselves
    scan_whole two.Plus Last (nums [] (5 ∷ [])) ⇒ is (nums [] (5 ∷ [])) ∷
    scan_whole two.Plus First (chars [] (97 ∷ [])) ⇒ is (chars [] (97 ∷ [])) ∷  -- scalar character
    scan_whole two.Plus (Axis (pos 1)) (nums [] (5 ∷ [])) ⇒ fails AxisError ∷  -- scalar axis
    scan_whole two.Plus Last (chars (1 ∷ []) (97 ∷ [])) ⇒ is (chars (1 ∷ []) (97 ∷ [])) ∷  -- one character
    scan_whole two.And Last (nums (1 ∷ []) (5 ∷ [])) ⇒ is (nums (1 ∷ []) (5 ∷ [])) ∷  -- one number
    scan_whole two.Plus Last (chars (2 ∷ 1 ∷ []) (97 ∷ 98 ∷ [])) ⇒ is (chars (2 ∷ 1 ∷ []) (97 ∷ 98 ∷ [])) ∷  -- characters one a line
    scan_whole two.Plus Last (chars (0 ∷ []) []) ⇒ is (chars (0 ∷ []) []) ∷  -- no characters
    scan_whole two.Nand Last (nums (0 ∷ []) []) ⇒ is (nums (0 ∷ []) []) ∷  -- no numbers
    -- characters with items are DOMAIN along an axis of two, also for equality; without items they give numbers
    scan_whole two.Plus Last (chars (2 ∷ []) (97 ∷ 98 ∷ [])) ⇒ fails Domain ∷
    scan_whole two.Equal Last (chars (2 ∷ []) (97 ∷ 98 ∷ [])) ⇒ fails Domain ∷  -- characters equal
    scan_whole two.Equal First (chars (1 ∷ 2 ∷ []) (97 ∷ 98 ∷ [])) ⇒ is (chars (1 ∷ 2 ∷ []) (97 ∷ 98 ∷ [])) ∷  -- characters the other axis
    scan_whole two.Plus Last (chars (0 ∷ 2 ∷ []) []) ⇒ is (nums (0 ∷ 2 ∷ []) []) ∷  -- no lines of characters
    scan_whole two.Plus Last (chars (2 ∷ 0 ∷ []) []) ⇒ is (chars (2 ∷ 0 ∷ []) []) ∷  -- lines without characters
    scan_whole two.Plus First (chars (2 ∷ 0 ∷ []) []) ⇒ is (nums (2 ∷ 0 ∷ []) []) ∷  -- columns without characters
    scan_whole two.Plus (Axis (pos 2)) (chars (2 ∷ []) (97 ∷ 98 ∷ [])) ⇒ fails AxisError ∷  -- axis before domain
    scan_whole two.Plus Last (nums (1048577 ∷ 0 ∷ []) []) ⇒ fails Limit ∷  -- great axes
    -- a sum is in range if the fold from the right is, at each place
    scan_whole two.Plus Last (ints (3 ∷ []) (minus 5 ∷ greatest ∷ pos 0 ∷ [])) ⇒ is (ints (3 ∷ []) (minus 5 ∷ pos 9223372036854775802 ∷ pos 9223372036854775802 ∷ [])) ∷
    scan_whole two.Plus Last (ints (3 ∷ []) (minus 5 ∷ greatest ∷ pos 1 ∷ [])) ⇒ fails Limit ∷  -- sum out at the third
    scan_whole two.Plus Last (ints (3 ∷ []) (pos 1 ∷ greatest ∷ minus 1 ∷ [])) ⇒ fails Limit ∷  -- sum out though it comes back
    scan_whole two.Plus Last (ints (3 ∷ []) (minus 1 ∷ pos 1 ∷ greatest ∷ [])) ⇒ fails Limit ∷  -- ending out of range
    scan_whole two.Plus Last (ints (3 ∷ []) (pos 1 ∷ minus 2 ∷ least ∷ [])) ⇒ fails Limit ∷  -- ending out below
    scan_whole two.Plus Last (ints (4 ∷ []) (least ∷ greatest ∷ pos 1 ∷ minus 1 ∷ [])) ⇒ fails Limit ∷  -- ends of the range
    scan_whole two.Plus Last (ints (2 ∷ []) (least ∷ least ∷ [])) ⇒ fails Limit ∷  -- least twice
    -- greatest and 0
    scan_whole two.Plus Last (ints (4 ∷ []) (pos 0 ∷ greatest ∷ pos 0 ∷ least ∷ [])) ⇒ is (ints (4 ∷ []) (pos 0 ∷ greatest ∷ greatest ∷ minus 1 ∷ [])) ∷
    scan_whole two.Plus Last (ints (2 ∷ 2 ∷ []) (pos 1 ∷ pos 2 ∷ pos 1 ∷ greatest ∷ [])) ⇒ fails Limit ∷  -- second line out
    scan_whole two.Plus First (ints (2 ∷ 2 ∷ []) (pos 1 ∷ pos 1 ∷ pos 2 ∷ greatest ∷ [])) ⇒ fails Limit ∷  -- second column out
    scan_whole two.And Last (nums (2 ∷ 1 ∷ []) (5 ∷ 6 ∷ [])) ⇒ is (nums (2 ∷ 1 ∷ []) (5 ∷ 6 ∷ [])) ∷  -- and of 5 alone
    scan_whole two.And Last (nums (2 ∷ []) (5 ∷ 1 ∷ [])) ⇒ fails Domain ∷  -- and of 5
    scan_whole two.Or Last (nums (3 ∷ []) (1 ∷ 0 ∷ 2 ∷ [])) ⇒ fails Domain ∷  -- or of 2 late
    scan_whole two.And Last (nums (2 ∷ []) (0 ∷ 2 ∷ [])) ⇒ fails Domain ∷  -- and of 2 after 0
    scan_whole two.Maximum First (nums (1 ∷ 3 ∷ []) (1 ∷ 2 ∷ 3 ∷ [])) ⇒ is (nums (1 ∷ 3 ∷ []) (1 ∷ 2 ∷ 3 ∷ [])) ∷  -- maximum of one each
    scan_whole two.Divide Last (ints (2 ∷ 2 ∷ []) (least ∷ minus 1 ∷ pos 1 ∷ pos 0 ∷ [])) ⇒ fails Limit ∷  -- first error in order
    scan_whole two.Divide First (ints (2 ∷ 2 ∷ []) (pos 1 ∷ least ∷ pos 0 ∷ minus 1 ∷ [])) ⇒ fails Domain ∷  -- first error by columns
    [])
worked_cases = refl
