-- Worked cases of the inner product, computed.
use Rattle.std.proofs.Common.{refl, pos, [], ◌∷◌}
use Rattle.arrays_core.{specs.declared.item.Kind.TheVariants.{Length, Domain, Limit}, proofs.CaseWords.{◌⇒◌, AllSame, nums, ints, chars, is, fails, minus, greatest, least}}
use Rattle.operator_fns.specs.InnerProduct.{inner_whole}
use Rattle.function_names.specs.declared.scalar.Scalar2.TheVariants as two

worked_cases : AllSame (
    -- 1 2 3+.×4 5 6, and matrices
    inner_whole two.Plus two.Times (nums (3 ∷ []) (1 ∷ 2 ∷ 3 ∷ [])) (nums (3 ∷ []) (4 ∷ 5 ∷ 6 ∷ [])) ⇒ is (nums [] (32 ∷ [])) ∷
    -- matrices
    inner_whole two.Plus two.Times (nums (2 ∷ 2 ∷ []) (1 ∷ 2 ∷ 3 ∷ 4 ∷ [])) (nums (2 ∷ 2 ∷ []) (1 ∷ 3 ∷ 2 ∷ 4 ∷ [])) ⇒ is (nums (2 ∷ 2 ∷ []) (5 ∷ 11 ∷ 11 ∷ 25 ∷ [])) ∷
    -- wide and tall
    inner_whole two.Plus two.Times (nums (2 ∷ 3 ∷ []) (1 ∷ 2 ∷ 3 ∷ 4 ∷ 5 ∷ 6 ∷ [])) (nums (3 ∷ 2 ∷ []) (1 ∷ 2 ∷ 3 ∷ 4 ∷ 5 ∷ 6 ∷ [])) ⇒ is (nums (2 ∷ 2 ∷ []) (22 ∷ 28 ∷ 49 ∷ 64 ∷ [])) ∷
    -- tall and wide
    inner_whole two.Plus two.Times (nums (3 ∷ 2 ∷ []) (1 ∷ 2 ∷ 3 ∷ 4 ∷ 5 ∷ 6 ∷ [])) (nums (2 ∷ 3 ∷ []) (1 ∷ 2 ∷ 3 ∷ 4 ∷ 5 ∷ 6 ∷ [])) ⇒ is (nums (3 ∷ 3 ∷ []) (9 ∷ 12 ∷ 15 ∷ 19 ∷ 26 ∷ 33 ∷ 29 ∷ 40 ∷ 51 ∷ [])) ∷
    -- matrix and vector
    inner_whole two.Plus two.Times (nums (2 ∷ 3 ∷ []) (1 ∷ 2 ∷ 3 ∷ 4 ∷ 5 ∷ 6 ∷ [])) (nums (3 ∷ []) (1 ∷ 10 ∷ 100 ∷ [])) ⇒ is (nums (2 ∷ []) (321 ∷ 654 ∷ [])) ∷
    -- vector and matrix
    inner_whole two.Plus two.Times (nums (2 ∷ []) (1 ∷ 10 ∷ [])) (nums (2 ∷ 3 ∷ []) (1 ∷ 2 ∷ 3 ∷ 4 ∷ 5 ∷ 6 ∷ [])) ⇒ is (nums (3 ∷ []) (41 ∷ 52 ∷ 63 ∷ [])) ∷
    -- rank 3
    inner_whole two.Plus two.Times (nums (2 ∷ 2 ∷ 2 ∷ []) (1 ∷ 2 ∷ 3 ∷ 4 ∷ 5 ∷ 6 ∷ 7 ∷ 8 ∷ [])) (nums (2 ∷ []) (1 ∷ 10 ∷ [])) ⇒ is (nums (2 ∷ 2 ∷ []) (21 ∷ 43 ∷ 65 ∷ 87 ∷ [])) ∷
    -- rank 3 right
    inner_whole two.Plus two.Times (nums (2 ∷ []) (1 ∷ 10 ∷ [])) (nums (2 ∷ 2 ∷ 2 ∷ []) (1 ∷ 2 ∷ 3 ∷ 4 ∷ 5 ∷ 6 ∷ 7 ∷ 8 ∷ [])) ⇒ is (nums (2 ∷ 2 ∷ []) (51 ∷ 62 ∷ 73 ∷ 84 ∷ [])) ∷
    inner_whole two.Plus two.Times (nums (1 ∷ 1 ∷ 1 ∷ 1 ∷ []) (1 ∷ [])) (nums (1 ∷ 1 ∷ 1 ∷ []) (1 ∷ [])) ⇒ fails Limit ∷  -- rank 5
    -- the fold goes from the right, and the arguments keep their sides
    inner_whole two.Minus two.Times (nums (3 ∷ []) (1 ∷ 2 ∷ 3 ∷ [])) (nums (3 ∷ []) (1 ∷ 1 ∷ 1 ∷ [])) ⇒ is (nums [] (2 ∷ [])) ∷
    inner_whole two.Times two.Plus (nums (3 ∷ []) (1 ∷ 2 ∷ 3 ∷ [])) (nums (3 ∷ []) (4 ∷ 5 ∷ 6 ∷ [])) ⇒ is (nums [] (315 ∷ [])) ∷  -- functions in order
    inner_whole two.Plus two.Minus (nums (2 ∷ []) (10 ∷ 20 ∷ [])) (nums (2 ∷ []) (1 ∷ 2 ∷ [])) ⇒ is (nums [] (27 ∷ [])) ∷  -- sides in order
    -- paths
    inner_whole two.Minimum two.Plus (nums (2 ∷ 2 ∷ []) (0 ∷ 3 ∷ 1 ∷ 0 ∷ [])) (nums (2 ∷ 2 ∷ []) (0 ∷ 3 ∷ 1 ∷ 0 ∷ [])) ⇒ is (nums (2 ∷ 2 ∷ []) (0 ∷ 3 ∷ 1 ∷ 0 ∷ [])) ∷
    -- any of all
    inner_whole two.Or two.And (nums (2 ∷ 2 ∷ []) (1 ∷ 0 ∷ 0 ∷ 1 ∷ [])) (nums (2 ∷ 2 ∷ []) (0 ∷ 1 ∷ 1 ∷ 1 ∷ [])) ⇒ is (nums (2 ∷ 2 ∷ []) (0 ∷ 1 ∷ 1 ∷ 1 ∷ [])) ∷
    inner_whole two.Plus two.Equal (chars (3 ∷ []) (97 ∷ 98 ∷ 97 ∷ [])) (chars (3 ∷ []) (97 ∷ 97 ∷ 97 ∷ [])) ⇒ is (nums [] (2 ∷ [])) ∷  -- matches
    inner_whole two.And two.Equal (chars (2 ∷ 2 ∷ []) (97 ∷ 98 ∷ 97 ∷ 99 ∷ [])) (chars (2 ∷ []) (97 ∷ 98 ∷ [])) ⇒ is (nums (2 ∷ []) (1 ∷ 0 ∷ [])) ∷  -- all equal
    inner_whole two.Plus two.Times (chars (2 ∷ []) (97 ∷ 98 ∷ [])) (nums (2 ∷ []) (1 ∷ 2 ∷ [])) ⇒ fails Domain ∷  -- letters multiplied
    inner_whole two.Plus two.Times (chars (1 ∷ []) (97 ∷ [])) (chars (1 ∷ []) (97 ∷ [])) ⇒ fails Domain ∷  -- one letter
    -- one item on a side extends, at any rank
    inner_whole two.Plus two.Times (nums [] (2 ∷ [])) (nums (3 ∷ []) (1 ∷ 2 ∷ 3 ∷ [])) ⇒ is (nums [] (12 ∷ [])) ∷
    inner_whole two.Plus two.Times (nums (3 ∷ []) (1 ∷ 2 ∷ 3 ∷ [])) (nums [] (2 ∷ [])) ⇒ is (nums [] (12 ∷ [])) ∷  -- scalar right
    inner_whole two.Plus two.Times (nums [] (2 ∷ [])) (nums [] (3 ∷ [])) ⇒ is (nums [] (6 ∷ [])) ∷  -- scalars
    -- one item left
    inner_whole two.Plus two.Times (nums (1 ∷ 1 ∷ []) (2 ∷ [])) (nums (3 ∷ 2 ∷ []) (1 ∷ 2 ∷ 3 ∷ 4 ∷ 5 ∷ 6 ∷ [])) ⇒ is (nums (1 ∷ 2 ∷ []) (18 ∷ 24 ∷ [])) ∷
    -- one item right
    inner_whole two.Plus two.Times (nums (2 ∷ 3 ∷ []) (1 ∷ 2 ∷ 3 ∷ 4 ∷ 5 ∷ 6 ∷ [])) (nums (1 ∷ 1 ∷ []) (2 ∷ [])) ⇒ is (nums (2 ∷ 1 ∷ []) (12 ∷ 30 ∷ [])) ∷
    inner_whole two.Plus two.Times (nums (1 ∷ 1 ∷ 1 ∷ []) (2 ∷ [])) (nums (1 ∷ []) (3 ∷ [])) ⇒ is (nums (1 ∷ 1 ∷ []) (6 ∷ [])) ∷  -- both one item
    inner_whole two.Minus two.Minus (nums (1 ∷ []) (5 ∷ [])) (nums (2 ∷ []) (1 ∷ 2 ∷ [])) ⇒ is (nums [] (1 ∷ [])) ∷  -- one item beside two
    inner_whole two.Plus two.Times (nums (2 ∷ []) (1 ∷ 2 ∷ [])) (nums (3 ∷ []) (1 ∷ 2 ∷ 3 ∷ [])) ⇒ fails Length ∷  -- lengths apart
    -- matrices of different lengths
    inner_whole two.Plus two.Times (nums (2 ∷ 3 ∷ []) (1 ∷ 2 ∷ 3 ∷ 4 ∷ 5 ∷ 6 ∷ [])) (nums (2 ∷ 3 ∷ []) (1 ∷ 2 ∷ 3 ∷ 4 ∷ 5 ∷ 6 ∷ [])) ⇒ fails Length ∷
    inner_whole two.Plus two.Times (nums [] (2 ∷ [])) (nums (3 ∷ []) (1 ∷ 2 ∷ 3 ∷ [])) ⇒ is (nums [] (12 ∷ [])) ∷  -- length of the scalar is one
    -- no items give the identity of the fold
    inner_whole two.Plus two.Times (nums (0 ∷ []) []) (nums (0 ∷ []) []) ⇒ is (nums [] (0 ∷ [])) ∷
    inner_whole two.Nand two.Times (nums (0 ∷ []) []) (nums (0 ∷ []) []) ⇒ fails Domain ∷  -- none without identity
    inner_whole two.Maximum two.Plus (nums (0 ∷ []) []) (chars (0 ∷ []) []) ⇒ is (ints [] (least ∷ [])) ∷  -- none least
    inner_whole two.Plus two.Times (nums (1 ∷ []) (5 ∷ [])) (nums (0 ∷ []) []) ⇒ is (nums [] (0 ∷ [])) ∷  -- one item and none
    inner_whole two.Times two.Plus (nums (0 ∷ []) []) (nums [] (5 ∷ [])) ⇒ is (nums [] (1 ∷ [])) ∷  -- none and one item
    inner_whole two.Plus two.Times (nums (2 ∷ 0 ∷ []) []) (nums (0 ∷ 3 ∷ []) []) ⇒ is (nums (2 ∷ 3 ∷ []) (0 ∷ 0 ∷ 0 ∷ 0 ∷ 0 ∷ 0 ∷ [])) ∷  -- rows without items
    inner_whole two.Nor two.Times (nums (2 ∷ 0 ∷ []) []) (nums (0 ∷ 1 ∷ []) []) ⇒ fails Domain ∷  -- rows without identity
    inner_whole two.Plus two.Times (nums (0 ∷ 2 ∷ []) []) (nums (2 ∷ []) (1 ∷ 2 ∷ [])) ⇒ is (nums (0 ∷ []) []) ∷  -- no rows
    inner_whole two.Plus two.Times (nums (0 ∷ []) []) (nums (2 ∷ []) (1 ∷ 2 ∷ [])) ⇒ fails Length ∷  -- none and two
    inner_whole two.Plus two.Times (chars (0 ∷ []) []) (chars (0 ∷ []) []) ⇒ is (nums [] (0 ∷ [])) ∷  -- no letters
    -- the second function is applied to all pairs from the last, and its error wins
    inner_whole two.Plus two.Divide (ints (2 ∷ []) (least ∷ pos 1 ∷ [])) (ints (2 ∷ []) (minus 1 ∷ pos 0 ∷ [])) ⇒ fails Domain ∷
    inner_whole two.Plus two.Divide (ints (2 ∷ []) (pos 1 ∷ least ∷ [])) (ints (2 ∷ []) (pos 0 ∷ minus 1 ∷ [])) ⇒ fails Limit ∷  -- last error of each limit
    -- error of each before fold
    inner_whole two.Plus two.Divide (ints (3 ∷ []) (pos 1 ∷ greatest ∷ pos 1 ∷ [])) (nums (3 ∷ []) (0 ∷ 1 ∷ 1 ∷ [])) ⇒ fails Domain ∷
    -- error of each before domain
    inner_whole two.Divide two.Times (ints (3 ∷ []) (greatest ∷ pos 1 ∷ pos 1 ∷ [])) (nums (3 ∷ []) (2 ∷ 1 ∷ 0 ∷ [])) ⇒ fails Limit ∷
    inner_whole two.Plus two.Times (ints (3 ∷ []) (pos 1 ∷ greatest ∷ pos 1 ∷ [])) (nums (3 ∷ []) (1 ∷ 1 ∷ 1 ∷ [])) ⇒ fails Limit ∷  -- error of the fold
    -- fold comes back
    inner_whole two.Plus two.Times (ints (3 ∷ []) (minus 5 ∷ greatest ∷ pos 0 ∷ [])) (nums (3 ∷ []) (1 ∷ 1 ∷ 1 ∷ [])) ⇒ is (nums [] (9223372036854775802 ∷ [])) ∷
    inner_whole two.And two.Times (nums (2 ∷ []) (1 ∷ 2 ∷ [])) (nums (2 ∷ []) (1 ∷ 1 ∷ [])) ⇒ fails Domain ∷  -- domain of the fold
    -- first place with an error
    inner_whole two.Plus two.Divide (ints (2 ∷ 1 ∷ []) (pos 1 ∷ least ∷ [])) (ints (1 ∷ 2 ∷ []) (pos 0 ∷ minus 1 ∷ [])) ⇒ fails Domain ∷
    inner_whole two.Plus two.Times (ints (2 ∷ []) (greatest ∷ pos 1 ∷ [])) (nums (2 ∷ []) (2 ∷ 1 ∷ [])) ⇒ fails Limit ∷  -- product out of range
    [])
worked_cases = refl
