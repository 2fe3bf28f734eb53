-- Worked cases of the outer product, computed.
use Rattle.std.proofs.Common.{refl, pos, [], ◌∷◌}
use Rattle.arrays_core.{specs.declared.item.Kind.TheVariants.{Domain, Limit}, proofs.CaseWords.{◌⇒◌, AllSame, nums, ints, chars, is, fails, minus, least}}
use Rattle.operator_fns.specs.OuterProduct.{outer_whole}
use Rattle.function_names.specs.declared.scalar.Scalar2.TheVariants as two

worked_cases : AllSame (
    -- 1 2∘.×1 2 3, and by other functions
    outer_whole two.Times (nums (2 ∷ []) (1 ∷ 2 ∷ [])) (nums (3 ∷ []) (1 ∷ 2 ∷ 3 ∷ [])) ⇒ is (nums (2 ∷ 3 ∷ []) (1 ∷ 2 ∷ 3 ∷ 2 ∷ 4 ∷ 6 ∷ [])) ∷
    -- not turned round
    outer_whole two.Minus (nums (2 ∷ []) (10 ∷ 20 ∷ [])) (nums (3 ∷ []) (1 ∷ 2 ∷ 3 ∷ [])) ⇒ is (nums (2 ∷ 3 ∷ []) (9 ∷ 8 ∷ 7 ∷ 19 ∷ 18 ∷ 17 ∷ [])) ∷
    outer_whole two.Power (nums (2 ∷ []) (2 ∷ 3 ∷ [])) (nums (3 ∷ []) (0 ∷ 1 ∷ 2 ∷ [])) ⇒ is (nums (2 ∷ 3 ∷ []) (1 ∷ 2 ∷ 4 ∷ 1 ∷ 3 ∷ 9 ∷ [])) ∷  -- powers
    -- comparison
    outer_whole two.LessOrEqual (nums (3 ∷ []) (1 ∷ 2 ∷ 3 ∷ [])) (nums (3 ∷ []) (1 ∷ 2 ∷ 3 ∷ [])) ⇒ is (nums (3 ∷ 3 ∷ []) (1 ∷ 1 ∷ 1 ∷ 0 ∷ 1 ∷ 1 ∷ 0 ∷ 0 ∷ 1 ∷ [])) ∷
    -- letters
    outer_whole two.Equal (chars (2 ∷ []) (97 ∷ 98 ∷ [])) (chars (3 ∷ []) (97 ∷ 98 ∷ 99 ∷ [])) ⇒ is (nums (2 ∷ 3 ∷ []) (1 ∷ 0 ∷ 0 ∷ 0 ∷ 1 ∷ 0 ∷ [])) ∷
    outer_whole two.NotEqual (chars (1 ∷ []) (97 ∷ [])) (nums (2 ∷ []) (1 ∷ 2 ∷ [])) ⇒ is (nums (1 ∷ 2 ∷ []) (1 ∷ 1 ∷ [])) ∷  -- letters and numbers
    outer_whole two.Plus (chars (1 ∷ []) (97 ∷ [])) (nums (1 ∷ []) (1 ∷ [])) ⇒ fails Domain ∷  -- letters added
    -- ranks add up
    outer_whole two.Plus (nums [] (2 ∷ [])) (nums [] (3 ∷ [])) ⇒ is (nums [] (5 ∷ [])) ∷
    outer_whole two.Plus (nums [] (2 ∷ [])) (nums (2 ∷ []) (1 ∷ 2 ∷ [])) ⇒ is (nums (2 ∷ []) (3 ∷ 4 ∷ [])) ∷  -- scalar left
    outer_whole two.Minus (nums (2 ∷ []) (1 ∷ 2 ∷ [])) (nums [] (2 ∷ [])) ⇒ is (ints (2 ∷ []) (minus 1 ∷ pos 0 ∷ [])) ∷  -- scalar right
    -- matrix and vector
    outer_whole two.Plus (nums (2 ∷ 3 ∷ []) (1 ∷ 2 ∷ 3 ∷ 4 ∷ 5 ∷ 6 ∷ [])) (nums (2 ∷ []) (1 ∷ 2 ∷ [])) ⇒ is (nums (2 ∷ 3 ∷ 2 ∷ []) (2 ∷ 3 ∷ 3 ∷ 4 ∷ 4 ∷ 5 ∷ 5 ∷ 6 ∷ 6 ∷ 7 ∷ 7 ∷ 8 ∷ [])) ∷
    -- vector and matrix
    outer_whole two.Plus (nums (2 ∷ []) (1 ∷ 2 ∷ [])) (nums (2 ∷ 3 ∷ []) (1 ∷ 2 ∷ 3 ∷ 4 ∷ 5 ∷ 6 ∷ [])) ⇒ is (nums (2 ∷ 2 ∷ 3 ∷ []) (2 ∷ 3 ∷ 4 ∷ 5 ∷ 6 ∷ 7 ∷ 3 ∷ 4 ∷ 5 ∷ 6 ∷ 7 ∷ 8 ∷ [])) ∷
    outer_whole two.Times (nums (2 ∷ 1 ∷ []) (1 ∷ 2 ∷ [])) (nums (1 ∷ 2 ∷ []) (3 ∷ 4 ∷ [])) ⇒ is (nums (2 ∷ 1 ∷ 1 ∷ 2 ∷ []) (3 ∷ 4 ∷ 6 ∷ 8 ∷ [])) ∷  -- rank 4
    outer_whole two.Times (nums (1 ∷ 1 ∷ 1 ∷ []) (1 ∷ [])) (nums (1 ∷ 1 ∷ []) (1 ∷ [])) ⇒ fails Limit ∷  -- rank 5
    -- no items give no error
    outer_whole two.Plus (nums (0 ∷ []) []) (nums (2 ∷ []) (1 ∷ 2 ∷ [])) ⇒ is (nums (0 ∷ 2 ∷ []) []) ∷
    outer_whole two.Plus (nums (2 ∷ []) (1 ∷ 2 ∷ [])) (nums (0 ∷ []) []) ⇒ is (nums (2 ∷ 0 ∷ []) []) ∷  -- no columns
    outer_whole two.Plus (chars (0 ∷ []) []) (nums (2 ∷ []) (1 ∷ 2 ∷ [])) ⇒ is (nums (0 ∷ 2 ∷ []) []) ∷  -- no letters
    outer_whole two.Plus (chars (1 ∷ []) (97 ∷ [])) (nums (0 ∷ []) []) ⇒ is (nums (1 ∷ 0 ∷ []) []) ∷  -- letters and none
    outer_whole two.Plus (nums (1048576 ∷ 0 ∷ []) []) (nums (1048577 ∷ 0 ∷ []) []) ⇒ fails Limit ∷  -- great beside none
    -- the first error in row-major order
    outer_whole two.Divide (ints (2 ∷ []) (least ∷ pos 1 ∷ [])) (ints (2 ∷ []) (minus 1 ∷ pos 0 ∷ [])) ⇒ fails Limit ∷
    outer_whole two.Divide (ints (2 ∷ []) (pos 1 ∷ least ∷ [])) (ints (2 ∷ []) (pos 0 ∷ minus 1 ∷ [])) ⇒ fails Domain ∷  -- first error domain
    [])
worked_cases = refl
