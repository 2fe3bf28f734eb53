-- Worked cases of reduction: each function of no items, of one, of two and of five, computed.
use Rattle.std.proofs.Common.{◌≡◌, refl, pos, [], ◌∷◌}
use Rattle.arrays_core.{specs.declared.item.Kind.TheVariants.{Domain}, proofs.CaseWords.{◌⇒◌, AllSame, nums, ints, is, fails, minus, greatest, least}}
use Rattle.{function_names.{specs.declared.along.Along.TheVariants.{Last}, specs.declared.scalar.Scalar2.{Scalar2}}, reduce_fns.specs.Reduce.{reduce_whole}}
use Rattle.function_names.specs.declared.scalar.Scalar2.TheVariants as two

-- of one item each function gives that item
of_one : (function : Scalar2) → reduce_whole function Last (nums (1 ∷ []) (5 ∷ [])) ≡ is (nums [] (5 ∷ []))
of_one function = refl

fold_cases : AllSame (
    reduce_whole two.Plus Last (nums (0 ∷ []) []) ⇒ is (nums [] (0 ∷ [])) ∷  -- plus of none
    reduce_whole two.Plus Last (nums (2 ∷ []) (3 ∷ 5 ∷ [])) ⇒ is (nums [] (8 ∷ [])) ∷  -- plus of two
    reduce_whole two.Plus Last (ints (5 ∷ []) (pos 3 ∷ minus 1 ∷ pos 4 ∷ pos 1 ∷ pos 5 ∷ [])) ⇒ is (nums [] (12 ∷ [])) ∷  -- plus of five
    reduce_whole two.Minus Last (nums (0 ∷ []) []) ⇒ is (nums [] (0 ∷ [])) ∷  -- minus of none
    reduce_whole two.Minus Last (nums (2 ∷ []) (3 ∷ 5 ∷ [])) ⇒ is (ints [] (minus 2 ∷ [])) ∷  -- minus of two
    reduce_whole two.Minus Last (ints (5 ∷ []) (pos 4 ∷ pos 3 ∷ minus 2 ∷ pos 1 ∷ pos 7 ∷ [])) ⇒ is (nums [] (5 ∷ [])) ∷  -- minus of five
    reduce_whole two.Times Last (nums (0 ∷ []) []) ⇒ is (nums [] (1 ∷ [])) ∷  -- times of none
    reduce_whole two.Times Last (nums (2 ∷ []) (3 ∷ 5 ∷ [])) ⇒ is (nums [] (15 ∷ [])) ∷  -- times of two
    reduce_whole two.Times Last (ints (5 ∷ []) (pos 2 ∷ minus 3 ∷ pos 1 ∷ pos 4 ∷ pos 5 ∷ [])) ⇒ is (ints [] (minus 120 ∷ [])) ∷  -- times of five
    reduce_whole two.Divide Last (nums (0 ∷ []) []) ⇒ is (nums [] (1 ∷ [])) ∷  -- divide of none
    reduce_whole two.Divide Last (nums (2 ∷ []) (6 ∷ 3 ∷ [])) ⇒ is (nums [] (2 ∷ [])) ∷  -- divide of two
    reduce_whole two.Divide Last (nums (5 ∷ []) (8 ∷ 4 ∷ 2 ∷ 2 ∷ 1 ∷ [])) ⇒ is (nums [] (2 ∷ [])) ∷  -- divide of five
    reduce_whole two.Power Last (nums (0 ∷ []) []) ⇒ is (nums [] (1 ∷ [])) ∷  -- power of none
    reduce_whole two.Power Last (nums (2 ∷ []) (2 ∷ 5 ∷ [])) ⇒ is (nums [] (32 ∷ [])) ∷  -- power of two
    reduce_whole two.Power Last (nums (5 ∷ []) (2 ∷ 1 ∷ 3 ∷ 1 ∷ 2 ∷ [])) ⇒ is (nums [] (2 ∷ [])) ∷  -- power of five
    reduce_whole two.Residue Last (nums (0 ∷ []) []) ⇒ is (nums [] (0 ∷ [])) ∷  -- residue of none
    reduce_whole two.Residue Last (ints (2 ∷ []) (pos 3 ∷ minus 7 ∷ [])) ⇒ is (nums [] (2 ∷ [])) ∷  -- residue of two
    reduce_whole two.Residue Last (ints (5 ∷ []) (pos 7 ∷ minus 3 ∷ pos 5 ∷ pos 2 ∷ pos 9 ∷ [])) ⇒ is (nums [] (5 ∷ [])) ∷  -- residue of five
    reduce_whole two.Maximum Last (nums (0 ∷ []) []) ⇒ is (ints [] (least ∷ [])) ∷  -- maximum of none
    reduce_whole two.Maximum Last (nums (2 ∷ []) (3 ∷ 5 ∷ [])) ⇒ is (nums [] (5 ∷ [])) ∷  -- maximum of two
    reduce_whole two.Maximum Last (ints (5 ∷ []) (pos 3 ∷ minus 1 ∷ pos 4 ∷ pos 1 ∷ pos 5 ∷ [])) ⇒ is (nums [] (5 ∷ [])) ∷  -- maximum of five
    reduce_whole two.Minimum Last (nums (0 ∷ []) []) ⇒ is (ints [] (greatest ∷ [])) ∷  -- minimum of none
    reduce_whole two.Minimum Last (nums (2 ∷ []) (3 ∷ 5 ∷ [])) ⇒ is (nums [] (3 ∷ [])) ∷  -- minimum of two
    reduce_whole two.Minimum Last (ints (5 ∷ []) (pos 3 ∷ minus 1 ∷ pos 4 ∷ pos 1 ∷ pos 5 ∷ [])) ⇒ is (ints [] (minus 1 ∷ [])) ∷  -- minimum of five
    reduce_whole two.Less Last (nums (0 ∷ []) []) ⇒ is (nums [] (0 ∷ [])) ∷  -- less of none
    reduce_whole two.Less Last (nums (2 ∷ []) (3 ∷ 5 ∷ [])) ⇒ is (nums [] (1 ∷ [])) ∷  -- less of two
    reduce_whole two.Less Last (nums (5 ∷ []) (0 ∷ 1 ∷ 0 ∷ 0 ∷ 1 ∷ [])) ⇒ is (nums [] (0 ∷ [])) ∷  -- less of five
    reduce_whole two.LessOrEqual Last (nums (0 ∷ []) []) ⇒ is (nums [] (1 ∷ [])) ∷  -- less or equal of none
    reduce_whole two.LessOrEqual Last (nums (2 ∷ []) (3 ∷ 5 ∷ [])) ⇒ is (nums [] (1 ∷ [])) ∷  -- less or equal of two
    reduce_whole two.LessOrEqual Last (nums (5 ∷ []) (1 ∷ 0 ∷ 2 ∷ 0 ∷ 1 ∷ [])) ⇒ is (nums [] (1 ∷ [])) ∷  -- less or equal of five
    reduce_whole two.Equal Last (nums (0 ∷ []) []) ⇒ is (nums [] (1 ∷ [])) ∷  -- equal of none
    reduce_whole two.Equal Last (nums (2 ∷ []) (3 ∷ 5 ∷ [])) ⇒ is (nums [] (0 ∷ [])) ∷  -- equal of two
    reduce_whole two.Equal Last (nums (5 ∷ []) (1 ∷ 0 ∷ 3 ∷ 3 ∷ 1 ∷ [])) ⇒ is (nums [] (1 ∷ [])) ∷  -- equal of five
    reduce_whole two.GreaterOrEqual Last (nums (0 ∷ []) []) ⇒ is (nums [] (1 ∷ [])) ∷  -- greater or equal of none
    reduce_whole two.GreaterOrEqual Last (nums (2 ∷ []) (3 ∷ 5 ∷ [])) ⇒ is (nums [] (0 ∷ [])) ∷  -- greater or equal of two
    reduce_whole two.GreaterOrEqual Last (nums (5 ∷ []) (0 ∷ 1 ∷ 1 ∷ 2 ∷ 0 ∷ [])) ⇒ is (nums [] (0 ∷ [])) ∷  -- greater or equal of five
    reduce_whole two.Greater Last (nums (0 ∷ []) []) ⇒ is (nums [] (0 ∷ [])) ∷  -- greater of none
    reduce_whole two.Greater Last (nums (2 ∷ []) (3 ∷ 5 ∷ [])) ⇒ is (nums [] (0 ∷ [])) ∷  -- greater of two
    reduce_whole two.Greater Last (nums (5 ∷ []) (1 ∷ 0 ∷ 1 ∷ 0 ∷ 2 ∷ [])) ⇒ is (nums [] (1 ∷ [])) ∷  -- greater of five
    reduce_whole two.NotEqual Last (nums (0 ∷ []) []) ⇒ is (nums [] (0 ∷ [])) ∷  -- not equal of none
    reduce_whole two.NotEqual Last (nums (2 ∷ []) (3 ∷ 5 ∷ [])) ⇒ is (nums [] (1 ∷ [])) ∷  -- not equal of two
    reduce_whole two.NotEqual Last (nums (5 ∷ []) (1 ∷ 0 ∷ 5 ∷ 5 ∷ 1 ∷ [])) ⇒ is (nums [] (0 ∷ [])) ∷  -- not equal of five
    reduce_whole two.And Last (nums (0 ∷ []) []) ⇒ is (nums [] (1 ∷ [])) ∷  -- and of none
    reduce_whole two.And Last (nums (2 ∷ []) (1 ∷ 0 ∷ [])) ⇒ is (nums [] (0 ∷ [])) ∷  -- and of two
    reduce_whole two.And Last (nums (5 ∷ []) (1 ∷ 1 ∷ 0 ∷ 1 ∷ 1 ∷ [])) ⇒ is (nums [] (0 ∷ [])) ∷  -- and of five
    reduce_whole two.Or Last (nums (0 ∷ []) []) ⇒ is (nums [] (0 ∷ [])) ∷  -- or of none
    reduce_whole two.Or Last (nums (2 ∷ []) (0 ∷ 1 ∷ [])) ⇒ is (nums [] (1 ∷ [])) ∷  -- or of two
    reduce_whole two.Or Last (nums (5 ∷ []) (0 ∷ 0 ∷ 1 ∷ 0 ∷ 0 ∷ [])) ⇒ is (nums [] (1 ∷ [])) ∷  -- or of five
    reduce_whole two.Nand Last (nums (0 ∷ []) []) ⇒ fails Domain ∷  -- nand of none
    reduce_whole two.Nand Last (nums (2 ∷ []) (1 ∷ 1 ∷ [])) ⇒ is (nums [] (0 ∷ [])) ∷  -- nand of two
    reduce_whole two.Nand Last (nums (5 ∷ []) (1 ∷ 0 ∷ 1 ∷ 1 ∷ 1 ∷ [])) ⇒ is (nums [] (0 ∷ [])) ∷  -- nand of five
    reduce_whole two.Nor Last (nums (0 ∷ []) []) ⇒ fails Domain ∷  -- nor of none
    reduce_whole two.Nor Last (nums (2 ∷ []) (0 ∷ 0 ∷ [])) ⇒ is (nums [] (1 ∷ [])) ∷  -- nor of two
    reduce_whole two.Nor Last (nums (5 ∷ []) (0 ∷ 0 ∷ 1 ∷ 0 ∷ 1 ∷ [])) ⇒ is (nums [] (0 ∷ [])) ∷  -- nor of five
    [])
fold_cases = refl
