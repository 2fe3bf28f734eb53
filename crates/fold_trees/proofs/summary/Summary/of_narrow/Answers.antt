use Rattle.{std.{proofs.Common.{arith, inl}, proofs.lemmas.Int.{ints}}, fold_trees.proofs.JoinedSums.{sums_eq}}
use Rattle.fold_trees.proofs.summary.Summary.of_narrow.Goals as goal

pub returns : goal.returns
returns c =
    record {
      ordered = c.requires;
      sound = record {
        least_total = omega (arith, ints);
        total_greatest = omega (arith, ints);
        least_zero = omega (arith, ints);
        zero_greatest = omega (arith, ints);
      };
      is = inl (sums_eq _ _ (omega (arith, ints)) (omega (arith, ints)) (omega (arith, ints)));
    }
