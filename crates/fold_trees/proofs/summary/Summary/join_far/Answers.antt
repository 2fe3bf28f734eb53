use Rattle.std.{proofs.Common.{◌≡◌, sym, subst, arith, to_z, of_z, ◌+ℤ◌}, specs.Int.{w128}, proofs.lemmas.Int.{ints, clamps}}
use Rattle.fold_trees.{specs.Sums.{IsOrdered, IsSummaryOf, told_sums, join}, proofs.JoinedSums.{sums_eq, ordered_join, tells_join}}
use Rattle.fold_trees.proofs.summary.Summary.join_far.Goals as goal

-- the computed values are the join of the stored ones
made : (c : goal.After-total) → record {
  total = to_z w128 (of_z w128 (to_z w128 (of_z w128 c.total.result) +ℤ to_z w128 (of_z w128 c.total-shift.result)));
  least = to_z w128 (of_z w128 c.min-least.result);
  greatest = to_z w128 (of_z w128 c.max-greatest.result);
} ≡ join (told_sums c.args.self.now) (told_sums c.args.later.now)
made c =
    let shift = c.total-shift.ensures in
    let least = c.least.ensures in
    let least2 = c.least-2.ensures in
    let greatest = c.greatest.ensures in
    let greatest2 = c.greatest-2.ensures in
    let max_is = c.max-greatest.ensures.value in
    sums_eq _ _
    (omega (arith, ints, c.total.ensures.is, c.total.ensures.low, c.total.ensures.high, shift.is, shift.low, shift.high))
    (omega (arith, ints, clamps, shift.is, shift.low, shift.high, least.is, least.low, least.high, least2.is, least2.low, least2.high, c.min-least.ensures.value))
    (omega (arith, ints, clamps, shift.is, shift.low, shift.high, greatest.is, greatest.low, greatest.high, greatest2.is, greatest2.low, greatest2.high, max_is))

pub of_sums-requires-clause-ordered : goal.of_sums-requires-clause-ordered
of_sums-requires-clause-ordered c = subst IsOrdered (sym (made c)) (ordered_join (told_sums c.args.self.now) (told_sums c.args.later.now) c.requires.here.1.sound c.requires.later.1.sound)

pub of_sums-requires-clause-low : goal.of_sums-requires-clause-low
of_sums-requires-clause-low c =
    let shift = c.total-shift.ensures in
    let least2 = c.least-2.ensures in
    omega (arith, ints, clamps, shift.is, shift.low, shift.high, c.least.ensures.low, c.least.ensures.high, least2.low, least2.high, c.min-least.ensures.value)

pub of_sums-requires-clause-high : goal.of_sums-requires-clause-high
of_sums-requires-clause-high c =
    let shift = c.total-shift.ensures in
    let greatest2 = c.greatest-2.ensures in
    omega (arith, ints, clamps, shift.is, shift.low, shift.high, c.greatest.ensures.low, c.greatest.ensures.high, greatest2.low, greatest2.high, c.max-greatest.ensures.value)

pub returns : goal.returns
returns c earlier rest h k = tells_join c.args.self.now c.args.later.now c.of_sums.result earlier rest h k (subst (IsSummaryOf c.of_sums.result) (made c.before) c.of_sums.ensures)
