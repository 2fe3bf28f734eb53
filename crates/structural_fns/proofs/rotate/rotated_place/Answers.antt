use Rattle.std.{proofs.Common.{◌≡◌, ◌+◌, pos, ◌+ℤ◌, ◌-ℤ◌, unsigned_abs, ap, sym, ◌∙◌, arith, to_z, of_z}, specs.Int.{w128}, proofs.lemmas.Int.{ints}}
use Rattle.{item_fns.specs.Numbers.{residue}, structural_fns.proofs.Turning.{residue_euclid}}
use Rattle.structural_fns.proofs.rotate.rotated_place.Goals as goal

pub returns : goal.returns
returns c =
    let n = c.args.axis in
    let z = (pos c.args.i +ℤ c.args.amount) -ℤ pos 1 in
    let r = c.rem_euclid.result in
    let first : to_z w128 (of_z w128 c.from.result) ≡ pos c.args.i = omega (arith, ints, c.from.ensures) in
    let second : to_z w128 (of_z w128 c.from-2.result) ≡ c.args.amount = omega (arith, ints, c.from-2.ensures) in
    let divisor : to_z w128 (of_z w128 c.from-3.result) ≡ pos n = omega (arith, ints, c.from-3.ensures) in
    let sum : to_z w128 (of_z w128 (pos c.args.i +ℤ c.args.amount)) ≡ pos c.args.i +ℤ c.args.amount = omega (arith, ints, c.ranges.amount.sfits) in
    let less : to_z w128 (of_z w128 z) ≡ z = omega (arith, ints, c.ranges.amount.sfits) in
    let same : to_z w128 (of_z w128 r) ≡ r = omega (arith, ints) in
    let e : unsigned_abs (to_z w128 (of_z w128 r)) ≡ unsigned_abs (residue (pos n) z) =
    ap unsigned_abs (same ∙ (rw (sum, less) at (rw (first, second, divisor) at c.rem_euclid.ensures.value)) ∙ sym (residue_euclid n z (omega arith))) in
    ap (λ m. m + 1) e ∙ omega arith
