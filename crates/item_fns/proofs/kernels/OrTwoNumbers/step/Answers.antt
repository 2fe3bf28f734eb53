use Rattle.std.{proofs.Common.{arith, ◌≤◌, w64}, proofs.lemmas.Int.{to_z-of_z}}
use Rattle.{arrays_core.specs.Limits.{most_places}}
use Rattle.item_fns.{specs.Laws.AtOnce.{any_true}, proofs.Doubts.{none_left, none_right}}
use Rattle.item_fns.proofs.kernels.OrTwoNumbers.step.Goals as goal

pub returns : goal.returns
returns c = λ h.
    let few : 0 ≤ most_places = omega arith in
    let a = rw (to_z-of_z w64 c.args.a c.ranges.a) at c.untrue.ensures (none_left _ _ h) in
    let b = rw (to_z-of_z w64 c.args.b c.ranges.b) at c.untrue-2.ensures (none_right _ _ h) in
    any_true.gives 0 0 c.args.a c.args.b few a b
