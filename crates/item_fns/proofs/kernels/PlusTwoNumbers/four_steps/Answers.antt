use Rattle.std.{proofs.Common.{◌≡◌, ◌+◌, ◌%◌, ◌^◌, arith, to_z, of_z, w64}, proofs.lemmas.Int.{to_z-of_z, of_z-to_z}}
use Rattle.item_fns.{specs.AtOnce.{IsNear}, proofs.Doubts.{none_left, none_right, five_sum}}
use Rattle.item_fns.proofs.kernels.PlusTwoNumbers.four_steps.Goals as goal

pub returns : goal.returns
returns c = λ h.
    let same = to_z-of_z w64 in
    let of_one = (of_z w64 c.args.fourth + of_z w64 c.args.fold) % 2 ^ 64 in
    let of_two = (of_z w64 c.args.third + of_one) % 2 ^ 64 in
    let of_three = (of_z w64 c.args.second + of_two) % 2 ^ 64 in
    let one : of_z w64 (to_z w64 of_one) ≡ of_one = of_z-to_z w64 of_one (omega arith) in
    let two : of_z w64 (to_z w64 of_two) ≡ of_two = of_z-to_z w64 of_two (omega arith) in
    let three : of_z w64 (to_z w64 of_three) ≡ of_three = of_z-to_z w64 of_three (omega arith) in
    let rows = none_left _ _ h in
    let upper = none_left _ _ rows in
    let top = none_left _ _ upper in
    let first : IsNear 1152921504606846976 c.args.first = rw (same c.args.first c.ranges.first) at c.beyond.ensures (none_left _ _ top) in
    let second : IsNear 1152921504606846976 c.args.second = rw (same c.args.second c.ranges.second) at c.beyond-2.ensures (none_right _ _ top) in
    let third : IsNear 1152921504606846976 c.args.third = rw (same c.args.third c.ranges.third) at c.beyond-3.ensures (none_right _ _ upper) in
    let fourth : IsNear 1152921504606846976 c.args.fourth = rw (same c.args.fourth c.ranges.fourth) at c.beyond-4.ensures (none_right _ _ rows) in
    let fold : IsNear 1152921504606846976 c.args.fold = rw (same c.args.fold c.ranges.fold) at c.beyond-5.ensures (none_right _ _ h) in
    let sum = five_sum c.args.first c.args.second c.args.third c.args.fourth c.args.fold first second third fourth fold in
    rw (one, two, three) at sum
