use Rattle.std.{proofs.Common.{ap, sym, ◌∙◌, Ok, w64, rules}, proofs.lemmas.Int.{to_z-of_z}}
use Rattle.item_fns.proofs.Doubts.{none_left, none_right, four_steps}
use Rattle.item_fns.proofs.kernels.TwoNumbers.four_steps.Goals as goal

pub returns : goal.returns
returns g c = λ h.
    let f = g.Self.TwoNumbers.gives c.args.self.now in
    let same = to_z-of_z w64 in
    let fit_third = same c.step-fold.result.0 (search rules) in
    let fit_second = same c.step-fold-2.result.0 (search rules) in
    let fit_first = same c.step-fold-3.result.0 (search rules) in
    let fit_last = same c.step-fold-4.result.0 (search rules) in
    let earlier = none_left _ _ h in
    let last = none_left _ _ earlier in
    let fourth = rw (same c.args.fourth c.ranges.fourth, same c.args.fold c.ranges.fold) at c.step-fold.ensures (none_right _ _ h) in
    let third = rw (same c.args.third c.ranges.third, fit_third) at c.step-fold-2.ensures (none_right _ _ earlier) in
    let second = rw (same c.args.second c.ranges.second, fit_second) at c.step-fold-3.ensures (none_right _ _ last) in
    let first = rw (same c.args.first c.ranges.first, fit_first) at c.step-fold-4.ensures (none_left _ _ last) in
    four_steps f _ _ _ _ _ _ _ _ _ fourth third second first ∙ ap Ok (sym fit_last)
