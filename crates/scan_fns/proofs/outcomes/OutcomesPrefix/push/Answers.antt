use Rattle.{std.{proofs.Common.{◌≡◌, to_z, of_z, w64, rules}, proofs.lemmas.Int.{to_z-of_z}}, scan_fns.proofs.NextOutcomes.{first_outcome, next_outcome}}
use Rattle.scan_fns.proofs.outcomes.OutcomesPrefix.push.Goals as goal

pub returns-in_default-clause-next : goal.returns-in_default-clause-next
returns-in_default-clause-next g c =
    let s = c.args.self.now in
    let x = c.args.number in
    rw (to_z-of_z w64 x (search rules), c.in_default.is) (first_outcome (g.S.TwoNumbers.gives s.step) s.truths x s.at_zero s.at_one)

pub returns-clause-next : goal.returns-clause-next
returns-clause-next g c =
    let s = c.args.self.now in
    let x = c.args.number in
    let last = c.in-Some.last in
    let last_same : to_z w64 (of_z w64 last) ≡ last = to_z-of_z w64 last (search rules) in
    rw (to_z-of_z w64 x (search rules), c.in-Some.is)
    (next_outcome (g.S.TwoNumbers.gives s.step) s.truths last x s.at_zero s.at_one c.after-at_zero.result c.after-self.result (rw last_same at c.after-at_zero.ensures) (rw last_same at c.after-self.ensures))
