use Rattle.sum_rules.{specs.declared.joined_patch.JoinedPatch.{JoinedPatch}, proofs.JoinedPatches.{joined_with}}
use Rattle.sum_rules.proofs.line_sums.LineSums.joined.Goals as goal

pub returns-clause-joined : goal.returns-clause-joined
returns-clause-joined c =
    let lines = c.self.inside.lines.value in
    let p : JoinedPatch = record { patch = c.deref_mut-made.result.now.patch; is_joined = c.in_ok-made.field-0; joined = c.join_one.new.joined } in
    rw (← c.self.view_is) (joined_with lines.trees lines.axis lines.shape.items c.self.invariant p (λ done. rw (c.deref.ensures, c.deref-2.ensures) at (c.in_ok-made.ensures done)))
