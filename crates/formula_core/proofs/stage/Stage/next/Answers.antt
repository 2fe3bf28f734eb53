use Rattle.std.{proofs.Common.{◌∙◌, length, get_or, sym, ap, subst}, proofs.lemmas.List.{get_or_default}}
use Rattle.formula_core.{specs.Holdings.{Holding}, specs.Stages.{IsSumsStep}, specs.Sums.{resummed, IsJoinedFrom}, specs.Tables.{tree_of_node}, specs.declared.sums.SumsDelta.{SumsDelta}, proofs.Planned.{next_node, next_held, next_fits, next_step}, proofs.Summed.{joined_for}}
use Rattle.formula_core.proofs.stage.Stage.next.Goals as goal

pub change_of-requires-clause-node : goal.change_of-requires-clause-node
change_of-requires-clause-node c =
    let w = c.requires.staged in
    let s = c.args.self.now in
    let k = get_or s.nodes.now (length s.changes.now) c.index-self-self.result in
    next_node w.0 w.1.0 w.1.1.0 s w.1.1.1 c.requires.below k (get_or_default s.nodes.now (length s.changes.now) k c.index-self-self.result c.requires.below)

pub change_of-requires-clause-kept : goal.change_of-requires-clause-kept
change_of-requires-clause-kept c =
    let w = c.requires.staged in
    let s = c.args.self.now in
    let k = get_or s.nodes.now (length s.changes.now) c.index-self-self.result in
    let at = get_or_default s.nodes.now (length s.changes.now) k c.index-self-self.result c.requires.below in
    (w.0, (w.1.0, (w.1.1.0, (w.1.1.1, λ old. ap (λ (h : Holding). h.sums) (next_held w.0 w.1.0 w.1.1.0 s w.1.1.1 c.requires.below k at old)))))

pub change_of-requires-clause-made : goal.change_of-requires-clause-made
change_of-requires-clause-made c =
    let w = c.requires.staged in
    let s = c.args.self.now in
    let k = get_or s.nodes.now (length s.changes.now) c.index-self-self.result in
    let at = get_or_default s.nodes.now (length s.changes.now) k c.index-self-self.result c.requires.below in
    let step = c.in_ok-sums.ensures w.0 w.1.0 w.1.1.0 w.1.1.1 (λ old. ap (λ (h : Holding). h.sums) (next_held w.0 w.1.0 w.1.1.0 s w.1.1.1 c.requires.below k at old)) in
    (w.0, (w.1.0, (w.1.1.0, (w.1.1.1, λ sums is. ap (λ (d : SumsDelta). resummed d k.sums) (sym (sym c.put_sums.ensures ∙ is)) ∙ step.right))))

pub change_of-requires-clause-joined : goal.change_of-requires-clause-joined
change_of-requires-clause-joined c =
    let w = c.requires.staged in
    let s = c.args.self.now in
    let k = get_or s.nodes.now (length s.changes.now) c.index-self-self.result in
    let at = get_or_default s.nodes.now (length s.changes.now) k c.index-self-self.result c.requires.below in
    let step = c.in_ok-sums.ensures w.0 w.1.0 w.1.1.0 w.1.1.1 (λ old. ap (λ (h : Holding). h.sums) (next_held w.0 w.1.0 w.1.1.0 s w.1.1.1 c.requires.below k at old)) in
    subst (λ (d : SumsDelta). IsJoinedFrom k.sums d) (sym c.put_sums.ensures) (joined_for c.in_ok-sums.sums k.sums step.fit)

pub sums_of-requires-clause-node : goal.sums_of-requires-clause-node
sums_of-requires-clause-node c =
    let w = c.requires.staged in
    let s = c.args.self.now in
    let k = get_or s.nodes.now (length s.changes.now) c.index-self-self.result in
    next_node w.0 w.1.0 w.1.1.0 s w.1.1.1 c.requires.below k (get_or_default s.nodes.now (length s.changes.now) k c.index-self-self.result c.requires.below)

pub outcomes_are_arrays-requires : goal.outcomes_are_arrays-requires
outcomes_are_arrays-requires c =
    let w = c.requires.staged in
    let s = c.args.self.now in
    let k = get_or s.nodes.now (length s.changes.now) c.index-self-self.result in
    let at = get_or_default s.nodes.now (length s.changes.now) k c.index-self-self.result c.requires.below in
    let step = c.in_ok-items.ensures.step w.0 w.1.0 w.1.1.0 w.1.1.1 (λ old. ap (λ (h : Holding). h.result) (next_held w.0 w.1.0 w.1.1.0 s w.1.1.1 c.requires.below k at old)) in
    (next_fits w.0 w.1.0 w.1.1.0 s w.1.1.1 c.requires.below k at c.change_of.new.change step.delta c.outcome_is_array.ensures).1

pub returns : goal.returns
returns c = λ change names trees staged.
    let s = c.args.self.now in
    let k = get_or s.nodes.now (length s.changes.now) c.index-self-self.result in
    let at = get_or_default s.nodes.now (length s.changes.now) k c.index-self-self.result c.requires.below in
    let held = next_held change names trees s staged c.requires.below k at in
    next_step change names trees s staged c.requires.below k at (record { delta = c.change_of.new.change; sums = c.put_sums.new.sums }) c.in_ok-items.items c.args.meter.now c.change_of.new.meter
    (c.in_ok-items.ensures.step change names trees staged (λ old. ap (λ (h : Holding). h.result) (held old)))
    (c.in_ok-items.ensures.joins change names trees staged (λ old. ap (λ (h : Holding). h.result) (held old)))
    (subst (λ (d : SumsDelta). IsSumsStep change (tree_of_node names trees k.node) k.sums d) (sym c.put_sums.ensures) (c.in_ok-sums.ensures change names trees staged (λ old. ap (λ (h : Holding). h.sums) (held old))))
    c.outcomes_are_arrays.ensures.held c.outcomes_are_arrays.ensures.now
