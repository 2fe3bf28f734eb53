use Rattle.std.{proofs.Common.{◌≡◌, ◌+◌, ◌∙◌, ap, sym, subst, ℕ, List, [], ◌∷◌, ◌++◌, take, arith}, specs.List.{Contains}, proofs.lemmas.List.{take_all, take_more}, proofs.lemmas.List.Elements.{Contains-get_or}}
use Rattle.formula_core.{specs.declared.input.Input.{Input}, specs.Changes.{IsNameChanged}, specs.Plans.{IsNameSound}}
use Rattle.sheet_recalc.{specs.ProposedSheet.{outline_of, proposed_change}, specs.Planning.{AreInputsOf}, proofs.PlannedNames.{formula_told, inputs_more, all_more}}
use Rattle.sheet_recalc.proofs.ahead.Ahead.work_on_many.Goals as goal

pub input_of-requires-clause-done : goal.input_of-requires-clause-done
input_of-requires-clause-done c =
    let x = c.reference-item.result in
    let references = c.references-references.result.now in
    let among = subst (λ (y : List ℕ). Contains references y) (sym c.reference-item.is) (Contains-get_or references c.loop-reference.reference-index x c.loop-reference-test.true) in
    c.requires.done x (subst (λ (ns : List (List ℕ)). Contains ns x) c.references-references.ensures among)

pub loop-reference-preserved : goal.loop-reference-preserved
loop-reference-preserved c =
    let o = outline_of c.args.self.now.proposed.now in
    let change = proposed_change o in
    let done = take c.loop-reference.reference-index c.references-references.result.now in
    let x = c.reference-item.result in
    let more : take (c.loop-reference.reference-index + 1) c.references-references.result.now ≡ done ++ x ∷ [] =
    take_more c.references-references.result.now c.loop-reference.reference-index x c.loop-reference-test.true ∙ ap (λ (y : List ℕ). done ++ y ∷ []) (sym c.reference-item.is) in
    let now = c.loop-reference.invariant.inputs in
    let next = c.input_of.ensures in
    let all : AreInputsOf o (done ++ x ∷ []) (c.loop-reference.inputs.items ++ c.input_of.result ∷ []) = record {
      given = inputs_more change done c.loop-reference.inputs.items x c.input_of.result now.given next.input;
      changed = all_more (IsNameChanged change) done x now.changed next.changed;
      sound = all_more (IsNameSound change) done x now.sound next.sound;
    } in
    record {
      inputs = subst (λ (ns : List (List ℕ)). AreInputsOf o ns c.push.new.self.items) (sym more) (subst (λ (is : List Input). AreInputsOf o (done ++ x ∷ []) is) (sym {A = List Input} c.in_ok-push.ensures.ok) all);
    }

pub apply-requires-clause-told : goal.apply-requires-clause-told
apply-requires-clause-told c =
    let o = outline_of c.args.self.now.proposed.now in
    let next = c.requires.next.3 in
    let references = c.references-references.result.now in
    let all = take_all c.loop-reference.reference-index references (omega (arith, c.loop-reference-test.false)) in
    let told = subst (λ (ns : List (List ℕ)). AreInputsOf o ns c.loop-reference.inputs.items) all c.loop-reference.invariant.inputs in
    rw c.as_slice.ensures (formula_told o c.requires.ahead.proposed next.name c.args.formula.now next.held references c.loop-reference.inputs.items c.references-references.ensures told.given told.changed told.sound)
