use Rattle.std.{proofs.Common.{◌≡◌, ◌+◌, ◌∙◌, ap, sym, subst, arith, ℕ, List, [], ◌∷◌, ◌++◌, take, length, get_or}, specs.List.{Contains}, proofs.lemmas.List.{take_more, length-map, get_or-map}}
use Rattle.arrays_core.specs.declared.fault.Fault.{Fault}
use Rattle.formula_core.{specs.declared.input.Input.{Input}, specs.Changes.{at_rest}, specs.Outcomes.{error_in}, specs.Plans.{AreInputs, IsNameSound}, proofs.AtRest.{inputs_more, all_more}}
use Rattle.formula_core.proofs.evaluation.inputs_at_rest.Goals as goal

pub loop-place-preserved : goal.loop-place-preserved
loop-place-preserved g c =
    let rest = at_rest (g.S.Shows.shows c.args.names.now) in
    let done = take c.loop-place.place c.args.references.now in
    let x = c.index-references-place.result in
    let more : take (c.loop-place.place + 1) c.args.references.now ≡ done ++ x ∷ [] =
    take_more c.args.references.now c.loop-place.place x c.loop-place-test.true ∙ ap (λ (y : List ℕ). done ++ y ∷ []) (sym c.index-references-place.is) in
    let now = c.loop-place.invariant in
    record {
      inputs = subst (λ (ns : List (List ℕ)). AreInputs rest ns c.push.new.self.items) (sym more)
          (subst (λ (is : List Input). AreInputs rest (done ++ x ∷ []) is) (sym {A = List Input} c.in_ok-push.ensures.items)
          (inputs_more rest done c.loop-place.inputs.items x c.input_at_rest.result now.inputs c.input_at_rest.ensures.input));
      sound = subst (λ (ns : List (List ℕ)). (y : List ℕ) → Contains ns y → IsNameSound rest y) (sym more)
          (all_more (IsNameSound rest) done x now.sound (record { old = c.input_at_rest.ensures.sound; new = c.input_at_rest.ensures.sound }));
    }

pub bounds-errors-place : goal.bounds-errors-place
bounds-errors-place g c =
    let error : List ℕ → Fault = λ x. error_in (g.S.Shows.shows c.args.names.now x) in
    let many : length c.args.errors.now ≡ length c.args.references.now = ap length c.requires.errors ∙ length-map c.args.references.now error in
    omega (arith, many, c.loop-place-test.true)

pub input_at_rest-requires-clause-error : goal.input_at_rest-requires-clause-error
input_at_rest-requires-clause-error g c =
    let error : List ℕ → Fault = λ x. error_in (g.S.Shows.shows c.args.names.now x) in
    let e = c.index-errors-place.result in
    let x = c.index-references-place.result in
    c.index-errors-place.is
    ∙ ap (λ (es : List Fault). get_or es c.loop-place.place e) c.requires.errors
    ∙ get_or-map error c.args.references.now c.loop-place.place x e c.loop-place-test.true
    ∙ ap error (sym c.index-references-place.is)
