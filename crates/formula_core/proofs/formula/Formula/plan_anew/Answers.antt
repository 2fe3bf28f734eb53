use Rattle.std.{proofs.Common.{ℕ, List, sym, subst, ◌∙◌}, specs.List.{Contains}}
use Rattle.formula_core.{specs.declared.input.Input.{Input}, specs.Changes.{at_rest}, specs.Meaning.{names_in}, specs.Plans.{AreInputs, IsNameSound}, proofs.AtRest.{told_at_rest, planned_at_rest}}
use Rattle.formula_core.proofs.formula.Formula.plan_anew.Goals as goal

pub plan-requires : goal.plan-requires
plan-requires g c =
    let names = g.S.Shows.shows c.args.names.now in
    let f = c.args.self.now in
    let all = c.in_ok-inputs.ensures in
    let are = subst (λ (ns : List (List ℕ)). AreInputs (at_rest names) ns c.in_ok-inputs.inputs.items) c.references-references.ensures all.inputs in
    let sound = subst (λ (ns : List (List ℕ)). (x : List ℕ) → Contains ns x → IsNameSound (at_rest names) x) c.references-references.ensures all.sound in
    let lent = subst (λ (is : List Input). AreInputs (at_rest names) (names_in f.tree) is) (sym {A = List Input} c.as_slice.ensures.value) are in
    (at_rest names, told_at_rest f names c.as_slice.result.now c.requires lent sound)

pub returns-clause-planned : goal.returns-clause-planned
returns-clause-planned g c =
    let names = g.S.Shows.shows c.args.names.now in
    let f = c.args.self.now in
    let all = c.in_ok-inputs.ensures in
    let are = subst (λ (ns : List (List ℕ)). AreInputs (at_rest names) ns c.in_ok-inputs.inputs.items) c.references-references.ensures all.inputs in
    let sound = subst (λ (ns : List (List ℕ)). (x : List ℕ) → Contains ns x → IsNameSound (at_rest names) x) c.references-references.ensures all.sound in
    let lent = subst (λ (is : List Input). AreInputs (at_rest names) (names_in f.tree) is) (sym {A = List Input} c.as_slice.ensures.value) are in
    planned_at_rest f names c.as_slice.result.now c.plan.result (told_at_rest f names c.as_slice.result.now c.requires lent sound) c.plan.ensures.planned

pub inputs_at_rest-requires-clause-errors : goal.inputs_at_rest-requires-clause-errors
inputs_at_rest-requires-clause-errors g c = c.as_slice-errors.ensures.value ∙ c.in_ok-errors.ensures
