use Rattle.{std.{proofs.Common.{ℕ, List, take}, specs.List.{Contains}}, formula_core.{specs.Changes.{at_rest}, specs.Plans.{AreInputs, IsNameSound}}}
use Rattle.formula_core.proofs.evaluation.inputs_at_rest.Given as goal

abbrev pub invariant-loop-place : goal.invariant-loop-place
invariant-loop-place g l = record {
  inputs : AreInputs (at_rest (g.S.Shows.shows l.names)) (take l.place l.references) l.inputs.items;
  sound : (x : List ℕ) → Contains (take l.place l.references) x → IsNameSound (at_rest (g.S.Shows.shows l.names)) x;
}
