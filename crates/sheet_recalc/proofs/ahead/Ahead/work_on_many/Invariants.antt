use Rattle.{std.proofs.Common.{take}, sheet_recalc.{specs.ProposedSheet.{outline_of}, specs.Planning.{AreInputsOf}}}
use Rattle.sheet_recalc.proofs.ahead.Ahead.work_on_many.Given as goal

abbrev pub invariant-loop-reference : goal.invariant-loop-reference
invariant-loop-reference l = record {
  inputs : AreInputsOf (outline_of l.self.proposed.now) (take l.reference-index l.references) l.inputs.items;
}
