use Rattle.{std.proofs.Common.{take}, change_rules.specs.Copies.{AreCopies}}
use Rattle.change_rules.proofs.evaluation.copies_of.Given as goal

abbrev pub invariant-loop-arg : goal.invariant-loop-arg
invariant-loop-arg l = AreCopies (take l.arg-index l.args) l.copies.items
