use Rattle.{std.proofs.Common.{take}, change_rules.specs.Nodes.{AreArguments}}
use Rattle.change_rules.proofs.arguments.lists_of.Given as goal

abbrev pub invariant-loop-view : goal.invariant-loop-view
invariant-loop-view l = AreArguments l.seen.items l.moved.items (take l.view-index l.args)
