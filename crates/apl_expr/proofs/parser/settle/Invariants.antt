use Rattle.{std.proofs.Common.{◌≡◌, length}, apl_expr.{specs.Machine.{settle}, specs.Parsing.{stack}, specs.Trees.{tree_of}}}
use Rattle.apl_expr.proofs.parser.settle.Given as goal

abbrev pub invariant-loop-frame : goal.invariant-loop-frame
invariant-loop-frame l = settle (stack l.waiting.items) (tree_of l.value.expr) ≡ settle (stack l.fn.waiting.items) (tree_of l.fn.value.expr)

abbrev pub decreases-loop-frame : goal.decreases-loop-frame
decreases-loop-frame l = length l.waiting.items
