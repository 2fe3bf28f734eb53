use Rattle.fold_trees.proofs.TreeTaken.{AreTakenTo}
use Rattle.fold_trees.proofs.part_trees.take_places.Given as goal

abbrev pub invariant-loop-line : goal.invariant-loop-line
invariant-loop-line g l = AreTakenTo g.P.Part.blank g.P.Part.tells l.count l.step l.numbers l.initial.nodes l.nodes l.line
