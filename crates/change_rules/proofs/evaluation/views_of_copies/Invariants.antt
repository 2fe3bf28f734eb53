use Rattle.std.proofs.Common.{◌≡◌, take}
use Rattle.change_rules.proofs.evaluation.views_of_copies.Given as goal

abbrev pub invariant-loop-which : goal.invariant-loop-which
invariant-loop-which l = l.views.items ≡ take l.which l.args
