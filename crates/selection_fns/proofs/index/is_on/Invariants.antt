use Rattle.{std.{proofs.Common.{◌≡◌, drop}, specs.List.{list_all}}, index_region.specs.Arguments.{numbers}, selection_fns.specs.Index.{is_on_axis}}
use Rattle.selection_fns.proofs.index.is_on.Given as goal

abbrev pub invariant-loop-place : goal.invariant-loop-place
invariant-loop-place l = list_all (is_on_axis l.axis) (drop l.place (numbers l.fn.position)) ≡ list_all (is_on_axis l.axis) (numbers l.fn.position)
