use Rattle.{std.{proofs.Common.{◌≡◌, length}, specs.Prelude.{IfSome}}, arrays_core.specs.Arrays.{item_of}, change_core.specs.Places.{lies_in}}
use Rattle.selection_fns.specs.Index.{least_box, place_named}
use Rattle.selection_fns.proofs.index_rule.places_naming.Given as goal

abbrev pub invariant-loop-before : goal.invariant-loop-before
invariant-loop-before l = record {
  so_far : l.found ≡ least_box l.fn.position.shape (λ part. lies_in l.fn.interval (place_named (item_of l.fn.position part))) l.before;
  long : IfSome l.found (λ b. length b ≡ length l.fn.position.shape);
}
