-- The law of shape.
use Rattle.std.proofs.Common.{refl}
use Rattle.change_core.{specs.Tightness.{IsTight}, specs.Ways.{unread}, proofs.Sourced.{one_tight}, proofs.UsedWays.{unread-covered}}
use Rattle.selection_fns.specs.Shape.{shape_form, shape_item, shape_rule}

pub shape_tight : IsTight shape_rule
shape_tight = one_tight shape_form shape_item (λ shape b. unread) (record {
  blind = λ d xs n. refl;
  settled = λ d xs f index n e place read. refl;
  covered = λ b f e. unread-covered b.shape f.shape;
})
