use Rattle.std.proofs.Common.{sym, subst, ◌∙◌}
use Rattle.index_region.{specs.ArgumentLists.{of_two_arguments}, specs.Answers.{HasTypeOf}, proofs.Passing.{two_arguments}}
use Rattle.structural_fns.{specs.Rotate.{rotate_form}, proofs.Turning.{rotation_typed}}
use Rattle.structural_fns.proofs.rotate.RotatePrimitive.item_at.Goals as goal

pub returns-clause-typed : goal.returns-clause-typed
returns-clause-typed c =
    let two = two_arguments c.args.args.now c.index-args-0.result c.index-args-1.result c.requires.count c.index-args-0.is c.index-args-1.is in
    let typed = rotation_typed c.args.self.now.along c.index-args-0.result c.index-args-1.result c.item_from.result (c.item_from.ensures.typed ∙ c.item_type.ensures.is) in
    subst (λ args. HasTypeOf (of_two_arguments (rotate_form c.args.self.now.along) args) c.item_from.result) (sym two) typed
