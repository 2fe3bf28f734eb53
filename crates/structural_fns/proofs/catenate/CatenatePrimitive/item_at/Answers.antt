use Rattle.std.proofs.Common.{sym, subst, ◌∙◌}
use Rattle.index_region.{specs.ArgumentLists.{of_two_arguments}, specs.Answers.{IsPlaceOf, HasTypeOf}, proofs.Passing.{two_arguments}}
use Rattle.structural_fns.{specs.Catenate.{catenate_form}, proofs.Sides.{join_types, join_typed, right_typed}}
use Rattle.structural_fns.proofs.catenate.CatenatePrimitive.item_at.Goals as goal

pub item_from-requires-clause-right_typed : goal.item_from-requires-clause-right_typed
item_from-requires-clause-right_typed c =
    λ some.
    let b = c.index-args-1.result in
    let two = two_arguments c.args.args.now c.index-args-0.result b c.requires.count c.index-args-0.is c.index-args-1.is in
    let place = subst (λ args. IsPlaceOf (of_two_arguments (catenate_form c.args.self.now.along) args) c.args.index.now) two c.requires.place in
    right_typed c.index-args-0.result b (join_types c.args.self.now.along c.index-args-0.result b c.args.index.now place) some ∙ sym c.joined_type.ensures

pub returns-clause-typed : goal.returns-clause-typed
returns-clause-typed c =
    let two = two_arguments c.args.args.now c.index-args-0.result c.index-args-1.result c.requires.count c.index-args-0.is c.index-args-1.is in
    let typed = join_typed c.args.self.now.along c.index-args-0.result c.index-args-1.result c.item_from.result (c.item_from.ensures.typed ∙ c.joined_type.ensures) in
    subst (λ args. HasTypeOf (of_two_arguments (catenate_form c.args.self.now.along) args) c.item_from.result) (sym two) typed
