use Rattle.{std.{proofs.Common.{◌∙◌, sym, ap, length, Ok}, proofs.lemmas.List.{length-map}}, arrays_core.{specs.Arrays.{ArrayValue}, specs.Shapes.{size}}}
use Rattle.search_fns.{proofs.Searching.{members_as}, proofs.Searched.{member_shape, member_answer}}
use Rattle.search_fns.proofs.member.Member.apply.Goals as goal

pub from_numbers-requires-clause-one_item_a_place : goal.from_numbers-requires-clause-one_item_a_place
from_numbers-requires-clause-one_item_a_place c =
    let parts = member_shape c.args.args.now c.index-args-0.result c.index-args-1.result c.requires c.index-args-0.is c.index-args-1.is c.in_ok-shape.shape.items c.in_ok-shape.field-0-1 c.in_ok-shape.ensures.0 in
    c.in_ok-members.members.ok.0 ∙ ap length c.in_ok-members.ensures.is ∙ length-map _ _ ∙ c.in_ok-members.ensures.long ∙ ap size (sym parts.0)

pub returns : goal.returns
returns c =
    member_answer c.args.args.now c.index-args-0.result c.index-args-1.result c.requires c.index-args-0.is c.index-args-1.is c.in_ok-shape.shape.items c.in_ok-shape.field-0-1
    c.in_ok-shape.ensures.0 c.in_ok-members.ensures.long c.in_ok-members.members.items
    (c.in_ok-members.ensures.is ∙ members_as c.index-args-1.result.items c.index-args-0.result.items)
    ∙ ap (λ (w : ArrayValue). Ok w) (sym c.in_ok-from_numbers.ensures)
