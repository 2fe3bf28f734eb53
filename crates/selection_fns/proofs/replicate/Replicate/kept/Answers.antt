use Rattle.std.proofs.Common.{◌≡◌, Ok, length, ap, sym, ◌∙◌, rules}
use Rattle.{arrays_core.{specs.declared.item.ItemType.{ItemType}, specs.Arrays.{ArrayValue}, specs.Shapes.{size}}, index_region.specs.Checks.{form_of}}
use Rattle.selection_fns.{specs.Replicate.{replicate_form}, specs.Laws.CopiedPlaces.{replicate_gives}, proofs.KeptNumbers.{kept_copies, kept_long}, proofs.replicate.Replicate.kept.Goals.{In_ok-shape}}
use Rattle.selection_fns.proofs.replicate.Replicate.kept.Goals as goal

form_is : (c : In_ok-shape) → replicate_form c.args.self.along c.args.counts.now c.args.array.now ≡ Ok (form_of c.in_ok-shape.shape.items c.args.array.now.item_type)
form_is c =
    let form = c.in_ok-shape.ensures.0 in
    form ∙ ap (λ (t : ItemType). Ok (form_of c.in_ok-shape.shape.items t)) (replicate_gives c.args.self.along c.args.counts.now c.args.array.now _ _ form).typed

pub from_numbers-requires-clause-one_item_a_place : goal.from_numbers-requires-clause-one_item_a_place
from_numbers-requires-clause-one_item_a_place c =
    let long : length c.args.kept.items ≡ size c.in_ok-shape.shape.items =
    kept_long c.args.self.along c.args.counts.now c.args.array.now _ _ c.places-also.ensures.sound.one_item_a_place (form_is (goal.at.from_numbers-requires-clause-one_item_a_place c).In_ok-shape) c.requires in
    search (rules, long)

pub returns : goal.returns
returns c =
    kept_copies c.args.self.along c.args.counts.now c.args.array.now _ _ c.places-also.ensures.sound.one_item_a_place (form_is (goal.at.returns c).In_ok-shape) c.requires
    ∙ sym (ap (λ (r : ArrayValue). Ok r) c.in_ok-from_numbers.ensures)
