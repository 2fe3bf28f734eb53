use Rattle.{std.proofs.Common.{subst, sym, ap, ◌∙◌, Ok}, arrays_core.specs.Arrays.{ArrayValue, IsAnswerTo}, index_region.proofs.Arguments.{whole_of_two}}
use Rattle.search_fns.{specs.Encode.{encode_form, encode_item}, proofs.EncodedArrays.{encode_known, encoded_long, encode_answer}}
use Rattle.search_fns.proofs.encode.Encode.apply.Goals as goal

pub from_numbers-requires-clause-one_item_a_place : goal.from_numbers-requires-clause-one_item_a_place
from_numbers-requires-clause-one_item_a_place c =
    let a = c.index-args-0.result in
    let b = c.index-args-1.result in
    let shape = c.in_ok-shape.shape.items in
    let known = encode_known c.args.args.now a b c.requires c.index-args-0.is c.index-args-1.is shape c.in_ok-shape.field-0-1 c.in_ok-shape.ensures.0 in
    let e = c.in-Ok.ensures in
    c.in-Ok.digits.ok.0 ∙ encoded_long a b c.in-Ok.digits.items e.sound_radices.one_item_a_place e.sound_array.one_item_a_place e.is shape c.in_ok-shape.field-0-1 known

pub returns-in-Ok : goal.returns-in-Ok
returns-in-Ok c =
    let e = c.in-Ok.ensures in
    encode_answer c.args.args.now c.index-args-0.result c.index-args-1.result c.requires c.index-args-0.is c.index-args-1.is c.in_ok-shape.shape.items c.in_ok-shape.field-0-1
    c.in_ok-shape.ensures.0 c.in-Ok.digits.items e.sound_radices e.sound_array e.is
    ∙ ap (λ (w : ArrayValue). Ok w) (sym c.in_ok-from_numbers-in-Ok.ensures)

pub returns : goal.returns
returns c = subst (λ w. IsAnswerTo w c.apply.result) (whole_of_two encode_form encode_item c.args.args.now c.requires) c.apply.ensures
