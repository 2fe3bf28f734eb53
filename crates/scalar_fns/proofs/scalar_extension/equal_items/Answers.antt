use Rattle.std.proofs.Common.{◌∙◌, ℕ, sym, ap, refl, subst, Ok}
use Rattle.scalar_fns.{specs.Laws.Extension.{common_extends}, proofs.Joint.{IsOf, as_long_as}, specs.Characters.{AreTold}, proofs.Equalities.{of_characters, of_other_types}}
use Rattle.arrays_core.{specs.declared.item.Item.TheVariants.{Char}, specs.Shapes.{size}}
use Rattle.scalar_fns.proofs.scalar_extension.equal_items.Goals as goal

pub returns-in_default : goal.returns-in_default
returns-in_default c =
    let numbers = c.in_default.ensures.none.0 refl in
    rw (of_other_types c.args.equal c.args.left.now c.args.right.now c.args.shape.now.items c.requires.left_sound c.requires.right_sound
    (λ e. c.requires.others numbers (sym e ∙ numbers)) c.requires.shaped) c.unequal_items.ensures

pub returns-in_default-characters : goal.returns-in_default-characters
returns-in_default-characters c =
    let numbers = c.in_default-characters.ensures.none.0 refl in
    rw (of_other_types c.args.equal c.args.left.now c.args.right.now c.args.shape.now.items c.requires.left_sound c.requires.right_sound
    (λ e. c.requires.others (e ∙ numbers) numbers) c.requires.shaped) c.unequal_items-in_default-characters.ensures

pub equalities-requires-clause-right_long : goal.equalities-requires-clause-right_long
equalities-requires-clause-right_long c =
    let b = c.args.right.now in
    let others = c.in-Some-characters.others.now in
    let is_b : IsOf (λ x. Char x) b others = record { items = c.in-Some-characters.ensures.is.1; long = c.requires.right_sound.one_item_a_place } in
    let fits = common_extends c.args.left.now.shape b.shape c.args.shape.now.items c.requires.shaped in
    λ many. as_long_as (λ x. Char x) b others c.args.shape.now.items is_b fits.1 many ∙ (sym (ap size c.as_slice.ensures) ∙ sym c.size-places.ensures)

pub returns : goal.returns
returns c =
    let equal = c.args.equal in
    let a = c.args.left.now in
    let b = c.args.right.now in
    let characters = c.in-Some.characters.now in
    let others = c.in-Some-characters.others.now in
    let zs = c.in_ok-answers.answers.items in
    let is_a : IsOf (λ x. Char x) a characters = record { items = c.in-Some.ensures.is.1; long = c.requires.left_sound.one_item_a_place } in
    let is_b : IsOf (λ x. Char x) b others = record { items = c.in-Some-characters.ensures.is.1; long = c.requires.right_sound.one_item_a_place } in
    let answers = subst (λ (n : ℕ). AreTold equal characters others n zs) (c.size-places.ensures ∙ ap size c.as_slice.ensures) c.in_ok-answers.ensures in
    of_characters equal a b characters others c.args.shape.now.items zs is_a is_b c.requires.shaped answers ∙ ap Ok (sym c.in_ok-from_numbers.ensures)
