use Rattle.std.proofs.Common.{◌≡◌, ◌∙◌, ◌<◌, ◌+◌, ◌-◌, ◌∷◌, [], ap, get_or, length, Ok, arith}
use Rattle.arrays_core.{specs.Items.{fill}, specs.Shapes.{places_before}, proofs.Shapes.{places_below}}
use Rattle.structural_fns.{specs.Part.{behind}, proofs.Parts.{part_index}, proofs.part.PartItemFunction.item_at.Goals.{After-place}}
use Rattle.structural_fns.proofs.part.PartItemFunction.item_at.Goals as goal

pub place-requires : goal.place-requires
place-requires c =
    let p = c.args.self.now in
    rw (part_index p.array.now.shape p.before.now p.shape.now.items c.args.index.now (1 ∷ []) p.is c.requires) (p.is.inside c.args.index.now c.requires)

-- the place in the array
place : (c : After-place) → c.place.result ≡ places_before c.args.self.now.array.now.shape (behind c.args.self.now.before.now c.args.index.now)
place c =
    let p = c.args.self.now in
    rw (part_index p.array.now.shape p.before.now p.shape.now.items c.args.index.now (1 ∷ []) p.is c.requires) at c.place.ensures.is

below : (c : After-place) → c.place.result < length c.args.self.now.array.now.items
below c =
    let inside = places_below c.args.self.now.array.now.shape _ (c.args.self.now.is.inside c.args.index.now c.requires) in
    let whole = c.place.ensures.sound.one_item_a_place in
    omega (arith, place c)

pub overflow_add-place : goal.overflow_add-place
overflow_add-place c =
    let few = c.place.ensures.sound.within.size_within in
    let whole = c.place.ensures.sound.one_item_a_place in
    omega (arith, below (goal.at.overflow_add-place c).After-place)

pub item-requires-clause-high : goal.item-requires-clause-high
item-requires-clause-high c = omega (arith, below (goal.at.item-requires-clause-high c).After-place)

pub returns-clause-is : goal.returns-clause-is
returns-clause-is c =
    let b = c.args.self.now.array.now in
    let same : c.place.result + 1 - 1 ≡ c.place.result = omega arith in
    ap (λ x. Ok x) (c.item.ensures.is ∙ ap (λ k. get_or b.items k (fill b.item_type)) (same ∙ place (goal.at.returns-clause-is c).After-place))
