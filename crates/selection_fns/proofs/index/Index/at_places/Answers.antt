use Rattle.std.proofs.Common.{◌≡◌, ℕ, List, ◌∙◌, Ok, ap, sym, replicate, map, get_or, arith}
use Rattle.arrays_core.{specs.declared.item.Item.{Item}, specs.declared.item.ItemType.{ItemType}, specs.Arrays.{ArrayValue}, specs.Items.{fill}, specs.Shapes.{size}}
use Rattle.selection_fns.{specs.Index.{written_positions}, specs.IndexPlaces.{all_places}, proofs.IndexPlaces.{index_gives, no_places, picked_places, places_inside}}
use Rattle.selection_fns.proofs.index.Index.at_places.Goals as goal

pub returns-then-size-eq0 : goal.returns-then-size-eq0
returns-then-size-eq0 c =
    let shape = c.in_ok-shape.shape.items in
    let item_type = c.in_ok-shape.item_type in
    let none : size shape ≡ 0 = ap size (sym c.as_slice.ensures) ∙ sym c.size.ensures ∙ c.if-size-eq0.true in
    no_places c.args.array.now (written_positions c.args.self.now.written.now c.args.positions.now) shape item_type c.in_ok-shape.ensures.0 none
    ∙ ap (λ (x : ArrayValue). Ok x) (sym (c.in_ok-filled.ensures ∙ ap (λ n. record { item_type = item_type; shape = shape; items = replicate n (fill item_type) }) none))

pub places_of-requires-clause-one_an_axis : goal.places_of-requires-clause-one_an_axis
places_of-requires-clause-one_an_axis c =
    rw (c.as_slice-2.ensures, c.shape-axes.ensures.is) (index_gives c.args.array.now c.args.self.now.written.now c.args.positions.now _ _ c.requires c.in_ok-shape.ensures.0).one_an_axis

pub items-requires-clause-inside : goal.items-requires-clause-inside
items-requires-clause-inside c =
    let found = rw (c.as_slice-2.ensures, c.shape-axes.ensures.is) at c.in_ok-places.ensures in
    λ k h.
    omega (arith, places_inside c.args.array.now.shape _ _ found k h)

pub returns : goal.returns
returns c =
    let a = c.args.array.now in
    let places = all_places c.in_ok-places.places in
    let picked : List Item = map (λ (k : ℕ). get_or a.items k (fill a.item_type)) places in
    let known = index_gives c.args.array.now c.args.self.now.written.now c.args.positions.now _ _ c.requires c.in_ok-shape.ensures.0 in
    let found = rw (c.as_slice-2.ensures, c.shape-axes.ensures.is) at c.in_ok-places.ensures in
    let made = c.in_ok-items.ensures ∙ ap (λ (t : ItemType). record { item_type = t; shape = c.in_ok-shape.shape.items; items = picked }) (sym known.typed) in
    picked_places a _ _ places _ c.in_ok-shape.ensures.0 known.shaped known.typed found ∙ ap (λ (x : ArrayValue). Ok x) (sym made)
