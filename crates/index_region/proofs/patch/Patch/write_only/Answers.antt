use Rattle.std.proofs.Common.{◌≡◌, ◌∙◌, ◌<◌, ◌-◌, get_or, set, length, List, sym, ap, arith, subst}
use Rattle.arrays_core.{specs.declared.item.Item.{Item}, specs.Shapes.{is_index_of, places_before}, specs.Items.{fill}}
use Rattle.index_region.{specs.Boxes.{Interval, box_size, walk_at}, specs.Patches.{PatchValue}, proofs.Walks.{walk_within, some_place}, proofs.Patched.{fits_within}, proofs.Written.{IsWritten, written_none, written_more, written_all}, proofs.patch.Patch.write_only.Goals.{After-as_slice}}
use Rattle.index_region.proofs.patch.Patch.write_only.Goals as goal

pub index_at-first-requires-clause-below : goal.index_at-first-requires-clause-below
index_at-first-requires-clause-below c =
    subst (λ (r : List Interval). 0 < box_size r) (sym (ap (λ (q : PatchValue). q.region) c.self.view_is)) (some_place c.args.self.now.region c.args.array.now.shape c.requires.fits.inside)

pub index_at-first-requires-clause-size : goal.index_at-first-requires-clause-size
index_at-first-requires-clause-size c = omega (arith, c.count-count.type_inv, c.count-count.ensures, c.self.invariant)

-- the box has a place
below : (c : After-as_slice) → 0 < box_size c.args.self.now.region
below c = some_place c.args.self.now.region c.args.array.now.shape c.requires.fits.inside

-- the index list is that of its first place
first : (c : After-as_slice) → c.as_slice.result.now ≡ walk_at c.args.self.now.region 0
first c = c.as_slice.ensures.is ∙ c.index_at-first.ensures ∙ ap (λ (q : PatchValue). walk_at q.region 0) c.self.view_is

pub position-place-requires-clause-in_range : goal.position-place-requires-clause-in_range
position-place-requires-clause-in_range c =
    let p = c.args.self.now in
    (λ i. is_index_of (c.shape.ensures.is i) (first c i)) ∙ fits_within p.region c.args.array.now.shape (walk_at p.region 0) c.requires.fits.inside (walk_within p.region 0 (below c))

pub returns : goal.returns
returns c =
    let here = (goal.at.returns c).After-as_slice in
    let p = c.args.self.now in
    let a = c.args.array.now in
    let counted : places_before c.shape.result.now.items c.as_slice.result.now ≡ places_before a.shape (walk_at p.region 0) = λ i. places_before (c.shape.ensures.is i) (first here i) in
    let place : c.position-place.result - 1 ≡ places_before a.shape (walk_at p.region 0) = omega (arith, c.position-place.ensures.is, counted) in
    let item : c.args.item ≡ get_or p.items 0 (fill p.item_type) = sym (ap (λ (items : List Item). get_or items 0 (fill p.item_type)) c.requires.only) in
    let one : 1 ≡ box_size p.region = sym (ap length c.requires.only) ∙ ap (λ (q : PatchValue). length q.items) (sym c.self.view_is) ∙ c.self.invariant ∙ ap (λ (q : PatchValue). box_size q.region) c.self.view_is in
    let more = written_more a p 0 a c.requires.fits (written_none a p c.shape-one_item_a_place.ensures.sound) (below here) in
    c.write_at.ensures
    ∙ (λ i. record a { items = set a.items (place i) (item i) })
    ∙ written_all a p _ (subst (λ n. IsWritten a p n (record a { items = set a.items (places_before a.shape (walk_at p.region 0)) (get_or p.items 0 (fill p.item_type)) })) one more)
