use Rattle.std.proofs.Common.{◌≡◌, ◌∙◌, ◌<◌, ◌+◌, ◌-◌, ℕ, get_or, set, List, sym, ap, arith, subst}
use Rattle.arrays_core.{specs.Arrays.{ArrayValue}, specs.Shapes.{is_index_of, places_before}, specs.Items.{fill}}
use Rattle.index_region.{specs.Boxes.{Interval, box_size, walk_at}, specs.Patches.{PatchValue}, proofs.Walks.{walk_within, some_place}, proofs.Patched.{fits_within}, proofs.Written.{IsWritten, written_none, written_more, written_all}}
use Rattle.index_region.proofs.patch.Patch.write_many.Goals.{then-before-items, else-before-items, After-as_slice}
use Rattle.index_region.proofs.patch.Patch.write_many.Goals as goal

pub loop-before-init : goal.loop-before-init
loop-before-init c = record {
  written = written_none c.args.array.now c.args.self.now c.shape-one_item_a_place.ensures.sound;
  at = λ _. c.index_at-index.ensures ∙ ap (λ (q : PatchValue). walk_at q.region 0) c.self.view_is;
}

pub index_at-index-requires-clause-below : goal.index_at-index-requires-clause-below
index_at-index-requires-clause-below c =
    subst (λ (r : List Interval). 0 < box_size r) (sym (ap (λ (q : PatchValue). q.region) c.self.view_is)) (some_place c.args.self.now.region c.args.array.now.shape c.requires.inside)

-- the box has as many places as there are items
pub index_at-index-requires-clause-size : goal.index_at-index-requires-clause-size
index_at-index-requires-clause-size c = omega (arith, c.count-items.type_inv)

-- the place that is written is one of the box
below : (c : After-as_slice) → c.loop-before.before < box_size c.args.self.now.region
below c = subst (λ n. c.loop-before.before < n) (c.count-items.ensures ∙ c.self.invariant ∙ ap (λ (q : PatchValue). box_size q.region) c.self.view_is) c.loop-before-test.true

-- the index list is the current one of the walk
walked : (c : After-as_slice) → c.as_slice.result.now ≡ walk_at c.args.self.now.region c.loop-before.before
walked c = c.as_slice.ensures.is ∙ c.loop-before.invariant.at (below c)

-- the array keeps its shape
shaped : (c : After-as_slice) → c.shape.result.now.items ≡ c.args.array.now.shape
shaped c = c.shape.ensures.is ∙ c.loop-before.invariant.written.shaped

pub position-place-requires-clause-in_range : goal.position-place-requires-clause-in_range
position-place-requires-clause-in_range c =
    let here = (goal.at.position-place-requires-clause-in_range c).After-as_slice in
    let p = c.args.self.now in
    (λ i. is_index_of (shaped here i) (walked here i))
    ∙ fits_within p.region c.args.array.now.shape (walk_at p.region c.loop-before.before) c.requires.inside (walk_within p.region c.loop-before.before (below here))

pub loop-before-preserved : goal.loop-before-preserved
loop-before-preserved c =
    let here = (goal.at.loop-before-preserved c).After-as_slice in
    let p = c.args.self.now in
    let a = c.args.array.now in
    let region : c.self.inside.region ≡ p.region = ap (λ (q : PatchValue). q.region) c.self.view_is in
    let counted : places_before c.shape.result.now.items c.as_slice.result.now ≡ places_before a.shape (walk_at p.region c.loop-before.before) =
    λ i. places_before (shaped here i) (walked here i) in
    let place : c.position-place.result - 1 ≡ places_before a.shape (walk_at p.region c.loop-before.before) = omega (arith, c.position-place.ensures.is, counted) in
    let item : c.item.result ≡ get_or p.items c.loop-before.before (fill p.item_type) =
    c.item.ensures.is ∙ ap (λ (q : PatchValue). get_or q.items c.loop-before.before (fill q.item_type)) c.self.view_is in
    record {
      written = subst (λ (now : ArrayValue). IsWritten a p (c.loop-before.before + 1) now)
          (sym (c.write_at.ensures ∙ (λ i. record c.loop-before.array { items = set c.loop-before.array.items (place i) (item i) })))
          (written_more a p c.loop-before.before c.loop-before.array c.requires c.loop-before.invariant.written (below here));
      at = elim c.if-before-items.branch [
        | then-before-items w ↦ subst (λ (r : List Interval). c.loop-before.before + 1 < box_size r → c.if-before-items.index ≡ walk_at r (c.loop-before.before + 1)) region
            (λ later. w.index-is ∙ w.advance.ensures.next c.loop-before.before later (c.loop-before.invariant.at (below here) ∙ ap (λ (r : List Interval). walk_at r c.loop-before.before) (sym region)))
        | else-before-items w ↦ λ later. absurd (omega (arith, c.count-items.ensures, c.self.invariant, ap box_size region, w.if-before-items.false, later))
      ];
    }

pub returns : goal.returns
returns c =
    let ended : c.loop-before.before ≡ c.count-items.result = omega (arith, c.loop-before-test.false, c.loop-before.auto.before-end) in
    let all = ended ∙ c.count-items.ensures ∙ c.self.invariant ∙ ap (λ (q : PatchValue). box_size q.region) c.self.view_is in
    written_all c.args.array.now _ c.loop-before.array (subst (λ (n : ℕ). IsWritten c.args.array.now c.args.self.now n c.loop-before.array) all c.loop-before.invariant.written)
