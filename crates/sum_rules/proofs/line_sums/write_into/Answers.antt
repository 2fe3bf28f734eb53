use Rattle.std.{proofs.Common.{◌≡◌, ◌∙◌, ◌<◌, ◌+◌, ℕ, ℤ, List, get_or, set, map, sym, ap, arith, refl, subst}, proofs.lemmas.List.{length-map}}
use Rattle.arrays_core.{specs.declared.item.Item.{Item}, specs.declared.item.Item.TheVariants.{Num}, specs.declared.item.ItemType.TheVariants.{Nums}, specs.Arrays.{IsArray}, specs.Items.{fill}, specs.Shapes.{is_index_of, places_before}}
use Rattle.index_region.{specs.Boxes.{Interval, box_size, box_offset, is_within, walk_at}, proofs.Patched.{box_within_size, fits_within, patched_sound}, proofs.Walks.{offset_of_walk, some_place, walk_within}, proofs.Written.{IsWritten, written_none, written_more, written_all}}
use Rattle.sum_rules.specs.LineSums.{array_of_shape}
use Rattle.sum_rules.proofs.line_sums.write_into.Goals as goal

pub index_at-index-requires-clause-size : goal.index_at-index-requires-clause-size
index_at-index-requires-clause-size c = omega (arith, ap box_size c.region-region.ensures, box_within_size c.args.patch.now.region c.args.shape.now.items c.requires.fit.inside)

pub size-before-end-requires : goal.size-before-end-requires
size-before-end-requires c = omega (arith, ap box_size c.region-region.ensures, box_within_size c.args.patch.now.region c.args.shape.now.items c.requires.fit.inside)

pub index_at-index-requires-clause-below : goal.index_at-index-requires-clause-below
index_at-index-requires-clause-below c =
    subst (λ (r : List Interval). 0 < box_size r) (sym c.region-region.ensures) (some_place c.args.patch.now.region c.args.shape.now.items c.requires.fit.inside)

pub loop-before-init : goal.loop-before-init
loop-before-init c = record {
  written = written_none (array_of_shape c.args.shape.now.items c.args.trees.now.lines.numbers) c.args.patch.now c.requires.lines;
  function = refl;
  count = refl;
  step = refl;
  at = λ _. c.index_at-index.ensures ∙ ap (λ (r : List Interval). walk_at r 0) c.region-region.ensures;
}

pub places_before-place-requires-clause-in_range : goal.places_before-place-requires-clause-in_range
places_before-place-requires-clause-in_range c =
    let p = c.args.patch.now in
    let below : c.loop-before.before < box_size p.region = omega (arith, c.loop-before-test.true, c.size-before-end.ensures, ap box_size c.region-region.ensures) in
    ap (is_index_of c.args.shape.now.items) (c.as_slice.ensures.is ∙ c.loop-before.invariant.at below)
    ∙ fits_within p.region c.args.shape.now.items (walk_at p.region c.loop-before.before) c.requires.fit.inside (walk_within p.region c.loop-before.before below)

pub item-requires : goal.item-requires
item-requires c =
    let p = c.args.patch.now in
    let below : c.loop-before.before < box_size p.region = omega (arith, c.loop-before-test.true, c.size-before-end.ensures, ap box_size c.region-region.ensures) in
    ap (is_within p.region) (c.as_slice-in-loop-before.ensures.is ∙ c.loop-before.invariant.at below) ∙ walk_within p.region c.loop-before.before below

pub loop-before-preserved : goal.loop-before-preserved
loop-before-preserved c =
    let p = c.args.patch.now in
    let shape = c.args.shape.now.items in
    let before = c.loop-before.before in
    let below : before < box_size p.region = omega (arith, c.loop-before-test.true, c.size-before-end.ensures, ap box_size c.region-region.ensures) in
    let more = written_more (array_of_shape shape c.args.trees.now.lines.numbers) p before (array_of_shape shape c.loop-before.trees.lines.numbers) c.requires.fit c.loop-before.invariant.written below in
    let here = c.loop-before.invariant.at below in
    let index : c.as_slice.result.now ≡ walk_at p.region before = c.as_slice.ensures.is ∙ here in
    let counted : places_before shape c.as_slice.result.now ≡ places_before shape (walk_at p.region before) = ap (places_before shape) index in
    let place : c.places_before-place.result ≡ places_before shape (walk_at p.region before) = omega (arith, c.places_before-place.ensures.is, counted) in
    let item : c.item.result ≡ get_or p.items before (fill p.item_type) =
    c.item.ensures.is
    ∙ ap (λ (i : List ℕ). get_or p.items (box_offset p.region i) (fill p.item_type)) (c.as_slice-in-loop-before.ensures.is ∙ here)
    ∙ ap (λ (n : ℕ). get_or p.items n (fill p.item_type)) (offset_of_walk p.region before below) in
    let now : map (λ (z : ℤ). Num z) c.set_item.new.trees.lines.numbers
    ≡ set (map (λ (z : ℤ). Num z) c.loop-before.trees.lines.numbers) (places_before shape (walk_at p.region before)) (get_or p.items before (fill p.item_type)) =
    c.set_item.ensures.items ∙ (λ i. set (map (λ (z : ℤ). Num z) c.loop-before.trees.lines.numbers) (place i) (item i)) in
    record {
      written = subst (λ (xs : List Item). IsWritten (array_of_shape shape c.args.trees.now.lines.numbers) p (before + 1) (record { item_type = Nums; shape = shape; items = xs })) (sym now) more;
      function = c.set_item.ensures.function ∙ c.loop-before.invariant.function;
      count = c.set_item.ensures.count ∙ c.loop-before.invariant.count;
      step = c.set_item.ensures.step ∙ c.loop-before.invariant.step;
      at = subst (λ (r : List Interval). before + 1 < box_size r → c.advance.new.index ≡ walk_at r (before + 1)) c.region-region.ensures
          (λ later. c.advance.ensures.next before later (here ∙ ap (λ (r : List Interval). walk_at r before) (sym c.region-region.ensures)));
    }

pub returns-clause-numbers : goal.returns-clause-numbers
returns-clause-numbers c =
    let p = c.args.patch.now in
    let a = array_of_shape c.args.shape.now.items c.args.trees.now.lines.numbers in
    let all : c.loop-before.before ≡ box_size p.region = omega (arith, c.loop-before-test.false, c.size-before-end.ensures, ap box_size c.region-region.ensures) in
    written_all a p (array_of_shape c.args.shape.now.items c.loop-before.trees.lines.numbers)
    (subst (λ (n : ℕ). IsWritten a p n (array_of_shape c.args.shape.now.items c.loop-before.trees.lines.numbers)) all c.loop-before.invariant.written)

pub returns-clause-sound : goal.returns-clause-sound
returns-clause-sound c =
    let a = array_of_shape c.args.shape.now.items c.args.trees.now.lines.numbers in
    subst IsArray (sym (returns-clause-numbers c)) (patched_sound a c.args.patch.now c.requires.lines c.item_type-one_item_a_place.ensures.sound c.requires.fit)

pub set_item-requires-clause-place : goal.set_item-requires-clause-place
set_item-requires-clause-place c =
    omega (arith, sym (length-map c.loop-before.trees.lines.numbers (λ (z : ℤ). Num z)) ∙ c.loop-before.invariant.written.long, c.places_before-place.ensures.below)
