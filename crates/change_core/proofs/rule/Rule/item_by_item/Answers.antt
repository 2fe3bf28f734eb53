use Rattle.{std.proofs.Common.{◌≡◌, ◌<◌, Ok, Err, arith, sym, ap, ◌∙◌, take, refl}, arrays_core.specs.Arrays.{ArrayValue}}
use Rattle.index_region.{specs.Boxes.{box_size, walk_at}, proofs.Walks.{some_place}}
use Rattle.change_core.{proofs.Walking.{rest_err}, proofs.Filling.{filled_many, nothing_filled, one_filled, as_many_written, all_filled, typed_item, place_of, few_places, one_more_tick, vector_within}, specs.Meters.{ticked}, proofs.Collected.{items_are}}
use Rattle.change_core.proofs.rule.Rule.item_by_item.Goals as goal

pub loop-place-init : goal.loop-place-init
loop-place-init g c =
    let item = (g.Self.Rule.model c.args.self.now).item c.args.args.now in
    record {
      none = λ _. refl;
      some = λ h. absurd (omega arith);
      ticks = omega arith;
      rises = omega arith;
      joins = refl;
      at = λ _. c.index_at-index.ensures;
      many = filled_many c.in_ok-values.values c.args.item_type c.shape_of.result.items c.size-places.result (box_size c.args.region.now) c.in_ok-values.ensures c.shape_of.ensures.items c.size-places.ensures;
      typed = ap (λ (a : ArrayValue). a.item_type) c.in_ok-values.ensures;
      rest = nothing_filled (λ p. item (walk_at c.args.region.now p)) (box_size c.args.region.now) c.in_ok-values.values.items;
    }

pub item-requires-clause-place : goal.item-requires-clause-place
item-requires-clause-place g c =
    let below : c.loop-place.place < box_size c.args.region.now = omega (arith, c.size-places.ensures, c.loop-place-test.true) in
    place_of ((g.Self.Rule.model c.args.self.now).form c.args.args.now) c.args.shape.now c.args.item_type c.args.region.now c.loop-place.place _ c.requires.checked c.requires.fit below (c.as_slice.ensures.is ∙ c.loop-place.invariant.at below)

pub returns-in-Err-clause-items : goal.returns-in-Err-clause-items
returns-in-Err-clause-items g c =
    let item = (g.Self.Rule.model c.args.self.now).item c.args.args.now in
    let region = c.args.region.now in
    let below : c.loop-place.place < box_size region = omega (arith, c.size-places.ensures, c.loop-place-test.true) in
    let failed : item (walk_at region c.loop-place.place) ≡ Err c.in-Err.kind = ap item (sym (c.as_slice.ensures.is ∙ c.loop-place.invariant.at below)) ∙ sym c.in-Err.ensures.is in
    sym (items_are item region) ∙ sym c.loop-place.invariant.rest ∙ rest_err (λ p. item (walk_at region p)) (box_size region) c.loop-place.place (take c.loop-place.place c.loop-place.values.items) c.in-Err.kind below failed

pub write_at-requires-clause-high : goal.write_at-requires-clause-high
write_at-requires-clause-high g c = omega (arith, c.loop-place.invariant.many, c.size-places.ensures, c.loop-place-test.true)

pub write_at-requires-clause-typed : goal.write_at-requires-clause-typed
write_at-requires-clause-typed g c = typed_item ((g.Self.Rule.model c.args.self.now).form c.args.args.now) c.args.shape.now c.args.item_type c.in-Ok.item c.requires.checked c.in-Ok.ensures.typed ∙ sym c.loop-place.invariant.typed

pub loop-place-preserved : goal.loop-place-preserved
loop-place-preserved g c =
    let item = (g.Self.Rule.model c.args.self.now).item c.args.args.now in
    let region = c.args.region.now in
    let below : c.loop-place.place < box_size region = omega (arith, c.size-places.ensures, c.loop-place-test.true) in
    let given : item (walk_at region c.loop-place.place) ≡ Ok c.in-Ok.item = ap item (sym (c.as_slice.ensures.is ∙ c.loop-place.invariant.at below)) ∙ sym c.in-Ok.ensures.is in
    record {
      none = λ h. absurd (omega arith);
      some = λ _. one_more_tick c.args.meter.now.ticks c.loop-place.place c.loop-place.meter.ticks _ c.loop-place.invariant.none c.loop-place.invariant.some c.in-Ok.ensures.ticks;
      ticks = omega (arith, c.in-Ok.ensures.ticks, c.loop-place.invariant.ticks);
      rises = omega (arith, c.in-Ok.ensures.rises, c.loop-place.invariant.rises);
      joins = c.in-Ok.ensures.joins ∙ c.loop-place.invariant.joins;
      at = λ more. c.advance.ensures.next c.loop-place.place more (c.loop-place.invariant.at below);
      many = as_many_written c.loop-place.values c.write_at.new.self (box_size region) c.loop-place.place c.in-Ok.item c.loop-place.invariant.many c.write_at.ensures;
      typed = ap (λ (a : ArrayValue). a.item_type) c.write_at.ensures ∙ c.loop-place.invariant.typed;
      rest = one_filled c.loop-place.values c.write_at.new.self (λ p. item (walk_at region p)) (box_size region) c.loop-place.place c.in-Ok.item _ c.loop-place.invariant.many below given c.write_at.ensures c.loop-place.invariant.rest;
    }

pub returns-clause-items : goal.returns-clause-items
returns-clause-items g c =
    let item = (g.Self.Rule.model c.args.self.now).item c.args.args.now in
    let region = c.args.region.now in (
      sym (items_are item region) ∙ all_filled c.loop-place.values (λ p. item (walk_at region p)) (box_size region) c.loop-place.place _ c.loop-place.invariant.many (omega (arith, c.size-places.ensures, c.loop-place-test.false)) c.loop-place.invariant.rest,
      c.loop-place.invariant.typed,
    )

pub size-places-requires : goal.size-places-requires
size-places-requires g c = omega (arith, few_places c.args.region.now c.args.shape.now c.requires.fit c.requires.within)

pub overflow_cast-places : goal.overflow_cast-places
overflow_cast-places g c = omega (arith, few_places c.args.region.now c.args.shape.now c.requires.fit c.requires.within, c.size-places.ensures)

pub filled-requires : goal.filled-requires
filled-requires g c = vector_within _ _ c.shape_of.ensures.items (omega (arith, few_places c.args.region.now c.args.shape.now c.requires.fit c.requires.within, c.size-places.ensures))

pub returns-clause-exact : goal.returns-clause-exact
returns-clause-exact g c =
    let some : 0 < c.loop-place.place = omega (arith, some_place c.args.region.now c.args.shape.now c.requires.fit) in
    c.loop-place.invariant.some some ∙ ap (ticked c.args.meter.now.ticks) (omega (arith, c.size-places.ensures, c.loop-place-test.false))

pub index_at-index-requires-clause-below : goal.index_at-index-requires-clause-below
index_at-index-requires-clause-below g c = some_place c.args.region.now c.args.shape.now c.requires.fit
