use Rattle.std.{proofs.Common.{ℕ, List, Option, ◌≡◌, ◌∙◌, ◌<◌, ap, sym, subst, get_or, length, inl, inr, refl, arith}, proofs.lemmas.Bool.{cases_lt}, proofs.lemmas.List.{get_or_default}}
use Rattle.arrays_core.{specs.declared.item.ItemType.TheVariants.{Nums}, specs.declared.item.Kind.{Kind}, specs.Arrays.{ArrayValue}}
use Rattle.index_region.{specs.Boxes.{Interval, box_size, walk_at}, proofs.Walks.{walk_within, some_place}}
use Rattle.change_core.proofs.Filling.{few_places, filled_many, place_of, vector_within}
use Rattle.scan_fns.{specs.Scan.{scan_form, scan_item}, specs.BoxLines.{LineIsIn}, proofs.OneLine.{OnAxis, on_axis}, proofs.BoxErrors.{IsDone, IsMet, all_fail, done_here, done_still, met_more}, proofs.BoxTables.{as_long_as, line_begins, table_is, begins_below, begins_first, begins_on_line}}
use Rattle.scan_fns.proofs.box_lines.items_by_lines.Goals.{After-as_slice, In-loop-place, After-loop-place, then-as_slice-axis+in_ok-answer+in_ok-failed, else-as_slice-axis}
use Rattle.scan_fns.proofs.box_lines.items_by_lines.Goals as goal

on : (c : After-as_slice) → OnAxis c.args.region.now c.args.region.now c.args.array.now.shape c.args.axis
on c = on_axis c.args.axis c.args.region.now c.args.region.now c.args.array.now.shape refl c.requires.there c.requires.fit

-- the current place of the walk
module _ (c : In-loop-place) where
  below : c.loop-place._place < box_size c.args.region.now
  below = omega (arith, c.loop-place-test.true, c.size-places.ensures)

  at : c.loop-place.index ≡ walk_at c.args.region.now c.loop-place._place
  at = c.loop-place.invariant.at below

  walk_long : length (walk_at c.args.region.now c.loop-place._place) ≡ length c.args.region.now
  walk_long = as_long_as c.args.region.now _ (walk_within c.args.region.now c.loop-place._place below)

-- after the walk all places are done
done : (c : After-loop-place) → OnAxis c.args.region.now c.args.region.now c.args.array.now.shape c.args.axis → (place : ℕ) → place < box_size c.args.region.now
    → IsDone (scan_item c.args.scan.now.function c.args.scan.now.along c.args.array.now) c.args.region.now c.args.axis c.loop-place.table c.loop-place.failed place
done c on place below =
    let begins = begins_below c.args.region.now c.args.axis on.there on.order place below in
    c.loop-place.invariant.made place below (omega (arith, begins, c.loop-place-test.false, c.size-places.ensures))

pub size-places-requires : goal.size-places-requires
size-places-requires c = omega (arith, few_places c.args.region.now c.args.array.now.shape c.requires.fit c.requires.sound.within)

pub overflow_cast-places : goal.overflow_cast-places
overflow_cast-places c = omega (arith, few_places c.args.region.now c.args.array.now.shape c.requires.fit c.requires.sound.within, c.size-places.ensures)

pub filled-requires : goal.filled-requires
filled-requires c = vector_within _ _ c.shape_of-shape.ensures.items
    (omega (arith, few_places c.args.region.now c.args.array.now.shape c.requires.fit c.requires.sound.within, c.size-places.ensures))

pub bounds-as_slice-axis : goal.bounds-as_slice-axis
bounds-as_slice-axis c = omega (arith, (on (goal.at.bounds-as_slice-axis c).After-as_slice).there, ap length c.as_slice.ensures.is)

pub index_at-index-requires-clause-below : goal.index_at-index-requires-clause-below
index_at-index-requires-clause-below c = some_place c.args.region.now c.args.array.now.shape c.requires.fit

pub loop-place-init : goal.loop-place-init
loop-place-init c =
    let region = c.args.region.now in
    let many = filled_many c.in-Ok.table Nums c.shape_of-shape.result.items c.size-places.result (box_size region) c.in-Ok.ensures c.shape_of-shape.ensures.items c.size-places.ensures in
    record {
      at = λ some. c.index_at-index.ensures;
      table = record { typed = ap (λ (a : ArrayValue). a.item_type) c.in-Ok.ensures; long = many };
      met = tt;
      made = λ place below early. absurd (omega (arith, early));
    }

pub bounds-as_slice-axis-in-loop-place : goal.bounds-as_slice-axis-in-loop-place
bounds-as_slice-axis-in-loop-place c =
    let here = goal.at.bounds-as_slice-axis-in-loop-place c in
    omega (arith, ap length (c.as_slice-in-loop-place.ensures.is ∙ at here.In-loop-place), walk_long here.In-loop-place, (on here.After-as_slice).there)

pub write_line-requires-clause-place : goal.write_line-requires-clause-place
write_line-requires-clause-place c =
    let walk = (goal.at.write_line-requires-clause-place c).In-loop-place in
    place_of (scan_form c.args.scan.now.along c.args.array.now) c.args.array.now.shape Nums c.args.region.now c.loop-place._place _ c.requires.checked c.requires.fit (below walk)
    (c.as_slice-line.ensures.is ∙ at walk)

pub write_line-requires-clause-inside : goal.write_line-requires-clause-inside
write_line-requires-clause-inside c =
    let walk = (goal.at.write_line-requires-clause-inside c).In-loop-place in
    rw (c.as_slice-line.ensures.is ∙ at walk) (walk_within c.args.region.now c.loop-place._place (below walk))

pub write_line-requires-clause-table : goal.write_line-requires-clause-table
write_line-requires-clause-table c = c.loop-place.invariant.table

pub loop-place-preserved : goal.loop-place-preserved
loop-place-preserved c =
    let axis = c.args.axis in
    let region = c.args.region.now in
    let item = scan_item c.args.scan.now.function c.args.scan.now.along c.args.array.now in
    let on = on (goal.at.loop-place-preserved c).After-as_slice in
    let walk = (goal.at.loop-place-preserved c).In-loop-place in
    let inv = c.loop-place.invariant in
    let p = c.loop-place._place in
    elim c.if-as_slice-axis.branch [
      | then-as_slice-axis+in_ok-answer+in_ok-failed w ↦
          let line =
          subst (λ (i : List ℕ). LineIsIn item region axis i w.write_line.new.table w.in_ok-answer.answer) (w.as_slice-line.ensures.is ∙ at walk) w.in_ok-answer.ensures.line in
          record {
            at = λ more. c.advance.ensures.next p more (at walk);
            table = rw w.table-is w.write_line.ensures.table;
            met = rw w.failed-is (met_more item region axis c.loop-place.table w.write_line.new.table c.loop-place.failed w.in_ok-failed.failed w.in_ok-answer.answer p (below walk)
                w.in_ok-failed.ensures line inv.met);
            made = λ place inside early. rw (w.table-is, w.failed-is) (elim (cases_lt (line_begins region axis place) p) [
              | inl before ↦
                  done_still item region axis c.loop-place.table w.write_line.new.table c.loop-place.failed w.in_ok-failed.failed w.in_ok-answer.answer place w.in_ok-failed.ensures (w.write_line.ensures.keeps place) (inv.made place inside before)
              | inr past ↦
                  done_here item region axis c.loop-place.table w.write_line.new.table c.loop-place.failed w.in_ok-failed.failed w.in_ok-answer.answer (walk_at region p) place inside w.in_ok-failed.ensures
                  (begins_on_line region axis on.there on.order place inside p (omega (arith, early, past))) line
            ]);
          }
      | else-as_slice-axis w ↦ record {
        at = λ more. c.advance.ensures.next p more (at walk);
        table = rw w.table-is inv.table;
        met = rw w.failed-is inv.met;
        made = λ place inside early. rw (w.table-is, w.failed-is) (elim (cases_lt (line_begins region axis place) p) [
          | inl before ↦ inv.made place inside before
          | inr past ↦
              let begins = get_or_default (walk_at region p) axis 0 1 (omega (arith, walk_long walk, on.there))
              ∙ begins_first region axis on.there on.order place inside p (omega (arith, early, past)) in
              absurd (w.if-as_slice-axis.false (ap (λ i. get_or i axis 0) (c.as_slice-in-loop-place.ensures.is ∙ at walk) ∙ begins
              ∙ sym (ap (λ (r : List Interval). (get_or r axis (0, 0)).0) c.as_slice.ensures.is)))
        ]);
      }
    ]

pub returns-in-Some : goal.returns-in-Some
returns-in-Some c =
    let here = goal.at.returns-in-Some c in
    let axis = c.args.axis in
    let region = c.args.region.now in
    let item = scan_item c.args.scan.now.function c.args.scan.now.along c.args.array.now in
    let on = on here.After-as_slice in
    all_fail item region axis on.there c.loop-place.table c.in-Some.kind (subst (IsMet item region axis) c.in-Some.is c.loop-place.invariant.met) (λ place below.
    subst (λ (f : Option Kind). IsDone item region axis c.loop-place.table f place) c.in-Some.is (done here.After-loop-place on place below))

pub returns : goal.returns
returns c =
    let here = goal.at.returns c in
    let region = c.args.region.now in
    let item = scan_item c.args.scan.now.function c.args.scan.now.along c.args.array.now in
    let table = c.loop-place.invariant.table in (
      table_is item region c.loop-place.table table (λ place below.
          subst (λ (f : Option Kind). IsDone item region c.args.axis c.loop-place.table f place) c.in_default-failed.is
          (done here.After-loop-place (on here.After-as_slice) place below)),
      table.typed,
    )
