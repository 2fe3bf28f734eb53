use Rattle.std.{proofs.Common.{◌≡◌, ◌∙◌, ◌+◌, ◌-◌, ◌<◌, true, ap, sym, subst, get_or, length, set, insert, remove, inl, inr, arith, Ok, Err}, proofs.lemmas.Bool.{cases_lt}, proofs.lemmas.List.Edits.{length-remove}}
use Rattle.arrays_core.specs.Items.{fill}
use Rattle.index_region.{specs.Boxes.{box_offset, walk_at, is_within}, proofs.Walks.{walk_within, offset_of_walk, walk_of_offset}}
use Rattle.change_core.proofs.Filling.{few_places}
use Rattle.scan_fns.{specs.Scan.{scan_item, scan_along}, proofs.Scanned.{restored}, specs.BoxLines.{Holds}, proofs.OneLine.{OnAxis, on_axis}, proofs.BoxErrors.{line_fails}, proofs.BoxTables.{as_long_as, within_line, between, holds_there, holds_still, table_still, line_item}}
use Rattle.scan_fns.proofs.box_lines.write_line.Goals.{After-as_slice, After-as_slice-in-loop-before-2}
use Rattle.scan_fns.proofs.box_lines.write_line.Goals as goal

-- the interval of the box on the axis
ends : (c : After-as_slice) → OnAxis c.as_slice.result.now c.args.region.now c.args.array.now.shape c.args.axis
ends c = on_axis c.args.axis c.as_slice.result.now c.args.region.now c.args.array.now.shape c.as_slice.ensures.is c.requires.there c.requires.fit

in_index : (c : After-as_slice) → c.args.axis < length c.args.index.now
in_index c = omega (arith, as_long_as c.args.region.now c.args.index.now c.requires.inside, (ends c).there)

pub along_line-requires-clause-high : goal.along_line-requires-clause-high
along_line-requires-clause-high c =
    let fit = ends (goal.at.along_line-requires-clause-high c).After-as_slice in
    rw (sym c.requires.meant) (omega (arith, fit.high))

pub overflow_add-before-end : goal.overflow_add-before-end
overflow_add-before-end c = omega (arith, (ends (goal.at.overflow_add-before-end c).After-as_slice).high, c.requires.sound.within.axes c.args.axis 0 c.requires.there)

pub overflow_sub-before-end : goal.overflow_sub-before-end
overflow_sub-before-end c = omega (arith, (ends (goal.at.overflow_sub-before-end c).After-as_slice).order)

pub loop-before-init : goal.loop-before-init
loop-before-init c =
    let region = c.args.region.now in
    record {
      table = c.requires.table;
      keeps = λ place h. h;
      made = λ place below on_line early.
          let within = between c.args.axis region (walk_at region place) (ends (goal.at.loop-before-init c).After-as_slice).there (walk_within region place below) in
          absurd (omega (arith, early, within.low));
    }

pub overflow_add-first : goal.overflow_add-first
overflow_add-first c =
    let fit = ends (goal.at.overflow_add-first c).After-as_slice in
    omega (arith, c.loop-before-test.true, fit.order, fit.high, c.requires.sound.within.axes c.args.axis 0 c.requires.there)

pub with_axis-place-requires-clause-rank : goal.with_axis-place-requires-clause-rank
with_axis-place-requires-clause-rank c =
    let index = c.args.index.now in
    let others : c.as_slice-in-loop-before.result.now ≡ remove index c.args.axis = c.as_slice-in-loop-before.ensures ∙ c.without_axis-others.ensures.is in
    let long = as_long_as c.args.region.now index c.requires.inside in
    omega (arith, ap length others, length-remove index c.args.axis (in_index (goal.at.with_axis-place-requires-clause-rank c).After-as_slice), long, c.as_slice.ensures.few)

-- the place of the line that a step writes, and that it is in the box
placed : (c : After-as_slice-in-loop-before-2)
    → c.as_slice-in-loop-before-2.result.now ≡ insert (remove c.args.index.now c.args.axis) c.args.axis ((get_or c.as_slice.result.now c.args.axis (0, 0)).0 + c.loop-before.before)
placed c =
    c.as_slice-in-loop-before-2.ensures ∙ c.with_axis-place.ensures.is
    ∙ ap (λ xs. insert xs c.args.axis ((get_or c.as_slice.result.now c.args.axis (0, 0)).0 + c.loop-before.before)) (c.as_slice-in-loop-before.ensures ∙ c.without_axis-others.ensures.is)

within : (c : After-as_slice-in-loop-before-2) → OnAxis c.as_slice.result.now c.args.region.now c.args.array.now.shape c.args.axis
    → is_within c.args.region.now c.as_slice-in-loop-before-2.result.now ≡ true
within c ends =
    rw (placed c)
    (within_line c.args.axis c.args.region.now c.args.index.now ((get_or c.as_slice.result.now c.args.axis (0, 0)).0 + c.loop-before.before) ends.there c.requires.inside
    (omega (arith, ends.first))
    (omega (arith, ends.first, ends.last, c.loop-before-test.true)))

pub offset-offset-requires-clause-within : goal.offset-offset-requires-clause-within
offset-offset-requires-clause-within c =
    let here = goal.at.offset-offset-requires-clause-within c in
    within here.After-as_slice-in-loop-before-2 (ends here.After-as_slice)

pub offset-offset-requires-clause-size : goal.offset-offset-requires-clause-size
offset-offset-requires-clause-size c = omega (arith, few_places c.args.region.now c.args.array.now.shape c.requires.fit c.requires.sound.within)

pub overflow_cast-offset : goal.overflow_cast-offset
overflow_cast-offset c = omega (arith, few_places c.args.region.now c.args.array.now.shape c.requires.fit c.requires.sound.within, c.offset-offset.ensures.below)

pub overflow_add-offset : goal.overflow_add-offset
overflow_add-offset c = omega (arith, few_places c.args.region.now c.args.array.now.shape c.requires.fit c.requires.sound.within, c.offset-offset.ensures.below)

pub loop-before-preserved : goal.loop-before-preserved
loop-before-preserved c =
    let here = (goal.at.loop-before-preserved c).After-as_slice in
    let write = (goal.at.loop-before-preserved c).After-as_slice-in-loop-before-2 in
    let scan = c.args.scan.now in
    let axis = c.args.axis in
    let region = c.args.region.now in
    let index = c.args.index.now in
    let item = scan_item scan.function scan.along c.args.array.now in
    let before = c.loop-before.before in
    let j = (get_or c.as_slice.result.now axis (0, 0)).0 + before in
    let begin = (ends here).first in
    let line = c.in-Ok.line in
    let q = c.offset-offset.result in
    let x = c.item.result in
    let inv = c.loop-before.invariant in
    let walk : walk_at region q ≡ insert (remove index axis) axis j =
    ap (walk_at region) c.offset-offset.ensures.is ∙ walk_of_offset region _ (within write (ends here)) ∙ placed write in
    let answered : scan_along scan.function scan.along c.args.array.now index (get_or c.as_slice.result.now axis (0, 0)).1 ≡ Ok line = rw c.in-Ok.is at c.in_ok-answer.ensures in
    let below : before < (get_or c.as_slice.result.now axis (0, 0)).1 + 1 - get_or index axis 1 = omega (arith, c.loop-before-test.true, begin, c.requires.begins) in
    let there_item = line_item scan.function scan.along c.args.array.now region index _ line axis c.requires.meant (in_index here) answered before below in
    let same : j ≡ get_or index axis 1 + before = omega (arith, begin, c.requires.begins) in
    let read : before + 1 - 1 ≡ before = omega arith in
    let right : item (walk_at region q) ≡ Ok x =
    ap item (walk ∙ ap (insert (remove index axis) axis) same) ∙ there_item ∙ ap (λ y. Ok y) (sym (c.item.ensures.is ∙ ap (λ m. get_or line.items m (fill line.item_type)) read)) in
    let old = c.loop-before.table in
    let is : c.write_at.new.self ≡ record old { items = set old.items q x } = c.write_at.ensures ∙ ap (λ m. record old { items = set old.items m x }) (omega arith) in
    let inside : q < length old.items = omega (arith, inv.table.long, c.offset-offset.ensures.below) in
    record {
      table = table_still item region old c.write_at.new.self q x is inside right inv.table;
      keeps = λ place h. holds_still item region old c.write_at.new.self q x is inside right place (inv.keeps place h);
      made = λ place below_size on_line early. elim (cases_lt (get_or (walk_at region place) axis 1) j) [
        | inl earlier ↦ holds_still item region old c.write_at.new.self q x is inside right place (inv.made place below_size on_line (omega (arith, earlier, begin)))
        | inr later ↦
            let at : get_or (walk_at region place) axis 1 ≡ j = omega (arith, early, later, begin) in
            let walk_long : length (walk_at region place) ≡ length region = as_long_as region (walk_at region place) (walk_within region place below_size) in
            let own : walk_at region place ≡ walk_at region q =
            sym (restored (walk_at region place) axis 1 (omega (arith, walk_long, (ends here).there))) ∙ ap (λ m. insert (remove (walk_at region place) axis) axis m) at
            ∙ ap (λ xs. insert xs axis j) on_line ∙ sym walk in
            let e : place ≡ q = sym (offset_of_walk region place below_size) ∙ ap (box_offset region) own ∙ offset_of_walk region q c.offset-offset.ensures.below in
            subst (Holds item region c.write_at.new.self) (sym e) (holds_there item region old c.write_at.new.self q x is inside right)
      ];
    }

pub returns-clause-line : goal.returns-clause-line
returns-clause-line c =
    let ends = ends (goal.at.returns-clause-line c).After-as_slice in
    λ place below_size on_line.
    let inside = between c.args.axis c.args.region.now (walk_at c.args.region.now place) ends.there (walk_within c.args.region.now place below_size) in
    c.loop-before.invariant.made place below_size on_line (omega (arith, inside.high, c.loop-before-test.false, ends.first, ends.last, ends.order))

pub returns-in-Err-clause-line : goal.returns-in-Err-clause-line
returns-in-Err-clause-line c =
    let here = (goal.at.returns-in-Err-clause-line c).After-as_slice in
    let scan = c.args.scan.now in
    let fails : scan_along scan.function scan.along c.args.array.now c.args.index.now (get_or c.as_slice.result.now c.args.axis (0, 0)).1 ≡ Err c.in_ok-kind-in-Err.kind = rw (c.in-Err.is ∙ ap (λ f. Err f) c.in_ok-kind-in-Err.ensures) at c.in_ok-answer.ensures in
    line_fails scan.function scan.along c.args.array.now c.args.region.now c.args.axis c.args.index.now _ c.in_ok-kind-in-Err.kind c.requires.meant (in_index here) c.requires.begins (ends here).last fails
