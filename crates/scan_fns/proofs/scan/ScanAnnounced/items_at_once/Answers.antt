use Rattle.std.proofs.Common.{rules, refl, ℕ, List, ◌≡◌, ◌∙◌, ◌∷◌, [], ap, sym, subst, get_or, length, arith, IfSome, Result, Ok}
use Rattle.arrays_core.{specs.declared.item.ItemType.{ItemType}, specs.declared.item.Item.{Item}, specs.declared.item.Kind.{Kind}, specs.Arrays.{ArrayValue}}
use Rattle.index_region.{specs.ArgumentLists.{of_one_argument}, specs.Boxes.{box_size, interval_length, walk_at}, specs.Checks.{form_of}, proofs.Boxes.{fits_length}, proofs.Walks.{some_place}, proofs.Passing.{one_argument}}
use Rattle.{function_names.specs.Axes.{axis_at}, change_core.{specs.Parts.{HoldsItems, items_in}, proofs.Filling.{few_places, place_of}}}
use Rattle.scan_fns.{specs.Scan.{scan_form, scan_item, scan_along}, specs.Laws.ScannedPlaces.{scan_facts}, proofs.OneLine.{OnAxis, as_one, on_axis, walk_first, scanned_items, holds_line}, proofs.scan.ScanAnnounced.items_at_once.Goals.{After-as_slice}}
use Rattle.scan_fns.proofs.scan.ScanAnnounced.items_at_once.Goals as goal

only : (c : After-as_slice) → c.args.args.now ≡ c.index-args-0.result ∷ []
only c = one_argument c.args.args.now c.index-args-0.result c.requires.count c.index-args-0.is

checked : (c : After-as_slice) → scan_form c.args.self.now.along c.index-args-0.result ≡ Ok (form_of c.args._shape.now c.args.item_type)
checked c = sym (as_one (scan_form c.args.self.now.along) c.args.args.now c.index-args-0.result (only c)) ∙ c.requires.checked

shaped : (c : After-as_slice) → c.args._shape.now ≡ c.index-args-0.result.shape
shaped c = (scan_facts c.args.self.now.along c.index-args-0.result c.args._shape.now c.args.item_type (checked c)).shaped

-- the interval of the box on the axis
ends : (c : After-as_slice) → OnAxis c.as_slice.result.now c.args.region.now c.args._shape.now c.axis_at-axis.result
ends c =
    let rank : c.len-rank.result ≡ length c.index-args-0.result.shape = c.len-rank.ensures.value ∙ ap length c.shape.ensures.is in
    on_axis c.axis_at-axis.result c.as_slice.result.now c.args.region.now c.args._shape.now c.as_slice.ensures.is (omega (arith, ap length (shaped c), rank, c.if-axis-rank.false))
    c.requires.fit

meant : (c : After-as_slice) → c.axis_at-axis.result ≡ axis_at (length c.index-args-0.result.shape) c.args.self.now.along
meant c = search rules

pub bounds-as_slice-axis : goal.bounds-as_slice-axis
bounds-as_slice-axis c = omega (arith, (ends (goal.at.bounds-as_slice-axis c).After-as_slice).there, ap length c.as_slice.ensures.is)

pub bounds-as_slice-axis-2 : goal.bounds-as_slice-axis-2
bounds-as_slice-axis-2 c = omega (arith, (ends (goal.at.bounds-as_slice-axis-2 c).After-as_slice).there, ap length c.as_slice.ensures.is)

pub size-requires : goal.size-requires
size-requires c = omega (arith, few_places c.args.region.now c.args._shape.now c.requires.fit c.requires.within)

pub overflow_cast-size : goal.overflow_cast-size
overflow_cast-size c = omega (arith, few_places c.args.region.now c.args._shape.now c.requires.fit c.requires.within, c.size.ensures)

pub overflow_add-last : goal.overflow_add-last
overflow_add-last c =
    let fit = ends ((goal.at.overflow_add-last c).After-as_slice) in
    let most = c.requires.within.axes c.axis_at-axis.result 0 (omega (arith, fit.there, fits_length c.args.region.now c.args._shape.now c.requires.fit)) in
    omega (arith, fit.low, fit.order, fit.high, most)

pub along_line-requires-clause-place : goal.along_line-requires-clause-place
along_line-requires-clause-place c =
    let region = c.args.region.now in
    let shape = c.args._shape.now in
    rw (c.as_slice-2.ensures.is ∙ c.index_at-index.ensures)
    (place_of (scan_form c.args.self.now.along c.index-args-0.result) shape c.args.item_type region 0 (walk_at region 0) (checked (goal.at.along_line-requires-clause-place c).After-as_slice)
    c.requires.fit (some_place region shape c.requires.fit) refl)

pub along_line-requires-clause-order : goal.along_line-requires-clause-order
along_line-requires-clause-order c =
    let here = (goal.at.along_line-requires-clause-order c).After-as_slice in
    let begins = walk_first c.axis_at-axis.result c.args.region.now c.args._shape.now (ends here).there c.requires.fit in
    rw (c.as_slice-2.ensures.is ∙ c.index_at-index.ensures, sym (meant here)) (omega (arith, begins, (ends here).first, (ends here).order))

pub along_line-requires-clause-high : goal.along_line-requires-clause-high
along_line-requires-clause-high c =
    let here = (goal.at.along_line-requires-clause-high c).After-as_slice in
    rw (sym (meant here), sym (shaped here)) (omega (arith, (ends here).high))

pub returns : goal.returns
returns c =
    let here = (goal.at.returns c).After-as_slice in
    let b = c.index-args-0.result in
    let along = c.args.self.now.along in
    let region = c.args.region.now in
    let axis = c.axis_at-axis.result in
    let size = few_places region c.args._shape.now c.requires.fit c.requires.within in
    let one : box_size region ≡ interval_length (get_or region axis (0, 0)) =
    omega (arith, size, c.size.ensures, (ends here).first, (ends here).last, (ends here).low, (ends here).order, c.if-size-last.false) in
    let f = c.args.self.now.function in
    let wanted =
    scanned_items f along c.args.args.now b region c.args._shape.now (only here) (omega (arith, (ends here).there, meant here)) c.requires.fit (rw (meant here) at one) in
    let item : List ℕ → Result Item Kind = λ i. of_one_argument (λ a. scan_item f along a i) c.args.args.now in
    let made = ap (λ i. scan_along f along b i (get_or c.as_slice.result.now axis (0, 0)).1) (c.as_slice-2.ensures.is ∙ c.index_at-index.ensures)
    ∙ ap (scan_along f along b (walk_at region 0)) ((ends here).last ∙ ap (λ k. (get_or region k (0, 0)).1) (meant here)) in
    let holds = holds_line (items_in item region) (box_size region ∷ []) _ c.along_line.result (wanted ∙ sym made) c.along_line.ensures in
    subst (λ (t : ItemType). IfSome c.along_line.result (HoldsItems t (items_in item region))) (sym (search rules)) holds

pub returns-then-size-last : goal.returns-then-size-last
returns-then-size-last c =
    let along = c.args.self.now.along in
    let region = c.args.region.now in
    let f = c.args.self.now.function in
    let r = c.items_by_lines.result in
    subst (λ (xs : List ArrayValue). IfSome r (HoldsItems c.args.item_type (items_in (λ i. of_one_argument (λ a. scan_item f along a i) xs) region))) (sym (only (goal.at.returns-then-size-last c).After-as_slice))
    (subst (λ (t : ItemType). IfSome r (HoldsItems t (items_in (scan_item f along c.index-args-0.result) region))) (sym (search rules)) c.items_by_lines.ensures)
