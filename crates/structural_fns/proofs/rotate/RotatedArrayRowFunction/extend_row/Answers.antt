use Rattle.std.{proofs.Common.{◌≡◌, ◌<◌, ◌+◌, ◌-◌, ℕ, suc, ℤ, pos, List, ap, sym, subst, ◌∙◌, get_or, set, length, arith, Ok, ◌++◌, ◌∷◌, []}, proofs.lemmas.List.{get_or_default}}
use Rattle.arrays_core.{specs.Items.{fill}, specs.declared.item.ItemType.{ItemType}, specs.Arrays.{ArrayValue}, specs.Shapes.{places_before}, specs.Building.{IsRowOf}, proofs.Rows.{row_put, row_put_more, with_row_none, with_row_more}}
use Rattle.function_names.specs.Axes.{axis_at}
use Rattle.index_region.{specs.Arguments.{numbers}, specs.Answers.{IsRowIn}, specs.Axes.{places_along}, proofs.OnAxes.{OnAxis}}
use Rattle.structural_fns.{specs.Rotate.{rotate_form, rotate_item, rotated_place}, specs.declared.rotate.RotatedArray.{RotatedArray}, proofs.SteppedRows.{row_in}, proofs.RotatedRows.{TurnedLine, at_index, below_last, one_line, other_fits, other_item, other_list, other_on, inside_at, turn_below}}
use Rattle.structural_fns.proofs.rotate.RotatedArrayRowFunction.extend_row.Goals.{After-row_place-first, After-place_of-first}
use Rattle.structural_fns.proofs.rotate.RotatedArrayRowFunction.extend_row.Goals as goal

-- ---- along the last axis

line : (c : After-row_place-first)
    → TurnedLine c.args.self.now.rotate.along c.args.self.now.amounts.now c.args.self.now.array.now c.args.row.now c.args.count (c.row_place-first.result + c.args.self.now.turn) (suc c.args.self.now.turn)
line c =
    let r = c.args.self.now in
    let b = r.array.now in
    let row = row_in (rotate_form r.rotate.along r.amounts.now b) b.shape c.args.row.now c.args.count b.item_type c.args.items.now.item_type r.passed c.requires.row c.requires.typed in
    one_line r.rotate.along r.amounts.now b c.args.row.now c.args.count c.args.items.now.item_type row (sym r.axis_is ∙ c.if-axis-row.true) c.row_place-first.result r.turn
    (rw r.axes_are at c.row_place-first.ensures) r.amounts_are r.one (rw r.axis_is at r.turn_is) r.sound

pub overflow_add-first : goal.overflow_add-first
overflow_add-first c =
    let here = line (goal.at.overflow_add-first c).After-row_place-first in
    let r = c.args.self.now in
    omega (arith, here.fits, r.sound.one_item_a_place, r.sound.within.size_within)

pub overflow_sub-count : goal.overflow_sub-count
overflow_sub-count c = let here = line (goal.at.overflow_sub-count c).After-row_place-first in omega (arith, here.high)

pub extend_run-requires-clause-inside : goal.extend_run-requires-clause-inside
extend_run-requires-clause-inside c = let here = line (goal.at.extend_run-requires-clause-inside c).After-row_place-first in omega (arith, here.fits)

pub extend_run-requires-then-axis-row-clause-inside : goal.extend_run-requires-then-axis-row-clause-inside
extend_run-requires-then-axis-row-clause-inside c =
    let here = line (goal.at.extend_run-requires-then-axis-row-clause-inside c).After-row_place-first in
    omega (arith, here.fits)

pub returns-then-axis-row-clause-items : goal.returns-then-axis-row-clause-items
returns-then-axis-row-clause-items c =
    let here = line (goal.at.returns-then-axis-row-clause-items c).After-row_place-first in
    let r = c.args.self.now in
    let b = r.array.now in
    let old = c.args.items.now.items in
    let first = c.row_place-first.result in
    let count = c.args.count in
    let rule = λ (i : ℕ). rotate_item r.rotate.along r.amounts.now b (c.args.row.now ++ i ∷ []) in
    let back : suc r.turn - 1 ≡ r.turn = omega arith in
    let start : first + r.turn - r.turn ≡ first = omega arith in
    row_put_more c.extend_run-then-axis-row.result old c.extend_run.new.items.items c.extend_run-then-axis-row.new.items.items rule
    (λ k. get_or b.items (first + k) (fill b.item_type)) (count - r.turn) r.turn count (omega (arith, here.high)) (rw (back, start) at here.begin_item)
    (with_row_more old old rule (λ k. get_or b.items (first + r.turn + k) (fill b.item_type)) 0 (count - r.turn) (count - r.turn) (omega arith) (rw back at here.end_item) (with_row_none old rule)
    ∙ ap (λ xs. Ok xs) (sym c.in_ok-extend_run.ensures.items))
    c.extend_run-then-axis-row.ensures.items

-- ---- along another axis

module _ (r : RotatedArray) (row : List ℕ) (count : ℕ) (item_type : ItemType) (is : IsRowOf r.array.now.shape row count) (typed : item_type ≡ r.array.now.item_type)
    (not_last : r.axis ≡ length row → ⊥) where
  abbrev b : ArrayValue
  b = r.array.now

  abbrev amount : ℤ
  amount = get_or (numbers r.amounts.now) 0 (pos 0)

  row_is : IsRowIn (rotate_form r.rotate.along r.amounts.now b) row count item_type
  row_is = row_in (rotate_form r.rotate.along r.amounts.now b) b.shape row count b.item_type item_type r.passed is typed

  other : axis_at (length b.shape) r.rotate.along ≡ length row → ⊥
  other e = not_last (r.axis_is ∙ e)

  on : OnAxis (get_or r.axes.now r.axis 0) (get_or row r.axis 0)
  on = rw (r.axes_are, r.axis_is) (other_on r.rotate.along r.amounts.now b row count item_type row_is other r.one)

  places : places_along b.shape r.axis ≡ get_or r.axes.now r.axis 0
  places =
      let below = below_last r.rotate.along r.amounts.now b row count item_type row_is other in
      get_or_default b.shape r.axis 1 0 (omega (arith, r.axis_is, is.long, below)) ∙ ap (λ s. get_or s r.axis 0) (sym r.axes_are)

  turned : suc r.turn ≡ rotated_place (get_or r.axes.now r.axis 0) amount 1
  turned = rw places at (r.turn_is (omega (arith, places, on.low, on.high)))

  below : r.turn < get_or r.axes.now r.axis 0
  below = turn_below (get_or r.axes.now r.axis 0) r.turn amount (omega (arith, on.low, on.high)) turned

  list : (index : ℕ) → ((amount : ℤ) → suc r.turn ≡ rotated_place (get_or r.axes.now r.axis 0) amount 1 → index ≡ rotated_place (get_or r.axes.now r.axis 0) amount (get_or row r.axis 0))
      → set (row ++ 1 ∷ []) r.axis index ≡ at_index r.rotate.along r.amounts.now b row count item_type row_is 1
  list index moved =
      let here : index ≡ rotated_place (places_along b.shape r.axis) amount (get_or row r.axis 0) = moved amount turned ∙ ap (λ n. rotated_place n amount (get_or row r.axis 0)) (sym places) in
      ap (λ k. set (row ++ 1 ∷ []) k index) r.axis_is
      ∙ other_list r.rotate.along r.amounts.now b row count item_type row_is other r.one r.amounts_are index
      (subst (λ k. index ≡ rotated_place (places_along b.shape k) amount (get_or row k 0)) r.axis_is here)

pub turned_index-index-requires-clause-low : goal.turned_index-index-requires-clause-low
turned_index-index-requires-clause-low c = (on c.args.self.now c.args.row.now c.args.count c.args.items.now.item_type c.requires.row c.requires.typed c.if-axis-row.false).low

pub turned_index-index-requires-clause-high : goal.turned_index-index-requires-clause-high
turned_index-index-requires-clause-high c = (on c.args.self.now c.args.row.now c.args.count c.args.items.now.item_type c.requires.row c.requires.typed c.if-axis-row.false).high

pub turned_index-index-requires-clause-below : goal.turned_index-index-requires-clause-below
turned_index-index-requires-clause-below c = below c.args.self.now c.args.row.now c.args.count c.args.items.now.item_type c.requires.row c.requires.typed c.if-axis-row.false

pub place_of-first-requires-clause-in_range : goal.place_of-first-requires-clause-in_range
place_of-first-requires-clause-in_range c =
    let r = c.args.self.now in
    let same = list r c.args.row.now c.args.count c.args.items.now.item_type c.requires.row c.requires.typed c.if-axis-row.false c.turned_index-index.result c.turned_index-index.ensures in
    rw (r.axes_are, same) (inside_at r.rotate.along r.amounts.now r.array.now c.args.row.now c.args.count c.args.items.now.item_type (row_is r c.args.row.now c.args.count c.args.items.now.item_type c.requires.row c.requires.typed c.if-axis-row.false) 0 c.requires.row.some)

-- the place of the row
place : (c : After-place_of-first)
    → c.place_of-first.result ≡ places_before c.args.self.now.array.now.shape (at_index c.args.self.now.rotate.along c.args.self.now.amounts.now c.args.self.now.array.now c.args.row.now c.args.count c.args.items.now.item_type
    (row_is c.args.self.now c.args.row.now c.args.count c.args.items.now.item_type c.requires.row c.requires.typed c.if-axis-row.false) 1)
place c =
    let same = list c.args.self.now c.args.row.now c.args.count c.args.items.now.item_type c.requires.row c.requires.typed c.if-axis-row.false c.turned_index-index.result c.turned_index-index.ensures in
    rw (c.args.self.now.axes_are, same) at c.place_of-first.ensures

pub extend_run-requires-2-clause-inside : goal.extend_run-requires-2-clause-inside
extend_run-requires-2-clause-inside c =
    let r = c.args.self.now in
    let here = place (goal.at.extend_run-requires-2-clause-inside c).After-place_of-first in
    let row = row_is r c.args.row.now c.args.count c.args.items.now.item_type c.requires.row c.requires.typed c.if-axis-row.false in
    let not_last = other r c.args.row.now c.args.count c.args.items.now.item_type c.requires.row c.requires.typed c.if-axis-row.false in
    omega (arith, here, other_fits r.rotate.along r.amounts.now r.array.now c.args.row.now c.args.count c.args.items.now.item_type row not_last r.one r.sound)

pub returns-clause-items : goal.returns-clause-items
returns-clause-items c =
    let r = c.args.self.now in
    let b = r.array.now in
    let here = place (goal.at.returns-clause-items c).After-place_of-first in
    let row = row_is r c.args.row.now c.args.count c.args.items.now.item_type c.requires.row c.requires.typed c.if-axis-row.false in
    let not_last = other r c.args.row.now c.args.count c.args.items.now.item_type c.requires.row c.requires.typed c.if-axis-row.false in
    row_put c.extend_run-2.result c.args.items.now.items c.extend_run-2.new.items.items (λ i. rotate_item r.rotate.along r.amounts.now b (c.args.row.now ++ i ∷ []))
    (λ k. get_or b.items (c.place_of-first.result + k) (fill b.item_type)) c.args.count
    (λ j h. other_item r.rotate.along r.amounts.now b c.args.row.now c.args.count c.args.items.now.item_type row not_last r.one j h ∙ ap (λ k. Ok (get_or b.items k (fill b.item_type))) (ap (λ m. m + j) (sym here)))
    c.extend_run-2.ensures.items
