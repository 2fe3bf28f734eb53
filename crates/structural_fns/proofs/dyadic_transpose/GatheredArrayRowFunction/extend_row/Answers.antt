use Rattle.std.{proofs.Common.{◌≡◌, ◌-◌, ap, sym, ◌∙◌, length, arith, Ok, ◌++◌, ◌∷◌, []}, proofs.lemmas.Result.{on_ok_weaker}}
use Rattle.{arrays_core.{specs.Arrays.{ArrayValue}, specs.Shapes.{places_before}}, index_region.{specs.Answers.{IsRowIn}, proofs.Passing.{place_of_row}}}
use Rattle.structural_fns.{specs.DyadicTranspose.{axes_to, gathered, stride_to, transposed_shape, transpose_by_form}, proofs.SourcePlaces.{gathered_inside}, proofs.SteppedRows.{row_in, has_places, transposed_by_steps, transposed_by_items}, proofs.dyadic_transpose.GatheredArrayRowFunction.extend_row.Goals.{After-place_of-first}}
use Rattle.structural_fns.proofs.dyadic_transpose.GatheredArrayRowFunction.extend_row.Goals as goal

pub place_of-first-requires-clause-in_range : goal.place_of-first-requires-clause-in_range
place_of-first-requires-clause-in_range c =
    let r = c.args.self.now in
    let form = transpose_by_form r.axes.now r.array.now in
    let row = row_in form (transposed_shape (axes_to r.axes.now) r.array.now.shape) c.args.row.now c.args.count r.array.now.item_type c.args.items.now.item_type r.passed c.requires.row c.requires.typed in
    rw r.lengths_are (gathered_inside r.axes.now r.array.now (c.args.row.now ++ 1 ∷ []) (place_of_row form c.args.row.now c.args.count c.args.items.now.item_type 1 row (omega arith) c.requires.row.some))

module _ (c : After-place_of-first) where
  abbrev a : ArrayValue
  a = c.args.self.now.axes.now

  abbrev b : ArrayValue
  b = c.args.self.now.array.now

  row : IsRowIn (transpose_by_form a b) c.args.row.now c.args.count c.args.items.now.item_type
  row = row_in (transpose_by_form a b) (transposed_shape (axes_to a) b.shape) c.args.row.now c.args.count b.item_type c.args.items.now.item_type c.args.self.now.passed c.requires.row c.requires.typed

  first : c.place_of-first.result ≡ places_before b.shape (gathered (axes_to a) (c.args.row.now ++ 1 ∷ []))
  first = rw c.args.self.now.lengths_are at c.place_of-first.ensures

  step : c.args.self.now.step ≡ stride_to b.shape (axes_to a) (length c.args.row.now)
  step =
      let last : length (transposed_shape (axes_to a) b.shape) - 1 ≡ length c.args.row.now = omega (arith, c.requires.row.long) in
      c.args.self.now.step_is (has_places a b c.args.row.now c.args.count c.args.items.now.item_type row c.place_of-first.result c.args.self.now.step first) ∙ ap (stride_to b.shape (axes_to a)) last

pub extend_evenly-requires-clause-inside : goal.extend_evenly-requires-clause-inside
extend_evenly-requires-clause-inside c =
    let here = (goal.at.extend_evenly-requires-clause-inside c).After-place_of-first in
    transposed_by_steps (a here) (b here) c.args.row.now c.args.count c.args.items.now.item_type (row here) c.place_of-first.result c.args.self.now.step (first here) (step here) c.args.self.now.sound

pub returns-clause-items : goal.returns-clause-items
returns-clause-items c =
    let here = (goal.at.returns-clause-items c).After-place_of-first in
    let made = transposed_by_items (a here) (b here) c.args.row.now c.args.count c.args.items.now.item_type (row here) c.place_of-first.result c.args.self.now.step (first here) (step here) c.args.items.now.items in
    on_ok_weaker c.extend_evenly.result (λ e. made ∙ ap (λ xs. Ok xs) (sym e)) c.extend_evenly.ensures.items
