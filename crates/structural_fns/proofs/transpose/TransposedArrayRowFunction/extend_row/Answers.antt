use Rattle.std.{proofs.Common.{◌≡◌, ◌+◌, ◌*◌, ap, sym, ◌∙◌, get_or, drop, reverse, arith, Ok, ◌++◌, ◌∷◌, []}, proofs.lemmas.Result.{on_ok_weaker}}
use Rattle.{arrays_core.{specs.Building.{listed}, specs.Items.{fill}, specs.Arrays.{ArrayValue}, specs.Shapes.{size, places_before}}, index_region.specs.Answers.{IsRowIn}}
use Rattle.structural_fns.{specs.Transpose.{transpose_form}, proofs.SteppedRows.{row_in, transposed_row, transposed_steps, transposed_items, has_items, last_first}, proofs.transpose.TransposedArrayRowFunction.extend_row.Goals.{After-place_of-first}}
use Rattle.structural_fns.proofs.transpose.TransposedArrayRowFunction.extend_row.Goals as goal

pub place_of-first-requires-clause-in_range : goal.place_of-first-requires-clause-in_range
place_of-first-requires-clause-in_range c =
    let r = c.args.self.now in
    let row = row_in _ (reverse r.array.now.shape) c.args.row.now c.args.count r.array.now.item_type c.args.items.now.item_type r.passed c.requires.row c.requires.typed in
    let of_row = transposed_row r.array.now c.args.row.now c.args.count c.args.items.now.item_type row in
    rw (r.axes_are, ← last_first c.args.row.now 1) (of_row.inside 1 (omega arith) (omega (arith, of_row.some)))

module _ (c : After-place_of-first) where
  abbrev b : ArrayValue
  b = c.args.self.now.array.now

  row : IsRowIn (transpose_form b) c.args.row.now c.args.count c.args.items.now.item_type
  row = row_in _ (reverse b.shape) c.args.row.now c.args.count b.item_type c.args.items.now.item_type c.args.self.now.passed c.requires.row c.requires.typed

  first : c.place_of-first.result ≡ places_before b.shape (reverse (c.args.row.now ++ 1 ∷ []))
  first = rw (c.args.self.now.axes_are, ← last_first c.args.row.now 1) at c.place_of-first.ensures

  step : c.args.self.now.step ≡ size (drop 1 b.shape)
  step = c.args.self.now.step_is (has_items b c.args.row.now c.args.count c.args.items.now.item_type row c.place_of-first.result first)

pub extend_evenly-requires-clause-inside : goal.extend_evenly-requires-clause-inside
extend_evenly-requires-clause-inside c =
    let here = (goal.at.extend_evenly-requires-clause-inside c).After-place_of-first in
    rw (step here) (transposed_steps (b here) c.args.row.now c.args.count c.args.items.now.item_type (row here) c.place_of-first.result (first here) c.args.self.now.sound)

pub returns-clause-items : goal.returns-clause-items
returns-clause-items c =
    let here = (goal.at.returns-clause-items c).After-place_of-first in
    let made = transposed_items (b here) c.args.row.now c.args.count c.args.items.now.item_type (row here) c.place_of-first.result (first here) c.args.items.now.items in
    on_ok_weaker c.extend_evenly.result (λ e. made
    ∙ ap (λ m. Ok (c.args.items.now.items ++ listed c.args.count (λ k. get_or (b here).items (c.place_of-first.result + k * m) (fill (b here).item_type)))) (sym (step here)) ∙ ap (λ xs. Ok xs) (sym e))
    c.extend_evenly.ensures.items
