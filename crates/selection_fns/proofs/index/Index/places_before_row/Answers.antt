use Rattle.{std.proofs.Common.{◌≡◌, ◌+◌, ◌++◌, ◌∷◌, [], arith}, arrays_core.{specs.Shapes.{places_before}, proofs.Shapes.{as_long}}}
use Rattle.selection_fns.{specs.Index.{written_positions, source_index}, proofs.IndexedRows.{last_index_below}}
use Rattle.selection_fns.proofs.index.Index.places_before_row.Goals as goal

pub overflow_sub-result-2 : goal.overflow_sub-result-2
overflow_sub-result-2 c =
    let at = c.index_of-at.result.items in
    let place : c.position.result ≡ places_before c.args.array.now.shape at + 1 = rw (c.shape-axes.ensures.is, c.as_slice-2.ensures) at c.position.ensures.is in
    let below = last_index_below c.args.array.now.shape at c.index_of-at.ensures.inside in
    rw (c.deref.ensures, c.len.ensures.value) (omega arith)

pub returns-clause-is : goal.returns-clause-is
returns-clause-is c =
    let at = c.index_of-at.result.items in
    let is : at ≡ source_index (written_positions c.args.self.now.written.now c.args.positions.now) (c.args.row.now ++ 1 ∷ []) = rw (c.as_slice.ensures, c.index_in_row-first.ensures.is) at c.index_of-at.ensures.is in
    let place : c.position.result ≡ places_before c.args.array.now.shape at + 1 = rw (c.shape-axes.ensures.is, c.as_slice-2.ensures) at c.position.ensures.is in
    let below = last_index_below c.args.array.now.shape at c.index_of-at.ensures.inside in
    rw (← is, ← (as_long c.args.array.now.shape at c.index_of-at.ensures.inside), c.deref.ensures, c.len.ensures.value) (omega arith)
