use Rattle.std.{proofs.Common.{◌≡◌, ℕ, sym, subst, ◌+◌, ◌-◌, ◌<◌, ◌++◌, ◌∷◌, [], Ok, Some, drop, get_or, pos, unsigned_abs, arith}, proofs.lemmas.Result.{on_ok_weaker}}
use Rattle.arrays_core.{specs.Building.{with_row}, specs.Items.{fill}, proofs.Rows.{row_put}}
use Rattle.selection_fns.{specs.Index.{written_positions, of_array_and_positions, index_item}, proofs.IndexedRows.{IsItemOfRow, IsLast, IsRowOfIndex, last_position, row_of_index, last_written, of_indices, own_places, own_few}, proofs.Positions.{tail_of}}
use Rattle.selection_fns.proofs.index.IndexRowPrimitive.extend_row.Goals.{After-index-args-0, After-index-positions-positions, After-places_before_row-before, Else-not-self}
use Rattle.selection_fns.proofs.index.IndexRowPrimitive.extend_row.Goals as goal

-- the row that is written
row_is : (c : After-index-args-0) → IsRowOfIndex c.args.self.now.written.now c.args.args.now c.index-args-0.result c.args.row.now c.args.count
row_is c = row_of_index c.args.self.now.written.now c.args.args.now c.index-args-0.result c.args.row.now c.args.count c.args.items.now.item_type c.requires.arguments c.index-args-0.is c.requires.row

-- the last position is the last of those that are written
is_written : (c : Else-not-self) → IsLast (written_positions c.args.self.now.written.now (drop 1 c.args.args.now)) (drop 1 c.args.args.now)
is_written c =
    let row = row_is (goal.at-Else-not-self c).After-index-args-0 in
    last_written c.args.self.now.written.now (drop 1 c.args.args.now) row.counted row.written_some c.if-not-self.false

-- it has indices
last_is : (c : After-index-positions-positions) → last_position (written_positions c.args.self.now.written.now (drop 1 c.args.args.now)) ≡ Some c.index-positions-positions.result
last_is c = (is_written (goal.at-After-index-positions-positions c).Else-not-self).is c.index-positions-positions.result (rw tail_of at c.index-positions-positions.is)

pub overflow_sub-positions : goal.overflow_sub-positions
overflow_sub-positions c = rw tail_of (let some = (is_written (goal.at.overflow_sub-positions c).Else-not-self).some in omega arith)

pub bounds-positions-positions : goal.bounds-positions-positions
bounds-positions-positions c = rw tail_of (let some = (is_written (goal.at.bounds-positions-positions c).Else-not-self).some in omega arith)

pub indices_in_row-requires-clause-rank : goal.indices_in_row-requires-clause-rank
indices_in_row-requires-clause-rank c =
    let here = goal.at.indices_in_row-requires-clause-rank c in
    own_few _ _ _ _ _ (row_is here.After-index-args-0) c.index-positions-positions.result (last_is here.After-index-positions-positions)

pub indices_in_row-requires-clause-places : goal.indices_in_row-requires-clause-places
indices_in_row-requires-clause-places c own i low high =
    let here = goal.at.indices_in_row-requires-clause-places c in
    own_places _ _ _ _ _ (row_is here.After-index-args-0) c.index-positions-positions.result (last_is here.After-index-positions-positions) own i low high

-- each index that is taken is one of an item of the row
item_is : (c : After-places_before_row-before) (k : ℕ) → k < c.args.count
    → IsItemOfRow c.index-args-0.result (written_positions c.args.self.now.written.now (drop 1 c.args.args.now)) c.args.row.now c.places_before_row-before.result
    (unsigned_abs (get_or c.in-Some.indices.now k (pos 0))) (0 + k + 1)
item_is c =
    let here = goal.at-After-places_before_row-before c in
    let before = c.places_before_row-before in
    of_indices _ _ _ _ _ (row_is here.After-index-args-0) before.result (rw tail_of at before.ensures.inside) (rw tail_of at before.ensures.is) _ (last_is here.After-index-positions-positions)
    c.in-Some.ensures.axes c.indices_in_row.ensures.sound c.in-Some.indices.now c.in-Some.ensures.is

pub extend_at-requires-clause-low : goal.extend_at-requires-clause-low
extend_at-requires-clause-low c k h =
    (item_is (goal.at.extend_at-requires-clause-low c).After-places_before_row-before k (omega (arith, c.in-Some.ensures.long, h))).low

pub extend_at-requires-clause-high : goal.extend_at-requires-clause-high
extend_at-requires-clause-high c k h =
    omega (arith, (item_is (goal.at.extend_at-requires-clause-high c).After-places_before_row-before k (omega (arith, c.in-Some.ensures.long, h))).high)

pub returns-in-Some-clause-items : goal.returns-in-Some-clause-items
returns-in-Some-clause-items c =
    let here = goal.at.returns-in-Some-clause-items c in
    let written = c.args.self.now.written.now in
    let a = c.index-args-0.result in
    let new = c.extend_at.new.items.items in
    on_ok_weaker c.extend_at.result
    (λ e. subst (λ xs. with_row c.args.items.now.items (λ i. of_array_and_positions written (λ x ps. index_item x ps (c.args.row.now ++ i ∷ [])) xs) c.args.count ≡ Ok new)
    (sym (row_is here.After-index-args-0).args_are) e)
    (row_put c.extend_at.result c.args.items.now.items new (λ i. index_item a (written_positions written (drop 1 c.args.args.now)) (c.args.row.now ++ i ∷ []))
    (λ k. get_or a.items (c.places_before_row-before.result + unsigned_abs (get_or c.in-Some.indices.now k (pos 0)) - 1) (fill a.item_type)) c.args.count
    (λ k h. (item_is here.After-places_before_row-before k h).is) (rw c.in-Some.ensures.long at c.extend_at.ensures.items))
