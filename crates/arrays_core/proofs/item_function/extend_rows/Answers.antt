use Rattle.std.proofs.Common.{◌≡◌, ◌∙◌, ◌+◌, ◌*◌, sym, refl, ap, arith}
use Rattle.arrays_core.{specs.Shapes.{size as size_of}, proofs.Order.{none_collected, all_collected, index_after-within, places_before-index_after}, proofs.Rows.{row_of, row_collected, size_row}}
use Rattle.arrays_core.proofs.item_function.extend_rows.Goals as goal

pub loop-before-init : goal.loop-before-init
loop-before-init g c =
    let none : 0 * c.args.count ≡ 0 = omega arith in
    let first = c.as_mut_slice-row.ensures.value ∙ c.index_of_position-first.ensures.is in
    record {
      collected = rw (none, c.requires.none_yet) (none_collected (g.F.ItemFunction.result_shape c.args.function.now) (g.F.ItemFunction.item c.args.function.now));
      typed = refl;
      here = rw first (index_after-within c.args.rows.now.items 0 c.requires.some);
      at = λ h. rw first (places_before-index_after c.args.rows.now.items 0 c.requires.some);
    }

pub extend_row-requires-clause-row : goal.extend_row-requires-clause-row
extend_row-requires-clause-row g c =
    rw c.requires.shaped (row_of c.args.rows.now.items c.loop-before.row c.args.count c.loop-before.invariant.here c.requires.rank c.requires.long)

pub loop-before-preserved : goal.loop-before-preserved
loop-before-preserved g c =
    let rows = c.args.rows.now.items in
    let row = c.loop-before.row in
    let inv = c.loop-before.invariant in
    let axes = c.as_slice-axes.ensures in
    let e : size_of rows ≡ c.size-before-end.result = ap size_of (sym axes) ∙ sym c.size-before-end.ensures in
    let here = inv.at (omega arith) in
    record {
      collected = rw c.requires.shaped (row_collected rows row c.args.count c.loop-before.before _ _ _ inv.here here c.in_ok-extend_row.ensures.items (rw c.requires.shaped at inv.collected));
      typed = c.in_ok-extend_row.ensures.typed ∙ inv.typed;
      here = rw axes at c.advance.ensures.inside;
      at = λ h. (rw axes at c.advance.ensures.next) (omega arith) ∙ ap (λ n. n + 1) here;
    }

pub returns-clause-items : goal.returns-clause-items
returns-clause-items g c =
    let rows = c.args.rows.now.items in
    let shape = g.F.ItemFunction.result_shape c.args.function.now in
    let e : size_of rows ≡ c.size-before-end.result = ap size_of (sym c.as_slice-axes.ensures) ∙ sym c.size-before-end.ensures in
    let every : c.loop-before.before ≡ size_of rows = omega arith in
    let sized : size_of shape ≡ c.loop-before.before * c.args.count = ap size_of c.requires.shaped ∙ size_row rows c.args.count ∙ ap (λ n. n * c.args.count) (sym every) in
    all_collected shape _ (c.loop-before.before * c.args.count) _ (omega arith) c.loop-before.invariant.collected
