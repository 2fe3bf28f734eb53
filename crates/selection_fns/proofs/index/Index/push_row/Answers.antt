use Rattle.std.proofs.Common.{◌≡◌, ℕ, ◌+◌, ◌∙◌, ap, sym, arith, refl, Ok, ◌++◌, ◌∷◌, [], List, get_or}
use Rattle.arrays_core.{specs.Items.{fill}, specs.Shapes.{places_before}, proofs.Rows.{with_row_none, with_row_more}}
use Rattle.index_region.specs.Sources.{Place, item_from}
use Rattle.selection_fns.{specs.Index.{written_positions, source_index, index_item}, proofs.IndexedRows.{item_there, row_typed}}
use Rattle.selection_fns.proofs.index.Index.push_row.Goals as goal

pub loop-before-init : goal.loop-before-init
loop-before-init c =
    record { made = with_row_none c.args.items.now.items (λ i. index_item c.args.array.now (written_positions c.args.self.now.written.now c.args.positions.now) (c.args.row.now ++ i ∷ [])); typed = refl }

pub push-requires : goal.push-requires
push-requires c =
    c.item.ensures.typed ∙ row_typed c.args.array.now (written_positions c.args.self.now.written.now c.args.positions.now) c.args.row.now c.args.count c.args.items.now.item_type c.requires.row
    ∙ sym c.loop-before.invariant.typed

pub loop-before-preserved : goal.loop-before-preserved
loop-before-preserved c =
    let a = c.args.array.now in
    let positions = written_positions c.args.self.now.written.now c.args.positions.now in
    let row = c.args.row.now in
    let j = c.loop-before.before in
    let rule = λ (i : ℕ). index_item a positions (row ++ i ∷ []) in
    let at : c.index_of-at.result.items ≡ source_index positions (row ++ (j + 1) ∷ []) = rw (c.as_slice.ensures, c.index_in_row-index.ensures.is) at c.index_of-at.ensures.is in
    let place : c.position.result ≡ places_before a.shape c.index_of-at.result.items + 1 = rw (c.shape-shape.ensures.is, c.as_slice-in-loop-before.ensures) at c.position.ensures.is in
    let gave : rule (j + 1) ≡ Ok c.item.result =
    ap (λ (xs : List ℕ). item_from a a a.item_type (Place 0 xs)) (sym at) ∙ item_there a c.index_of-at.result.items c.index_of-at.ensures.inside
    ∙ ap (λ k. Ok (get_or a.items k (fill a.item_type))) (omega arith) ∙ ap (λ x. Ok x) (sym c.item.ensures.is) in
    let made = with_row_more c.args.items.now.items c.loop-before.items.items rule (λ k. c.item.result) j 1 (j + 1) refl (λ k h. (let same : j + k + 1 ≡ j + 1 = omega arith in ap rule same ∙ gave)) c.loop-before.invariant.made in
    record { made = made ∙ ap (λ xs. Ok xs) (sym c.in_ok-push.ensures.items); typed = c.in_ok-push.ensures.typed ∙ c.loop-before.invariant.typed }
