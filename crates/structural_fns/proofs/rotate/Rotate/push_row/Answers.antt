use Rattle.std.proofs.Common.{◌≡◌, ℕ, ◌+◌, ◌-◌, ◌∙◌, ap, sym, arith, refl, Ok, ◌++◌, ◌∷◌, []}
use Rattle.arrays_core.{specs.Shapes.{places_before}, proofs.Rows.{with_row_none, with_row_more}}
use Rattle.structural_fns.{specs.Rotate.{rotate_item}, proofs.RotatedRows.{passed_row, item_at, at_index}}
use Rattle.structural_fns.proofs.rotate.Rotate.push_row.Goals as goal

pub loop-before-init : goal.loop-before-init
loop-before-init c =
    record { made = with_row_none c.args.items.now.items (λ i. rotate_item c.args.self.along c.args.amounts.now c.args.array.now (c.args.row.now ++ i ∷ [])); typed = refl }

pub push-requires : goal.push-requires
push-requires c =
    c.item.ensures.typed ∙ (passed_row c.args.self.along c.args.amounts.now c.args.array.now c.args.row.now c.args.count c.args.items.now.item_type c.requires.row).typed ∙ sym c.loop-before.invariant.typed

pub loop-before-preserved : goal.loop-before-preserved
loop-before-preserved c =
    let along = c.args.self.along in
    let a = c.args.amounts.now in
    let b = c.args.array.now in
    let row = c.args.row.now in
    let j = c.loop-before.before in
    let rule = λ (i : ℕ). rotate_item along a b (row ++ i ∷ []) in
    let one : j + 1 ≡ 0 + j + 1 = omega arith in
    let place : c.position.result ≡ places_before b.shape (at_index along a b row c.args.count c.args.items.now.item_type c.requires.row (0 + j + 1)) + 1 =
    rw (c.shape-shape.ensures.is, c.as_slice-in-loop-before.ensures, c.place_of-at.ensures.is, c.as_slice.ensures, c.index_in_row-index.ensures.is, one) at c.position.ensures.is in
    let gave : rule (0 + j + 1) ≡ Ok c.item.result =
    item_at along a b row c.args.count c.args.items.now.item_type c.requires.row j (c.position.result - 1) (omega arith) (omega arith) ∙ ap (λ x. Ok x) (sym c.item.ensures.is) in
    let made = with_row_more c.args.items.now.items c.loop-before.items.items rule (λ k. c.item.result) j 1 (j + 1) refl (λ k h. (let same : j + k + 1 ≡ 0 + j + 1 = omega arith in ap rule same ∙ gave)) c.loop-before.invariant.made in
    record { made = made ∙ ap (λ xs. Ok xs) (sym c.in_ok-push.ensures.items); typed = c.in_ok-push.ensures.typed ∙ c.loop-before.invariant.typed }
