use Rattle.std.proofs.Common.{◌∙◌, ◌+◌, ◌++◌, ◌∷◌, [], ap, sym, get_or, length, Ok, arith}
use Rattle.arrays_core.{specs.Items.{fill}, proofs.Rows.{row_put}}
use Rattle.structural_fns.{specs.Part.{behind, part_item}, proofs.Parts.{behind_row, row_inside}, proofs.SteppedRows.{place_beside, row_fits}, proofs.part.PartRowFunction.extend_row.Goals.{After-place}}
use Rattle.structural_fns.proofs.part.PartRowFunction.extend_row.Goals as goal

pub extend_run-requires-clause-inside : goal.extend_run-requires-clause-inside
extend_run-requires-clause-inside c =
    let p = c.args.self.now in
    let row = c.args.row.now in
    let known = c.requires.row in
    let fits = row_fits p.array.now.shape (λ i. behind p.before.now (row ++ i ∷ [])) (behind p.before.now row) (λ i. get_or p.before.now (length row) 0 + i) c.args.count
    (row_inside p.array.now.shape p.before.now p.shape.now.items row c.args.count p.is known) (λ i. behind_row p.before.now row i (p.is.as_many ∙ sym p.is.ranks ∙ known.long)) (λ j. omega arith) known.some in
    omega (arith, c.place.ensures.is, fits, c.place.ensures.sound.one_item_a_place)

pub returns-clause-items : goal.returns-clause-items
returns-clause-items c =
    let p = c.args.self.now in
    let b = p.array.now in
    let row = c.args.row.now in
    let known = c.requires.row in
    row_put c.extend_run.result c.args.items.now.items c.extend_run.new.items.items (λ i. part_item b p.before.now (row ++ i ∷ [])) (λ k. get_or b.items (c.place.result + k) (fill b.item_type)) c.args.count
    (λ j h. ap (λ k. Ok (get_or b.items k (fill b.item_type)))
    (place_beside b.shape (λ i. behind p.before.now (row ++ i ∷ [])) (behind p.before.now row) (λ i. get_or p.before.now (length row) 0 + i) c.args.count
    (row_inside b.shape p.before.now p.shape.now.items row c.args.count p.is known) (λ i. behind_row p.before.now row i (p.is.as_many ∙ sym p.is.ranks ∙ known.long)) (λ j. omega arith) j h
    ∙ ap (λ m. m + j) (sym c.place.ensures.is)))
    c.extend_run.ensures.items
