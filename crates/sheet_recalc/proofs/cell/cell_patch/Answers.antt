use Rattle.std.{proofs.Common.{◌≡◌, ◌∙◌, ◌==◌, ◌∷◌, [], length, true, rules, arith, sym, ap, subst, Ok}, proofs.lemmas.Bool.{not-false}}
use Rattle.{apl_expr.specs.Trees.{literal_of}, arrays_core.specs.{Items.{type_of}, Shapes.{is_index_of}, contracts.item.ItemType.{the_type}}}
use Rattle.index_region.{specs.Boxes.{box_size}, specs.Patches.{PatchValue, FitsPatch, patched}, proofs.OnePlace.{one_place, one_place_size}}
use Rattle.sheet_recalc.{specs.Cells.{literal_items, index_of_numbers, item_put}, specs.Costs.{cell_patch}, proofs.CellPatches.{item_is_put, fits_one}}
use denote.Enum.Bare.{same_true}
use Rattle.sheet_recalc.proofs.cell.cell_patch.Goals as goal

pub one-requires : goal.one-requires
one-requires c =
    let region : c.at-region.result ≡ one_place c.in-Some.index.items = c.at-region.ensures ∙ ap one_place c.as_slice-2.ensures in
    ap box_size region ∙ one_place_size c.in-Some.index.items

pub returns-clause-put : goal.returns-clause-put
returns-clause-put c =
    let a = c.args.array.now in
    let index = c.in-Some.index.items in
    let items = literal_items (literal_of c.args.literal.now) in
    let item = c.in-Some-only_item.item in
    let region : c.at-region.result ≡ one_place index = c.at-region.ensures ∙ ap one_place c.as_slice-2.ensures in
    let patch : c.one.result ≡ cell_patch index item = c.one.ensures ∙ (λ i. record { region = region i; item_type = type_of item; items = item ∷ [] }) in
    let same : c.item_type.result ≡ c.item_type-2.result = same_true the_type (search rules) _ _ (not-false _ (sym c.if-ne.ensures)) in
    let there : c.item_type-2.result ≡ a.item_type = search in
    let on_axes : is_index_of a.shape (index_of_numbers c.args.positions.now) ≡ true = subst (λ shape. is_index_of shape (index_of_numbers c.args.positions.now) ≡ true) c.shape-2.ensures.is c.in-Some.ensures.1 in
    let is : index ≡ index_of_numbers c.args.positions.now = c.in-Some.ensures.0 in
    let inside : is_index_of a.shape index ≡ true = subst (λ i. is_index_of a.shape i ≡ true) (sym is) on_axes in
    let put : item_put a index items ≡ Ok (patched a (cell_patch index item)) = item_is_put a index items item c.shape.ensures.sound inside c.in-Some-only_item.ensures (sym c.item_type.ensures ∙ same ∙ there) in
    let lengths : length c.args.positions.now ≡ length a.shape = omega (arith, c.if-positions-len.false, c.len.ensures.value, ap length c.shape.ensures.is) in
    let rank : length c.args.positions.now == length a.shape ≡ true = search (rules, lengths) in
    rw (rank, on_axes, sym is) (put ∙ ap (λ (p : PatchValue). Ok (patched a p)) (sym patch))

pub returns-clause-fits : goal.returns-clause-fits
returns-clause-fits c =
    let a = c.args.array.now in
    let index = c.in-Some.index.items in
    let item = c.in-Some-only_item.item in
    let region : c.at-region.result ≡ one_place index = c.at-region.ensures ∙ ap one_place c.as_slice-2.ensures in
    let patch : c.one.result ≡ cell_patch index item = c.one.ensures ∙ (λ i. record { region = region i; item_type = type_of item; items = item ∷ [] }) in
    let same : c.item_type.result ≡ c.item_type-2.result = same_true the_type (search rules) _ _ (not-false _ (sym c.if-ne.ensures)) in
    let there : c.item_type-2.result ≡ a.item_type = search in
    let on_axes : is_index_of a.shape (index_of_numbers c.args.positions.now) ≡ true = subst (λ shape. is_index_of shape (index_of_numbers c.args.positions.now) ≡ true) c.shape-2.ensures.is c.in-Some.ensures.1 in
    let is : index ≡ index_of_numbers c.args.positions.now = c.in-Some.ensures.0 in
    let inside : is_index_of a.shape index ≡ true = subst (λ i. is_index_of a.shape i ≡ true) (sym is) on_axes in
    subst (λ (p : PatchValue). FitsPatch a p) (sym patch) (fits_one a index item inside (sym c.item_type.ensures ∙ same ∙ there))
