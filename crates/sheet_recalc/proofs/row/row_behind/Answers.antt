use Rattle.{std.proofs.Common.{◌≡◌, ◌∙◌, List, ℕ, length, true, refl, sym, ap, subst, Some, Ok}, apl_expr.specs.Trees.{literal_of}}
use Rattle.arrays_core.{specs.Growth.{one_longer, grown_by}, specs.Shapes.{IsWithinLimits}, specs.declared.item.Item.{Item}}
use Rattle.{index_region.specs.Tails.{TailValue}, sheet_recalc.{specs.Cells.{literal_items}, specs.Rows.{items_in_row, are_of_type}, proofs.Rows.{row_is_put}}}
use Rattle.sheet_recalc.proofs.row.row_behind.Goals as goal

pub returns-clause-put : goal.returns-clause-put
returns-clause-put c =
    let a = c.args.array.now in
    let row = literal_items (literal_of c.args.literal.now) in
    let has : items_in_row a.shape ≡ Some c.in-Some.count = cc in
    let long : length row ≡ c.in-Some.count = cc in
    let typed : are_of_type a.item_type row ≡ true = cc in
    let same : c.one_longer-shape.result.items ≡ one_longer a.shape = cc in
    let limits = subst (λ (shape : List ℕ). IsWithinLimits shape) (c.as_slice-2.ensures ∙ same) (c.if-not-is_within_limits.ensures.0 refl) in
    let items = ap (λ (t : TailValue). t.items) c.in_ok-tail_to.ensures in
    row_is_put a c.in-Some.count row has long typed limits ∙ ap (λ (xs : List Item). Ok (grown_by a xs)) (sym items)
