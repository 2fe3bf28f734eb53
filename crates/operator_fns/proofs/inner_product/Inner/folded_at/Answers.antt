use Rattle.{std.proofs.Common.{◌∙◌, ap, sym, take, drop, arith}, arrays_core.specs.Items.{fill, and_then}}
use Rattle.item_fns.{specs.Items.{dyadic_on_items}, specs.RightFold.{fold_right}}
use Rattle.operator_fns.{specs.InnerProduct.{row_rank, all_or_last_error}, specs.RowByColumn.{entry, all_met}, proofs.Joined.{long_enough}, proofs.Meetings.{length-met}, specs.Laws.InnerPlaces.{passed_inner}, proofs.Inners.{products_met, fold_of_some}}
use Rattle.operator_fns.proofs.inner_product.Inner.folded_at.Goals as goal

pub split_at-requires : goal.split_at-requires
split_at-requires c =
    let b = c.args.right.now in
    let p = passed_inner c.args.left.now b c.args.index.now c.requires in
    omega (arith, long_enough (take (row_rank c.args.left.now) c.args.left.now.shape) (drop 1 b.shape) c.args.index.now p.inside, p.rows, c.row_rank.ensures)

pub row_line-row-requires-clause-inside : goal.row_line-row-requires-clause-inside
row_line-row-requires-clause-inside c =
    rw (c.split_at.ensures.front, c.row_rank.ensures) (passed_inner c.args.left.now c.args.right.now c.args.index.now c.requires).front

pub column_line-column-requires-clause-inside : goal.column_line-column-requires-clause-inside
column_line-column-requires-clause-inside c =
    rw (c.split_at.ensures.back, c.row_rank.ensures) (passed_inner c.args.left.now c.args.right.now c.args.index.now c.requires).back

pub returns-clause-is : goal.returns-clause-is
returns-clause-is c =
    let row = take (row_rank c.args.left.now) c.args.index.now in
    let column = drop (row_rank c.args.left.now) c.args.index.now in
    let count = c.inner_length-count.result in
    let left = entry (fill c.args.left.now.item_type) c.args.left.now.items c.row_line-row.result in
    let right = entry (fill c.args.right.now.item_type) c.args.right.now.items c.column_line-column.result in
    let long = length-met (dyadic_on_items c.args.self.each) left right count in
    let same = products_met c.args.self.each c.args.left.now c.args.right.now row column left right count c.inner_length-count.ensures
    (rw (c.split_at.ensures.front, c.row_rank.ensures) at c.row_line-row.ensures.is)
    (rw (c.split_at.ensures.back, c.row_rank.ensures) at c.column_line-column.ensures.is) in
    c.fold_row.ensures.is
    ∙ sym (ap (λ rs. and_then (all_or_last_error rs) (fold_right c.args.self.fold)) same
    ∙ fold_of_some c.args.self.fold (all_met (dyadic_on_items c.args.self.each) left right count) (omega arith))
