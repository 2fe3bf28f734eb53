use Rattle.std.{proofs.Common.{◌≡◌, ◌∙◌, ◌++◌, ap, subst, sym, map, Ok, Global, to_z, of_z, w64}, proofs.lemmas.Int.{to_z-of_z}}
use Rattle.{arrays_core.specs.Items.{and_then}, operator_fns.{specs.OuterResults.{with_results, LeavesOrFails}, proofs.OuterRows.{list_failed}}}
use Rattle.operator_fns.proofs.outer_product.push_row.Goals as goal

pub returns-in_err-results : goal.returns-in_err-results
returns-in_err-results g c =
    let f = g.S.TwoNumbers.gives c.args.step.now in
    let old = c.args.row.now.items in
    let left : to_z w64 (of_z w64 c.args.left) ≡ c.args.left = to_z-of_z w64 _ c.ranges.left in
    subst (λ x. LeavesOrFails (with_results old (map (f x) c.args.right.now)) old c.from_residual.result) left
    (list_failed Global (Unit {0}) (map (f (to_z w64 (of_z w64 c.args.left))) c.args.right.now) old old c.in_err-results.field-0.0 _ c.in_err-results.ensures.is c.from_residual.ensures)

pub returns : goal.returns
returns g c =
    let old = c.args.row.now.items in
    let left : to_z w64 (of_z w64 c.args.left) ≡ c.args.left = to_z-of_z w64 _ c.ranges.left in
    ap (λ r. and_then r (λ more. Ok (old ++ more))) (rw left at c.in_ok-results.ensures.is)
    ∙ ap Ok (sym (c.in_ok-extend_from_slice.ensures.items ∙ ap (λ zs. old ++ zs) c.as_slice.ensures.value))
