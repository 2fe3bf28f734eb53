use Rattle.std.proofs.Common.{◌≡◌, ◌-◌, ◌∙◌, ◌&&◌, ap, nat_eq, length, Ok}
use Rattle.index_region.{specs.Checks.{form_of}, specs.Arguments.{is_list, counts_as_numbers, numbers}, proofs.Passing.{two_arguments, gives, limited_gives}}
use Rattle.structural_fns.{specs.DyadicTranspose.{axes_to, are_axes, transposed_shape, transpose_by_form}, proofs.dyadic_transpose.DyadicTranspose.apply.Goals.{In_ok-shape}}
use Rattle.structural_fns.proofs.dyadic_transpose.DyadicTranspose.apply.Goals as goal

-- the checks have passed
passed : (c : In_ok-shape) → transpose_by_form c.index-args-0.result c.index-args-1.result ≡ Ok (form_of c.in_ok-shape.shape.items c.in_ok-shape.item_type)
passed c =
    let two = two_arguments c.args.args.now c.index-args-0.result c.index-args-1.result c.requires c.index-args-0.is c.index-args-1.is in
    rw two at c.in_ok-shape.ensures.0

form : (c : In_ok-shape) → form_of c.in_ok-shape.shape.items c.in_ok-shape.item_type ≡ form_of (transposed_shape (axes_to c.index-args-0.result) c.index-args-1.result.shape) c.index-args-1.result.item_type
form c =
    let a = c.index-args-0.result in
    let b = c.index-args-1.result in
    let lengths = gives (nat_eq (length a.items) (length b.shape)) _ _ _ (gives (is_list a) _ _ _ (passed c)).is in
    limited_gives (transposed_shape (axes_to a) b.shape) b.item_type _ (gives (counts_as_numbers a && are_axes (numbers a)) _ _ _ lengths.is).is

pub invariant_of-gathered-clause-passed : goal.invariant_of-gathered-clause-passed
invariant_of-gathered-clause-passed c = let here = (goal.at.invariant_of-gathered-clause-passed c).In_ok-shape in passed here ∙ ap (λ f. Ok f) (form here)

pub invariant_of-gathered-clause-step_is : goal.invariant_of-gathered-clause-step_is
invariant_of-gathered-clause-step_is c =
    let here = (goal.at.invariant_of-gathered-clause-step_is c).In_ok-shape in
    let a = c.index-args-0.result in
    let b = c.index-args-1.result in
    let lengths : c.as_slice-lengths.result.now ≡ b.shape = c.as_slice-lengths.ensures ∙ c.shape.ensures.is in
    let last : c.saturating_sub-last.result ≡ length (transposed_shape (axes_to a) b.shape) - 1 = c.saturating_sub-last.ensures ∙ ap (λ n. n - 1) c.len.ensures.value ∙ ap (λ f. length f.shape - 1) (form here) in
    λ some. rw (lengths, last) at c.stride_to.ensures some
