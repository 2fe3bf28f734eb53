use Rattle.{std.proofs.Common.{◌≡◌, ◌∙◌, ◌||◌, ap, subst, suc, nat_eq, bytes_eq, remove, length, Ok}, arrays_core.specs.Arrays.{IsAnswerTo}, function_names.specs.Axes.{is_axis, axis_at}}
use Rattle.index_region.{specs.Checks.{form_of}, specs.Arguments.{has_one_item, counts_as_numbers}, proofs.Arguments.{whole_of_two}, proofs.Passing.{two_arguments, gives, limited_gives}}
use Rattle.structural_fns.{specs.Rotate.{rotate_form, rotate_item}, proofs.rotate.Rotate.apply.Goals.{In_ok-shape}}
use Rattle.structural_fns.proofs.rotate.Rotate.apply.Goals as goal

pub returns-then-places-ne1 : goal.returns-then-places-ne1
returns-then-places-ne1 c =
    subst (λ w. IsAnswerTo w c.apply_rows.result) (whole_of_two (rotate_form c.args.self.now.along) (rotate_item c.args.self.now.along) c.args.args.now c.requires) c.apply_rows.ensures

-- the checks have passed
passed : (c : In_ok-shape) → rotate_form c.args.self.now.along c.index-args-0.result c.index-args-1.result ≡ Ok (form_of c.in_ok-shape.shape.items c.in_ok-shape.item_type)
passed c =
    let two = two_arguments c.args.args.now c.index-args-0.result c.index-args-1.result c.requires c.index-args-0.is c.index-args-1.is in
    rw two at c.in_ok-shape.ensures.0

form : (c : In_ok-shape) → form_of c.in_ok-shape.shape.items c.in_ok-shape.item_type ≡ form_of c.index-args-1.result.shape c.index-args-1.result.item_type
form c =
    let a = c.index-args-0.result in
    let b = c.index-args-1.result in
    let axis = axis_at (length b.shape) c.args.self.now.along in
    let there = gives (is_axis (length b.shape) c.args.self.now.along) _ _ _ (passed c) in
    let ranks = gives (has_one_item a || nat_eq (suc (length a.shape)) (length b.shape)) _ _ _ there.is in
    let shapes = gives (has_one_item a || bytes_eq a.shape (remove b.shape axis)) _ _ _ ranks.is in
    limited_gives b.shape b.item_type _ (gives (counts_as_numbers a) _ _ _ shapes.is).is

pub invariant_of-rotated-clause-passed : goal.invariant_of-rotated-clause-passed
invariant_of-rotated-clause-passed c = let here = (goal.at.invariant_of-rotated-clause-passed c).In_ok-shape in passed here ∙ ap (λ f. Ok f) (form here)
