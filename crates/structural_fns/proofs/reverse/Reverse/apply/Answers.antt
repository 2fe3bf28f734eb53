use Rattle.std.proofs.Common.{◌≡◌, ◌∙◌, ap, length, Ok}
use Rattle.{function_names.specs.Axes.{is_axis}, index_region.{specs.Checks.{form_of}, proofs.Passing.{one_argument, gives, limited_gives}}}
use Rattle.structural_fns.{specs.Reverse.{reverse_form}, proofs.reverse.Reverse.apply.Goals.{In_ok-shape}}
use Rattle.structural_fns.proofs.reverse.Reverse.apply.Goals as goal

-- the checks have passed
passed : (c : In_ok-shape) → reverse_form c.args.self.now.along c.index-args-0.result ≡ Ok (form_of c.in_ok-shape.shape.items c.in_ok-shape.item_type)
passed c = let one = one_argument c.args.args.now c.index-args-0.result c.requires c.index-args-0.is in rw one at c.in_ok-shape.ensures.0

form : (c : In_ok-shape) → form_of c.in_ok-shape.shape.items c.in_ok-shape.item_type ≡ form_of c.index-args-0.result.shape c.index-args-0.result.item_type
form c =
    let b = c.index-args-0.result in
    limited_gives b.shape b.item_type _ (gives (is_axis (length b.shape) c.args.self.now.along) _ _ _ (passed c)).is

pub invariant_of-reversed-clause-passed : goal.invariant_of-reversed-clause-passed
invariant_of-reversed-clause-passed c = let here = (goal.at.invariant_of-reversed-clause-passed c).In_ok-shape in passed here ∙ ap (λ f. Ok f) (form here)
