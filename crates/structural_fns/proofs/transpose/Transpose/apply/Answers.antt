use Rattle.std.proofs.Common.{◌≡◌, ◌∙◌, ap, reverse, Ok}
use Rattle.index_region.{specs.Checks.{form_of}, proofs.Passing.{one_argument, limited_gives}}
use Rattle.structural_fns.{specs.Transpose.{transpose_form}, proofs.transpose.Transpose.apply.Goals.{In_ok-shape}}
use Rattle.structural_fns.proofs.transpose.Transpose.apply.Goals as goal

-- the checks have passed
passed : (c : In_ok-shape) → transpose_form c.index-args-0.result ≡ Ok (form_of c.in_ok-shape.shape.items c.in_ok-shape.item_type)
passed c = let one = one_argument c.args.args.now c.index-args-0.result c.requires c.index-args-0.is in rw one at c.in_ok-shape.ensures.0

form : (c : In_ok-shape) → form_of c.in_ok-shape.shape.items c.in_ok-shape.item_type ≡ form_of (reverse c.index-args-0.result.shape) c.index-args-0.result.item_type
form c = let b = c.index-args-0.result in limited_gives (reverse b.shape) b.item_type _ (passed c)

pub invariant_of-transposed-clause-passed : goal.invariant_of-transposed-clause-passed
invariant_of-transposed-clause-passed c = let here = (goal.at.invariant_of-transposed-clause-passed c).In_ok-shape in passed here ∙ ap (λ f. Ok f) (form here)
