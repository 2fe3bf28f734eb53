use Rattle.std.proofs.Common.{◌≡◌, ◌∙◌, ◌<◌, ℕ, List, ◌∷◌, [], ap, subst, sym, length, Ok, arith}
use Rattle.std.proofs.lemmas.Bool.Decides.{nat_tests}
use Rattle.{arrays_core.specs.Arrays.{ArrayValue, IsAnswerTo}, index_region.{specs.Arguments.{numbers}, specs.Checks.{form_of}, proofs.Arguments.{whole_of_two}, proofs.Passing.{two_arguments}}}
use Rattle.structural_fns.{specs.AxisCounts.{counted_shape}, specs.Drop.{drop_form, drop_item, dropped_shape}, specs.Part.{AreBeforeKept}, proofs.CountedParts.{CountsPassed, counts_passed, counts_of_axes, axes_counted, kept_is_part, kept_part}, proofs.drop_places.DropPlaces.apply.Goals.{After-places_before_kept-before}}
use Rattle.structural_fns.proofs.drop_places.DropPlaces.apply.Goals as goal

pub returns-then-is_empty : goal.returns-then-is_empty
returns-then-is_empty c = subst (λ w. IsAnswerTo w c.apply.result) (whole_of_two drop_form drop_item c.args.args.now c.requires) c.apply.ensures

module _ (c : After-places_before_kept-before) where
  abbrev a : ArrayValue
  a = c.index-args-0.result

  abbrev b : ArrayValue
  b = c.index-args-1.result

  abbrev left : List ℕ
  left = dropped_shape (counted_shape a b) (numbers a)

  -- there are two arguments
  two : c.args.args.now ≡ a ∷ b ∷ []
  two = two_arguments c.args.args.now a b c.requires c.index-args-0.is c.index-args-1.is

  -- the checks have passed
  form : drop_form a b ≡ Ok (form_of c.in_ok-shape.shape.items c.in_ok-shape.field-0-1)
  form = rw two at c.in_ok-shape.ensures.0

  passed : CountsPassed left a b c.in_ok-shape.shape.items c.in_ok-shape.field-0-1
  passed = counts_passed left a b c.in_ok-shape.shape.items c.in_ok-shape.field-0-1 form

  axes : c.as_slice.result.now ≡ b.shape
  axes = c.as_slice.ensures ∙ c.shape-axes.ensures.is

  some : 0 < length b.shape
  some =
      let same : length c.shape-axes.result.now.items ≡ length b.shape = ap length c.shape-axes.ensures.is in
      let test = c.if-is_empty.false in
      grind (arith, nat_tests)

  counts : length a.items ≡ length b.shape
  counts = counts_of_axes a b some passed.long

  before : AreBeforeKept b.shape (numbers a) c.places_before_kept-before.result.items
  before = rw axes at c.places_before_kept-before.ensures

  shaped : c.in_ok-shape.shape.items ≡ dropped_shape b.shape (numbers a)
  shaped = passed.shaped ∙ ap (λ s. dropped_shape s (numbers a)) (axes_counted a b some)

pub part_of-requires-clause-part : goal.part_of-requires-clause-part
part_of-requires-clause-part c =
    let here = (goal.at.part_of-requires-clause-part c).After-places_before_kept-before in
    rw (c.as_slice-2.ensures, shaped here) (kept_is_part (a here) (b here) _ (counts here) (before here))

pub returns : goal.returns
returns c =
    let here = (goal.at.returns c).After-places_before_kept-before in
    rw (two here)
    (subst (λ w. IsAnswerTo w c.part_of.result) (sym (kept_part (a here) (b here) c.places_before_kept-before.result.items (counts here) (before here) (some here) c.in_ok-shape.shape.items c.in_ok-shape.field-0-1 (form here) (passed here).typed (shaped here)))
    (rw c.as_slice-2.ensures at c.part_of.ensures))
