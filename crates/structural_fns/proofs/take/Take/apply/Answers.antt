use Rattle.{std.proofs.Common.{◌≡◌, ◌∷◌, [], subst, sym, length, Ok}, arrays_core.specs.Arrays.{IsAnswerTo}, index_region.{specs.Arguments.{numbers}, specs.Checks.{form_of}, proofs.Arguments.{whole_of_two}, proofs.Passing.{two_arguments}}}
use Rattle.structural_fns.{specs.Take.{take_form, take_item}, specs.Reshape.{magnitudes}, specs.Part.{AreBeforeTaken}, proofs.CountedParts.{CountsPassed, counts_passed, counts_of_axes, taken_is_part, taken_part}, proofs.take.Take.apply.Goals.{In-Some}}
use Rattle.structural_fns.proofs.take.Take.apply.Goals as goal

-- there are two arguments
two : (c : In-Some) → c.args.args.now ≡ c.index-args-0.result ∷ c.index-args-1.result ∷ []
two c = two_arguments c.args.args.now c.index-args-0.result c.index-args-1.result c.requires c.index-args-0.is c.index-args-1.is

-- the checks have passed
form : (c : In-Some) → take_form c.index-args-0.result c.index-args-1.result ≡ Ok (form_of c.in_ok-shape.shape.items c.in_ok-shape.field-0-1)
form c = rw (two c) at c.in_ok-shape.ensures.0

passed : (c : In-Some) → CountsPassed (magnitudes c.index-args-0.result) c.index-args-0.result c.index-args-1.result c.in_ok-shape.shape.items c.in_ok-shape.field-0-1
passed c = counts_passed (magnitudes c.index-args-0.result) c.index-args-0.result c.index-args-1.result c.in_ok-shape.shape.items c.in_ok-shape.field-0-1 (form c)

-- no place is missing
before : (c : In-Some) → AreBeforeTaken c.index-args-1.result.shape (numbers c.index-args-0.result) c.in-Some.before.items
before c = c.in-Some.ensures

counts : (c : In-Some) → length c.index-args-0.result.items ≡ length c.index-args-1.result.shape
counts c = counts_of_axes c.index-args-0.result c.index-args-1.result (before c).some (passed c).long

pub part_of-requires-clause-part : goal.part_of-requires-clause-part
part_of-requires-clause-part c =
    let here = (goal.at.part_of-requires-clause-part c).In-Some in
    rw (c.as_slice.ensures, (passed here).shaped) (taken_is_part c.index-args-0.result c.index-args-1.result c.in-Some.before.items (counts here) (before here))

pub returns-in-Some : goal.returns-in-Some
returns-in-Some c =
    let here = (goal.at.returns-in-Some c).In-Some in
    rw (two here) (subst (λ w. IsAnswerTo w c.part_of.result) (sym (taken_part c.index-args-0.result c.index-args-1.result c.in-Some.before.items (counts here) (before here) c.in_ok-shape.shape.items c.in_ok-shape.field-0-1 (form here) (passed here).typed (passed here).shaped)) (rw c.as_slice.ensures at c.part_of.ensures))

pub returns : goal.returns
returns c = subst (λ w. IsAnswerTo w c.apply_rows.result) (whole_of_two take_form take_item c.args.args.now c.requires) c.apply_rows.ensures
