use Rattle.scalar_fns.{proofs.Joint.{AreOfNumbers, plain_arrays, places_are, both_fit}, proofs.scalar_extension.apply_two.Goals.{In-Some-numbers}}
use Rattle.scalar_fns.proofs.scalar_extension.apply_two.Goals as goal

-- the arrays have numbers and a common shape
joint : (c : In-Some-numbers) → AreOfNumbers c.args.left.now c.args.right.now c.in-Some.numbers.now c.in-Some-numbers.others.now c.in_ok-shape.shape.items
joint c = record {
  left = record { items = c.in-Some.ensures.is.1; long = c.shape.ensures.sound.one_item_a_place };
  right = record { items = c.in-Some-numbers.ensures.is.1; long = c.shape-2.ensures.sound.one_item_a_place };
  shared = rw (c.shape.ensures.is, c.shape-2.ensures.is) at c.in_ok-shape.ensures.0;
}

pub apply_to_number_lists-requires-clause-fit : goal.apply_to_number_lists-requires-clause-fit
apply_to_number_lists-requires-clause-fit c = both_fit _ _ _ _ _ (joint (goal.at.apply_to_number_lists-requires-clause-fit c).In-Some-numbers)

pub apply_to_number_lists-requires-clause-long : goal.apply_to_number_lists-requires-clause-long
apply_to_number_lists-requires-clause-long c = places_are _ _ _ _ _ (joint (goal.at.apply_to_number_lists-requires-clause-long c).In-Some-numbers)

pub returns-in-Some-numbers : goal.returns-in-Some-numbers
returns-in-Some-numbers c = rw (plain_arrays _ _ _ _ _ (joint (goal.at.returns-in-Some-numbers c).In-Some-numbers) c.args.function) c.apply_to_number_lists.ensures
