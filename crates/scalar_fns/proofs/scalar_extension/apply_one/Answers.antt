use Rattle.scalar_fns.proofs.Joint.{IsOfNumbers, plain_array}
use Rattle.scalar_fns.proofs.scalar_extension.apply_one.Goals as goal

pub returns-in-Some : goal.returns-in-Some
returns-in-Some c =
    let xs = c.in-Some.numbers.now in
    let is : IsOfNumbers c.args.array.now xs = record { items = c.in-Some.ensures.is.1; long = c.shape-shape.ensures.sound.one_item_a_place } in
    rw (plain_array c.args.function c.args.array.now xs is, ← c.shape-shape.ensures.is) c.apply_to_numbers.ensures
