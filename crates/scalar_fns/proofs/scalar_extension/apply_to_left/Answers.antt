use Rattle.{std.{proofs.Common.{◌≡◌, [], ◌∷◌, w64, to_z, of_z, rules}, proofs.lemmas.Int.{to_z-of_z}}, arrays_core.specs.Arrays.{scalar_of}}
use Rattle.scalar_fns.{proofs.Joint.{IsOfNumbers, plain_arrays}, proofs.Scalars.{common_left, of_number}}
use Rattle.scalar_fns.proofs.scalar_extension.apply_to_left.Goals as goal

pub returns-in-Some : goal.returns-in-Some
returns-in-Some c =
    let b = c.args.right.now in
    let is_b : IsOfNumbers b c.in-Some.numbers.now = record { items = c.in-Some.ensures.is.1; long = c.shape.ensures.sound.one_item_a_place } in
    let same : to_z w64 (of_z w64 c.args.left) ≡ c.args.left = to_z-of_z w64 _ (search rules) in
    rw (plain_arrays (scalar_of c.args.left) b (c.args.left ∷ []) c.in-Some.numbers.now b.shape record { left = of_number c.args.left; right = is_b; shared = common_left b.shape }
    c.args.function)
    (rw (c.shape.ensures.is, same) at c.apply_to_number_lists.ensures)
