use Rattle.{std.{proofs.Common.{◌≡◌, [], ◌∷◌, w64, to_z, of_z, rules}, proofs.lemmas.Int.{to_z-of_z}}, arrays_core.specs.Arrays.{scalar_of}}
use Rattle.scalar_fns.{proofs.Joint.{IsOfNumbers, plain_arrays}, proofs.Scalars.{common_right, of_number}}
use Rattle.scalar_fns.proofs.scalar_extension.apply_to_right.Goals as goal

pub returns-in-Some : goal.returns-in-Some
returns-in-Some c =
    let a = c.args.left.now in
    let is_a : IsOfNumbers a c.in-Some.numbers.now = record { items = c.in-Some.ensures.is.1; long = c.shape.ensures.sound.one_item_a_place } in
    let same : to_z w64 (of_z w64 c.args.right) ≡ c.args.right = to_z-of_z w64 _ (search rules) in
    rw (plain_arrays a (scalar_of c.args.right) c.in-Some.numbers.now (c.args.right ∷ []) a.shape
    record { left = is_a; right = of_number c.args.right; shared = common_right a.shape } c.args.function)
    (rw (c.shape.ensures.is, same) at c.apply_to_number_lists.ensures)
