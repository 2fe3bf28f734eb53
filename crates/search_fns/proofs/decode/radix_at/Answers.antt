use Rattle.{std.{proofs.Common.{◌≢◌, ◌∙◌, w64, arith}, proofs.lemmas.Int.{to_z-of_z}}, arrays_core.specs.Shapes.{size}, search_fns.proofs.Worths.{radix_there}}
use Rattle.search_fns.proofs.decode.radix_at.Goals as goal

pub returns-else-places-eq1 : goal.returns-else-places-eq1
returns-else-places-eq1 c =
    let many : size c.args.radices.now.shape ≢ 1 = omega (arith, c.if-places-eq1.false, c.places.ensures.size) in
    (to_z-of_z w64 _ (record { sfits = c.number-else-places-eq1.type_inv })) ∙ c.number-else-places-eq1.ensures ∙ radix_there c.args.radices.now c.args.k c.requires.list many
