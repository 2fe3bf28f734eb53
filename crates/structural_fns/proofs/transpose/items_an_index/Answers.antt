use Rattle.std.{proofs.Common.{◌≡◌, ◌<◌, ◌∙◌, ap, length, arith}, proofs.lemmas.Bool.Decides.{nat_tests}}
use Rattle.structural_fns.proofs.SteppedRows.{first_axis}
use Rattle.structural_fns.proofs.transpose.items_an_index.Goals as goal

pub returns : goal.returns
returns c =
    let shape = c.args.array.now.shape in
    let axes : c.as_slice-axes.result.now ≡ shape = c.as_slice-axes.ensures ∙ c.shape.ensures.is in
    let same : length c.as_slice-axes.result.now ≡ length shape = ap length axes in
    let test = c.if-is_empty.false in
    let there : 0 < length shape = grind (arith, nat_tests) in
    λ some. rw (c.places.ensures.size, c.max.ensures, axes) (first_axis shape there some)
