use Rattle.{std.{proofs.Common.{◌+◌, ◌≤◌, length, drop, ap, rules, arith}, proofs.lemmas.List.{length-drop}}, arrays_core.proofs.Shapes.{as_long}}
use Rattle.search_fns.proofs.decode.digit_at.Goals as goal

pub append_axes-requires : goal.append_axes-requires
append_axes-requires c =
    let long = as_long (drop 1 c.args.array.now.shape) c.args.index.now (search rules) in
    let fewer = length-drop 1 c.args.array.now.shape in
    let one = ap length c.shape_of-at.ensures.items in
    let few : length c.shape_of-at.result.items + length c.args.index.now ≤ 4 = omega (arith, c.shape-shape.ensures.sound.within.rank) in
    omega (arith, c.shape_of-at.ensures.inline)
