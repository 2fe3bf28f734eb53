use Rattle.{std.proofs.Common.{◌∙◌, length, ap, arith}, scalar_fns.proofs.Extended.{found, one_alone, alone}}
use Rattle.scalar_fns.proofs.scalar_extension.extended_item.Goals as goal

pub returns-in-Some : goal.returns-in-Some
returns-in-Some c = found c.args.array.now c.args.index.now c.in-Some.item c.in-Some.ensures.is

pub item-requires-clause-high : goal.item-requires-clause-high
item-requires-clause-high c =
    let long = c.len.ensures.value ∙ ap length c.shape-shape.ensures.is in
    omega (arith, one_alone c.args.array.now c.args.index.now c.requires (λ same. c.if-len-index.true (long ∙ same)), c.shape-shape.ensures.sound.one_item_a_place)

pub returns-then-len-index : goal.returns-then-len-index
returns-then-len-index c =
    c.item.ensures.is ∙ alone c.args.array.now c.args.index.now c.requires (λ same. c.if-len-index.true ((c.len.ensures.value ∙ ap length c.shape-shape.ensures.is) ∙ same))
