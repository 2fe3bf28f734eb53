use Rattle.std.{proofs.Common.{◌∙◌, ◌-◌, ◌<◌, pos, length, ap, sym, arith, rules, w64}, proofs.lemmas.Int.{to_z-of_z}, proofs.lemmas.List.{get_or-map}}
use Rattle.index_region.specs.Arguments.{number_of}
use Rattle.index_region.proofs.seen.Seen.number.Goals as goal

pub returns-in-Num : goal.returns-in-Num
returns-in-Num c =
    let items = c.args.self.now.items in
    let below : c.args.position - 1 < length items = omega (arith, c.requires.low, c.requires.high) in
    let item = sym c.in-Num.is ∙ c.item.ensures.is in
    to_z-of_z w64 c.in-Num.number (search rules) ∙ ap number_of item ∙ sym (get_or-map number_of items (c.args.position - 1) _ (pos 0) below)
