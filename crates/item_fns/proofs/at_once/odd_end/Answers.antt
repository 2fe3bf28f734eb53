use Rattle.std.{proofs.Common.{◌∙◌, ◌-◌, ap, sym, get_or, pos, length, drop, arith, w64, SFits, rules}, proofs.lemmas.Int.{to_z-of_z}, proofs.lemmas.List.{drop_all}}
use Rattle.item_fns.{specs.AtOnce.{in_turn}, proofs.Differences.{last_alone}}
use Rattle.item_fns.proofs.at_once.odd_end.Goals as goal

pub returns-then-numbers-eq1 : goal.returns-then-numbers-eq1
returns-then-numbers-eq1 c =
    let xs = c.args.numbers.now in
    let k = length xs - 1 in
    let fits : SFits w64 (get_or xs k (pos 0)) = search rules in
    to_z-of_z w64 (get_or xs k (pos 0)) fits
    ∙ sym (ap (λ j. in_turn (drop j xs)) (omega (arith, c.if-numbers-eq1.true)) ∙ last_alone xs k (omega (arith, c.if-numbers-eq1.true)))

pub returns-else-numbers-eq1 : goal.returns-else-numbers-eq1
returns-else-numbers-eq1 c = sym (ap in_turn (drop_all _ c.args.numbers.now (omega (arith, c.if-numbers-eq1.false))))
