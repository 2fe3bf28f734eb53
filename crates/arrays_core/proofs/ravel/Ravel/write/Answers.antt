use Rattle.std.{proofs.Common.{◌≡◌, length, w64, refl, ap, arith, rules}, proofs.lemmas.Int.{to_z-of_z}, proofs.lemmas.List.{map-set}}
use Rattle.arrays_core.{specs.declared.item.Item.TheVariants.{Num, Char}, specs.Ravels.{ravel_items}}
use Rattle.arrays_core.proofs.ravel.Ravel.write.Goals as goal

pub returns-in-Num-clause-items : goal.returns-in-Num-clause-items
returns-in-Num-clause-items c =
    let first : c.args.place ≡ 0 = omega (arith, ap (λ r. length (ravel_items r)) c.in-One.is, c.requires.inside) in
    rw (to_z-of_z w64 c.in-Num.number (search rules), c.in-Num.is, c.in-One.is, first) refl

pub returns-in-Num-item-clause-items : goal.returns-in-Num-item-clause-items
returns-in-Num-item-clause-items c =
    rw (to_z-of_z w64 c.in-Num-item.number (search rules), c.in-Num-item.is, c.in-Nums.is) (map-set (λ z. Num z) c.in-Nums.numbers.items c.args.place c.in-Num-item.number)

pub returns-in-Char-clause-items : goal.returns-in-Char-clause-items
returns-in-Char-clause-items c = rw (c.in-Char.is, c.in-Chars.is) (map-set (λ z. Char z) c.in-Chars.characters.items c.args.place c.in-Char.character)
