use Rattle.std.{proofs.Common.{ap, sym, ◌∙◌, arith}, proofs.lemmas.Int.{ints}}
use Rattle.arrays_core.{specs.declared.item.Item.TheVariants.{Num, Char}, specs.Ravels.{list_items}, proofs.Building.{put_same}, proofs.builder.ArrayBuilder.extend_with.Goals.{in-Nums+in-Num, in-Chars+in-Char-item}}
use Rattle.arrays_core.proofs.builder.ArrayBuilder.extend_with.Goals as goal

pub returns-clause-items : goal.returns-clause-items
returns-clause-items c =
    elim c.match-self.branch [
      | in-Nums+in-Num w ↦
          put_same (λ z. Num z) _ _ _ _ _ _ _ _ _ w.extend_with.ensures w.result-is (ap (λ i. list_items i.list) w.self-inside-is)
          (ap (λ v. v.items) (sym c.self.view_is) ∙ ap list_items w.in-Nums.is) (w.in-Num.is ∙ ap (λ z. Num z) (sym (omega (arith, ints))))
      | in-Chars+in-Char-item w ↦
          put_same (λ z. Char z) _ _ _ _ _ _ _ _ _ w.extend_with-in-Char-item.ensures w.result-is (ap (λ i. list_items i.list) w.self-inside-is)
          (ap (λ v. v.items) (sym c.self.view_is) ∙ ap list_items w.in-Chars.is) w.in-Char-item.is
    ]
