use Rattle.std.proofs.Common.{ap, sym, ◌∙◌, pos}
use Rattle.arrays_core.{specs.declared.item.Item.TheVariants.{Num, Char}, specs.Items.{fill}, specs.Ravels.{list_items}, proofs.Building.{put_picked}, proofs.builder.ArrayBuilder.extend_run.Goals.{in-Nums+in-Some, in-Chars+in-Some-characters}}
use Rattle.arrays_core.proofs.builder.ArrayBuilder.extend_run.Goals as goal

pub returns-clause-items : goal.returns-clause-items
returns-clause-items c =
    elim c.match-self.branch [
      | in-Nums+in-Some w ↦
          put_picked (λ z. Num z) _ _ _ _ _ _ _ _ _ _ (pos 0) _ w.extend_run.ensures w.result-is (ap (λ i. list_items i.list) w.self-inside-is)
          (ap (λ v. v.items) (sym c.self.view_is) ∙ ap list_items w.in-Nums.is) w.in-Some.ensures.is.1 (ap fill w.in-Some.ensures.is.0)
      | in-Chars+in-Some-characters w ↦
          put_picked (λ z. Char z) _ _ _ _ _ _ _ _ _ _ 32 _ w.extend_run-in-Some-characters.ensures w.result-is (ap (λ i. list_items i.list) w.self-inside-is)
          (ap (λ v. v.items) (sym c.self.view_is) ∙ ap list_items w.in-Chars.is) w.in-Some-characters.ensures.is.1 (ap fill w.in-Some-characters.ensures.is.0)
    ]
