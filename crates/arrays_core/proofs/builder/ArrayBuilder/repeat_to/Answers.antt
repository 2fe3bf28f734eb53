use Rattle.std.proofs.Common.{ap, sym, ◌∙◌, pos}
use Rattle.arrays_core.{specs.declared.item.Item.TheVariants.{Num, Char}, specs.Items.{fill}, specs.Ravels.{list_items, list_type}, proofs.Building.{put_again}, proofs.builder.ArrayBuilder.repeat_to.Goals.{in-Nums, in-Chars}}
use Rattle.arrays_core.proofs.builder.ArrayBuilder.repeat_to.Goals as goal

pub returns-clause-items : goal.returns-clause-items
returns-clause-items c =
    elim c.match-self.branch [
      | in-Nums w ↦
          put_again (λ z. Num z) _ _ _ _ _ _ _ (pos 0) _ w.repeat_to.ensures w.result-is (ap (λ i. list_items i.list) w.self-inside-is)
          (ap (λ v. v.items) (sym c.self.view_is) ∙ ap list_items w.in-Nums.is) (ap (λ v. fill v.item_type) (sym c.self.view_is) ∙ ap (λ r. fill (list_type r)) w.in-Nums.is)
      | in-Chars w ↦
          put_again (λ z. Char z) _ _ _ _ _ _ _ 32 _ w.repeat_to-in-Chars.ensures w.result-is (ap (λ i. list_items i.list) w.self-inside-is)
          (ap (λ v. v.items) (sym c.self.view_is) ∙ ap list_items w.in-Chars.is) (ap (λ v. fill v.item_type) (sym c.self.view_is) ∙ ap (λ r. fill (list_type r)) w.in-Chars.is)
    ]
