use Rattle.std.proofs.Common.{◌≡◌, ap, sym, ◌∙◌}
use Rattle.arrays_core.{specs.declared.item.ItemType.TheVariants.{Nums, Chars}, specs.Ravels.{lent_type, ravel_items, ravel_type}, proofs.Growing.{nothing_behind}, proofs.Sound.{one_type}}
use Rattle.arrays_core.proofs.ravel.Ravel.append.Goals as goal

pub returns-in_default-clause-items : goal.returns-in_default-clause-items
returns-in_default-clause-items c =
    let self = c.args.self.now in
    let more = c.args.more.now in
    nothing_behind (ravel_type self) (ravel_type more) _ (ravel_items self) (ravel_items more) (ap ravel_items c.in-Nums.is) c.requires.typed (one_type more)
    (λ h. let no : Nums ≡ Chars = sym (ap ravel_type c.in-Nums.is) ∙ h ∙ (sym c.lent.ensures.typed ∙ ap lent_type c.in_default.is) in let absurd_it : ⊥ = cc in absurd_it)

pub returns-in_default-lent-clause-items : goal.returns-in_default-lent-clause-items
returns-in_default-lent-clause-items c =
    let self = c.args.self.now in
    let more = c.args.more.now in
    let second : ravel_type more ≡ Nums = sym c.lent-in-Chars.ensures.typed ∙ ap lent_type c.in_default-lent.is in
    nothing_behind (ravel_type self) (ravel_type more) _ (ravel_items self) (ravel_items more) (ap ravel_items c.in-Chars.is) c.requires.typed (one_type more)
    (λ h. let no : Chars ≡ Nums = sym (ap ravel_type c.in-Chars.is) ∙ h ∙ second in let absurd_it : ⊥ = cc in absurd_it)
