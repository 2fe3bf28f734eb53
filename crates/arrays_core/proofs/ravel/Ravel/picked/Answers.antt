use Rattle.std.{proofs.Common.{ℕ, List, map, pos, ap, ◌∙◌}, specs.Prelude.{ℤ}}
use Rattle.arrays_core.{specs.declared.item.Item.TheVariants.{Num, Char}, proofs.Picks.{picked_map}}
use Rattle.arrays_core.proofs.ravel.Ravel.picked.Goals as goal

pub returns-in_ok-picked-in-Nums-clause-items : goal.returns-in_ok-picked-in-Nums-clause-items
returns-in_ok-picked-in-Nums-clause-items c =
    rw (← c.lent.ensures.items, ← c.lent.ensures.typed, c.in-Nums.is)
    (ap (λ (xs : List ℤ). map (λ (z : ℤ). Num z) xs) c.in_ok-picked-in-Nums.ensures ∙ picked_map (λ (z : ℤ). Num z) c.in-Nums.numbers.now (pos 0) c.args.before.now)

pub returns-in_ok-picked-in-Chars-clause-items : goal.returns-in_ok-picked-in-Chars-clause-items
returns-in_ok-picked-in-Chars-clause-items c =
    rw (← c.lent.ensures.items, ← c.lent.ensures.typed, c.in-Chars.is)
    (ap (λ (xs : List ℕ). map (λ (z : ℕ). Char z) xs) c.in_ok-picked-in-Chars.ensures ∙ picked_map (λ (z : ℕ). Char z) c.in-Chars.characters.now 32 c.args.before.now)
