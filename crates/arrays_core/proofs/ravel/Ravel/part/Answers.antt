use Rattle.std.{proofs.Common.{◌≡◌, ◌∙◌, ◌+◌, ◌-◌, ℕ, List, map, take, drop, refl, sym, ap, arith}, specs.Prelude.{ℤ}, proofs.lemmas.List.{take-map, drop-map}, proofs.lemmas.Result.{IfOk-weaker}}
use Rattle.arrays_core.{specs.declared.item.Item.TheVariants.{Num, Char}, specs.Ravels.{lent_items}}
use Rattle.arrays_core.proofs.ravel.Ravel.part.Goals as goal

-- a part of a list, item by item
part_of : {A B : Type 0} (f : A → B) (places skipped : ℕ) (xs : List A) → map f (take places (drop skipped xs)) ≡ take places (drop skipped (map f xs))
part_of f places skipped xs = sym (take-map f places (drop skipped xs)) ∙ ap (λ ys. take places ys) (sym (drop-map f skipped xs))

-- a part with a given end
made_of : {A B : Type 0} (f : A → B) (places skipped : ℕ) (made lent : List A) → made ≡ take (skipped + places - skipped) (drop skipped lent) → map f made ≡ take places (drop skipped (map f lent))
made_of f places skipped made lent is = ap (λ ys. map f ys) (is ∙ ap (λ n. take n (drop skipped lent)) (omega arith)) ∙ part_of f places skipped lent

pub returns-in-Nums-clause-items : goal.returns-in-Nums-clause-items
returns-in-Nums-clause-items c =
    IfOk-weaker c.of_numbers.result _ _
    (λ r is. is ∙ made_of (λ (z : ℤ). Num z) c.args.places c.args.skipped _ c.in-Nums.numbers.now refl ∙ ap (λ ys. take c.args.places (drop c.args.skipped ys)) (ap lent_items (sym c.in-Nums.is) ∙ c.lent.ensures.items))
    c.of_numbers.ensures.items

pub returns-in_ok-copied-in-Chars-clause-items : goal.returns-in_ok-copied-in-Chars-clause-items
returns-in_ok-copied-in-Chars-clause-items c =
    rw (← c.lent.ensures.items, c.in-Chars.is) (made_of (λ (z : ℕ). Char z) c.args.places c.args.skipped _ c.in-Chars.characters.now c.in_ok-copied-in-Chars.ensures)
