-- Numbers of an array at places, and the items there.
use Rattle.std.proofs.Common.{◌≡◌, ℕ, zero, suc, List, [], ◌∷◌, map, get_or, ℤ, pos, refl, ap, ◌∙◌}
use Rattle.arrays_core.{specs.declared.item.Item.{Item}, specs.declared.item.Item.TheVariants.{Num}, specs.declared.item.ItemType.{ItemType}, specs.declared.item.ItemType.TheVariants.{Nums}, specs.Items.{fill}}

-- the items at places of an array of numbers
pub items_at : (item_type : ItemType) (items : List Item) (ns : List ℤ) → item_type ≡ Nums → items ≡ map (λ z. Num z) ns → (xs : List ℕ)
    → map (λ k. get_or items k (fill item_type)) xs ≡ map (λ z. Num z) (map (λ k. get_or ns k (pos 0)) xs)
items_at item_type items ns typed are [] = refl
items_at item_type items ns typed are (k ∷ xs) =
    ap (λ (x : Item). x ∷ map (λ j. get_or items j (fill item_type)) xs) here ∙ ap (λ (t : List Item). Num (get_or ns k (pos 0)) ∷ t) (items_at item_type items ns typed are xs)
  where
    read : (zs : List ℤ) (j : ℕ) → get_or (map (λ z. Num z) zs) j (Num (pos 0)) ≡ Num (get_or zs j (pos 0))
    read [] j = refl
    read (z ∷ zs) zero = refl
    read (z ∷ zs) (suc j) = read zs j

    here : get_or items k (fill item_type) ≡ Num (get_or ns k (pos 0))
    here = ap (λ (t : List Item). get_or t k (fill item_type)) are ∙ ap (λ (t : ItemType). get_or (map (λ z. Num z) ns) k (fill t)) typed ∙ read ns k
