-- Results of numbers, computed from the items of an argument one by one.
use Rattle.std.{proofs.Common.{◌≡◌, ℕ, List, length, get_or, map, ℤ, Result, Ok, ap, sym, ◌∙◌}, proofs.lemmas.List.{length-map}, proofs.Math.ListN.{get_or-map}, proofs.lemmas.Simd.{map-map}}
use Rattle.arrays_core.{specs.declared.item.Item.{Item}, specs.declared.item.Item.TheVariants.{Num}, specs.declared.item.ItemType.{ItemType}, specs.declared.item.ItemType.TheVariants.{Nums}, specs.declared.item.Kind.{Kind}, specs.Items.{fill, and_then}, specs.Shapes.{size}}
use Rattle.arrays_core.{specs.Arrays.{ArrayValue, item_of, collect, with_items}, proofs.Order.{given_in_order, places_before-index_after}}
use Rattle.index_region.specs.Checks.{form_of, Form, whole}

module _ (f : Item → ℤ) (b : ArrayValue) (one_item_a_place : length b.items ≡ size b.shape) where
  abbrev at : List ℕ → Result Item Kind
  at index = Ok (Num (f (item_of b index)))

  abbrev made : Item → Item
  made x = Num (f x)

  in_order : collect Nums b.shape at ≡ Ok (record { item_type = Nums; shape = b.shape; items = map made b.items })
  in_order =
      ap (with_items Nums b.shape) (given_in_order b.shape at (map made b.items) (made (fill b.item_type)) (length-map b.items made ∙ one_item_a_place) (λ k h.
      ap (λ n. Ok (made (get_or b.items n (fill b.item_type)))) (places_before-index_after b.shape k h)
      ∙ ap (λ (x : Item). Ok x) (sym (get_or-map made b.items k (fill b.item_type)))))

  -- the array of the numbers of a function of the items of b
  pub flat_whole : (form : Result Form Kind) (shape : List ℕ) (item_type : ItemType) (zs : List ℤ) → form ≡ Ok (form_of shape item_type) → shape ≡ b.shape → item_type ≡ Nums
      → zs ≡ map f b.items → whole form at ≡ Ok (record { item_type = Nums; shape = shape; items = map (λ z. Num z) zs })
  flat_whole form shape item_type zs is shaped typed gives =
      ap (λ r. and_then r (λ g. collect g.item_type g.shape at)) (is ∙ ap (λ t. Ok (form_of shape t)) typed ∙ ap (λ s. Ok (form_of s Nums)) shaped)
      ∙ in_order
      ∙ ap (λ xs. Ok (record { item_type = Nums; shape = b.shape; items = xs })) (sym (ap (map (λ z. Num z)) gives ∙ map-map (λ z. Num z) f b.items))
      ∙ ap (λ s. Ok (record { item_type = Nums; shape = s; items = map (λ z. Num z) zs })) (sym shaped)
