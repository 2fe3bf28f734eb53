-- Right folds of items that are numbers.
use Rattle.std.{proofs.Common.{◌≡◌, ◌<◌, List, [], ◌∷◌, length, map, refl, ap, ◌∙◌, arith, ℤ, Result, Ok, Err}, proofs.lemmas.List.{length-map}}
use Rattle.arrays_core.{specs.declared.item.Item.{Item}, specs.declared.item.Item.TheVariants.{Num}, specs.declared.item.Kind.{Kind}, specs.Items.{and_then}}
use Rattle.function_names.specs.declared.scalar.Scalar2.{Scalar2}
use Rattle.item_fns.{specs.Numbers.{dyadic_on_numbers}, specs.Items.{dyadic_on_items, number_item}, specs.Folds.{folded}, specs.RightFold.{fold_right}}

pub some_folded : (f : Scalar2) (xs : List Item) → 0 < length xs → fold_right f xs ≡ folded (dyadic_on_items f) xs
some_folded f [] h = absurd (omega arith)
some_folded f (x ∷ []) h = refl
some_folded f (x ∷ y ∷ xs) h = ap (λ r. and_then r (dyadic_on_items f x)) (some_folded f (y ∷ xs) (omega arith))

folded_one : (f : Scalar2) (z : ℤ) (r : Result ℤ Kind) → and_then (number_item r) (dyadic_on_items f (Num z)) ≡ number_item (and_then r (dyadic_on_numbers f z))
folded_one f z (Ok y) = refl
folded_one f z (Err k) = refl

pub folded_numbers : (f : Scalar2) (zs : List ℤ) → folded (dyadic_on_items f) (map (λ z. Num z) zs) ≡ number_item (folded (dyadic_on_numbers f) zs)
folded_numbers f [] = refl
folded_numbers f (z ∷ []) = refl
folded_numbers f (z ∷ y ∷ zs) = ap (λ r. and_then r (dyadic_on_items f (Num z))) (folded_numbers f (y ∷ zs)) ∙ folded_one f z (folded (dyadic_on_numbers f) (y ∷ zs))

-- the reduction of items that are numbers
pub number_items_folded : (f : Scalar2) (zs : List ℤ) → 0 < length zs → fold_right f (map (λ z. Num z) zs) ≡ number_item (folded (dyadic_on_numbers f) zs)
number_items_folded f zs some = some_folded f (map (λ z. Num z) zs) (omega (arith, some, length-map zs (λ z. Num z))) ∙ folded_numbers f zs
