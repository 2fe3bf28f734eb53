-- Folds of the lines of trees, and results of their numbers.
use Rattle.std.{proofs.Common.{◌≡◌, ◌∙◌, ℕ, ◌<◌, ℤ, pos, Bool, true, false, List, [], ◌∷◌, ◌++◌, length, get_or, map, set, replicate, refl, ap, sym, arith, Result, Ok, Err, Some, None, if◌then◌else◌}, specs.Borrow.{Bor}, specs.List.{range_with_len}, proofs.lemmas.Bool.{cond-false}, proofs.lemmas.List.{length-append}}
use Rattle.arrays_core.{specs.declared.item.Item.TheVariants.{Num}, specs.declared.item.ItemType.TheVariants.{Nums}, specs.declared.item.Kind.{Kind}, specs.Arrays.{ArrayValue, collect, with_items}, specs.Items.{all_or_first_error}, specs.Shapes.{size, index_after, places_before}}
use Rattle.function_names.specs.declared.scalar.Scalar2.{Scalar2}
use Rattle.item_fns.{specs.Folds.{folded, line_start}, specs.Items.{number_item}, specs.NumberLists.{number_items}, specs.Numbers.{dyadic_on_numbers}, proofs.RightFolds.{length-strided}, proofs.ItemFolds.{number_items_folded}}
use Rattle.{index_region.{specs.Boxes.{is_within}, specs.Patches.{PatchValue}}, reduce_fns.proofs.Placewise.{numbers_collected}}
use Rattle.fold_trees.{specs.FoldTrees.{IsReductionBy}, specs.ArrayLines.{TreesValue, numbers_of_line}}
use Rattle.sum_rules.{specs.Summed.{number_in, total_at}, specs.declared.summed.News.TheVariants.{Changed}}

-- a number or an error, given as an item
same_number : (r s : Result ℤ Kind) → number_item r ≡ number_item s → r ≡ s
same_number (Ok a) (Ok b) e = let same : a ≡ b = cc in ap Ok same
same_number (Ok a) (Err j) e = absurd cc
same_number (Err k) (Ok b) e = absurd cc
same_number (Err k) (Err j) e = let same : k ≡ j = cc in ap Err same

-- a reduction of some numbers
folded_is : (f : Scalar2) (xs : List ℤ) (r : Result ℤ Kind) → 0 < length xs → IsReductionBy f xs r → r ≡ folded (dyadic_on_numbers f) xs
folded_is f xs r some is = same_number r (folded (dyadic_on_numbers f) xs) (is ∙ number_items_folded f xs some)

pub folded_line : (f : Scalar2) (t : TreesValue) (line : ℕ) → 0 < t.count → (r : Result ℤ Kind) → IsReductionBy f (numbers_of_line t line) r → r ≡ folded (dyadic_on_numbers f) (numbers_of_line t line)
folded_line f t line some r is = folded_is f (numbers_of_line t line) r (omega (arith, some, length-strided (pos 0) t.numbers (line_start t.step t.count line) t.step t.count)) is

pub folded_longer : (f : Scalar2) (t : TreesValue) (numbers : Bor (List ℤ)) (line : ℕ) (r : Result ℤ Kind) → IsReductionBy f (numbers_of_line t line ++ get_or numbers.now line (pos 0) ∷ []) r
    → r ≡ folded (dyadic_on_numbers f) (numbers_of_line t line ++ get_or numbers.now line (pos 0) ∷ [])
folded_longer f t numbers line r is =
    let z = get_or numbers.now line (pos 0) in
    folded_is f (numbers_of_line t line ++ z ∷ []) r (omega (arith, length-append (numbers_of_line t line) (z ∷ []))) is

-- no number of a patch
outside : (b : Bool) (z : ℤ) → None ≡ (if b then Some z else None) → b ≡ false
outside true z e = absurd cc
outside false z e = refl

pub kept_total : (f : Scalar2) (t : TreesValue) (p : Bor PatchValue) (shape : List ℕ) (place : ℕ)
    → None ≡ (if is_within p.now.region (index_after shape place) then Some (number_in p.now (index_after shape place)) else None)
    → folded (dyadic_on_numbers f) (numbers_of_line t place) ≡ total_at f t (Changed p) shape place
kept_total f t p shape place none = sym (cond-false _ _ _ (outside (is_within p.now.region (index_after shape place)) (number_in p.now (index_after shape place)) none))

-- ---- one number
-- a result of one place
one_place : (shape : List ℕ) (number : ℕ → Result ℤ Kind) → size shape ≡ 1
    → collect Nums shape (λ index. number_item (number (places_before shape index))) ≡ with_items Nums shape (number_items (all_or_first_error (number 0 ∷ [])))
one_place shape number one = numbers_collected shape number ∙ ap (λ n. with_items Nums shape (number_items (all_or_first_error (map number (range_with_len 0 n))))) one

pub one_failed : (shape : List ℕ) (number : ℕ → Result ℤ Kind) (k : Kind) → size shape ≡ 1 → number 0 ≡ Err k → collect Nums shape (λ index. number_item (number (places_before shape index))) ≡ Err k
one_failed shape number k one is = one_place shape number one ∙ ap (λ (r : Result ℤ Kind). with_items Nums shape (number_items (all_or_first_error (r ∷ [])))) is

pub one_number : (shape : List ℕ) (number : ℕ → Result ℤ Kind) (z : ℤ) (a b : ArrayValue) → size shape ≡ 1 → number 0 ≡ Ok z
    → a ≡ record { item_type = Nums; shape = shape; items = replicate (size shape) (Num (pos 0)) } → b ≡ record a { items = set a.items 0 (Num z) }
    → collect Nums shape (λ index. number_item (number (places_before shape index))) ≡ Ok b
one_number shape number z a b one is filled written =
    one_place shape number one ∙ ap (λ (r : Result ℤ Kind). with_items Nums shape (number_items (all_or_first_error (r ∷ [])))) is
    ∙ sym (ap Ok (written ∙ ap (λ (c : ArrayValue). record c { items = set c.items 0 (Num z) }) filled
    ∙ ap (λ n. let c : ArrayValue = record { item_type = Nums; shape = shape; items = set (replicate n (Num (pos 0))) 0 (Num z) } in c) one))
