-- Outer products of numbers, from the two slices of numbers.
use Rattle.std.{proofs.Common.{◌≡◌, ℕ, ◌*◌, ◌/◌, ◌%◌, true, List, ◌++◌, length, get_or, map, take, drop, ℤ, pos, Result, Ok, refl, ap, sym, ◌∙◌, arith}, proofs.lemmas.List.{length-map}}
use Rattle.arrays_core.{specs.declared.item.Item.TheVariants.{Num}, specs.declared.item.ItemType.TheVariants.{Nums}, specs.declared.item.Kind.{Kind}, specs.Items.{fill, all_or_first_error}, specs.Shapes.{size, is_index_of, places_before}, specs.Arrays.{ArrayValue, collect, with_items}, proofs.Shapes.{places_below}}
use Rattle.function_names.specs.declared.scalar.Scalar2.{Scalar2}
use Rattle.item_fns.{specs.Numbers.{dyadic_on_numbers}, specs.Items.{number_item}, specs.NumberLists.{number_items}}
use Rattle.index_region.{specs.Checks.{Form, whole}, proofs.Passing.{limited_gives}}
use Rattle.operator_fns.{specs.OuterProduct.{outer_form, outer_item, outer_whole}, specs.OuterResults.{outer_results}, proofs.OuterRows.{places_of_outer}, specs.Laws.JoinedIndices.{parts, size-append}, proofs.Joined.{number_there}}
use Rattle.reduce_fns.proofs.Placewise.{collected_same, numbers_collected}

-- as many numbers as places
pub as_many : (a : ArrayValue) (xs : List ℤ) → length a.items ≡ size a.shape → a.items ≡ map (λ z. Num z) xs → size a.shape ≡ length xs
as_many a xs long e = sym long ∙ ap length e ∙ length-map xs (λ z. Num z)

module _ (f : Scalar2) (a b : ArrayValue) (xs ys : List ℤ) (long_a : length a.items ≡ size a.shape) (long_b : length b.items ≡ size b.shape)
    (is_a : a.items ≡ map (λ z. Num z) xs) (is_b : b.items ≡ map (λ z. Num z) ys) where
  -- the result for the pair of numbers of a place
  abbrev pub pair : ℕ → Result ℤ Kind
  pair place = dyadic_on_numbers f (get_or xs (place / length ys) (pos 0)) (get_or ys (place % length ys) (pos 0))

  pub outer_places : size (a.shape ++ b.shape) ≡ length xs * length ys
  outer_places = let m = as_many a xs long_a is_a in let n = as_many b ys long_b is_b in size-append a.shape b.shape ∙ (rw (m, n) refl)

  pair_there : (index : List ℕ) → is_index_of (a.shape ++ b.shape) index ≡ true
      → number_item (pair (places_before (a.shape ++ b.shape) index)) ≡ outer_item f a b index
  pair_there index h =
      let m = as_many a xs long_a is_a in
      let n = as_many b ys long_b is_b in
      let p = parts a.shape b.shape index h in
      let row = take (length a.shape) index in
      let column = drop (length a.shape) index in
      let left = number_there a.items xs (places_before a.shape row) (fill a.item_type) is_a (omega (arith, places_below a.shape row p.front)) in
      let right = number_there b.items ys (places_before b.shape column) (fill b.item_type) is_b (omega (arith, places_below b.shape column p.back)) in
      let place = places_before (a.shape ++ b.shape) index in
      ap (λ k. number_item (dyadic_on_numbers f (get_or xs (place / k) (pos 0)) (get_or ys (place % k) (pos 0)))) (sym n)
      ∙ (rw (p.front_place, p.back_place, left, right) refl)

  pub outer_of_numbers : (form : Form) → outer_form a b ≡ Ok form
      → with_items Nums form.shape (number_items (all_or_first_error (outer_results (dyadic_on_numbers f) xs ys))) ≡ outer_whole f a b
  outer_of_numbers form h =
      let shape = a.shape ++ b.shape in
      let is = limited_gives (a.shape ++ b.shape) Nums form h in
      ap (λ (g : Form). with_items Nums g.shape (number_items (all_or_first_error (outer_results (dyadic_on_numbers f) xs ys)))) is
      ∙ ap (λ rs. with_items Nums shape (number_items (all_or_first_error rs))) (sym (places_of_outer (dyadic_on_numbers f) ys xs (size shape) outer_places))
      ∙ sym (numbers_collected shape pair)
      ∙ collected_same Nums shape (λ index. number_item (pair (places_before shape index))) (outer_item f a b) pair_there
      ∙ sym (ap (λ r. whole r (outer_item f a b)) h ∙ ap (λ (g : Form). collect g.item_type g.shape (outer_item f a b)) is)
