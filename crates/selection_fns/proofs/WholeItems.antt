-- The items in a box of a result that was computed whole.
use Rattle.std.{proofs.Common.{◌≡◌, ℕ, ◌<◌, true, IsTrue, List, [], length, get_or, map, Some, Result, Ok, Err, refl, ap, sym, ◌∙◌, arith}, specs.List.{range_with_len}, proofs.lemmas.Bool.{cond-true}, proofs.lemmas.List.{length-map, get_or-map as get_or-map_inside}}
use Rattle.std.proofs.lemmas.List.FromFn.{length-map-range_with_len, get_or-map-range_with_len}
use Rattle.arrays_core.{specs.declared.item.Item.{Item}, specs.declared.item.ItemType.{ItemType}, specs.declared.item.Kind.{Kind}, specs.declared.item.Kind.TheVariants.{Domain}, specs.Items.{all_or_first_error, and_then, fill}, specs.Shapes.{indices, is_index_of, places_before}}
use Rattle.arrays_core.{specs.Arrays.{ArrayValue, collect, with_items, item_of}, proofs.Order.{length-indices, at_place}, proofs.Shapes.{places_below}}
use Rattle.index_region.{specs.Boxes.{Interval, box_size, walk_at, fits}, specs.Checks.{Form, form_of, whole}, proofs.Patched.{fits_within}, proofs.Walks.{walk_within}}
use Rattle.{change_core.specs.Parts.{items_in}, selection_fns.{specs.WholeBox.{IsPicked}, proofs.Entries.{entry_of, from_entries}}}

-- a whole result without errors
record Whole (item : List ℕ → Result Item Kind) (shape : List ℕ) (t : ItemType) (w : ArrayValue) : Type 0 where
  typed : w.item_type ≡ t
  shaped : w.shape ≡ shape
  each : (index : List ℕ) → is_index_of shape index ≡ true → item index ≡ Ok (get_or w.items (places_before shape index) (fill t))

whole_items : (form : Result Form Kind) (item : List ℕ → Result Item Kind) (shape : List ℕ) (t : ItemType) (w : ArrayValue) → form ≡ Ok (form_of shape t) → whole form item ≡ Ok w → Whole item shape t w
whole_items form item shape t w checked made =
    listed (all_or_first_error (map item (indices shape))) refl (sym (ap (λ f. and_then f (λ g. collect {E = Kind} g.item_type g.shape item)) checked) ∙ made)
  where
    listed : (r : Result (List Item) Kind) → all_or_first_error (map item (indices shape)) ≡ r → with_items {E = Kind} t shape r ≡ Ok w → Whole item shape t w
    listed (Err k) is h = cc
    listed (Ok xs) is h =
        let same : record { item_type = t; shape = shape; items = xs } ≡ w = cc in
        record {
          typed = sym (ap (λ (a : ArrayValue). a.item_type) same);
          shaped = sym (ap (λ (a : ArrayValue). a.shape) same);
          each = λ index inside.
              let there : places_before shape index < length (indices shape) = omega (arith, places_below shape index inside, length-indices shape) in
              sym (get_or-map_inside item (indices shape) (places_before shape index) [] (Err Domain) there ∙ ap item (at_place shape index inside))
              ∙ entry_of (map item (indices shape)) xs (places_before shape index) (Err Domain) (fill t) is (omega (arith, there, length-map (indices shape) item))
              ∙ ap (λ ys. Ok (get_or ys (places_before shape index) (fill t))) (ap (λ (a : ArrayValue). a.items) same);
        }

pub box_items : (form : Result Form Kind) (item : List ℕ → Result Item Kind) (shape : List ℕ) (t : ItemType) (w a : ArrayValue) (region : List Interval) → form ≡ Ok (form_of shape t) → whole form item ≡ Ok w → IsTrue (fits region shape)
    → IsPicked w region a → (items_in item region ≡ Ok a.items) × (a.item_type ≡ t)
box_items form item shape t w a region checked made fit picked =
    let found = whole_items form item shape t w checked made in
    let g : ℕ → Result Item Kind = λ place. item (walk_at region place) in
    let count = box_size region in
    let d = fill w.item_type in (
      from_entries (map g (range_with_len 0 count)) a.items (Err Domain) d ((length-map-range_with_len g 0 count) ∙ sym picked.long) (λ k below.
          let inside : k < count = omega (arith, below, picked.long) in
          let there : is_index_of shape (walk_at region k) ≡ true = fits_within region shape (walk_at region k) fit (walk_within region k inside) in
          let there_too : is_index_of w.shape (walk_at region k) ≡ true = ap (λ s. is_index_of s (walk_at region k)) found.shaped ∙ there in
          let some : Some (item_of w (walk_at region k)) ≡ Some (get_or a.items k d) = sym (cond-true _ _ _ there_too) ∙ picked.each k inside in
          let own : get_or w.items (places_before shape (walk_at region k)) (fill t) ≡ item_of w (walk_at region k) =
          ap (λ s. get_or w.items (places_before s (walk_at region k)) (fill t)) (sym found.shaped) ∙ ap (λ u. get_or w.items (places_before w.shape (walk_at region k)) (fill u)) (sym found.typed) in
          get_or-map-range_with_len g 0 count k k (Err Domain) inside (omega arith)
          ∙ found.each (walk_at region k) there
          ∙ ap (λ x. Ok x) (own ∙ cc)),
      picked.typed ∙ found.typed,
    )
