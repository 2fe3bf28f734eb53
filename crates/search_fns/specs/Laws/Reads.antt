-- Items that are read alike are the same.
use Rattle.std.{proofs.Common.{◌≡◌, ℕ, ◌+◌, ◌-◌, ◌*◌, ◌<◌, ◌≤◌, nat_le, ◌&&◌, List, [], ◌∷◌, length, get_or, map, refl, ap, ◌∙◌, sym, arith, true, Option, Some, None}, specs.List.{range_with_len}, proofs.lemmas.Bool.{and_from, cond-true, le-leb}, proofs.lemmas.List.{ext_get_or, get_or-map, length-map}}
use Rattle.std.proofs.lemmas.List.FromFn.{get_or-map-range_with_len, length-range_with_len}
use Rattle.arrays_core.{specs.declared.item.Item.{Item}, specs.declared.item.ItemType.{ItemType}, specs.Arrays.{ArrayValue, item_if_there}, specs.Items.{fill}, specs.Shapes.{indices, size}, proofs.Order.{get_or-indices, index_after-within, length-indices, places_before-index_after}}
use Rattle.change_core.specs.Sourced.{other}

-- an array by its parts
abbrev pub with_axes : ItemType → List ℕ → List Item → ArrayValue
with_axes t shape items = record { item_type = t; shape = shape; items = items }

some_same : {A : Type 0} (x y : A) → Some x ≡ Some y → x ≡ y
some_same x y h = cc

-- where reads of one place agree, so do the items
pub one_read : {A : Type 0} (x y : A) → x ∷ [] ≡ y ∷ [] → x ≡ y
one_read x y h = cc

read_at : (a : ArrayValue) (k : ℕ) → k < size a.shape → get_or (map (item_if_there a) (indices a.shape)) k None ≡ Some (get_or a.items k (fill a.item_type))
read_at a k h =
    let long = length-indices a.shape in
    get_or-map (item_if_there a) (indices a.shape) k [] None (omega arith)
    ∙ ap (item_if_there a) (get_or-indices a.shape k h)
    ∙ cond-true _ _ _ (index_after-within a.shape k h)
    ∙ ap (λ (m : ℕ). Some (get_or a.items m (fill a.item_type))) (places_before-index_after a.shape k h)

-- where reads of all places agree, so do all items
pub all_read_alike : (a : ArrayValue) (xs : List Item) → length a.items ≡ size a.shape → length xs ≡ length a.items
    → map (item_if_there (other a xs)) (indices a.shape) ≡ map (item_if_there a) (indices a.shape) → xs ≡ a.items
all_read_alike a xs sized long read =
    ext_get_or (fill a.item_type) xs a.items long (λ k h.
    let below : k < size a.shape = omega arith in
    some_same _ _ (sym (read_at (other a xs) k below) ∙ ap (λ (r : List (Option Item)). get_or r k None) read ∙ read_at a k below))

-- where reads of a vector from a place on agree, so do the items there
pub place_read : (t : ItemType) (n : ℕ) (xs ys : List Item) (k j : ℕ) → 1 ≤ k → k ≤ j + 1 → j < n
    → map (λ (place : List ℕ). item_if_there (with_axes t (n ∷ []) xs) place) (map (λ i. i ∷ []) (range_with_len k (n + 1 - k)))
    ≡ map (λ (place : List ℕ). item_if_there (with_axes t (n ∷ []) ys) place) (map (λ i. i ∷ []) (range_with_len k (n + 1 - k)))
    → get_or xs j (fill t) ≡ get_or ys j (fill t)
place_read t n xs ys k j low from below read = some_same _ _ (sym (at xs) ∙ ap (λ (r : List (Option Item)). get_or r (j + 1 - k) None) read ∙ at ys)
  where
    at : (zs : List Item) → get_or (map (item_if_there (with_axes t (n ∷ []) zs)) (map (λ i. i ∷ []) (range_with_len k (n + 1 - k)))) (j + 1 - k) None ≡ Some (get_or zs j (fill t))
    at zs =
        let long = length-map (range_with_len k (n + 1 - k)) (λ (i : ℕ). i ∷ []) in
        let many = length-range_with_len k (n + 1 - k) in
        let there : (nat_le 1 (j + 1) && nat_le (j + 1) n) ≡ true = and_from _ _ (le-leb 1 (j + 1) (omega arith)) (le-leb (j + 1) n (omega arith)) in
        let inside : ((nat_le 1 (j + 1) && nat_le (j + 1) n) && true) ≡ true = and_from _ _ there refl in
        let before : (j + 1 - 1) * 1 + 0 ≡ j = omega arith in
        get_or-map (item_if_there (with_axes t (n ∷ []) zs)) (map (λ i. i ∷ []) (range_with_len k (n + 1 - k))) (j + 1 - k) [] None (omega arith)
        ∙ ap (item_if_there (with_axes t (n ∷ []) zs)) (get_or-map-range_with_len (λ i. i ∷ []) k (n + 1 - k) (j + 1 - k) (j + 1) [] (omega arith) (omega arith))
        ∙ cond-true _ _ _ inside
        ∙ ap (λ (m : ℕ). Some (get_or zs m (fill t))) before
