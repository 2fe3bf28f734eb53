-- Writing the items of a patch into an array one by one.
use Rattle.std.{proofs.Common.{◌≡◌, ◌≢◌, ℕ, ◌+◌, ◌<◌, List, nat_eq, length, set, get_or, refl, ap, ◌∙◌, sym, arith, true, false, Bool, ◌&&◌, nat_lt, if◌then◌else◌, inl, inr}, proofs.lemmas.List.{get_or-set_same, get_or-set_other, ext_get_or, length-set}, proofs.lemmas.List.FromFn.{length-map-range_with_len}}
use Rattle.std.proofs.lemmas.Bool.{cases_Bool, eqb-true, eqb-false, ltb-true, ltb-false, lt-ltb, le-ltb}
use Rattle.arrays_core.{specs.declared.item.Item.{Item}, specs.Arrays.{ArrayValue, IsArray}, specs.Items.{fill}, specs.Shapes.{size, is_index_of, places_before, index_after}, proofs.Shapes.{places_below}, proofs.Order.{index_after-places_before, places_before-index_after}}
use Rattle.index_region.{specs.Boxes.{is_within, box_offset, box_size, walk_at}, specs.Patches.{PatchValue, FitsPatch, patched, patched_item}, proofs.Patched.{fits_within, patched_place}, proofs.Walks.{walk_within, offset_of_walk, offset_below, walk_of_offset}}

-- the item at a place after the first `count` items are written
abbrev pub written : ArrayValue → PatchValue → ℕ → ℕ → Item
written a p count place =
    let index = index_after a.shape place in
    if is_within p.region index && nat_lt (box_offset p.region index) count then get_or p.items (box_offset p.region index) (fill p.item_type) else get_or a.items place (fill a.item_type)

-- an array after the first `count` items of a patch are written
pub record IsWritten (a : ArrayValue) (p : PatchValue) (count : ℕ) (now : ArrayValue) : Type 0 where
  pub typed : now.item_type ≡ a.item_type
  pub shaped : now.shape ≡ a.shape
  pub long : length now.items ≡ size a.shape
  pub items : (place : ℕ) → place < size a.shape → get_or now.items place (fill a.item_type) ≡ written a p count place

-- nothing is written yet
pub written_none : (a : ArrayValue) (p : PatchValue) → IsArray a → IsWritten a p 0 a
written_none a p sound = record {
  typed = refl;
  shaped = refl;
  long = sound.one_item_a_place;
  items = λ place below.
      let index = index_after a.shape place in
      none (is_within p.region index) (nat_lt (box_offset p.region index) 0) (get_or p.items (box_offset p.region index) (fill p.item_type)) (get_or a.items place (fill a.item_type)) (le-ltb _ 0 (omega arith));
}
  where
    none : (w v : Bool) (x y : Item) → v ≡ false → y ≡ (if w && v then x else y)
    none true v x y e = rw e refl
    none false v x y e = refl

-- one more item
pub written_more : (a : ArrayValue) (p : PatchValue) (count : ℕ) (now : ArrayValue) → FitsPatch a p → IsWritten a p count now → count < box_size p.region
    → IsWritten a p (count + 1) (record now { items = set now.items (places_before a.shape (walk_at p.region count)) (get_or p.items count (fill p.item_type)) })
written_more a p count now fit done below = record {
  typed = done.typed;
  shaped = done.shaped;
  long = length-set _ _ _ ∙ done.long;
  items = λ place under. elim (cases_Bool (nat_eq place here)) [
    | inl t ↦ at_place place under (eqb-true _ _ t)
    | inr f ↦ elsewhere place under (eqb-false _ _ f)
  ];
}
  where
    index : List ℕ
    index = walk_at p.region count

    here : ℕ
    here = places_before a.shape index

    x : Item
    x = get_or p.items count (fill p.item_type)

    within : is_within p.region index ≡ true
    within = walk_within p.region count below

    inside : is_index_of a.shape index ≡ true
    inside = fits_within p.region a.shape index fit.inside within

    there : here < length now.items
    there = let b = places_below a.shape index inside in let e = done.long in omega arith

    at_place : (place : ℕ) → place < size a.shape → place ≡ here → get_or (set now.items here x) place (fill a.item_type) ≡ written a p (count + 1) place
    at_place place under e =
        let same : index_after a.shape place ≡ index = ap (index_after a.shape) e ∙ index_after-places_before a.shape index inside in
        let offset = offset_of_walk p.region count below in
        let first : nat_lt count (count + 1) ≡ true = lt-ltb _ _ (omega arith) in
        ap (λ (k : ℕ). get_or (set now.items here x) k (fill a.item_type)) e
        ∙ get_or-set_same now.items here x (fill a.item_type) there
        ∙ sym (ap (λ (i : List ℕ). if is_within p.region i && nat_lt (box_offset p.region i) (count + 1) then get_or p.items (box_offset p.region i) (fill p.item_type) else get_or a.items place (fill a.item_type)) same ∙ rw (within, offset, first) refl)

    elsewhere : (place : ℕ) → place < size a.shape → place ≢ here → get_or (set now.items here x) place (fill a.item_type) ≡ written a p (count + 1) place
    elsewhere place under away =
        get_or-set_other now.items here place x (fill a.item_type) away
        ∙ done.items place under
        ∙ ap (λ (w : Bool). if w then get_or p.items (box_offset p.region (index_after a.shape place)) (fill p.item_type) else get_or a.items place (fill a.item_type)) (same_test place under away)
      where
        other_offset : (k : ℕ) → k ≢ count → nat_lt k count ≡ nat_lt k (count + 1)
        other_offset k differs = elim (cases_Bool (nat_lt k count)) [
          | inl t ↦ let l = ltb-true _ _ t in t ∙ sym (lt-ltb k (count + 1) (omega arith))
          | inr f ↦ let l = ltb-false _ _ f in f ∙ sym (le-ltb k (count + 1) (omega arith))
        ]

        same_test : (place : ℕ) → place < size a.shape → place ≢ here
            → (is_within p.region (index_after a.shape place) && nat_lt (box_offset p.region (index_after a.shape place)) count) ≡ (is_within p.region (index_after a.shape place) && nat_lt (box_offset p.region (index_after a.shape place)) (count + 1))
        same_test place under away = elim (cases_Bool (is_within p.region (index_after a.shape place))) [
          | inl w ↦ rw w (other_offset (box_offset p.region (index_after a.shape place)) (λ e. away (
              sym (places_before-index_after a.shape place under) ∙ ap (places_before a.shape) (sym (walk_of_offset p.region (index_after a.shape place) w) ∙ ap (walk_at p.region) e))))
          | inr f ↦ rw f refl
        ]

-- all items are written
pub written_all : (a : ArrayValue) (p : PatchValue) (now : ArrayValue) → IsWritten a p (box_size p.region) now → now ≡ patched a p
written_all a p now done =
    let items : now.items ≡ (patched a p).items = ext_get_or (fill a.item_type) now.items (patched a p).items
    (done.long ∙ sym (length-map-range_with_len (λ (k : ℕ). patched_item a p (index_after a.shape k)) 0 (size a.shape)))
    (λ place below. let under : place < size a.shape = let e = done.long in omega arith in done.items place under ∙ all place under ∙ sym (patched_place a p place under)) in
    λ i. record { item_type = done.typed i; shape = done.shaped i; items = items i }
  where
    all : (place : ℕ) → place < size a.shape → written a p (box_size p.region) place ≡ patched_item a p (index_after a.shape place)
    all place under = elim (cases_Bool (is_within p.region (index_after a.shape place))) [
      | inl w ↦ let first = lt-ltb _ _ (offset_below p.region (index_after a.shape place) w) in rw (w, first) refl
      | inr f ↦ rw f (ap (λ (k : ℕ). get_or a.items k (fill a.item_type)) (sym (places_before-index_after a.shape place under)))
    ]
