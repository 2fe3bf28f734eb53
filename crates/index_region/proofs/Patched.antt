-- Places in row-major order, and patched arrays.
use Rattle.std.{proofs.Common.{◌≡◌, ℕ, ◌+◌, ◌-◌, ◌*◌, ◌<◌, ◌≤◌, ◌^◌, List, [], ◌∷◌, arith, mul_comm, IsTrue, ap, sym, ◌∙◌, refl, true, Some, None, get_or, nat_lt, length, w64, All, if◌then◌else◌, inl, inr}, proofs.lemmas.List.{get_or_past}, proofs.lemmas.Nat.{mul-add-lt, mul-le}}
use Rattle.std.{proofs.lemmas.Bool.{and_parts, and_from, leb-true, le-leb, false≢true, cases_Bool, ltb-true, ltb-false, cond-true, cond-false, both_ways}, proofs.lemmas.List.FromFn.{get_or-map-range_with_len, length-map-range_with_len}}
use Rattle.arrays_core.{specs.declared.item.Item.{Item}, specs.declared.item.ItemType.{ItemType}, specs.declared.item.ItemType.TheVariants.{Nums, Chars}, specs.Arrays.{ArrayValue, IsArray, item_of, item_if_there}, specs.Items.{fill, type_of}, specs.Shapes.{size, is_index_of, places_before, index_after}}
use Rattle.arrays_core.{proofs.Shapes.{places_below}, proofs.Order.{index_after-places_before, index_after-within}}
use Rattle.index_region.{specs.Boxes.{Interval, is_within, box_offset, box_size, fits}, specs.Patches.{PatchValue, FitsPatch, IsPatch, patched, patched_item}, proofs.Boxes.{on_parts}}
use mir.Val.{Fits}

-- a place of a row is less than the size
pub row_below : (i n w b : ℕ) → i < n → b < w → i * w + b < n * w
row_below i n w b h k = rw (mul_comm n w) (mul-add-lt i w b n h k)

-- an index list in a box, split at the first axis
pub record OnFirstAxis (intervals : List Interval) (index : List ℕ) (s : Interval) (i size offset : ℕ) : Type 0 where
  pub low : s.0 ≤ i
  pub filled : s.0 ≤ s.1 + 1
  pub is : (i - s.0) * size + offset ≡ box_offset intervals index
  pub size_is : (s.1 + 1 - s.0) * size ≡ box_size intervals
  pub below : (i - s.0) * size + offset < (s.1 + 1 - s.0) * size
  pub rows_fit : Fits w64 ((i - s.0) * size)
  pub place_fits : Fits w64 ((i - s.0) * size + offset)
  pub size_fits : Fits w64 ((s.1 + 1 - s.0) * size)

pub on_first_axis : (intervals : List Interval) (index : List ℕ) (s : Interval) (i : ℕ) (ss : List Interval) (is : List ℕ) (size offset : ℕ) → intervals ≡ s ∷ ss → index ≡ i ∷ is
    → IsTrue (is_within intervals index) → offset ≡ box_offset ss is → size ≡ box_size ss → offset < size → box_size intervals < 2 ^ 64 → OnFirstAxis intervals index s i size offset
on_first_axis intervals index s i ss is size offset e f h offset_is size_is below few =
    let here = on_parts s i ss is (rw (e, f) at h) in
    let high = here.high in
    let place : (i - s.0) * size + offset < (s.1 + 1 - s.0) * size = row_below (i - s.0) (s.1 + 1 - s.0) size offset (omega arith) below in
    let all : (s.1 + 1 - s.0) * size ≡ box_size intervals = rw (e, size_is) refl in
    record {
      low = here.low;
      filled = omega arith;
      is = rw (e, f, size_is, offset_is) refl;
      size_is = all;
      below = place;
      rows_fit = omega arith;
      place_fits = omega arith;
      size_fits = omega arith;
    }

-- the item of a patched array at an index list
pub patched_at : (a : ArrayValue) (p : PatchValue) (index : List ℕ) → IsTrue (is_index_of a.shape index) → item_of (patched a p) index ≡ patched_item a p index
patched_at a p index h =
    get_or-map-range_with_len (λ (place : ℕ). patched_item a p (index_after a.shape place)) 0 (size a.shape) (places_before a.shape index) (places_before a.shape index) _ (places_below a.shape index h) (omega arith)
    ∙ ap (patched_item a p) (index_after-places_before a.shape index h)

pub fits_within : (region : List Interval) (shape index : List ℕ) → fits region shape ≡ true → is_within region index ≡ true → is_index_of shape index ≡ true
fits_within [] [] [] h k = refl
fits_within [] [] (i ∷ index) h k = absurd (false≢true k)
fits_within [] (n ∷ shape) index h k = absurd (false≢true h)
fits_within (s ∷ region) [] index h k = absurd (false≢true h)
fits_within (s ∷ region) (n ∷ shape) [] h k = absurd (false≢true k)
fits_within (s ∷ region) (n ∷ shape) (i ∷ index) h k =
    let hp = and_parts _ _ h in
    let h1 = and_parts _ _ hp.0 in
    let here = on_parts s i region index k in
    let high : i ≤ n = omega (arith, leb-true s.1 n h1.1, here.high) in
    and_from _ _ (and_from _ _ (le-leb 1 i (omega (arith, leb-true 1 s.0 (and_parts _ _ h1.0).0, here.low))) (le-leb i n high)) (fits_within region shape index hp.1 here.rest)

pub box_within_size : (region : List Interval) (shape : List ℕ) → fits region shape ≡ true → box_size region ≤ size shape
box_within_size [] [] h = omega arith
box_within_size [] (n ∷ shape) h = absurd (false≢true h)
box_within_size (s ∷ region) [] h = absurd (false≢true h)
box_within_size (s ∷ region) (n ∷ shape) h =
    let hp = and_parts _ _ h in
    let h1 = and_parts _ _ hp.0 in
    let first = and_parts _ _ h1.0 in
    let low = leb-true 1 s.0 first.0 in
    let high = leb-true s.1 n h1.1 in
    mul-le (s.1 + 1 - s.0) (box_size region) n (size shape) (omega arith) (box_within_size region shape hp.1)

-- the item of a patched array at an index list, if there is one
pub patched_if_there : (a : ArrayValue) (p : PatchValue) (index : List ℕ) → FitsPatch a p → item_if_there (patched a p) index
    ≡ (if is_within p.region index then Some (get_or p.items (box_offset p.region index) (fill p.item_type)) else item_if_there a index)
patched_if_there a p index h = elim (cases_Bool (is_index_of a.shape index)) [
  | inl t ↦ cond-true _ _ _ t ∙ ap (λ (x : Item). Some x) (patched_at a p index t) ∙ elim (cases_Bool (is_within p.region index)) [
    | inl w ↦ rw w refl
    | inr o ↦ rw (o, t) refl
  ]
  | inr f ↦ cond-false _ _ _ f ∙ elim (cases_Bool (is_within p.region index)) [
    | inl w ↦ absurd (both_ways _ f (fits_within p.region a.shape index h.inside w))
    | inr o ↦ rw (o, f) refl
  ]
]

fill_typed : (t : ItemType) → type_of (fill t) ≡ t
fill_typed Nums = refl
fill_typed Chars = refl

any_typed : (t : ItemType) (xs : List Item) (k : ℕ) → All (λ x. type_of x ≡ t) xs → type_of (get_or xs k (fill t)) ≡ t
any_typed t xs k h = elim (cases_Bool (nat_lt k (length xs))) [
  | inl b ↦ h k (fill t) (ltb-true _ _ b)
  | inr o ↦ ap type_of (get_or_past xs k (fill t) (ltb-false _ _ o)) ∙ fill_typed t
]

-- an array with a patch laid over it is an array
pub patched_sound : (a : ArrayValue) (p : PatchValue) → IsArray a → IsPatch p → FitsPatch a p → IsArray (patched a p)
patched_sound a p h k fit = record {
  within = h.within;
  one_item_a_place = length-map-range_with_len (λ (place : ℕ). patched_item a p (index_after a.shape place)) 0 (size a.shape);
  one_type = λ k d b.
      let count : length (patched a p).items ≡ size a.shape = length-map-range_with_len (λ (place : ℕ). patched_item a p (index_after a.shape place)) 0 (size a.shape) in
      let below : k < size a.shape = omega arith in
      ap type_of (get_or-map-range_with_len (λ (place : ℕ). patched_item a p (index_after a.shape place)) 0 (size a.shape) k k d below (omega arith)) ∙ typed (index_after a.shape k);
}
  where
    typed : (index : List ℕ) → type_of (patched_item a p index) ≡ a.item_type
    typed index = elim (cases_Bool (is_within p.region index)) [
      | inl w ↦ rw w (any_typed p.item_type p.items _ k.one_type ∙ fit.typed)
      | inr o ↦ rw o (any_typed a.item_type a.items _ h.one_type)
    ]

-- a place of a patched array by its number
pub patched_place : (a : ArrayValue) (p : PatchValue) (place : ℕ) → place < size a.shape → get_or (patched a p).items place (fill a.item_type) ≡ patched_item a p (index_after a.shape place)
patched_place a p place h = get_or-map-range_with_len (λ (k : ℕ). patched_item a p (index_after a.shape k)) 0 (size a.shape) place place _ h (omega arith)

pub item_there : (a : ArrayValue) (p : PatchValue) (place : ℕ) → place < size a.shape → item_if_there (patched a p) (index_after a.shape place) ≡ Some (get_or (patched a p).items place (fill a.item_type))
item_there a p place h =
    let inside = index_after-within a.shape place h in
    cond-true _ _ _ inside ∙ ap (λ (x : Item). Some x) (patched_at a p (index_after a.shape place) inside ∙ sym (patched_place a p place h))

pub some_is : (a : ArrayValue) (p : PatchValue) (position : ℕ) (index : List ℕ) (x : Item) → 1 ≤ position → position ≤ size a.shape → index ≡ index_after a.shape (position - 1)
    → Some x ≡ item_if_there (patched a p) index → x ≡ get_or (patched a p).items (position - 1) (fill a.item_type)
some_is a p position index x low high e h = let k = h ∙ ap (item_if_there (patched a p)) e ∙ item_there a p (position - 1) (omega arith) in cc

pub none_is : (a : ArrayValue) (p : PatchValue) (position : ℕ) (index : List ℕ) (x : Item) → 1 ≤ position → position ≤ size a.shape → index ≡ index_after a.shape (position - 1)
    → None ≡ item_if_there (patched a p) index → x ≡ get_or (patched a p).items (position - 1) (fill a.item_type)
none_is a p position index x low high e h = let k = h ∙ ap (item_if_there (patched a p)) e ∙ item_there a p (position - 1) (omega arith) in absurd (let no : ⊥ = cc in no)
