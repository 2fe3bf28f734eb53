-- Arrays and ravels that grow.
use Rattle.std.{proofs.Common.{◌≡◌, ◌≤◌, ◌<◌, ◌+◌, ◌-◌, ℕ, List, [], ◌∷◌, ◌++◌, length, drop, get_or, All, nat_lt, inl, inr, refl, sym, ap, subst, ◌∙◌, arith}, proofs.lemmas.Bool.{cases_Bool, ltb-true, ltb-false}}
use Rattle.std.proofs.lemmas.List.{append-nil, get_or_append_left, get_or-append-add, get_or-append_right, length-append}
use Rattle.arrays_core.{specs.declared.item.Item.{Item}, specs.declared.item.ItemType.{ItemType}, specs.Arrays.{ArrayValue, IsArray}, specs.Items.{type_of}, specs.Shapes.{size, IsWithinLimits}, specs.Growth.{FitsGrowth, grown_by, one_longer}}

-- items that have two types are none
pub none_left : (t u : ItemType) (xs : List Item) → All (λ x. type_of x ≡ t) xs → All (λ x. type_of x ≡ u) xs → (t ≡ u → ⊥) → xs ≡ []
none_left t u [] h k apart = refl
none_left t u (x ∷ xs) h k apart = absurd (apart (sym (h 0 x (omega arith)) ∙ k 0 x (omega arith)))

-- to append no items changes nothing
pub nothing_behind : (t u : ItemType) (made items xs : List Item) → items ≡ made → All (λ x. type_of x ≡ t) xs → All (λ x. type_of x ≡ u) xs → (t ≡ u → ⊥) → made ≡ items ++ xs
nothing_behind t u made items xs is h k apart = sym is ∙ sym (append-nil items) ∙ ap (λ (l : List Item). items ++ l) (sym (none_left t u xs h k apart))

pub size_longer : (shape : List ℕ) → 0 < length shape → size (one_longer shape) ≡ size shape + size (drop 1 shape)
size_longer [] h = absurd (omega arith)
size_longer (n ∷ shape) h = grind arith

pub rank_longer : (shape : List ℕ) → length (one_longer shape) ≡ length shape
rank_longer [] = refl
rank_longer (n ∷ shape) = refl

-- the grown array has as many items as places
pub long_grown : (shape : List ℕ) (old more new : List Item) → 0 < length shape → length old ≡ size shape → length more ≡ size (drop 1 shape) → new ≡ old ++ more → length new ≡ size (one_longer shape)
long_grown shape old more new some p q e = ap (λ (l : List Item). length l) e ∙ length-append old more ∙ (λ i. p i + q i) ∙ sym (size_longer shape some)

-- items of one type, appended to items of that type
both_typed : (t : ItemType) (xs ys : List Item) → All (λ x. type_of x ≡ t) xs → All (λ x. type_of x ≡ t) ys → All (λ x. type_of x ≡ t) (xs ++ ys)
both_typed t xs ys h k i d b = elim (cases_Bool (nat_lt i (length xs))) [
  | inl l ↦ ap type_of (get_or_append_left xs ys d i (ltb-true _ _ l)) ∙ h i d (ltb-true _ _ l)
  | inr g ↦
      let past : length xs ≤ i = (let o = ltb-false _ _ g in omega arith) in
      ap type_of (get_or-append_right xs ys (length xs) i d refl past) ∙ k (i - length xs) d (omega (arith, length-append xs ys))
]

-- a grown array is an array
pub grown_sound : (a : ArrayValue) (xs : List Item) → IsArray a → FitsGrowth a xs → IsArray (grown_by a xs)
grown_sound a xs h fits = record {
  within = fits.within;
  one_item_a_place = long_grown a.shape a.items xs (a.items ++ xs) fits.some_axis h.one_item_a_place fits.one_place refl;
  one_type = both_typed a.item_type a.items xs h.one_type fits.typed;
}

-- if an array with items appended is an array with an axis, it grew by one place
pub fits_growth : (a n : ArrayValue) (xs : List Item) → IsArray a → IsArray n → grown_by a xs ≡ n → 0 < length n.shape → FitsGrowth a xs
fits_growth a n xs h k e axis =
    let shape : n.shape ≡ one_longer a.shape = ap (λ (v : ArrayValue). v.shape) (sym e) in
    let items : n.items ≡ a.items ++ xs = ap (λ (v : ArrayValue). v.items) (sym e) in
    let some : 0 < length a.shape = omega (arith, ap (λ (s : List ℕ). length s) shape ∙ rank_longer a.shape, axis) in
    let count : length n.items ≡ length a.items + length xs = ap (λ (l : List Item). length l) items ∙ length-append a.items xs in
    record {
      some_axis = some;
      within = subst IsWithinLimits shape k.within;
      one_place = omega (arith, count, ap size shape ∙ size_longer a.shape some, h.one_item_a_place, k.one_item_a_place);
      typed = λ i d b.
          let at : get_or n.items (length a.items + i) d ≡ get_or xs i d = ap (λ (l : List Item). get_or l (length a.items + i) d) items ∙ get_or-append-add a.items xs i d in
          ap type_of (sym at) ∙ k.one_type (length a.items + i) d (omega (arith, count)) ∙ (ap (λ (v : ArrayValue). v.item_type) (sym e));
    }
