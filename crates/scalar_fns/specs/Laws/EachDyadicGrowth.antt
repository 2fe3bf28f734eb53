-- The growth of a scalar function of two arrays.
use Rattle.std.{proofs.Common.{◌≡◌, ℕ, zero, suc, ◌+◌, ◌<◌, ◌≤◌, ap, sym, ◌∙◌, refl, arith, true, false, List, [], ◌∷◌, length, get_or, nat_lt, Result, Ok, Err, inl, inr, bytes_eq}, specs.Prelude.{◌==◌}, proofs.lemmas.Bool.{and_parts, cases_Bool, cond-true, cond-false, eq-eqb, eqb-true, leb-true, ltb-true, ltb-false}}
use Rattle.std.proofs.lemmas.Slice.Eq.{bytes_eq-Decides}
use Rattle.arrays_core.{specs.declared.item.Item.{Item}, specs.declared.item.Kind.{Kind}, specs.declared.item.Kind.TheVariants.{Rank, Length}, specs.declared.item.ItemType.TheVariants.{Nums}, specs.Arrays.{ArrayValue, IsArray, item_of}, specs.Items.{fill}, specs.Shapes.{size, is_index_of, places_before}}
use Rattle.arrays_core.{proofs.Shapes.{factor_le, places_below}, specs.Growth.{one_longer}}
use Rattle.function_names.specs.declared.scalar.Scalar2.{Scalar2}
use Rattle.scalar_fns.{specs.ScalarExtension.{common, extended, for_shape}, specs.EachDyadic.{each_dyadic_form, each_dyadic_item, each_dyadic_rule}, specs.Growth.{each_dyadic_grows, is_extended_to}}
use Rattle.item_fns.specs.Items.{dyadic_on_items}
use Rattle.index_region.specs.Checks.{Form, form_of}
use Rattle.change_core.{specs.Growth.{IsGrown, IsGrowing}, proofs.Growing.{item_kept, length-longer, longer_form, shape_grown, still_inside, two_growing, growing_growing}}

-- ---- common shapes

-- two shapes of one place and of one rank
both_ones : (a b : List ℕ) → size a ≡ 1 → size b ≡ 1 → length a ≡ length b → a ≡ b
both_ones [] [] p q n = refl
both_ones [] (y ∷ b) p q n = absurd (omega arith)
both_ones (x ∷ a) [] p q n = absurd (omega arith)
both_ones (zero ∷ a) (y ∷ b) p q n = absurd (omega arith)
both_ones (suc x ∷ a) (zero ∷ b) p q n = absurd (omega arith)
both_ones (suc (suc x) ∷ a) (suc y ∷ b) p q n = let no = factor_le (suc (suc x)) (size a) 1 p (omega arith) in absurd (omega arith)
both_ones (suc zero ∷ a) (suc (suc y) ∷ b) p q n = let no = factor_le (suc (suc y)) (size b) 1 q (omega arith) in absurd (omega arith)
both_ones (suc zero ∷ a) (suc zero ∷ b) p q n = let rest = both_ones a b (omega arith) (omega arith) (omega arith) in λ i. 1 ∷ rest i

-- an array of one item and no greater rank keeps the shape of the other
pub common_left : (a b : List ℕ) → size b ≡ 1 → length b ≤ length a → common a b ≡ Ok a
common_left a b one low =
    let single : (size b == 1) ≡ true = eq-eqb _ _ one in
    elim (cases_Bool (size a == 1)) [
      | inl t ↦ cond-true _ _ _ t ∙ ap (λ (s : List ℕ). Ok s) (cond-true _ _ _ single ∙ elim (cases_Bool (nat_lt (length a) (length b))) [
        | inl l ↦ absurd (let no = ltb-true _ _ l in omega arith)
        | inr g ↦ cond-false _ _ _ g
      ])
      | inr f ↦ cond-false _ _ _ f ∙ cond-true _ _ _ single
    ]

pub common_right : (a b : List ℕ) → size a ≡ 1 → length a ≤ length b → common a b ≡ Ok b
common_right a b one low =
    cond-true _ _ _ (eq-eqb _ _ one) ∙ ap (λ (s : List ℕ). Ok s) (elim (cases_Bool (size b == 1)) [
      | inl t ↦ cond-true _ _ _ t ∙ elim (cases_Bool (nat_lt (length a) (length b))) [
        | inl l ↦ cond-true _ _ _ l
        | inr g ↦ cond-false _ _ _ g ∙ both_ones a b one (eqb-true _ _ t) (let no = ltb-false _ _ g in omega arith)
      ]
      | inr f ↦ cond-false _ _ _ f
    ])

pub common_same : (a : List ℕ) → common a a ≡ Ok a
common_same a = elim (cases_Bool (size a == 1)) [
  | inl t ↦ common_left a a (eqb-true _ _ t) (omega arith)
  | inr f ↦ cond-false _ _ _ f ∙ cond-false _ _ _ f ∙ cond-true _ _ (Err Rank) (eq-eqb (length a) (length a) refl) ∙ cond-true _ _ (Err Length) ((bytes_eq-Decides a a).1 refl)
]

-- the form for a common shape
form_in : (a b : ArrayValue) (s : List ℕ) (f : Form) → common a.shape b.shape ≡ Ok s → each_dyadic_form a b ≡ Ok f → f ≡ form_of s Nums
form_in a b s f is e =
    let form : each_dyadic_form a b ≡ Ok (form_of s Nums) = ap (λ (r : Result (List ℕ) Kind). for_shape r (λ shape. Ok (form_of shape Nums))) is in
    let same : Ok f ≡ Ok (form_of s Nums) = sym e ∙ form in
    cc

-- ---- items

-- at an index list of its own shape, an extended array has its own item
extended_own : (a : ArrayValue) (index : List ℕ) → is_index_of a.shape index ≡ true → extended a index ≡ item_of a index
extended_own a index inside = ap (λ (k : ℕ). get_or a.items k (fill a.item_type)) (elim (cases_Bool (size a.shape == 1)) [
  | inl t ↦
      let below = places_below a.shape index inside in
      let one = eqb-true _ _ t in
      let first : 0 ≡ places_before a.shape index = omega arith in
      cond-true _ _ _ t ∙ first
  | inr f ↦ cond-false _ _ _ f
])

extended_kept : (old new : ArrayValue) (index : List ℕ) → IsGrown old new → IsArray old → is_index_of old.shape index ≡ true → extended old index ≡ extended new index
extended_kept old new index h sound inside =
    let there : is_index_of new.shape index ≡ true = ap (λ (s : List ℕ). is_index_of s index) (shape_grown old new h) ∙ still_inside old.shape index inside in
    extended_own old index inside ∙ item_kept old new index h sound inside ∙ sym (extended_own new index there)

long_grown : (old new : ArrayValue) → IsGrown old new → length new.shape ≡ length old.shape
long_grown old new h = ap (λ (s : List ℕ). length s) (shape_grown old new h) ∙ length-longer old.shape

-- an array that extends to the grown array extended to the old one
was_extended : (old new b : ArrayValue) → IsGrown old new → is_extended_to new b ≡ true → (size b.shape ≡ 1) × ((length b.shape ≤ length old.shape) × (length b.shape ≤ length new.shape))
was_extended old new b h listed =
    let parts = and_parts _ _ listed in
    let low = leb-true (length b.shape) (length new.shape) parts.1 in
    (eqb-true _ _ parts.0, (omega (arith, low, long_grown old new h), low))

-- shapes that are equal after growth were equal before
same_before : (s t : List ℕ) → 0 < length s → 0 < length t → one_longer s ≡ one_longer t → s ≡ t
same_before [] t p q e = absurd (omega arith)
same_before (n ∷ s) [] p q e = absurd (omega arith)
same_before (n ∷ s) (m ∷ t) p q e =
    let first : n + 1 ≡ m + 1 = cc in
    let same : n ≡ m = omega arith in
    let rest : s ≡ t = cc in
    λ i. same i ∷ rest i

pub each_dyadic_growing : (f : Scalar2) → IsGrowing (each_dyadic_rule f) each_dyadic_grows
each_dyadic_growing f = growing_growing _ _ (two_growing false each_dyadic_form (each_dyadic_item f) _ _ is_extended_to (λ a b. is_extended_to b a) (λ a b. bytes_eq a.shape b.shape) (record {
  left_grows = λ old new b g k h so sb listed e w.
      let fits = was_extended old new b h listed in
      longer_form _ _ _ g k old.shape Nums (form_in old b old.shape g (common_left old.shape b.shape fits.0 fits.1.0) e)
      (form_in new b new.shape k (common_left new.shape b.shape fits.0 fits.1.1) w ∙ ap (λ (s : List ℕ). form_of s Nums) (shape_grown old new h)) h.fits.some_axis
      (λ index inside. ap (λ (x : Item). dyadic_on_items f x (extended b index)) (extended_kept old new index h so inside));
  right_grows = λ a old new g k h sa so listed e w.
      let fits = was_extended old new a h listed in
      longer_form _ _ _ g k old.shape Nums (form_in a old old.shape g (common_right a.shape old.shape fits.0 fits.1.0) e)
      (form_in a new new.shape k (common_right a.shape new.shape fits.0 fits.1.1) w ∙ ap (λ (s : List ℕ). form_of s Nums) (shape_grown old new h)) h.fits.some_axis
      (λ index inside. ap (λ (x : Item). dyadic_on_items f (extended a index) x) (extended_kept old new index h so inside));
  both_grow = λ old new old2 new2 g k h h2 so so2 listed e w.
      let now : new.shape ≡ new2.shape = (bytes_eq-Decides new.shape new2.shape).0 listed in
      let before : old.shape ≡ old2.shape = same_before old.shape old2.shape h.fits.some_axis h2.fits.some_axis (sym (shape_grown old new h) ∙ now ∙ shape_grown old2 new2 h2) in
      longer_form _ _ _ g k old.shape Nums (form_in old old2 old.shape g (ap (λ (s : List ℕ). common old.shape s) (sym before) ∙ common_same old.shape) e)
      (form_in new new2 new.shape k (ap (λ (s : List ℕ). common new.shape s) (sym now) ∙ common_same new.shape) w ∙ ap (λ (s : List ℕ). form_of s Nums) (shape_grown old new h)) h.fits.some_axis
      (λ index inside.
      let first = extended_kept old new index h so inside in
      let second = extended_kept old2 new2 index h2 so2 (ap (λ (s : List ℕ). is_index_of s index) (sym before) ∙ inside) in
      λ i. dyadic_on_items f (first i) (second i));
}))
