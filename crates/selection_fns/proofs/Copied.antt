-- The consequences of the checks of replicate.
use Rattle.std.{proofs.Common.{◌≡◌, ℕ, zero, suc, ◌*◌, ◌≤◌, ◌<◌, Bool, true, false, nat_le, ◌&&◌, ◌||◌, nat_eq, List, [], ◌∷◌, length, take, replicate, get_or, refl, sym, ap, subst, arith, Result, Ok, Err}, specs.Prelude.{max, sum}, specs.List.{list_all}, proofs.lemmas.Bool.{and_parts, leb-true}}
use Rattle.arrays_core.{specs.declared.item.ItemType.{ItemType}, specs.declared.item.Kind.{Kind}, specs.declared.item.Kind.TheVariants.{Limit}, specs.Arrays.{ArrayValue}, specs.Shapes.{size}}
use Rattle.function_names.{specs.declared.along.Along.{Along}, specs.Axes.{is_axis, axis_at}}
use Rattle.index_region.{specs.Arguments.{is_list, has_one_item, counts_as_numbers, none_negative, numbers}, specs.Axes.{places_along}, specs.Checks.{Form, form_of, check, limited, is_within_limits}, proofs.Passing.{gives}}
use Rattle.change_core.specs.RuleModels.{HasShape}
use Rattle.selection_fns.{specs.Replicate.{times, replicated_shape, replicate_form}, specs.Laws.RepeatedPlaces.{sum_front}, specs.Laws.CopiedPlaces.{exchanged_there}}

pub sum_first_same : (first places count : ℕ) → first ≤ places → sum (take first (replicate places count)) ≡ first * count
sum_first_same zero places count h = let none : 0 * count ≡ 0 = omega arith in sym none
sum_first_same (suc first) zero count h = absurd (omega arith)
sum_first_same (suc first) (suc places) count h =
    omega (arith, sum_first_same first places count (omega arith), sum_front count (take first (replicate places count)))

-- a form has this shape
pub record IsForm (form : Result Form Kind) (shape : List ℕ) : Type 0 where
  pub item_type : ItemType
  pub is : form ≡ Ok (form_of shape item_type)

pub has_form : (form : Result Form Kind) (shape : List ℕ) → HasShape form shape → IsForm form shape
has_form (Ok f) shape h = record { item_type = f.item_type; is = λ i. Ok (form_of (h i) f.item_type) }
has_form (Err kind) shape h = absurd h

-- a shape within the limits
pub record IsLimited (shape : List ℕ) (form : Form) : Type 0 where
  pub is : form.shape ≡ shape
  pub rank : length shape ≤ 4
  pub axes : list_all (λ n. nat_le n 1048576) shape ≡ true

pub limited_within : (shape : List ℕ) (item_type : ItemType) (form : Form) → limited shape item_type ≡ Ok form → IsLimited shape form
limited_within shape item_type form h = decide (is_within_limits shape) refl h
  where
    decide : (w : Bool) → is_within_limits shape ≡ w → check w Limit (Ok (form_of shape item_type)) ≡ Ok form → IsLimited shape form
    decide true e h =
        let same : (form_of shape item_type) ≡ form = cc in
        let parts = and_parts _ _ (and_parts (nat_le (length shape) 4 && list_all (λ n. nat_le n 1048576) shape) (nat_le (size shape) 1048576) e).0 in
        record { is = ap (λ (f : Form). f.shape) (sym same); rank = leb-true _ _ parts.0; axes = parts.1 }
    decide false e h = let no : ⊥ = cc in absurd no

pub axis_within : (shape : List ℕ) (axis : ℕ) → list_all (λ n. nat_le n 1048576) shape ≡ true → axis < length shape → get_or shape axis 0 ≤ 1048576
axis_within [] axis h k = absurd (omega arith)
axis_within (n ∷ shape) zero h k = leb-true n 1048576 (and_parts _ _ h).0
axis_within (n ∷ shape) (suc axis) h k = axis_within shape axis (and_parts _ _ h).1 (omega arith)

-- the consequences of the checks, where the array has axes
pub record IsCopiedAlong (a : ArrayValue) (shape result : List ℕ) (axis : ℕ) : Type 0 where
  pub there : axis < length result
  pub few : sum (times a (places_along shape axis)) ≤ 1048576

pub copied_along : (along : Along) (a b : ArrayValue) (shape : List ℕ) → HasShape (replicate_form along a b) shape → IsCopiedAlong a b.shape shape (axis_at (max 1 (length b.shape)) along)
copied_along along a b shape h =
    let form = has_form (replicate_form along a b) shape h in
    let rank = max 1 (length b.shape) in
    let axis = axis_at rank along in
    let n = places_along b.shape axis in
    let asked = form_of shape form.item_type in
    let axes = gives (is_axis rank along) _ _ asked form.is in
    let lengths = gives (has_one_item a || (nat_eq n 1 || nat_eq (length a.items) n)) _ _ asked (gives (is_list a) _ _ asked axes.is).is in
    let limits = limited_within (replicated_shape a b.shape axis) b.item_type asked (gives (counts_as_numbers a && none_negative (numbers a)) _ _ asked lengths.is).is in
    let copies = exchanged_there along b.shape (sum (times a n)) axes.test in
    record {
      there = subst (λ (s : List ℕ). axis < length s) (sym limits.is) copies.there;
      few = subst (λ (k : ℕ). k ≤ 1048576) copies.is (axis_within (replicated_shape a b.shape axis) axis limits.axes copies.there);
    }
