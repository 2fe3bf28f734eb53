-- The two sides of a catenation.
use Rattle.std.{proofs.Common.{◌≡◌, ℕ, Bool, true, false, not, ◌&&◌, ◌||◌, if◌then◌else◌, List, refl}, proofs.lemmas.Bool.{false≢true}}
use Rattle.arrays_core.{specs.declared.item.Item.{Item}, specs.declared.item.ItemType.{ItemType}, specs.declared.item.ItemType.TheVariants.{Nums, Chars}, specs.declared.item.Kind.TheVariants.{Axis as AxisKind, Rank, Length, Domain}, specs.Items.{type_of}, specs.Arrays.{ArrayValue}}
use Rattle.function_names.{specs.declared.along.Along.{Along}, specs.Axes.{is_axis, axis_at}}
use Rattle.index_region.{specs.Checks.{check, limited}, specs.Arguments.{has_items, is_same_type}, specs.Answers.{IsPlaceOf, HasTypeOf}, proofs.Passing.{passed, typed_check, typed_limited}}
use Rattle.structural_fns.specs.Catenate.{joined_rank, ranks_join, axes_agree, types_join, joined_type, joined_shape, catenate_form}

same_types : (left right : Bool) (s t : ItemType)
    → ((not left || not right) || is_same_type s t) ≡ true → right ≡ true
    → t ≡ (if not left && right then t else s)
same_types left false s t h e = absurd (false≢true e)
same_types false true s t h e = refl
same_types true true Nums Nums h e = refl
same_types true true Nums Chars h e = absurd (false≢true h)
same_types true true Chars Nums h e = absurd (false≢true h)
same_types true true Chars Chars h e = refl

pub right_typed : (a b : ArrayValue) → types_join a b ≡ true → has_items b ≡ true → b.item_type ≡ joined_type a b
right_typed a b h e = same_types (has_items a) (has_items b) a.item_type b.item_type h e

-- the types of two sides that have passed the checks
pub join_types : (along : Along) (a b : ArrayValue) (index : List ℕ) → IsPlaceOf (catenate_form along a b) index → types_join a b ≡ true
join_types along a b index h =
    let rank = joined_rank a b in
    let ranks = passed (ranks_join a b) _ _ index (passed (is_axis rank along) _ _ index h).place in
    (passed (types_join a b) _ _ index (passed (axes_agree rank (axis_at rank along) a b) _ _ index ranks.place).place).test

pub join_typed : (along : Along) (a b : ArrayValue) (item : Item) → type_of item ≡ joined_type a b → HasTypeOf (catenate_form along a b) item
join_typed along a b item h =
    let rank = joined_rank a b in
    let axis = axis_at rank along in
    let last = limited (joined_shape rank axis a b) (joined_type a b) in
    let types = check (types_join a b) Domain last in
    let axes = check (axes_agree rank axis a b) Length types in
    typed_check (is_axis rank along) AxisKind (check (ranks_join a b) Rank axes) item
    (typed_check (ranks_join a b) Rank axes item
    (typed_check (axes_agree rank axis a b) Length types item
    (typed_check (types_join a b) Domain last item
    (typed_limited (joined_shape rank axis a b) (joined_type a b) item h))))
