-- The consequences of the checks of replicate, and the places of its copies.
use Rattle.std.{proofs.Common.{◌≡◌, ℕ, zero, suc, ◌<◌, ◌≤◌, true, ◌&&◌, ◌||◌, nat_eq, Ok, List, [], ◌∷◌, length, get_or, set, insert, remove, refl, ap, arith}, specs.Prelude.{max}}
use Rattle.arrays_core.{specs.declared.item.ItemType.{ItemType}, specs.Arrays.{ArrayValue}, specs.Shapes.{is_index_of}, proofs.Shapes.{as_long, head_of}}
use Rattle.function_names.{specs.declared.along.Along.{Along}, specs.Axes.{is_axis, axis_at}}
use Rattle.index_region.{specs.Checks.{form_of, Form}, specs.Axes.{places_along}, specs.Arguments.{is_list, has_one_item, counts_as_numbers, none_negative, numbers}, proofs.Passing.{gives, limited_gives}, proofs.RowIndices.{axis_below}}
use Rattle.selection_fns.specs.Replicate.{replicated_shape, replicate_form}

-- an index list of a shape with one axis replaced
pub record IsCopied (axes : List ℕ) (k places : ℕ) (index : List ℕ) : Type 0 where
  pub long : length index ≡ length axes
  pub low : 1 ≤ get_or index k 0
  pub high : get_or index k 0 ≤ places

pub is_copied : (axes : List ℕ) (k places : ℕ) (index : List ℕ) → k < length axes → is_index_of (insert (remove axes k) k places) index ≡ true
    → IsCopied axes k places index
is_copied [] k places index h inside = absurd (omega arith)
is_copied (n ∷ axes) zero places [] h inside = let no : ⊥ = cc in absurd no
is_copied (n ∷ axes) (suc k) places [] h inside = let no : ⊥ = cc in absurd no
is_copied (n ∷ axes) zero places (i ∷ index) h inside =
    let head = head_of places i axes index inside in
    let long = as_long axes index head.rest in
    record { long = omega arith; low = head.low; high = head.high }
is_copied (n ∷ axes) (suc k) places (i ∷ index) h inside =
    let head = head_of n i (insert (remove axes k) k places) index inside in
    let rest = is_copied axes k places index (omega arith) head.rest in
    record { long = let long = rest.long in omega arith; low = rest.low; high = rest.high }

-- to set an axis of a shape is to replace it
pub exchanged : (axes : List ℕ) (k places : ℕ) → k < length axes → set axes k places ≡ insert (remove axes k) k places
exchanged [] k places h = absurd (omega arith)
exchanged (n ∷ axes) zero places h = refl
exchanged (n ∷ axes) (suc k) places h = ap (λ rest. n ∷ rest) (exchanged axes k places (omega arith))

-- where replicate has a form, the array has the axis, and the form has the shape of the copies
pub record ReplicateGives (along : Along) (a b : ArrayValue) (shape : List ℕ) (item_type : ItemType) : Type 0 where
  pub axis : is_axis (max 1 (length b.shape)) along ≡ true
  pub shaped : shape ≡ replicated_shape a b.shape (axis_at (max 1 (length b.shape)) along)
  pub typed : item_type ≡ b.item_type

pub replicate_gives : (along : Along) (a b : ArrayValue) (shape : List ℕ) (item_type : ItemType) → replicate_form along a b ≡ Ok (form_of shape item_type)
    → ReplicateGives along a b shape item_type
replicate_gives along a b shape item_type form =
    let rank = max 1 (length b.shape) in
    let axis = axis_at rank along in
    let n = places_along b.shape axis in
    let axes = gives (is_axis rank along) _ _ (form_of shape item_type) form in
    let ranks = gives (is_list a) _ _ (form_of shape item_type) axes.is in
    let lengths = gives (has_one_item a || (nat_eq n 1 || nat_eq (length a.items) n)) _ _ (form_of shape item_type) ranks.is in
    let counted = gives (counts_as_numbers a && none_negative (numbers a)) _ _ (form_of shape item_type) lengths.is in
    let asked = limited_gives (replicated_shape a b.shape axis) b.item_type (form_of shape item_type) counted.is in
    record { axis = axes.test; shaped = ap (λ (f : Form). f.shape) asked; typed = ap (λ (f : Form). f.item_type) asked }

-- the replaced axis has the new length
pub record IsExchanged (shape : List ℕ) (k places : ℕ) : Type 0 where
  pub there : k < length (insert (remove shape k) k places)
  pub is : get_or (insert (remove shape k) k places) k 0 ≡ places

pub exchanged_there : (along : Along) (shape : List ℕ) (places : ℕ) → is_axis (max 1 (length shape)) along ≡ true
    → IsExchanged shape (axis_at (max 1 (length shape)) along) places
exchanged_there along shape places h = at shape (axis_at (max 1 (length shape)) along) (axis_below (max 1 (length shape)) along h (omega arith))
  where
    at : (shape : List ℕ) (k : ℕ) → k < max 1 (length shape) → IsExchanged shape k places
    at [] zero h = record { there = omega arith; is = refl }
    at [] (suc k) h = absurd (omega arith)
    at (n ∷ shape) zero h = record { there = omega arith; is = refl }
    at (n ∷ []) (suc k) h = absurd (omega arith)
    at (n ∷ m ∷ shape) (suc k) h =
        let rest = at (m ∷ shape) k (omega arith) in
        let there = rest.there in
        record { there = omega arith; is = rest.is }
