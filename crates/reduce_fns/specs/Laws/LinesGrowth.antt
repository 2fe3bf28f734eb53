-- The growth of reductions and scans along an axis that is not the first.
use Rattle.std.{proofs.Common.{◌≡◌, ℕ, ◌<◌, zero, suc, ap, sym, ◌∙◌, arith, true, Bool, not, List, length, insert, remove, map, nat_eq, if◌then◌else◌}, specs.Prelude.{◌==◌}, specs.List.{range_with_len}, proofs.lemmas.Bool.{and_parts}, proofs.lemmas.List.{get_or_default}}
use Rattle.arrays_core.{specs.declared.item.ItemType.{ItemType}, specs.declared.item.ItemType.TheVariants.{Nums}, specs.Arrays.{ArrayValue, IsArray, item_of}, specs.Shapes.{is_index_of}, specs.Growth.{one_longer}}
use Rattle.function_names.{specs.declared.scalar.Scalar2.{Scalar2}, specs.declared.along.Along.{Along}, specs.Axes.{axis_at}}
use Rattle.index_region.{specs.Axes.{places_along}, specs.Checks.{Form, form_of}, proofs.RowIndices.{axis_below}}
use Rattle.change_core.{specs.Growth.{IsGrown, IsGrowing}, proofs.Growing.{along_longer, item_kept, growing_growing, length-longer, longer_form, one_growing, range_same, remove_longer, shape_grown, some_left, type_grown}}
use Rattle.reduce_fns.{specs.Reduce.{reduce_form, reduce_item, reduce_type, reduce_rule, reduce_use}, specs.Lines.{line}, specs.Laws.LineIndices.{inside}, specs.Laws.ReducedShapes.{reduce_facts}, specs.Growth.{lines_grow}}
use Rattle.item_fns.specs.RightFold.{fold_right}

-- facts shared by an old array and the longer one, for an axis that is not the first
pub record Alike (along : Along) (old new : ArrayValue) : Type 0 where
  pub axis : axis_at (length new.shape) along ≡ axis_at (length old.shape) along
  pub later : 0 < axis_at (length old.shape) along
  pub places : places_along new.shape (axis_at (length old.shape) along) ≡ places_along old.shape (axis_at (length old.shape) along)

not_first : (n : ℕ) → not (n == 0) ≡ true → 0 < n
not_first zero h = absurd (let no : ⊥ = cc in no)
not_first (suc n) h = omega arith

pub alike : (along : Along) (old new : ArrayValue) → IsGrown old new → not (axis_at (length new.shape) along == 0) ≡ true → Alike along old new
alike along old new h listed =
    let shaped = shape_grown old new h in
    let long : length new.shape ≡ length old.shape = ap (λ (s : List ℕ). length s) shaped ∙ length-longer old.shape in
    let same : axis_at (length new.shape) along ≡ axis_at (length old.shape) along = ap (λ (n : ℕ). axis_at n along) long in
    let later : 0 < axis_at (length old.shape) along = omega (arith, not_first (axis_at (length new.shape) along) listed, same) in
    record { axis = same; later = later; places = ap (λ (s : List ℕ). places_along s (axis_at (length old.shape) along)) shaped ∙ along_longer old.shape _ later }

-- a line at an old index list is the same
pub line_kept : (along : Along) (old new : ArrayValue) (index : List ℕ) → IsGrown old new → IsArray old → Alike along old new → axis_at (length old.shape) along < length old.shape
    → is_index_of (remove old.shape (axis_at (length old.shape) along)) index ≡ true → line old (axis_at (length old.shape) along) index ≡ line new (axis_at (length new.shape) along) index
line_kept along old new index h sound same there place =
    let axis = axis_at (length old.shape) along in
    let other = get_or_default old.shape axis 1 0 there in
    range_same (λ j. item_of old (insert index axis j)) (λ j. item_of new (insert index axis j)) 1 (places_along old.shape axis)
    (λ j low high. item_kept old new (insert index axis j) h sound (inside axis old.shape index j there place low (omega arith)))
    ∙ ap (λ (n : ℕ). map (λ j. item_of new (insert index axis j)) (range_with_len 1 n)) (sym same.places)
    ∙ ap (λ (k : ℕ). line new k index) (sym same.axis)

some_type : (w : Bool) (s t : ItemType) → s ≡ t → (if w then s else Nums) ≡ (if w then t else Nums)
some_type w s t e = ap (λ (x : ItemType). if w then x else Nums) e

pub form_is : (f : Form) (s : List ℕ) (t : ItemType) → f.shape ≡ s → f.item_type ≡ t → f ≡ form_of s t
form_is f s t p q = λ i. form_of (p i) (q i)

pub reduce_growing : (f : Scalar2) (along : Along) → IsGrowing (reduce_rule f along) (lines_grow along)
reduce_growing f along = growing_growing _ _ (one_growing (reduce_form along) (reduce_item f along) (reduce_use along) _ (λ old new g k h so sn listed e w.
    let same = alike along old new h (and_parts _ _ listed).1 in
    let axis = axis_at (length old.shape) along in
    let was = reduce_facts along old g.shape g.item_type e in
    let is = reduce_facts along new k.shape k.item_type w in
    let there : axis < length old.shape = axis_below (length old.shape) along was.on_axis h.fits.some_axis in
    let shaped : k.shape ≡ one_longer (remove old.shape axis) = is.shaped ∙ (λ i. remove (shape_grown old new h i) (same.axis i)) ∙ remove_longer old.shape axis same.later in
    let typed : k.item_type ≡ reduce_type old axis = is.typed ∙ ap (reduce_type new) same.axis ∙ (λ i. if nat_eq (same.places i) 1 then type_grown old new h i else Nums) in
    longer_form _ _ _ g k (remove old.shape axis) (reduce_type old axis) (form_is g _ _ was.shaped was.typed) (form_is k _ _ shaped typed) (some_left old.shape axis same.later h.fits.some_axis)
    (λ index place. ap (fold_right f) (line_kept along old new index h so same there place))))
