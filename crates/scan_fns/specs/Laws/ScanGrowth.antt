-- The growth of scans along an axis that is not the first.
use Rattle.std.{proofs.Common.{◌≡◌, ℕ, ◌<◌, ap, sym, ◌∙◌, List, length, take, get_or, remove, nat_lt, if◌then◌else◌}, proofs.lemmas.Bool.{and_parts}}
use Rattle.arrays_core.{specs.declared.item.Item.{Item}, specs.declared.item.ItemType.TheVariants.{Nums}, specs.Growth.{one_longer}}
use Rattle.function_names.{specs.declared.scalar.Scalar2.{Scalar2}, specs.declared.along.Along.{Along}, specs.Axes.{axis_at}}
use Rattle.change_core.{specs.Growth.{IsGrowing}, proofs.Growing.{growing_growing, longer_form, one_growing, shape_grown, type_grown}}
use Rattle.scan_fns.{specs.Scan.{scan_form, scan_item, scan_type, scan_rule, scan_use}, specs.Laws.ScannedPlaces.{at_axis, scan_facts}}
use Rattle.item_fns.specs.RightFold.{fold_right}
use Rattle.reduce_fns.{specs.Lines.{line}, specs.Growth.{lines_grow}, specs.Laws.LinesGrowth.{alike, line_kept, form_is}}
use Rattle.index_region.proofs.RowIndices.{axis_below}

pub scan_growing : (f : Scalar2) (along : Along) → IsGrowing (scan_rule f along) (lines_grow along)
scan_growing f along = growing_growing _ _ (one_growing (scan_form along) (scan_item f along) (scan_use along) _ (λ old new g k h so sn listed e w.
    let same = alike along old new h (and_parts _ _ listed).1 in
    let axis = axis_at (length old.shape) along in
    let was = scan_facts along old g.shape g.item_type e in
    let is = scan_facts along new k.shape k.item_type w in
    let there : axis < length old.shape = axis_below (length old.shape) along was.on_axis h.fits.some_axis in
    let shaped : k.shape ≡ one_longer old.shape = is.shaped ∙ shape_grown old new h in
    let typed : k.item_type ≡ scan_type old axis = is.typed ∙ ap (scan_type new) same.axis ∙ (λ i. if nat_lt (same.places i) 2 then type_grown old new h i else Nums) in
    longer_form _ _ _ g k old.shape (scan_type old axis) (form_is g _ _ was.shaped was.typed) (form_is k _ _ shaped typed) h.fits.some_axis
    (λ index place.
    let at = at_axis old.shape index axis there place in
    ap (λ (l : List Item). fold_right f (take (get_or index axis 1) l)) (line_kept along old new (remove index axis) h so same there at.others)
    ∙ ap (λ (n : ℕ). fold_right f (take (get_or index n 1) (line new (axis_at (length new.shape) along) (remove index n)))) (sym same.axis))))
