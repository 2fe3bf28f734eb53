-- Scan, f\B and f⍀B.
use Rattle.std.{specs.Prelude.{ℕ, ◌+◌, ◌-◌, nat_lt, ◌||◌, List, [], ◌∷◌, length, map, get_or, set, take, remove, if◌then◌else◌, Result}, specs.List.{range_with_len}}
use Rattle.arrays_core.{specs.declared.item.Item.{Item}, specs.declared.item.ItemType.{ItemType}, specs.declared.item.ItemType.TheVariants.{Nums}, specs.declared.item.Kind.{Kind}, specs.declared.item.Kind.TheVariants.{Axis, Domain}, specs.Items.{all_or_first_error}, specs.Arrays.{ArrayValue, with_items}}
use Rattle.function_names.{specs.declared.along.Along.{Along}, specs.Axes.{is_axis, axis_at}, specs.declared.scalar.Scalar2.{Scalar2}}
use Rattle.index_region.{specs.Checks.{Form, check, limited, whole}, specs.Arguments.{counts_as_numbers}, specs.Axes.{places_along}}
use Rattle.change_core.{specs.RuleModels.{RuleModel, Use}, specs.Growth.{growing}, specs.Sourced.{one_rule}, specs.Ways.{along as on_own_line}}
use Rattle.item_fns.specs.RightFold.{fold_right}
use Rattle.reduce_fns.{specs.Lines.{line}, specs.Growth.{lines_grow}}

-- the item type of the result: b's own if the axis is shorter than 2, else numbers
abbrev pub scan_type : ArrayValue → ℕ → ItemType
scan_type b axis = if nat_lt (places_along b.shape axis) 2 then b.item_type else Nums

-- the checks, then the shape and the item type of the result
abbrev pub scan_form : Along → ArrayValue → Result Form Kind
scan_form along b =
    let axis = axis_at (length b.shape) along in
    check (is_axis (length b.shape) along) Axis
    (check (nat_lt (places_along b.shape axis) 2 || counts_as_numbers b) Domain
    (limited b.shape (scan_type b axis)))

-- the right fold of the line up to the place of the item
abbrev pub scan_item : Scalar2 → Along → ArrayValue → List ℕ → Result Item Kind
scan_item f along b index =
    let axis = axis_at (length b.shape) along in
    fold_right f (take (get_or index axis 1) (line b axis (remove index axis)))

-- the items on the line of an index list, from its place up to a later one
abbrev pub scan_along : Scalar2 → Along → ArrayValue → List ℕ → ℕ → Result ArrayValue Kind
scan_along f along b index last =
    let axis = axis_at (length b.shape) along in
    let first = get_or index axis 1 in
    with_items Nums ((last + 1 - first) ∷ []) (all_or_first_error (map (λ before. scan_item f along b (set index axis (first + before))) (range_with_len 0 (last + 1 - first))))

-- the whole result
abbrev pub scan_whole : Scalar2 → Along → ArrayValue → Result ArrayValue Kind
scan_whole f along b = whole (scan_form along b) (scan_item f along b)

-- Effect of a change of the argument on the result.

-- each item reads its line along an axis (from 0) up to its own place. A changed interval on that axis maps to itself and all later places.
abbrev pub run_use : ℕ → ArrayValue → Use
run_use axis b = on_own_line axis (λ index. range_with_len 1 (get_or index axis 1)) (λ s. (s.0, places_along b.shape axis))

abbrev pub scan_use : Along → List ℕ → ArrayValue → Use
scan_use along shape b = run_use (axis_at (length b.shape) along) b

abbrev pub scan_rule : Scalar2 → Along → RuleModel
scan_rule f along = growing (one_rule (scan_form along) (scan_item f along) (scan_use along)) (lines_grow along)
