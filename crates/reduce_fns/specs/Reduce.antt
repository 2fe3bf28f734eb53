-- Reduction, f/B and f⌿B.
use Rattle.std.{specs.Prelude.{ℕ, nat_eq, List, length, remove, if◌then◌else◌, Result, [], ◌∷◌, map, insert, Some}, specs.List.{range_with_len}}
use Rattle.arrays_core.{specs.declared.item.Item.{Item}, specs.declared.item.ItemType.{ItemType}, specs.declared.item.ItemType.TheVariants.{Nums}, specs.declared.item.Kind.{Kind}, specs.declared.item.Kind.TheVariants.{Axis}, specs.Arrays.{ArrayValue}}
use Rattle.function_names.{specs.declared.along.Along.{Along}, specs.Axes.{is_axis, axis_at}, specs.declared.scalar.Scalar2.{Scalar2}}
use Rattle.index_region.{specs.Checks.{Form, check, limited, whole}, specs.Axes.{places_along}, specs.Arguments.{is_scalar}}
use Rattle.change_core.{specs.RuleModels.{RuleModel, Use}, specs.Growth.{growing}, specs.Sourced.{one_rule}}
use Rattle.item_fns.specs.RightFold.{fold_right}
use Rattle.reduce_fns.{specs.Lines.{line}, specs.Growth.{lines_grow}}

-- the item type of the result: b's own if each line is one item, else numbers
abbrev pub reduce_type : ArrayValue → ℕ → ItemType
reduce_type b axis = if nat_eq (places_along b.shape axis) 1 then b.item_type else Nums

-- the checks, then the shape and the item type of the result
abbrev pub reduce_form : Along → ArrayValue → Result Form Kind
reduce_form along b =
    let axis = axis_at (length b.shape) along in
    check (is_axis (length b.shape) along) Axis (limited (remove b.shape axis) (reduce_type b axis))

-- the item at an index list: the right fold of its line
abbrev pub reduce_item : Scalar2 → Along → ArrayValue → List ℕ → Result Item Kind
reduce_item f along b index = fold_right f (line b (axis_at (length b.shape) along) index)

-- the whole result
abbrev pub reduce_whole : Scalar2 → Along → ArrayValue → Result ArrayValue Kind
reduce_whole f along b = whole (reduce_form along b) (reduce_item f along b)

-- Effect of a change of the argument on the result.

-- each item reads its line along an axis (from 0), and a scalar its one item. A changed box maps to itself without that axis.
abbrev pub line_use : ℕ → ArrayValue → Use
line_use axis b = record {
  reads = λ index. if is_scalar b then [] ∷ [] else map (insert index axis) (range_with_len 1 (places_along b.shape axis));
  box = λ region. Some (remove region axis);
}

abbrev pub reduce_use : Along → List ℕ → ArrayValue → Use
reduce_use along shape b = line_use (axis_at (length b.shape) along) b

abbrev pub reduce_rule : Scalar2 → Along → RuleModel
reduce_rule f along = growing (one_rule (reduce_form along) (reduce_item f along) (reduce_use along)) (lines_grow along)
