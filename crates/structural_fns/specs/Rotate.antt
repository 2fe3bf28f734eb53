-- Rotate, A⌽B along an axis: its places moved cyclically.
use Rattle.std.specs.Prelude.{ℕ, suc, nat_eq, ℤ, pos, ◌+ℤ◌, ◌-ℤ◌, unsigned_abs, ◌||◌, List, length, get_or, set, remove, Result, ◌==◌, if◌then◌else◌, [], ◌∷◌, map, insert, false, Some}
use Rattle.arrays_core.{specs.declared.item.Item.{Item}, specs.declared.item.Kind.{Kind}, specs.declared.item.Kind.TheVariants.{Axis, Rank, Length, Domain}, specs.Arrays.{ArrayValue}, specs.Shapes.{size}}
use Rattle.function_names.{specs.declared.along.Along.{Along}, specs.Axes.{is_axis, axis_at}}
use Rattle.index_region.{specs.Checks.{check, Form, limited, whole}, specs.Arguments.{has_one_item, counts_as_numbers, number_of}, specs.Axes.{places_along}, specs.Sources.{Place, Source, item_from}, specs.Boxes.{whole_of}}
use Rattle.change_core.{specs.RuleModels.{RuleModel, Use}, specs.Sourced.{Spread, on_axis, right_used, two_rule}}
use Rattle.scalar_fns.specs.ScalarExtension.{same_shape, extended}
use Rattle.item_fns.specs.Numbers.{residue}

-- one amount, or one for each line of a shape along an axis
abbrev pub lines_checked : ℕ → ArrayValue → List ℕ → Result Form Kind → Result Form Kind
lines_checked axis a shape rest =
    check (has_one_item a || nat_eq (suc (length a.shape)) (length shape)) Rank
    (check (has_one_item a || same_shape a.shape (remove shape axis)) Length rest)

-- the checks, and the shape and the type of the result
abbrev pub rotate_form : Along → ArrayValue → ArrayValue → Result Form Kind
rotate_form along a b =
    let axis = axis_at (length b.shape) along in
    check (is_axis (length b.shape) along) Axis
    (lines_checked axis a b.shape
    (check (counts_as_numbers a) Domain
    (limited b.shape b.item_type)))

-- the amount for the line of an index list
abbrev pub rotation : ℕ → ArrayValue → List ℕ → ℤ
rotation axis a index = number_of (extended a (remove index axis))

-- the place that moves to place i of n
abbrev pub rotated_place : ℕ → ℤ → ℕ → ℕ
rotated_place n amount i = suc (unsigned_abs (residue (pos n) ((pos i +ℤ amount) -ℤ pos 1)))

-- the source of the item at an index list
abbrev pub rotate_source : Along → ArrayValue → ArrayValue → List ℕ → Source
rotate_source along a b index =
    let axis = axis_at (length b.shape) along in
    Place 1 (set index axis (rotated_place (places_along b.shape axis) (rotation axis a index) (get_or index axis 1)))

-- the item at an index list
abbrev pub rotate_item : Along → ArrayValue → ArrayValue → List ℕ → Result Item Kind
rotate_item along a b index = item_from a b b.item_type (rotate_source along a b index)

-- the whole result
abbrev pub rotate_whole : Along → ArrayValue → ArrayValue → Result ArrayValue Kind
rotate_whole along a b = whole (rotate_form along a b) (rotate_item along a b)

-- The change rule of A⌽B along an axis: whole lines along it, as an item may come from any place of its line.

-- the box of B: the axis whole, other axes unchanged
abbrev pub rotate_box : Along → ArrayValue → Spread
rotate_box along b =
    let axis = axis_at (length b.shape) along in
    on_axis axis (λ s. (1, places_along b.shape axis))

-- the box of A: everything if it has one amount, otherwise the lines of the changed amounts
abbrev pub amounts_box : Along → List ℕ → ArrayValue → ArrayValue → Spread
amounts_box along shape a b region =
    let axis = axis_at (length b.shape) along in
    Some (if has_one_item a then whole_of shape else insert region axis (1, places_along b.shape axis))

-- each item reads the amount of its line, or the only amount
abbrev pub amounts_use : Along → List ℕ → ArrayValue → ArrayValue → Use
amounts_use along shape a b = record {
  reads = λ index. (if size a.shape == 1 then map (λ _. 1) a.shape else remove index (axis_at (length b.shape) along)) ∷ [];
  box = amounts_box along shape a b;
}

-- each item reads its amount, and the place that it is copied from
abbrev pub rotate_rule : Along → RuleModel
rotate_rule along = two_rule false (rotate_form along) (rotate_item along) (amounts_use along) (λ shape a b. right_used (rotate_source along a b) (rotate_box along b))
