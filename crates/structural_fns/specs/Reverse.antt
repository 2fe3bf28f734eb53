-- Reverse, ⌽B along an axis: its places in reverse order. A scalar has the empty index list, so nothing is set.
use Rattle.std.specs.Prelude.{ℕ, suc, ◌-◌, List, length, get_or, set, Result}
use Rattle.arrays_core.{specs.declared.item.Item.{Item}, specs.declared.item.Kind.{Kind}, specs.declared.item.Kind.TheVariants.{Axis}, specs.Arrays.{ArrayValue}}
use Rattle.function_names.{specs.declared.along.Along.{Along}, specs.Axes.{is_axis, axis_at}}
use Rattle.index_region.{specs.Checks.{check, Form, limited, whole}, specs.Axes.{places_along}, specs.Sources.{Place, Source, item_from}, specs.Boxes.{Interval}}
use Rattle.change_core.{specs.RuleModels.{RuleModel}, specs.Sourced.{Spread, on_axis, one_sourced}}

-- the checks, and the shape and the type of the result
abbrev pub reverse_form : Along → ArrayValue → Result Form Kind
reverse_form along b = check (is_axis (length b.shape) along) Axis (limited b.shape b.item_type)

-- the source of the item at an index list
abbrev pub reverse_source : Along → ArrayValue → List ℕ → Source
reverse_source along b index =
    let axis = axis_at (length b.shape) along in
    Place 0 (set index axis (suc (places_along b.shape axis) - get_or index axis 1))

-- the item at an index list
abbrev pub reverse_item : Along → ArrayValue → List ℕ → Result Item Kind
reverse_item along b index = item_from b b b.item_type (reverse_source along b index)

-- the whole result
abbrev pub reverse_whole : Along → ArrayValue → Result ArrayValue Kind
reverse_whole along b = whole (reverse_form along b) (reverse_item along b)

-- The change rule of ⌽B along an axis: the changed interval of the axis, counted from its other end.

-- an interval of an axis of n places, counted from its other end
abbrev pub reversed : ℕ → Interval → Interval
reversed n s = (suc n - s.1, suc n - s.0)

-- the box: the interval of the axis reversed, other axes unchanged
abbrev pub reverse_box : Along → ArrayValue → Spread
reverse_box along b =
    let axis = axis_at (length b.shape) along in
    on_axis axis (reversed (places_along b.shape axis))

-- each item reads the place that it is copied from
abbrev pub reverse_rule : Along → RuleModel
reverse_rule along = one_sourced (reverse_form along) (reverse_source along) (λ shape b. reverse_box along b)
