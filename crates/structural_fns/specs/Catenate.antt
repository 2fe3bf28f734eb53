-- Catenate: two arrays joined along an axis.
use Rattle.std.specs.Prelude.{ℕ, suc, ◌+◌, ◌-◌, max, nat_eq, nat_le, Bool, not, ◌&&◌, ◌||◌, if◌then◌else◌, List, [], ◌∷◌, ◌++◌, length, get_or, set, insert, remove, Result, false, Some, ◌≡◌, ◌≤◌, ◌⊎◌}
use Rattle.arrays_core.{specs.declared.item.Item.{Item}, specs.declared.item.ItemType.{ItemType}, specs.declared.item.Kind.{Kind}, specs.declared.item.Kind.TheVariants.{Axis, Rank, Length, Domain}, specs.Arrays.{ArrayValue}}
use Rattle.function_names.{specs.declared.along.Along.{Along}, specs.Axes.{is_axis, axis_at}}
use Rattle.index_region.{specs.Checks.{check, Form, limited, whole}, specs.Arguments.{is_scalar, has_items, is_same_type}, specs.Sources.{Place, Source, item_from}, specs.Boxes.{Interval, whole_of}}
use Rattle.change_core.{specs.RuleModels.{RuleModel}, specs.Sourced.{Spread, on_axis, two_sourced}}
use Rattle.scalar_fns.specs.ScalarExtension.{same_shape}

-- the result has the greater rank, and at least 1
abbrev pub joined_rank : ArrayValue → ArrayValue → ℕ
joined_rank a b = max 1 (max (length a.shape) (length b.shape))

-- the number of places of a side along the axis
abbrev pub joined_places : ℕ → ℕ → ArrayValue → ℕ
joined_places rank axis a = if nat_eq (length a.shape) rank then get_or a.shape axis 0 else 1

-- the other axes of a side; an array of one rank less has no axis to leave out
abbrev pub other_axes : ℕ → ℕ → ArrayValue → List ℕ
other_axes rank axis a = if nat_eq (length a.shape) rank then remove a.shape axis else a.shape

-- a scalar joins any array; otherwise the ranks differ by at most 1
abbrev pub ranks_join : ArrayValue → ArrayValue → Bool
ranks_join a b = (is_scalar a || is_scalar b) || (nat_le (length a.shape) (suc (length b.shape)) && nat_le (length b.shape) (suc (length a.shape)))

-- a scalar is repeated over the other axes; otherwise they are equal
abbrev pub axes_agree : ℕ → ℕ → ArrayValue → ArrayValue → Bool
axes_agree rank axis a b = (is_scalar a || is_scalar b) || same_shape (other_axes rank axis a) (other_axes rank axis b)

-- an array without items has no type of its own
abbrev pub types_join : ArrayValue → ArrayValue → Bool
types_join a b = (not (has_items a) || not (has_items b)) || is_same_type a.item_type b.item_type

-- the type of the side that has items
abbrev pub joined_type : ArrayValue → ArrayValue → ItemType
joined_type a b = if not (has_items a) && has_items b then b.item_type else a.item_type

-- the other axes, with the places of both sides along the axis
abbrev pub joined_shape : ℕ → ℕ → ArrayValue → ArrayValue → List ℕ
joined_shape rank axis a b = insert (other_axes rank axis (if is_scalar a then b else a)) axis (joined_places rank axis a + joined_places rank axis b)

-- the checks of two sides, before the rest
abbrev pub sides_checked : ℕ → ℕ → ArrayValue → ArrayValue → Result Form Kind → Result Form Kind
sides_checked rank axis a b rest =
    check (ranks_join a b) Rank
    (check (axes_agree rank axis a b) Length
    (check (types_join a b) Domain rest))

-- the checks, and the shape and the type of the result
abbrev pub catenate_form : Along → ArrayValue → ArrayValue → Result Form Kind
catenate_form along a b =
    let rank = joined_rank a b in
    let axis = axis_at rank along in
    check (is_axis rank along) Axis
    (sides_checked rank axis a b
    (limited (joined_shape rank axis a b) (joined_type a b)))

-- the index list of a side at place i along the axis; a scalar is repeated over the other axes
abbrev pub in_side : ℕ → ℕ → ArrayValue → List ℕ → ℕ → List ℕ
in_side rank axis a index i = if is_scalar a then [] else (if nat_eq (length a.shape) rank then set index axis i else remove index axis)

-- the index list of a side for place i of a row of the result, with `skipped` places of the other side in front
abbrev pub in_side_of_row : ℕ → ℕ → ArrayValue → List ℕ → ℕ → List ℕ
in_side_of_row axis skipped a row i =
    let index = row ++ i ∷ [] in
    in_side (length row + 1) axis a index (get_or index axis 0 - skipped)

-- the first places along the axis come from a
abbrev pub catenate_source : Along → ArrayValue → ArrayValue → List ℕ → Source
catenate_source along a b index =
    let rank = joined_rank a b in
    let axis = axis_at rank along in
    let i = get_or index axis 0 in
    let m = joined_places rank axis a in
    if nat_le i m then Place 0 (in_side rank axis a index i) else Place 1 (in_side rank axis b index (i - m))

-- the item at an index list
abbrev pub catenate_item : Along → ArrayValue → ArrayValue → List ℕ → Result Item Kind
catenate_item along a b index = item_from a b (joined_type a b) (catenate_source along a b index)

-- the whole result
abbrev pub catenate_whole : Along → ArrayValue → ArrayValue → Result ArrayValue Kind
catenate_whole along a b = whole (catenate_form along a b) (catenate_item along a b)

-- a side is a scalar, or has the axes of the result or one less
pub record IsSide (side : ArrayValue) (rank : ℕ) : Type 0 where
  pub low : length side.shape ≤ rank
  pub near : (length side.shape ≡ 0) ⊎ (rank ≤ length side.shape + 1)

-- The change rule of catenate.

-- a place of the result's axis
abbrev pub one_place : ℕ → Interval
one_place i = (i, i)

-- a side with `before` places in front: a scalar is repeated over the other axes, an array of one rank less is one place, the intervals of
-- any other are moved
abbrev pub side_box : List ℕ → ℕ → ℕ → ArrayValue → Spread
side_box shape axis before side region =
    if is_scalar side then Some (set (whole_of shape) axis (one_place (before + 1)))
    else (if nat_eq (length side.shape) (length shape) then on_axis axis (λ s. (before + s.0, before + s.1)) region
    else Some (insert region axis (one_place (before + 1))))

abbrev pub catenate_left_box : Along → List ℕ → ArrayValue → ArrayValue → Spread
catenate_left_box along shape a b = side_box shape (axis_at (length shape) along) 0 a

-- the places of the left side are in front of the right side
abbrev pub catenate_right_box : Along → List ℕ → ArrayValue → ArrayValue → Spread
catenate_right_box along shape a b = let axis = axis_at (length shape) along in side_box shape axis (joined_places (length shape) axis a) b

abbrev pub catenate_rule : Along → RuleModel
catenate_rule along = two_sourced false (catenate_form along) joined_type (catenate_source along) (catenate_left_box along) (catenate_right_box along)
