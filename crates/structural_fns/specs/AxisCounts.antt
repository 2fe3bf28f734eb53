-- Shared parts of take and drop: one count for each axis.
use Rattle.std.specs.Prelude.{ℕ, nat_eq, if◌then◌else◌, List, [], length, replicate, Result}
use Rattle.arrays_core.{specs.declared.item.Kind.{Kind}, specs.declared.item.Kind.TheVariants.{Rank, Length, Domain}, specs.Arrays.{ArrayValue}}
use Rattle.index_region.{specs.Checks.{check, Form, limited}, specs.Arguments.{is_scalar, is_list, counts_as_numbers}, specs.Boxes.{Interval, whole_of}}

-- the shape that the counts in a apply to: b's own, or for a scalar an axis of length 1 for each count
abbrev pub counted_shape : ArrayValue → ArrayValue → List ℕ
counted_shape a b = if is_scalar b then replicate (length a.items) 1 else b.shape

-- the index list of b for one of that shape
abbrev pub uncounted : ArrayValue → List ℕ → List ℕ
uncounted b index = if is_scalar b then [] else index

-- the checks of take and of drop, which differ in the shape of the result
abbrev pub counted_form : List ℕ → ArrayValue → ArrayValue → Result Form Kind
counted_form shape a b =
    check (is_list a) Rank
    (check (nat_eq (length a.items) (length (counted_shape a b))) Length
    (check (counts_as_numbers a) Domain
    (limited shape b.item_type)))

-- Shared parts of the change rules of take and drop.

-- the box on the axes that the counts apply to; of a scalar, its one place on each
abbrev pub counted_box : ArrayValue → ArrayValue → List Interval → List Interval
counted_box a b region = if is_scalar b then whole_of (counted_shape a b) else region
