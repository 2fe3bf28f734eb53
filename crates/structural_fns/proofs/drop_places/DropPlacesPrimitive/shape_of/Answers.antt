use Rattle.{std.proofs.Common.{arith}, index_region.specs.Arguments.{numbers}}
use Rattle.structural_fns.{specs.AxisCounts.{counted_shape}, specs.Drop.{dropped_shape}, proofs.Counting.{too_many, dropped_long, numbers_long}}
use Rattle.structural_fns.proofs.drop_places.DropPlacesPrimitive.shape_of.Goals as goal

pub returns-then-places-gt-MOST_AXES : goal.returns-then-places-gt-MOST_AXES
returns-then-places-gt-MOST_AXES c =
    let a = c.index-args-0.result in
    let long = numbers_long a in
    let same = dropped_long (counted_shape a c.index-args-1.result) (numbers a) (grind arith) in
    grind (arith, too_many (dropped_shape (counted_shape a c.index-args-1.result) (numbers a)) c.index-args-1.result.item_type (grind arith))
