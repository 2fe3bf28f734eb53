use Rattle.{std.{proofs.Common.{◌≡◌, true, nat_eq, length, arith}, proofs.lemmas.Bool.{eqb-true}}, arrays_core.specs.Shapes.{is_index_of}}
use Rattle.index_region.{specs.Arguments.{is_list, counts_as_numbers, numbers}, proofs.Passing.{passed, place_inside}}
use Rattle.structural_fns.{specs.AxisCounts.{counted_shape}, specs.Drop.{dropped_shape, kept_places}, proofs.Counting.{numbers_long}, proofs.SourcePlaces.{kept_inside, uncounted_inside}}
use Rattle.structural_fns.proofs.drop_places.DropPlaces.place_of.Goals as goal

pub returns-clause-inside : goal.returns-clause-inside
returns-clause-inside c =
    let a = c.args.counts.now in
    let b = c.args.array.now in
    let index = c.args.index.now in
    let shape = counted_shape a b in
    let left = dropped_shape shape (numbers a) in
    let counted = passed (nat_eq (length a.items) (length shape)) _ _ index (passed (is_list a) _ _ index c.requires).place in
    let inside : is_index_of left index ≡ true = place_inside left b.item_type index (passed (counts_as_numbers a) _ _ index counted.place).place in
    let long = numbers_long a in
    let as_many = eqb-true (length a.items) (length shape) counted.test in
    rw (c.uncounted.ensures.is, c.kept_places.ensures.is) (uncounted_inside a b (kept_places (numbers a) index) (kept_inside shape (numbers a) index (omega arith) inside))
