use Rattle.{std.proofs.Common.{◌≡◌, true, length}, arrays_core.specs.Shapes.{is_index_of}, function_names.specs.Axes.{is_axis, axis_at}}
use Rattle.{index_region.proofs.Passing.{passed, place_inside}, structural_fns.proofs.SourcePlaces.{reversed_inside}}
use Rattle.structural_fns.proofs.reverse.Reverse.place_of.Goals as goal

pub returns-clause-inside : goal.returns-clause-inside
returns-clause-inside c =
    let b = c.args.array.now in
    let checked = passed (is_axis (length b.shape) c.args.self.along) _ _ c.args.index.now c.requires in
    let inside : is_index_of b.shape c.args.index.now ≡ true = place_inside b.shape b.item_type c.args.index.now checked.place in
    rw (c.reversed.ensures.is, c.as_slice.ensures, c.shape-shape.ensures.is) (reversed_inside b.shape c.args.index.now (axis_at (length b.shape) c.args.self.along) inside)
