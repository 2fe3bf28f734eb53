use Rattle.{std.proofs.Common.{◌≡◌, true, sym, ◌∙◌}, arrays_core.specs.Shapes.{is_index_of}}
use Rattle.structural_fns.{specs.AxisCounts.{counted_shape}, proofs.SourcePlaces.{uncounted_inside}}
use Rattle.structural_fns.proofs.take.Take.source.Goals as goal

pub returns-clause-inside : goal.returns-clause-inside
returns-clause-inside c =
    let a = c.args.counts.now in
    let b = c.args.array.now in
    let at = c.taken_places-at.result.items in
    let inside : is_index_of (counted_shape a b) at ≡ true = rw (c.as_slice-2.ensures, c.as_slice-3.ensures, c.counted_shape-axes.ensures.is) at (sym c.is_index_of.ensures ∙ c.if-not-is_index_of.false) in
    (rw c.uncounted-at.ensures.is (uncounted_inside a b at inside), c.uncounted-at.ensures.inline)
