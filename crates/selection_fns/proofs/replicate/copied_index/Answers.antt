use Rattle.{std.{proofs.Common.{arith}, specs.Prelude.{sum}}, index_region.specs.Axes.{places_along}}
use Rattle.selection_fns.{specs.Replicate.{times}, specs.Laws.CopiedPlaces.{is_copied}}
use Rattle.selection_fns.proofs.replicate.copied_index.Goals as goal

pub shape_of-at-requires : goal.shape_of-at-requires
shape_of-at-requires c =
    let axes = c.args.axes.now in
    omega (arith, is_copied axes c.args.axis (sum (times c.args.counts.now (places_along axes c.args.axis))) c.args.index.now c.requires.there c.requires.inside, c.requires.rank)
