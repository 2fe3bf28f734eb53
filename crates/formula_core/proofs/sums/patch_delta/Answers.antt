use Rattle.{std.proofs.Common.{◌<◌, List, sym, subst, arith}, index_region.specs.Boxes.{Interval, box_size}, change_core.proofs.Filling.{few_places}}
use Rattle.formula_core.proofs.sums.patch_delta.Goals as goal

pub size-requires : goal.size-requires
size-requires c =
    subst (λ (r : List Interval). box_size r < 18446744073709551616) (sym c.region.ensures) (omega (arith, few_places c.args.patch.now.region c.args.array.now.shape c.requires.inside c.places-places.ensures.sound.within))
