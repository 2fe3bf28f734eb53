use Rattle.std.proofs.Common.{List}
use Rattle.index_region.{specs.Boxes.{Interval}, proofs.Walks.{walk_within, offset_of_walk, offset_below, walk_of_offset}, proofs.Ordered.{walk_ascends}}
use Rattle.index_region.proofs.index_box.law_of_walks.Goals as goal

pub returns : goal.returns
returns c = λ (region : List Interval). record {
  inside = walk_within region;
  place_of_index = offset_of_walk region;
  below = offset_below region;
  index_of_place = walk_of_offset region;
  ascending = walk_ascends region;
}
