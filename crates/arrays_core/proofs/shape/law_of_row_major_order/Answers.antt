use Rattle.std.proofs.Common.{List, ℕ}
use Rattle.arrays_core.{proofs.Shapes.{places_below}, proofs.Order.{length-indices, get_or-indices, index_after-within, places_before-index_after, index_after-places_before}}
use Rattle.arrays_core.proofs.shape.law_of_row_major_order.Goals as goal

pub returns : goal.returns
returns c = λ (shape : List ℕ). record {
  as_many = length-indices shape;
  listed = get_or-indices shape;
  inside = index_after-within shape;
  place_of_index = places_before-index_after shape;
  below = places_below shape;
  index_of_place = index_after-places_before shape;
}
