-- Items that come from places.
use Rattle.std.{proofs.Common.{◌≡◌, ℕ, true, cond, List, get_or, Some, None, Ok, ap}, specs.Prelude.{unwrap_or}}
use Rattle.arrays_core.{specs.Arrays.{ArrayValue}, specs.Items.{fill}, specs.Shapes.{is_index_of, places_before}}
use Rattle.index_region.specs.Sources.{Place, item_from}

-- the item at an index list of the left or the right argument
pub left_placed : (a b : ArrayValue) (at : List ℕ) → is_index_of a.shape at ≡ true
    → item_from a b a.item_type (Place 0 at) ≡ Ok (get_or a.items (places_before a.shape at) (fill a.item_type))
left_placed a b at inside =
    ap (λ w. Ok (unwrap_or (cond w (Some (get_or a.items (places_before a.shape at) (fill a.item_type))) None) (fill a.item_type))) inside

pub right_placed : (a b : ArrayValue) (at : List ℕ) → is_index_of b.shape at ≡ true
    → item_from a b b.item_type (Place 1 at) ≡ Ok (get_or b.items (places_before b.shape at) (fill b.item_type))
right_placed a b at inside =
    ap (λ w. Ok (unwrap_or (cond w (Some (get_or b.items (places_before b.shape at) (fill b.item_type))) None) (fill b.item_type))) inside
