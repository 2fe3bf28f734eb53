-- Items that are read alike are the same.
use Rattle.{std.proofs.Common.{◌≡◌, ℕ, List, [], ◌∷◌, map, true}, arrays_core.{specs.Arrays.{ArrayValue, item_of, item_if_there}, specs.Shapes.{is_index_of}}}

-- at an index list of both arrays
pub item_same : (a c : ArrayValue) (index : List ℕ) → is_index_of a.shape index ≡ true → is_index_of c.shape index ≡ true → item_if_there a index ≡ item_if_there c index → item_of a index ≡ item_of c index
item_same a c index in_a in_c read = cc

-- if only that index list is read
pub one_same : (a c : ArrayValue) (index : List ℕ) → is_index_of a.shape index ≡ true → is_index_of c.shape index ≡ true
    → map (item_if_there a) (index ∷ []) ≡ map (item_if_there c) (index ∷ []) → item_of a index ≡ item_of c index
one_same a c index in_a in_c read = item_same a c index in_a in_c (cc)
