-- Laws of boxes: the walk of a box, the hull of two boxes, and the cover of a range of places.
use Rattle.std.specs.Prelude.{◌≡◌, ◌≤◌, ◌<◌, ℕ, IsTrue, List, length}
use Rattle.arrays_core.specs.Shapes.{size, places_before, index_after}
use Rattle.index_region.specs.Boxes.{Interval, box_size, box_offset, is_box, is_within, fits, walk_at, hull_of, cover}

-- the walk of a box visits each of its index lists once, in the ravel order of every shape around the box
pub record IsInOrder (region : List Interval) : Type 0 where
  pub inside : (before : ℕ) → before < box_size region → IsTrue (is_within region (walk_at region before))
  pub place_of_index : (before : ℕ) → before < box_size region → box_offset region (walk_at region before) ≡ before
  pub below : (index : List ℕ) → IsTrue (is_within region index) → box_offset region index < box_size region
  pub index_of_place : (index : List ℕ) → IsTrue (is_within region index) → walk_at region (box_offset region index) ≡ index
  pub ascending : (shape : List ℕ) (before after : ℕ) → IsTrue (fits region shape) → before < after → after < box_size region → places_before shape (walk_at region before) < places_before shape (walk_at region after)

abbrev pub AllWalksAreInOrder : Type 0
AllWalksAreInOrder = (region : List Interval) → IsInOrder region

-- each index list of the one lies in the other
abbrev pub LiesIn : List Interval → List Interval → Type 0
LiesIn inner outer = (index : List ℕ) → IsTrue (is_within inner index) → IsTrue (is_within outer index)

-- the least box that contains two others
pub record IsLeastOver (a b hull : List Interval) : Type 0 where
  pub box : IsTrue (is_box hull)
  pub left : LiesIn a hull
  pub right : LiesIn b hull
  pub least : (other : List Interval) → LiesIn a other → LiesIn b other → LiesIn hull other

-- the hull of two boxes of one rank is the least box that contains both
abbrev pub HullsAreLeast : Type 0
HullsAreLeast = (a b : List Interval) → IsTrue (is_box a) → IsTrue (is_box b) → length a ≡ length b → IsLeastOver a b (hull_of a b)

-- the region contains the places `first` to `last` of a shape, counted from 0
abbrev pub HoldsPlaces : List ℕ → ℕ → ℕ → List Interval → Type 0
HoldsPlaces shape first last region = (place : ℕ) → first ≤ place → place ≤ last → IsTrue (is_within region (index_after shape place))

-- the least box of a shape that contains the places `first` to `last`
pub record IsLeastOf (shape : List ℕ) (first last : ℕ) (region : List Interval) : Type 0 where
  pub fitting : IsTrue (fits region shape)
  pub holds : HoldsPlaces shape first last region
  pub least : (other : List Interval) → HoldsPlaces shape first last other → LiesIn region other

-- the cover of a range of places of a shape is the least box that contains them
abbrev pub CoversAreLeast : Type 0
CoversAreLeast = (shape : List ℕ) (first last : ℕ) → first ≤ last → last < size shape → IsLeastOf shape first last (cover shape first last)
