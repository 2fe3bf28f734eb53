-- Reshape, A⍴B: the items in row-major order, repeated as needed, in another shape.
use Rattle.std.specs.Prelude.{ℕ, ◌%◌, unsigned_abs, ◌&&◌, if◌then◌else◌, List, map, length, get_or, Result, true, None}
use Rattle.arrays_core.{specs.declared.item.Item.{Item}, specs.declared.item.Kind.{Kind}, specs.declared.item.Kind.TheVariants.{Rank, Domain}, specs.Arrays.{ArrayValue}, specs.Items.{fill}, specs.Building.{listed}, specs.Shapes.{size, index_after, places_before}}
use Rattle.index_region.{specs.Checks.{check, Form, limited, whole}, specs.Arguments.{is_list, has_items, counts_as_numbers, numbers, none_negative}, specs.Sources.{Place, Fill, Source, item_from}}
use Rattle.change_core.{specs.Places.{by_place}, specs.RuleModels.{RuleModel}, specs.Sourced.{Spread, two_sourced}}

-- the numbers of an array as axis lengths, without their signs
abbrev pub magnitudes : ArrayValue → List ℕ
magnitudes a = map unsigned_abs (numbers a)

-- the checks, and the shape and the type of the result
abbrev pub reshape_form : ArrayValue → ArrayValue → Result Form Kind
reshape_form a b =
    check (is_list a) Rank
    (check (counts_as_numbers a && none_negative (numbers a)) Domain
    (limited (magnitudes a) b.item_type))

-- the ravel of b, repeated
abbrev pub reshape_source : List ℕ → ArrayValue → List ℕ → Source
reshape_source shape b index = if has_items b then Place 1 (index_after b.shape (places_before shape index % size b.shape)) else Fill

-- the items of b, repeated in a shape; fill if b has none
abbrev pub again_under : ArrayValue → List ℕ → ArrayValue
again_under b shape = record {
  item_type = b.item_type;
  shape = shape;
  items = listed (size shape) (λ k. get_or b.items (k % length b.items) (fill b.item_type));
}

-- the item at an index list
abbrev pub reshape_item : ArrayValue → ArrayValue → List ℕ → Result Item Kind
reshape_item a b index = item_from a b b.item_type (reshape_source (magnitudes a) b index)

-- the whole result
abbrev pub reshape_whole : ArrayValue → ArrayValue → Result ArrayValue Kind
reshape_whole a b = whole (reshape_form a b) (reshape_item a b)

-- The change rule of reshape.

-- everything if items are repeated; otherwise from the first place of the box in the ravel to the last, cut to the result
abbrev pub reshape_box : List ℕ → ArrayValue → ArrayValue → Spread
reshape_box shape a b = (by_place b.shape shape).box

-- the counts are a selector
abbrev pub reshape_rule : RuleModel
reshape_rule = two_sourced true reshape_form (λ a b. b.item_type) (λ a b. reshape_source (magnitudes a) b) (λ shape a b region. None) reshape_box
