-- Outer product, A∘.fB: a function of each item of one array with each item of another.
use Rattle.std.specs.Prelude.{ℕ, List, ◌++◌, length, take, drop, Result, true, false}
use Rattle.arrays_core.{specs.declared.item.Item.{Item}, specs.declared.item.ItemType.TheVariants.{Nums}, specs.declared.item.Kind.{Kind}, specs.Arrays.{ArrayValue, item_of}}
use Rattle.index_region.specs.Checks.{Form, limited, whole}
use Rattle.change_core.{specs.RuleModels.{Growth, RuleModel, Use}, specs.Growth.{growing, two_grow}, specs.Sourced.{two_rule}, specs.Ways.{front, back}}
use Rattle.function_names.specs.declared.scalar.Scalar2.{Scalar2}
use Rattle.item_fns.specs.Items.{dyadic_on_items}

-- the checks, then the shape and the item type of the result
abbrev pub outer_form : ArrayValue → ArrayValue → Result Form Kind
outer_form a b = limited (a.shape ++ b.shape) Nums

-- the item at an index list: f of an item of a and an item of b
abbrev pub outer_item : Scalar2 → ArrayValue → ArrayValue → List ℕ → Result Item Kind
outer_item f a b index = dyadic_on_items f (item_of a (take (length a.shape) index)) (item_of b (drop (length a.shape) index))

-- the whole result
abbrev pub outer_whole : Scalar2 → ArrayValue → ArrayValue → Result ArrayValue Kind
outer_whole f a b = whole (outer_form a b) (outer_item f a b)

-- Effect of a change of an argument on the result.

-- the left argument: a changed box maps to itself, then the whole axes of the right argument
abbrev pub front_use : List ℕ → ArrayValue → ArrayValue → Use
front_use shape a b = front (length a.shape) b.shape

-- the right argument: a changed box maps to the whole axes of the left argument, then itself
abbrev pub back_use : List ℕ → ArrayValue → ArrayValue → Use
back_use shape a b = back a.shape

-- the result grows with the left argument alone
abbrev pub outer_grows : Growth
outer_grows = two_grow (λ a b. true) (λ a b. false) (λ a b. false)

abbrev pub outer_rule : Scalar2 → RuleModel
outer_rule f = growing (two_rule false outer_form (outer_item f) front_use back_use) outer_grows
