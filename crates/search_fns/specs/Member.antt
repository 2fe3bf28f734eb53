-- Membership, A∊B: which items of a are items of b.
use Rattle.std.{specs.Prelude.{ℕ, List, Result, Ok, false}, specs.List.{list_any}}
use Rattle.arrays_core.{specs.declared.item.Item.{Item}, specs.declared.item.Item.TheVariants.{Num}, specs.declared.item.ItemType.TheVariants.{Nums}, specs.declared.item.Kind.{Kind}, specs.Arrays.{ArrayValue, item_of}, specs.Shapes.{indices}}
use Rattle.index_region.specs.Checks.{Form, limited, whole}
use Rattle.change_core.{specs.RuleModels.{RuleModel}, specs.Sourced.{two_rule}, specs.Ways.{alike, everywhere}}
use Rattle.item_fns.specs.Numbers.{truth}
use Rattle.search_fns.specs.SameItem.{same_item}

-- numbers in the shape of a
abbrev pub member_form : ArrayValue → ArrayValue → Result Form Kind
member_form a b = limited a.shape Nums

-- 1 where the item is one of b, else 0
abbrev pub member_item : ArrayValue → ArrayValue → List ℕ → Result Item Kind
member_item a b index = Ok (Num (truth (list_any (same_item (item_of a index)) b.items)))

-- the items in that shape
abbrev pub member_whole : ArrayValue → ArrayValue → Result ArrayValue Kind
member_whole a b = whole (member_form a b) (member_item a b)

-- The change rule of membership, A∊B.

-- each item of a is looked up in all of b
abbrev pub member_rule : RuleModel
member_rule = two_rule false member_form member_item (λ shape a b. alike) (λ shape a b. everywhere shape (λ _. indices b.shape))
