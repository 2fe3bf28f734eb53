-- Index of, A⍳B: the first place of each item of b in a.
use Rattle.std.{specs.Prelude.{ℕ, suc, nat_eq, pos, List, length, Result, Ok, false}, specs.List.{position_or_len}}
use Rattle.arrays_core.{specs.declared.item.Item.{Item}, specs.declared.item.Item.TheVariants.{Num}, specs.declared.item.ItemType.TheVariants.{Nums}, specs.declared.item.Kind.{Kind}, specs.declared.item.Kind.TheVariants.{Rank}, specs.Arrays.{ArrayValue, item_of}, specs.Shapes.{indices}}
use Rattle.index_region.specs.Checks.{Form, check, limited, whole}
use Rattle.change_core.{specs.RuleModels.{RuleModel}, specs.Sourced.{two_rule}, specs.Ways.{alike, everywhere}}
use Rattle.search_fns.specs.SameItem.{same_item}

-- RANK where a is not a vector; then numbers in the shape of b
abbrev pub index_of_form : ArrayValue → ArrayValue → Result Form Kind
index_of_form a b = check (nat_eq (length a.shape) 1) Rank (limited b.shape Nums)

-- the first place of the item in a, else one more than the length of a
abbrev pub index_of_item : ArrayValue → ArrayValue → List ℕ → Result Item Kind
index_of_item a b index = Ok (Num (pos (suc (position_or_len (same_item (item_of b index)) a.items))))

-- the checks, and then the items
abbrev pub index_of_whole : ArrayValue → ArrayValue → Result ArrayValue Kind
index_of_whole a b = whole (index_of_form a b) (index_of_item a b)

-- The change rule of index of, A⍳B.

-- each item of b is looked up in all of a
abbrev pub index_of_rule : RuleModel
index_of_rule = two_rule false index_of_form index_of_item (λ shape a b. everywhere shape (λ _. indices a.shape)) (λ shape a b. alike)
