-- Shape, ⍴B: the axis lengths of an array.
use Rattle.std.specs.Prelude.{ℕ, ◌-◌, pos, List, [], ◌∷◌, length, get_or, Result, Ok}
use Rattle.arrays_core.{specs.declared.item.Item.{Item}, specs.declared.item.Item.TheVariants.{Num}, specs.declared.item.ItemType.TheVariants.{Nums}, specs.declared.item.Kind.{Kind}, specs.Arrays.{ArrayValue}}
use Rattle.index_region.specs.Checks.{Form, limited, whole}
use Rattle.change_core.{specs.RuleModels.{RuleModel}, specs.Sourced.{one_rule}, specs.Ways.{unread}}

-- a vector with a number for each axis
abbrev pub shape_form : ArrayValue → Result Form Kind
shape_form b = limited (length b.shape ∷ []) Nums

-- the length of an axis
abbrev pub shape_item : ArrayValue → List ℕ → Result Item Kind
shape_item b index = Ok (Num (pos (get_or b.shape (get_or index 0 0 - 1) 0)))

-- the lengths of all axes
abbrev pub shape_whole : ArrayValue → Result ArrayValue Kind
shape_whole b = whole (shape_form b) (shape_item b)

-- The change rule of shape, ⍴B: a change of items changes nothing.

-- no item is read
abbrev pub shape_rule : RuleModel
shape_rule = one_rule shape_form shape_item (λ shape b. unread)
