-- The change rule of a scalar function of one array: the changed places may change.
use Rattle.std.specs.Prelude.{ℕ, List, Result, Ok}
use Rattle.arrays_core.{specs.declared.item.Item.{Item}, specs.declared.item.ItemType.TheVariants.{Nums}, specs.declared.item.Kind.{Kind}, specs.Arrays.{ArrayValue, item_of}}
use Rattle.function_names.specs.declared.scalar.Scalar1.{Scalar1}
use Rattle.scalar_fns.specs.Growth.{each_monadic_grows}
use Rattle.item_fns.specs.Items.{monadic_on_item}
use Rattle.index_region.specs.Checks.{Form, form_of}
use Rattle.change_core.{specs.RuleModels.{RuleModel}, specs.Sourced.{one_rule}, specs.Growth.{growing}, specs.Ways.{alike}}

-- no check; numbers in the shape of the argument
abbrev pub each_monadic_form : ArrayValue → Result Form Kind
each_monadic_form b = Ok (form_of b.shape Nums)

-- the item at an index list
abbrev pub each_monadic_item : Scalar1 → ArrayValue → List ℕ → Result Item Kind
each_monadic_item f b index = monadic_on_item f (item_of b index)

-- each item reads its own place, so the box is the changed one
abbrev pub each_monadic_rule : Scalar1 → RuleModel
each_monadic_rule f = growing (one_rule each_monadic_form (each_monadic_item f) (λ shape b. alike)) each_monadic_grows
