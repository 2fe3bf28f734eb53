-- The change rule of a scalar function of two arrays: the changed places may change, or all places for an extended array.
use Rattle.std.specs.Prelude.{◌≡◌, ℕ, ◌==◌, Bool, true, if◌then◌else◌, List, [], ◌∷◌, map, false, Some, Result, Ok, bytes_eq}
use Rattle.arrays_core.{specs.declared.item.Item.{Item}, specs.declared.item.ItemType.TheVariants.{Nums}, specs.declared.item.Kind.{Kind}, specs.Arrays.{ArrayValue}, specs.Shapes.{size}}
use Rattle.function_names.specs.declared.scalar.Scalar2.{Scalar2}
use Rattle.scalar_fns.{specs.ScalarExtension.{common, extended, for_shape}, specs.Growth.{each_dyadic_grows}}
use Rattle.item_fns.specs.Items.{dyadic_on_items}
use Rattle.index_region.{specs.Boxes.{whole_of}, specs.Checks.{Form, form_of}}
use Rattle.change_core.{specs.RuleModels.{RuleModel, Use}, specs.Growth.{growing}, specs.Sourced.{Spread, two_rule}}

-- numbers in the common shape, if there is one
abbrev pub each_dyadic_form : ArrayValue → ArrayValue → Result Form Kind
each_dyadic_form a b = for_shape (common a.shape b.shape) (λ shape. Ok (form_of shape Nums))

-- the checks pass, and each changed array has the shape of the result
abbrev pub KeepsPlaces : ArrayValue → ArrayValue → (left_changed right_changed : Bool) → Type 0
KeepsPlaces a b left_changed right_changed = (shape : List ℕ) × ((common a.shape b.shape ≡ Ok shape) × ((left_changed ≡ true → a.shape ≡ shape) × (right_changed ≡ true → b.shape ≡ shape)))

-- the item at an index list
abbrev pub each_dyadic_item : Scalar2 → ArrayValue → ArrayValue → List ℕ → Result Item Kind
each_dyadic_item f a b index = dyadic_on_items f (extended a index) (extended b index)

-- the box: the changed one for an argument with the shape of the result, everything for an extended one
abbrev pub extended_box : List ℕ → ArrayValue → Spread
extended_box shape a region = Some (if bytes_eq a.shape shape then region else whole_of shape)

-- each item reads its own place, or the only item of an extended array
abbrev pub extended_use : List ℕ → ArrayValue → Use
extended_use shape a = record { reads = λ index. (if size a.shape == 1 then map (λ _. 1) a.shape else index) ∷ []; box = extended_box shape a }

abbrev pub each_dyadic_rule : Scalar2 → RuleModel
each_dyadic_rule f = growing (two_rule false each_dyadic_form (each_dyadic_item f) (λ shape a b. extended_use shape a) (λ shape a b. extended_use shape b)) each_dyadic_grows
