-- The checks of a primitive, and its whole result.
use Rattle.std.{specs.Prelude.{ℕ, nat_le, Bool, ◌&&◌, if◌then◌else◌, List, length, Result, Ok, Err}, specs.List.{list_all}}
use Rattle.arrays_core.{specs.declared.item.Item.{Item}, specs.declared.item.ItemType.{ItemType}, specs.declared.item.Kind.{Kind}, specs.declared.item.Kind.TheVariants.{Limit}, specs.Limits.{most_axes, longest_axis, most_places}, specs.Items.{and_then}, specs.Shapes.{size}, specs.Arrays.{ArrayValue, collect}}

-- a check: if it fails, the error has its kind
abbrev pub check : {A : Type 0} → Bool → Kind → Result A Kind → Result A Kind
check holds kind rest = if holds then rest else Err kind

-- the result of the checks of a primitive: the shape and item type of its result
pub record Form : Type 0 where
  pub shape : List ℕ
  pub item_type : ItemType

abbrev pub form_of : List ℕ → ItemType → Form
form_of shape item_type = record { shape = shape; item_type = item_type }

abbrev pub is_within_limits : List ℕ → Bool
is_within_limits shape = (nat_le (length shape) most_axes && list_all (λ n. nat_le n longest_axis) shape) && nat_le (size shape) most_places

-- the last check: the shape is within the limits
abbrev pub limited : List ℕ → ItemType → Result Form Kind
limited shape item_type = check (is_within_limits shape) Limit (Ok (form_of shape item_type))

-- the whole result: first the checks, then the items
abbrev pub whole : Result Form Kind → (List ℕ → Result Item Kind) → Result ArrayValue Kind
whole form item = and_then form (λ f. collect f.item_type f.shape item)
