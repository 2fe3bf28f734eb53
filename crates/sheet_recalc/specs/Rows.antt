-- A row appended to data.
use Rattle.std.{specs.Prelude.{ℕ, ◌==◌, Bool, List, [], ◌∷◌, length, Option, Some, None, Result, Ok, Err, if◌then◌else◌}, specs.List.{list_all}}
use Rattle.apl_expr.specs.Trees.{Literal}
use Rattle.arrays_core.{specs.Arrays.{ArrayValue}, specs.Growth.{one_longer, grown_by}, specs.Items.{type_of}, specs.declared.item.Item.{Item}, specs.declared.item.ItemType.{ItemType}}
use Rattle.index_region.{specs.Checks.{is_within_limits}, specs.Arguments.{is_same_type}}
use Rattle.sheet_recalc.{specs.Names.{Binding}, specs.Cells.{literal_items, on_data}, specs.declared.refusal.Refusal.{Refusal}, specs.declared.refusal.Refusal.TheVariants.{Rank, Length, Domain, Limit}}

-- the number of items of a row: one for a vector, one for each column of a matrix; other arrays have no rows
abbrev pub items_in_row : List ℕ → Option ℕ
items_in_row (items ∷ []) = Some 1
items_in_row (rows ∷ columns ∷ []) = Some columns
items_in_row shape = None

-- each item has this type; an empty list has any type
abbrev pub are_of_type : ItemType → List Item → Bool
are_of_type item_type items = list_all (λ item. is_same_type (type_of item) item_type) items

-- the array with these items appended, if they have its type and the limits leave room
abbrev pub items_put : ArrayValue → List Item → Result ArrayValue Refusal
items_put a row =
    if are_of_type a.item_type row
    then (if is_within_limits (one_longer a.shape) then Ok (grown_by a row) else Err Limit)
    else Err Domain

-- the array with a row appended, if the number of items is right
abbrev pub row_items_put : ArrayValue → Option ℕ → List Item → Result ArrayValue Refusal
row_items_put a None row = Err Rank
row_items_put a (Some count) row = if length row == count then items_put a row else Err Length

-- the data with the literal as its last row, or the reason for a refusal
abbrev pub row_put : Option Binding → Literal → Result ArrayValue Refusal
row_put bound literal = on_data (λ a. row_items_put a (items_in_row a.shape) (literal_items literal)) bound
