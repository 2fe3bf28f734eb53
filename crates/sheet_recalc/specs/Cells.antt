-- An edit of one cell.
use Rattle.std.specs.Prelude.{◌≡◌, ℕ, ℤ, pos, negsuc, ◌==◌, ◌&&◌, nat_le, Bool, List, [], ◌∷◌, map, length, set, Option, Some, None, Result, Ok, Err, if◌then◌else◌}
use Rattle.apl_expr.specs.Trees.{Literal, Numbers, Text}
use Rattle.arrays_core.{specs.Arrays.{ArrayValue}, specs.Items.{type_of}, specs.Shapes.{is_index_of, places_before}, specs.declared.item.Item.{Item}, specs.declared.item.Item.TheVariants.{Num, Char}}
use Rattle.sheet_recalc.{specs.Names.{Binding, Data, Formula}, specs.declared.refusal.Refusal.{Refusal}, specs.declared.refusal.Refusal.TheVariants.{NotFound, NotData, Rank, Index, Length, Domain, NoMemory}}
use Rattle.index_region.specs.Arguments.{is_same_type}

-- a number as an index; a negative one becomes 0, which lies on no axis
abbrev pub index_of_number : ℤ → ℕ
index_of_number (pos n) = n
index_of_number (negsuc n) = 0

-- numbers as an index list
abbrev pub index_of_numbers : List ℤ → List ℕ
index_of_numbers positions = map index_of_number positions

-- the index lies on an axis of this length
abbrev pub lies_on_axis : ℕ → ℕ → Bool
lies_on_axis axis index = nat_le 1 index && nat_le index axis

-- the items of a literal
abbrev pub literal_items : Literal → List Item
literal_items (Numbers ns) = map (λ n. Num n) ns
literal_items (Text cs) = map (λ c. Char c) cs

-- the array with this item at an index list
abbrev pub with_item : ArrayValue → List ℕ → Item → ArrayValue
with_item a index item = record a { items = set a.items (places_before a.shape index) item }

-- a literal of one item of the array's type replaces the item there
abbrev pub item_put : ArrayValue → List ℕ → List Item → Result ArrayValue Refusal
item_put a index [] = Err Length
item_put a index (item ∷ []) = if is_same_type (type_of item) a.item_type then Ok (with_item a index item) else Err Domain
item_put a index (item ∷ other ∷ items) = Err Length

-- an edit of the data of a name; an absent name and one bound to a formula refuse it
abbrev pub on_data : (ArrayValue → Result ArrayValue Refusal) → Option Binding → Result ArrayValue Refusal
on_data edit None = Err NotFound
on_data edit (Some (Formula t)) = Err NotData
on_data edit (Some (Data a)) = edit a

-- the array with the literal in one cell, or the reason for a refusal: first the number of positions, then each position on its axis, then the
-- literal
abbrev pub with_cell : List ℤ → Literal → ArrayValue → Result ArrayValue Refusal
with_cell positions literal a =
    if length positions == length a.shape
    then (if is_index_of a.shape (index_of_numbers positions) then item_put a (index_of_numbers positions) (literal_items literal) else Err Index)
    else Err Rank

-- the data with the literal in one cell, or the reason for a refusal
abbrev pub cell_put : Option Binding → List ℤ → Literal → Result ArrayValue Refusal
cell_put bound positions literal = on_data (with_cell positions literal) bound

-- a call returns the wanted result, or want of memory
abbrev pub IsDataAnswer : Result ArrayValue Refusal → Result ArrayValue Refusal → Type 0
IsDataAnswer wanted (Ok a) = wanted ≡ Ok a
IsDataAnswer wanted (Err NoMemory) = Unit {0}
IsDataAnswer wanted (Err cause) = wanted ≡ Err cause

-- the only item of a list with one item; none for any other list
abbrev pub IsOnlyItem : List Item → Option Item → Type 0
IsOnlyItem items (Some item) = items ≡ item ∷ []
IsOnlyItem items None = (item : Item) → items ≡ item ∷ [] → ⊥
