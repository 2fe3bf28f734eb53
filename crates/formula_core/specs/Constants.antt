-- A literal of a formula, by its array.
use Rattle.std.{specs.Prelude.{◌≡◌, ℕ, List, Result, Ok, Err, map}, specs.Global.{Box}}
use Rattle.apl_expr.{specs.declared.expr.Literal.{Literal as WrittenLiteral}, specs.Trees.{Literal, Numbers, Text, literal_of}}
use Rattle.arrays_core.{specs.declared.item.Item.{Item}, specs.declared.item.Item.TheVariants.{Num, Char}, specs.declared.item.ItemType.{ItemType}, specs.declared.item.ItemType.TheVariants.{Nums, Chars}, specs.declared.fault.Fault.{Fault}, specs.Outcomes.{given}, specs.Arrays.{ArrayValue}}
use Rattle.index_region.specs.Arguments.{number_of}
use Rattle.formula_core.specs.Meaning.{array_of}

abbrev pub character_of : Item → ℕ
character_of (Char c) = c
character_of (Num z) = 32

-- the literal with these items
abbrev pub literal_of_items : ItemType → List Item → Literal
literal_of_items Nums items = Numbers (map number_of items)
literal_of_items Chars items = Text (map character_of items)

-- the literal with this array; the literal as written if it has an error
abbrev pub literal_in : Result ArrayValue (Box (WrittenLiteral × Fault)) → Literal
literal_in (Ok a) = literal_of_items a.item_type a.items
literal_in (Err e) = literal_of e.value.0

-- the literal has that array or error
abbrev pub IsGiven : Result ArrayValue (Box (WrittenLiteral × Fault)) → Type 0
IsGiven (Ok a) = array_of (literal_of_items a.item_type a.items) ≡ Ok a
IsGiven (Err e) = given (array_of (literal_of e.value.0)) ≡ Err e.value.1
