-- Rows of data: the types of their items, and that a row which passes the checks is put.
use Rattle.std.{proofs.Common.{◌≡◌, ℕ, ℤ, List, [], ◌∷◌, length, true, false, Some, Ok, refl, eq-eqb}, specs.Prelude.{◌==◌}}
use Rattle.apl_expr.specs.Trees.{Numbers, Text}
use Rattle.arrays_core.{specs.Arrays.{ArrayValue}, specs.Growth.{one_longer, grown_by}, specs.Shapes.{IsWithinLimits}, specs.declared.item.Item.{Item}, specs.declared.item.ItemType.{ItemType}, specs.declared.item.ItemType.TheVariants.{Nums, Chars}}
use Rattle.index_region.{proofs.Passing.{is_within_from}, specs.Arguments.{is_same_type}}
use Rattle.sheet_recalc.{specs.Cells.{literal_items}, specs.Rows.{items_in_row, are_of_type, row_items_put}}

all_numbers : (ns : List ℤ) → are_of_type Nums (literal_items (Numbers ns)) ≡ true
all_numbers [] = refl
all_numbers (n ∷ ns) = all_numbers ns

all_characters : (cs : List ℕ) → are_of_type Chars (literal_items (Text cs)) ≡ true
all_characters [] = refl
all_characters (c ∷ cs) = all_characters cs

-- the items of a literal that has some are of its own type alone
pub are_numbers : (item_type : ItemType) (ns : List ℤ) → (length ns == 0) ≡ false → are_of_type item_type (literal_items (Numbers ns)) ≡ is_same_type Nums item_type
are_numbers item_type [] some = cc
are_numbers Nums (n ∷ ns) some = all_numbers ns
are_numbers Chars (n ∷ ns) some = refl

pub are_characters : (item_type : ItemType) (cs : List ℕ) → (length cs == 0) ≡ false → are_of_type item_type (literal_items (Text cs)) ≡ is_same_type Chars item_type
are_characters item_type [] some = cc
are_characters Nums (c ∷ cs) some = refl
are_characters Chars (c ∷ cs) some = all_characters cs

-- a row that passes each check is put
pub row_is_put : (a : ArrayValue) (count : ℕ) (row : List Item) → items_in_row a.shape ≡ Some count → length row ≡ count → are_of_type a.item_type row ≡ true → IsWithinLimits (one_longer a.shape)
    → row_items_put a (items_in_row a.shape) row ≡ Ok (grown_by a row)
row_is_put a count row has long typed limits = rw (has, eq-eqb (length row) count long, typed, is_within_from (one_longer a.shape) limits) refl
