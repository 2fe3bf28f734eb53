-- Inner product, A f.g B: the rows of one array folded with the columns of another.
use Rattle.std.{specs.Prelude.{ℕ, ◌-◌, nat_eq, ◌||◌, List, [], ◌∷◌, ◌++◌, map, length, get_or, take, drop, if◌then◌else◌, Result, Ok, ◌==◌, false, Some}, specs.List.{range_with_len}}
use Rattle.arrays_core.{specs.declared.item.Item.{Item}, specs.declared.item.ItemType.TheVariants.{Nums}, specs.declared.item.Kind.{Kind}, specs.declared.item.Kind.TheVariants.{Length}, specs.Items.{and_then}, specs.Arrays.{ArrayValue}, specs.Shapes.{size}}
use Rattle.index_region.{specs.Checks.{Form, check, limited, whole}, specs.Arguments.{has_one_item}, specs.Boxes.{whole_of}}
use Rattle.change_core.{specs.RuleModels.{RuleModel, Use}, specs.Sourced.{two_rule}}
use Rattle.function_names.specs.declared.scalar.Scalar2.{Scalar2}
use Rattle.scalar_fns.specs.ScalarExtension.{extended}
use Rattle.item_fns.{specs.Items.{dyadic_on_items}, specs.RightFold.{fold_right}}

-- the number of axes that select a row: all but the last
abbrev pub row_rank : ArrayValue → ℕ
row_rank a = length a.shape - 1

-- the length of a row of a, and of a column of b
abbrev pub row_length : ArrayValue → ℕ
row_length a = get_or a.shape (row_rank a) 1

abbrev pub column_length : ArrayValue → ℕ
column_length b = get_or b.shape 0 1

-- the number of pairs: a side of one item extends to the other's length
abbrev pub inner_length : ArrayValue → ArrayValue → ℕ
inner_length a b = if has_one_item a then column_length b else row_length a

-- the checks, then the shape and the item type of the result
abbrev pub inner_form : ArrayValue → ArrayValue → Result Form Kind
inner_form a b =
    check ((has_one_item a || has_one_item b) || nat_eq (row_length a) (column_length b)) Length
    (limited (take (row_rank a) a.shape ++ drop 1 b.shape) Nums)

-- all the items, or the error of the last that fails
abbrev pub all_or_last_error : {A : Type 0} → List (Result A Kind) → Result (List A) Kind
all_or_last_error [] = Ok []
all_or_last_error (x ∷ rest) = and_then (all_or_last_error rest) (λ items. and_then x (λ item. Ok (item ∷ items)))

-- the results of g for the pairs of a row and a column
abbrev pub products : Scalar2 → ArrayValue → ArrayValue → List ℕ → List ℕ → List (Result Item Kind)
products g a b row column = map (λ j. dyadic_on_items g (extended a (row ++ j ∷ [])) (extended b (j ∷ column))) (range_with_len 1 (inner_length a b))

-- the item at an index list: the results of g for its row and column, folded by f from the right
abbrev pub inner_item : Scalar2 → Scalar2 → ArrayValue → ArrayValue → List ℕ → Result Item Kind
inner_item f g a b index = and_then (all_or_last_error (products g a b (take (row_rank a) index) (drop (row_rank a) index))) (fold_right f)

-- the whole result
abbrev pub inner_whole : Scalar2 → Scalar2 → ArrayValue → ArrayValue → Result ArrayValue Kind
inner_whole f g a b = whole (inner_form a b) (inner_item f g a b)

-- Effect of a change of an argument on the result.

-- an array of one item has that item in place of each item of a line
abbrev pub extended_line : ArrayValue → List (List ℕ) → List (List ℕ)
extended_line a places = if size a.shape == 1 then map (λ _. 1) a.shape ∷ [] else places

-- each item reads a row of the left argument. A changed box maps to itself without its last axis, then all of the right axes but the first.
abbrev pub row_use : List ℕ → ArrayValue → ArrayValue → Use
row_use shape a b = record {
  reads = λ index. extended_line a (map (λ j. take (row_rank a) index ++ j ∷ []) (range_with_len 1 (inner_length a b)));
  box = λ region. Some (take (row_rank a) region ++ whole_of (drop 1 b.shape));
}

-- each item reads a column of the right argument. A changed box maps to all of the left axes but the last, then itself without its first axis.
abbrev pub column_use : List ℕ → ArrayValue → ArrayValue → Use
column_use shape a b = record {
  reads = λ index. extended_line b (map (λ j. j ∷ drop (row_rank a) index) (range_with_len 1 (inner_length a b)));
  box = λ region. Some (whole_of (take (row_rank a) a.shape) ++ drop 1 region);
}

abbrev pub inner_rule : Scalar2 → Scalar2 → RuleModel
inner_rule f g = two_rule false inner_form (inner_item f g) row_use column_use
