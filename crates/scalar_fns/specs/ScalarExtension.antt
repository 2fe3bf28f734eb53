-- Scalar functions of arrays: of one array item by item; of two arrays of equal shapes, or with an array of one item that is extended.
use Rattle.std.specs.Prelude.{ℕ, ◌==◌, nat_lt, Bool, List, length, get_or, if◌then◌else◌, Result, Ok, Err, bytes_eq}
use Rattle.arrays_core.{specs.declared.item.Item.{Item}, specs.declared.item.ItemType.TheVariants.{Nums}, specs.declared.item.Kind.{Kind}, specs.declared.item.Kind.TheVariants.{Rank, Length}, specs.Items.{fill}, specs.Shapes.{size, places_before}, specs.Arrays.{ArrayValue, item_of, collect}}
use Rattle.function_names.{specs.declared.scalar.Scalar1.{Scalar1}, specs.declared.scalar.Scalar2.{Scalar2}}
use Rattle.item_fns.specs.Items.{monadic_on_item, dyadic_on_items}

abbrev pub same_shape : List ℕ → List ℕ → Bool
same_shape = bytes_eq

-- the shape of the greater rank
abbrev pub of_greater_rank : List ℕ → List ℕ → List ℕ
of_greater_rank a b = if nat_lt (length a) (length b) then b else a

-- the common shape of two arrays
abbrev pub common : List ℕ → List ℕ → Result (List ℕ) Kind
common a b =
    if size a == 1 then Ok (if size b == 1 then of_greater_rank a b else b)
    else (if size b == 1 then Ok a
    else (if length a == length b then (if same_shape a b then Ok a else Err Length) else Err Rank))

-- the item at an index list of the common shape; an array of one item is extended
abbrev pub extended : ArrayValue → List ℕ → Item
extended a index = get_or a.items (if size a.shape == 1 then 0 else places_before a.shape index) (fill a.item_type)

-- the function applied to the shape, or the error of the shape
abbrev pub for_shape : {A : Type 0} → Result (List ℕ) Kind → (List ℕ → Result A Kind) → Result A Kind
for_shape (Ok shape) make = make shape
for_shape (Err k) make = Err k

-- a scalar function of one array
abbrev pub monadic_on_array : Scalar1 → ArrayValue → Result ArrayValue Kind
monadic_on_array f a = collect Nums a.shape (λ index. monadic_on_item f (item_of a index))

-- a scalar function of two arrays
abbrev pub dyadic_on_arrays : Scalar2 → ArrayValue → ArrayValue → Result ArrayValue Kind
dyadic_on_arrays f a b = for_shape (common a.shape b.shape) (λ shape. collect Nums shape (λ index. dyadic_on_items f (extended a index) (extended b index)))
