-- The printed bytes of arrays and errors. Each printed line ends with LF.
use Rattle.std.{specs.Prelude.{ℕ, ℤ, pos, negsuc, ◌+◌, ◌-◌, ◌*◌, ◌==◌, max, List, [], ◌∷◌, ◌++◌, if◌then◌else◌, Option, Some, None, length, map, get_or, take, drop, replicate, codes, decimal, encode_utf8_all}, specs.List.{flat_map, range_with_len, fold, join_by}}
use Rattle.arrays_core.{specs.Arrays.{ArrayValue}, specs.declared.item.Item.{Item}, specs.declared.item.Item.TheVariants.{Num, Char}, specs.declared.item.ItemType.{ItemType}, specs.declared.item.ItemType.TheVariants.{Nums, Chars}, specs.declared.item.Kind.{Kind}}
use Rattle.arrays_core.{specs.declared.item.Kind.TheVariants.{Domain, Rank, Length, Index, Axis, Limit, Value}, specs.declared.fault.Fault.{Fault}}

-- the blank between two numbers
abbrev pub between_numbers : List ℕ
between_numbers = 32 ∷ []

-- the end of a line, LF
abbrev pub line_end : List ℕ
line_end = 10 ∷ []

-- the characters of a number: its digits, after a high minus sign (U+00AF) if it is negative
unfoldable pub number_characters : ℤ → List ℕ
number_characters (pos n) = decimal n
number_characters (negsuc n) = 0xAF ∷ decimal (n + 1)

-- a number: its characters in UTF-8
unfoldable pub number_text : ℤ → List ℕ
number_text z = encode_utf8_all (number_characters z)

-- the width of a number: the number of its characters
unfoldable pub number_width : ℤ → ℕ
number_width z = length (number_characters z)

-- a number right-justified in a column of this width
unfoldable pub right_justified : (width : ℕ) → ℤ → List ℕ
right_justified width z = replicate (width - number_width z) 32 ++ number_text z

-- the text before an item that has `earlier` items before it: nothing for the first
unfoldable pub gap : (between : List ℕ) → (earlier : ℕ) → List ℕ
gap between earlier = if earlier == 0 then [] else between

-- a scalar or vector of numbers: the numbers with one blank between
unfoldable pub number_line : List ℤ → List ℕ
number_line zs = join_by number_text between_numbers zs ++ line_end

-- a scalar or vector of characters, or a row of a matrix
unfoldable pub character_line : List ℕ → List ℕ
character_line cs = encode_utf8_all cs ++ line_end

-- the number in a row and a column of a matrix, both counted from 0
abbrev pub matrix_number : (columns : ℕ) → List ℤ → (row column : ℕ) → ℤ
matrix_number columns zs row column = get_or zs (row * columns + column) (pos 0)

-- the width of the widest number of a column
unfoldable pub column_width : (rows columns : ℕ) → List ℤ → (column : ℕ) → ℕ
column_width rows columns zs column = fold max 0 (map (λ row. number_width (matrix_number columns zs row column)) (range_with_len 0 rows))

-- a part, numbered from 0, of a list in parts of `size` items
abbrev pub part_of : {X : Type 0} → (size part : ℕ) → List X → List X
part_of size part xs = take size (drop (part * size) xs)

-- the widths of the columns of a matrix
unfoldable pub column_widths : (rows columns : ℕ) → List ℤ → List ℕ
column_widths rows columns zs = map (column_width rows columns zs) (range_with_len 0 columns)

-- a row of a matrix of numbers: each right-justified in its column, with one blank between
unfoldable pub number_row : (widths : List ℕ) → (row : List ℤ) → List ℕ
number_row widths row = join_by (λ column. right_justified (get_or widths column 0) (get_or row column (pos 0))) between_numbers (range_with_len 0 (length row)) ++ line_end

-- a matrix of numbers
unfoldable pub number_plane : (rows columns : ℕ) → List ℤ → List ℕ
number_plane rows columns zs = flat_map (λ row. number_row (column_widths rows columns zs) (part_of columns row zs)) (range_with_len 0 rows)

-- a matrix of characters: its rows joined
unfoldable pub character_plane : (rows columns : ℕ) → List ℕ → List ℕ
character_plane rows columns cs = flat_map (λ row. character_line (part_of columns row cs)) (range_with_len 0 rows)

-- `count` planes, each a matrix, with one empty line between; nothing for no items
unfoldable pub planes : {X : Type 0} → (plane : List X → List ℕ) → (count size : ℕ) → List X → List ℕ
planes plane count size xs = if length xs == 0 then [] else join_by (λ part. plane (part_of size part xs)) line_end (range_with_len 0 count)

-- the items of an array of a shape, from the text of a line and of a matrix; an array has at most four axes
unfoldable pub text_by_rank : {X : Type 0} → (line : List X → List ℕ) → (plane : ℕ → ℕ → List X → List ℕ) → (shape : List ℕ) → List X → List ℕ
text_by_rank line plane [] xs = line xs
text_by_rank line plane (n ∷ []) xs = line xs
text_by_rank line plane (rows ∷ columns ∷ []) xs = plane rows columns xs
text_by_rank line plane (n ∷ rows ∷ columns ∷ []) xs = planes (plane rows columns) n (rows * columns) xs
text_by_rank line plane (n ∷ m ∷ rows ∷ columns ∷ []) xs = planes (plane rows columns) (n * m) (rows * columns) xs
text_by_rank line plane (a ∷ b ∷ c ∷ d ∷ e ∷ shape) xs = []

-- the items of an array of numbers
abbrev pub numbers_text : (shape : List ℕ) → List ℤ → List ℕ
numbers_text shape zs = text_by_rank number_line number_plane shape zs

-- the items of an array of characters
abbrev pub characters_text : (shape : List ℕ) → List ℕ → List ℕ
characters_text shape cs = text_by_rank character_line character_plane shape cs

-- the number of an item, 0 for a character
abbrev pub item_number : Item → ℤ
item_number (Num z) = z
item_number (Char c) = pos 0

-- the character of an item, a blank for a number
abbrev pub item_character : Item → ℕ
item_character (Num z) = 32
item_character (Char c) = c

-- the items of an array, by their type
abbrev pub items_text : ItemType → (shape : List ℕ) → List Item → List ℕ
items_text Nums shape items = numbers_text shape (map item_number items)
items_text Chars shape items = characters_text shape (map item_character items)

-- an array
abbrev pub array_text : ArrayValue → List ℕ
array_text a = items_text a.item_type a.shape a.items

-- the name of an error
abbrev pub kind_text : Kind → List ℕ
kind_text Domain = codes "DOMAIN"
kind_text Rank = codes "RANK"
kind_text Length = codes "LENGTH"
kind_text Index = codes "INDEX"
kind_text Axis = codes "AXIS"
kind_text Limit = codes "LIMIT"
kind_text Value = codes "VALUE"

-- the name whose formula caused an error, if there is one
abbrev pub origin_text : Option (List ℕ) → List ℕ
origin_text None = []
origin_text (Some name) = codes " IN " ++ name

-- the line of an error
abbrev pub fault_text : Fault → List ℕ
fault_text f = kind_text f.kind ++ codes " ERROR" ++ origin_text f.origin ++ line_end
