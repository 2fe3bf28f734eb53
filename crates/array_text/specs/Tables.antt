-- Tables in files: each field of a record is a number.
use Rattle.std.{specs.Prelude.{◌≡◌, ℕ, ℤ, pos, ◌+◌, ◌-◌, ◌*◌, ◌==◌, ◌&&◌, not, nat_lt, nat_le, Bool, true, false, List, [], ◌∷◌, ◌++◌, if◌then◌else◌, Option, Some, None, is_some, Result, Ok, Err, length, map, get_or, take, drop}, specs.Fmt.{signed_decimal}}
use Rattle.std.{specs.List.{flat_map, range_with_len, join_by, list_all, prefix_len}, specs.Char.{is_ascii_digit}}
use Rattle.csv.specs.Reading.{default_config, records, strip_bom}
use Rattle.apl_tokens.specs.Characters.{is_blank, decimal_from, signed, fits_number}
use Rattle.arrays_core.{specs.Limits.{longest_axis, most_places}, specs.Arrays.{ArrayValue}, specs.declared.item.Item.TheVariants.{Num}, specs.declared.item.ItemType.TheVariants.{Nums}}
use Rattle.array_text.{specs.Text.{line_end, part_of, text_by_rank}, specs.declared.table_fault.TableFault.{TableFault}}
use Rattle.array_text.specs.declared.table_fault.TableFault.TheVariants as fault

-- the bytes of a field
abbrev pub Field : Type 0
Field = List ℕ

-- the fields of a record
abbrev pub Fields : Type 0
Fields = List Field

-- true for a minus at the front, `-` or `¯`, and the bytes after the sign or after a `+`
unfoldable pub sign_and_rest : List ℕ → Bool × List ℕ
sign_and_rest [] = (false, [])
sign_and_rest (b ∷ bytes) =
    if b == 0x2d then (true, bytes)
    else if b == 0x2b then (false, bytes)
    else if (b == 0xc2) && (get_or bytes 0 0 == 0xaf) then (true, drop 1 bytes)
    else (false, b ∷ bytes)

-- the number of digits, if there are any and it is within 64 bits
unfoldable pub digits_number : (is_negative : Bool) → List ℕ → Option ℤ
digits_number is_negative digits =
    if nat_lt 0 (length digits) && fits_number is_negative (decimal_from 0 digits) then Some (signed is_negative (decimal_from 0 digits)) else None

-- the number of a field after its sign: digits, and then blanks up to the end
unfoldable pub unsigned_number : (is_negative : Bool) → List ℕ → Option ℤ
unsigned_number is_negative bytes =
    let size = prefix_len is_ascii_digit bytes in
    if list_all is_blank (drop size bytes) then digits_number is_negative (take size bytes) else None

-- the number of a field, if it has one: blanks, a sign or none, digits, blanks
unfoldable pub field_number : Field → Option ℤ
field_number field =
    let parts = sign_and_rest (drop (prefix_len is_blank field) field) in
    unsigned_number parts.0 parts.1

-- a number, or 0 for none
abbrev pub number_or_zero : Option ℤ → ℤ
number_or_zero None = pos 0
number_or_zero (Some z) = z

-- the numbers of the fields of a record
abbrev pub numbers_of : Fields → List ℤ
numbers_of fields = map (λ field. number_or_zero (field_number field)) fields

-- the number of the first field that is not a number, counted from `first`
abbrev pub first_bad : ℕ → Fields → Option ℕ
first_bad first [] = None
first_bad first (field ∷ fields) = if is_some (field_number field) then first_bad (first + 1) fields else Some first

-- a matrix may have this many rows and columns
abbrev pub is_matrix_within : (rows columns : ℕ) → Bool
is_matrix_within rows columns = (nat_le rows longest_axis && nat_le columns longest_axis) && nat_le (rows * columns) most_places

-- the number of rows of the first `count` records: a header is not a row
abbrev pub rows_of : (header : Bool) → (count : ℕ) → ℕ
rows_of header count = if header then count - 1 else count

-- the record with this number is the header
abbrev pub is_header : (header : Bool) → (number : ℕ) → Bool
is_header header number = header && (number == 1)

-- the fields that are read as numbers: none of a header
abbrev pub fields_read : (header : Bool) → (number : ℕ) → Fields → Fields
fields_read header number fields = if is_header header number then [] else fields

-- the fault of the first bad field, if there is one, or else the next fault
abbrev pub bad_field_fault : (number : ℕ) → Option ℕ → Option TableFault → Option TableFault
bad_field_fault number (Some field) next = Some (fault.Field number field)
bad_field_fault number None next = next

-- the fault of a record: another number of fields than the first record; else its first field that is not a number; else a table that is too
-- large with it
unfoldable pub record_fault : (header : Bool) → (columns number : ℕ) → Fields → Option TableFault
record_fault header columns number fields =
    if not (length fields == columns) then Some (fault.Length number)
    else bad_field_fault number (first_bad 1 (fields_read header number fields))
    (if is_matrix_within (rows_of header number) columns then None else Some fault.Limit)

-- the first of two faults
abbrev pub or_else : Option TableFault → Option TableFault → Option TableFault
or_else (Some f) later = Some f
or_else None later = later

-- the fault of the first record that has one, counted from this number
abbrev pub first_fault : (header : Bool) → (columns number : ℕ) → List Fields → Option TableFault
first_fault header columns number [] = None
first_fault header columns number (fields ∷ rest) = or_else (record_fault header columns number fields) (first_fault header columns (number + 1) rest)

-- the number of fields of the first record
abbrev pub columns_of : List Fields → ℕ
columns_of [] = 0
columns_of (fields ∷ rest) = length fields

-- the numbers of the records, counted from this number
abbrev pub numbers_from : (header : Bool) → (number : ℕ) → List Fields → List ℤ
numbers_from header number [] = []
numbers_from header number (fields ∷ rest) = numbers_of (fields_read header number fields) ++ numbers_from header (number + 1) rest

-- the matrix of records by fields
unfoldable pub table_of : (header : Bool) → List Fields → ArrayValue
table_of header rows = record {
  item_type = Nums;
  shape = rows_of header (length rows) ∷ columns_of rows ∷ [];
  items = map (λ z. Num z) (numbers_from header 1 rows);
}

-- the fault is the expected one, or want of memory
abbrev pub AnswersFault : Option TableFault → TableFault → Type 0
AnswersFault wanted (fault.Field row field) = wanted ≡ Some (fault.Field row field)
AnswersFault wanted (fault.Length row) = wanted ≡ Some (fault.Length row)
AnswersFault wanted fault.Limit = wanted ≡ Some fault.Limit
AnswersFault wanted fault.NoMemory = Unit {0}

-- the result satisfies Holds if no fault is expected, and is that fault otherwise; or want of memory
abbrev pub IsReadOf : {X : Type 0} → Option TableFault → (X → Type 0) → Result X TableFault → Type 0
IsReadOf wanted Holds (Ok x) = (wanted ≡ None) × Holds x
IsReadOf wanted Holds (Err f) = AnswersFault wanted f

-- the result of reading records: their table if none has a fault, and else the first fault; or want of memory
abbrev pub IsTableRead : (header : Bool) → List Fields → Result ArrayValue TableFault → Type 0
IsTableRead header rows result = IsReadOf (first_fault header (columns_of rows) 1 rows) (λ a. a ≡ table_of header rows) result

-- the records of a file, as `csv` reads them with its defaults: a byte order mark at the start is skipped; CR, LF and CR LF each end a record;
-- empty lines are not records
abbrev pub records_of : List ℕ → List Fields
records_of bytes = records default_config (strip_bom bytes)

-- the comma between two fields
abbrev pub between_fields : List ℕ
between_fields = 44 ∷ []

-- a record of a written table: its numbers with commas between
unfoldable pub record_text : List ℤ → List ℕ
record_text zs = join_by signed_decimal between_fields zs ++ line_end

-- a matrix: one record for each row
unfoldable pub records_text : (rows columns : ℕ) → List ℤ → List ℕ
records_text rows columns zs = flat_map (λ row. record_text (part_of columns row zs)) (range_with_len 0 rows)

-- a table: a scalar is one field, a vector one record; without items there is no text
unfoldable pub table_text : (shape : List ℕ) → List ℤ → List ℕ
table_text shape zs = if length zs == 0 then [] else text_by_rank record_text records_text shape zs
