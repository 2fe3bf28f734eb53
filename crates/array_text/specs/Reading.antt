-- The records that a reader of a file has not read yet.
use Rattle.std.specs.Prelude.{◌≡◌, ◌<◌, ◌*◌, ℕ, ℤ, Bool, true, false, List, [], ◌∷◌, length, Option, Some}
use Rattle.csv.{specs.Machine.{ends_at_end}, specs.Reading.{Ready, default_config, is_flexible, reader_config, reader_state, reader_trim, records_from, source_of}, specs.declared.reader.Reader.{Reader}}
use Rattle.array_text.specs.Tables.{Fields, columns_of, is_matrix_within, numbers_from, rows_of}
use Rattle.csv.specs.declared.reader.Trim.TheVariants as trim

-- the reader is between two records, and these records are left
pub record AreLeft {R : Type 0} (known : R → Option (List ℕ)) (reader : Reader R) (rest : List Fields) : Type 0 where
  pub plain : reader_trim reader ≡ trim.None
  pub ready : Ready reader
  pub flexible : is_flexible reader ≡ true
  pub config : reader_config reader ≡ default_config
  pub between : ends_at_end (reader_state reader) ≡ false
  pub bytes : List ℕ
  pub source : source_of known reader ≡ Some bytes
  pub most : ℕ
  pub enough : length bytes < most
  pub are : rest ≡ records_from default_config most (reader_state reader) bytes

-- the result of reading the next record: true if one was left, its fields, and the records left after it
pub record IsNext (Left : List Fields → Type 0) (rest : List Fields) (found : Bool) (fields : Fields) : Type 0 where
  pub none : found ≡ false → rest ≡ []
  pub some : found ≡ true → (later : List Fields) × (rest ≡ fields ∷ later) × Left later

-- the result of reading all records: their numbers, which fill this many rows and columns
pub record AreRead (header : Bool) (records : List Fields) (numbers : List ℤ) (rows columns : ℕ) : Type 0 where
  pub all : numbers ≡ numbers_from header 1 records
  pub high : rows ≡ rows_of header (length records)
  pub wide : columns ≡ columns_of records
  pub within : is_matrix_within rows columns ≡ true
  pub full : length numbers ≡ rows * columns
