-- Worked examples of tables, by computation: the tables of files, the first faults of files, and the files of tables.
use Rattle.std.{proofs.Common.{ℕ, ℤ, pos, negsuc, Bool, true, false, List, [], ◌∷◌, ◌++◌, Option, Some, None, refl}, specs.Prelude.{codes}, specs.Fmt.{digits}}
use Rattle.csv.{specs.Machine.{next_record}, specs.Reading.{records_from, strip_bom}}
use Rattle.arrays_core.{specs.Arrays.{ArrayValue}, proofs.CaseWords.{◌⇒◌, AllSame, ints}}
use Rattle.array_text.{specs.Text.{text_by_rank}, specs.declared.table_fault.TableFault.{TableFault}, specs.declared.table_fault.TableFault.TheVariants.{Field as FieldFault, Length as LengthFault}}
use Rattle.array_text.specs.Tables.{columns_of, digits_number, field_number, first_fault, record_fault, record_text, records_of, records_text, sign_and_rest, table_of, table_text, unsigned_number}

abbrev fault_of : (header : Bool) → List ℕ → Option TableFault
fault_of header bytes = first_fault header (columns_of (records_of bytes)) 1 (records_of bytes)

abbrev matrix : (rows columns : ℕ) → List ℤ → ArrayValue
matrix rows columns zs = ints (rows ∷ columns ∷ []) zs

abbrev minus_high : List ℕ
minus_high = 0xc2 ∷ 0xaf ∷ []

-- the number of a field, if it has one
fields : AllSame (
    field_number (codes " \t+7 ") ⇒ Some (pos 7) ∷
    field_number (minus_high ++ codes "2") ⇒ Some (negsuc 1) ∷
    field_number (codes "-9223372036854775808") ⇒ Some (negsuc 9223372036854775807) ∷
    field_number (codes "9223372036854775808") ⇒ None ∷
    field_number (codes "--1") ⇒ None ∷
    field_number (codes "- 1") ⇒ None ∷
    field_number (codes "1 2") ⇒ None ∷
    field_number (codes "  ") ⇒ None ∷
    [])
unfolding field_number unsigned_number sign_and_rest digits_number
fields = refl

abbrev small_file : List ℕ
small_file = codes "a,b\n1,-2\n\"3\"," ++ minus_high ++ codes "4\n"

-- the tables of files, some with a header, and one with a byte order mark
tables_read : AllSame (
    table_of true (records_of small_file) ⇒ matrix 2 2 (pos 1 ∷ negsuc 1 ∷ pos 3 ∷ negsuc 3 ∷ []) ∷
    table_of true (records_of (codes "a,b\n")) ⇒ matrix 0 2 [] ∷
    table_of true (records_of []) ⇒ matrix 0 0 [] ∷
    table_of false (records_of (0xef ∷ 0xbb ∷ 0xbf ∷ codes "5")) ⇒ matrix 1 1 (pos 5 ∷ []) ∷
    [])
unfolding table_of next_record records_from strip_bom field_number unsigned_number sign_and_rest digits_number
tables_read = refl

-- the first faults of files
faults : AllSame (
    fault_of true small_file ⇒ None ∷
    fault_of false small_file ⇒ Some (FieldFault 1 1) ∷
    fault_of false (codes "1,2\n3") ⇒ Some (LengthFault 2) ∷
    fault_of false (codes "1,,2") ⇒ Some (FieldFault 1 2) ∷
    [])
unfolding record_fault next_record records_from strip_bom field_number unsigned_number sign_and_rest digits_number
faults = refl

texts_written : AllSame (
    table_text (2 ∷ 2 ∷ []) (pos 1 ∷ negsuc 1 ∷ pos 3 ∷ negsuc 3 ∷ []) ⇒ codes "1,-2\n3,-4\n" ∷
    table_text [] (negsuc 4 ∷ []) ⇒ codes "-5\n" ∷
    table_text (0 ∷ 3 ∷ []) [] ⇒ [] ∷
    [])
unfolding table_text text_by_rank records_text record_text digits
texts_written = refl
