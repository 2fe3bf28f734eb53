-- Reading a table record by record.
use Rattle.std.{proofs.Common.{◌≡◌, ℕ, zero, suc, ℤ, ◌+◌, ◌-◌, ◌*◌, ◌<◌, ◌≤◌, Bool, true, false, not, cond, eqb, List, [], ◌∷◌, ◌++◌, length, drop, map, Option, Some, None, refl, sym, ap, ◌∙◌, arith, rules, append_assoc}, proofs.lemmas.Bool.{eqb-true}, proofs.lemmas.Bool.Decides.{nat_tests}}
use Rattle.std.{proofs.lemmas.Option.{none-some}, proofs.lemmas.List.{append-nil, drop_more, length-append, length-map}}
use Rattle.csv.{specs.Records.{field_at}, proofs.RecordFacts.{field-get}}
use Rattle.arrays_core.{specs.declared.item.Item.TheVariants.{Num}, specs.declared.item.ItemType.TheVariants.{Nums}}
use Rattle.array_text.{specs.declared.table_fault.TableFault.{TableFault}, specs.Reading.{AreRead}}
use Rattle.array_text.specs.Tables.{AnswersFault, Field, Fields, bad_field_fault, columns_of, field_number, fields_read, first_bad, first_fault, is_matrix_within, number_or_zero, numbers_from, numbers_of, or_else, record_fault, rows_of, table_of}
use Rattle.array_text.specs.declared.table_fault.TableFault.TheVariants as fault

-- a field of a record, at a place
module _ (fs : Fields) (i : ℕ) (f : Field) (inside : i < length fs) (at_place : Some f ≡ field_at fs i) where
  is_there : drop i fs ≡ f ∷ drop (i + 1) fs
  is_there = rw (field-get fs i f (sym at_place)) at (drop_more fs i [] inside)

  -- if it is not a number, it is the first such field
  pub bad_found : (number : ℕ) → field_number f ≡ None → first_bad (i + 1) (drop i fs) ≡ first_bad 1 fs
      → bad_field_fault number (first_bad 1 fs) None ≡ Some (fault.Field number (i + 1))
  bad_found number none so_far = rw (← so_far, is_there, none) refl

  -- if it is a number, the first field that is not one is behind it
  pub good_found : (z : ℤ) → field_number f ≡ Some z → first_bad (i + 1) (drop i fs) ≡ first_bad 1 fs → first_bad (i + 1 + 1) (drop (i + 1) fs) ≡ first_bad 1 fs
  good_found z some so_far = rw (← so_far, is_there, some) refl

  -- if it is a number, it is the next one
  pub number_found : (old new all : List ℤ) (z : ℤ) → field_number f ≡ Some z → new ≡ old ++ z ∷ []
      → old ++ numbers_of (drop i fs) ≡ all → new ++ numbers_of (drop (i + 1) fs) ≡ all
  number_found old new all z some is_new so_far = rw (is_new, ← so_far, is_there, some) (append_assoc old (z ∷ []) (numbers_of (drop (i + 1) fs)))

-- `count` records are read without a fault, with these numbers, and these records are left
pub record Stands (header : Bool) (all : List Fields) (columns count : ℕ) (numbers : List ℤ) (rest : List Fields) : Type 0 where
  pub first : columns ≡ columns_of all
  pub faults : first_fault header columns (count + 1) rest ≡ first_fault header columns 1 all
  pub items : numbers ++ numbers_from header (count + 1) rest ≡ numbers_from header 1 all
  pub counted : count + length rest ≡ length all
  pub within : 0 < count → is_matrix_within (rows_of header count) columns ≡ true
  pub full : length numbers ≡ rows_of header count * columns

no_rows : (header : Bool) → rows_of header 0 ≡ 0
no_rows true = refl
no_rows false = refl

-- the first record
pub first_record : {header : Bool} {all : List Fields} {columns : ℕ} {fields : Fields} {later : List Fields} {numbers : List ℤ}
    → all ≡ fields ∷ later → columns ≡ length fields → numbers ≡ [] → Stands header all columns 0 numbers (fields ∷ later)
first_record {header = header} is_all is_long none = rw (is_all, is_long, none) (record {
  first = refl;
  faults = refl;
  items = refl;
  counted = omega arith;
  within = λ h. absurd (omega arith);
  full = rw (no_rows header) (omega arith);
})

clean_by : (number : ℕ) (long : Bool) (bad : Option ℕ) (within : Bool)
    → cond (not long) (Some (fault.Length number)) (bad_field_fault number bad (cond within None (Some fault.Limit))) ≡ None → (long ≡ true) × (within ≡ true)
clean_by number true None true e = (refl, refl)
clean_by number true None false e = absurd (none-some _ (sym e))
clean_by number true (Some field) within e = absurd (none-some _ (sym e))
clean_by number false bad within e = absurd (none-some _ (sym e))

-- a record without a fault
clean : (header : Bool) (columns number : ℕ) (fields : Fields) → record_fault header columns number fields ≡ None
    → (length fields ≡ columns) × (is_matrix_within (rows_of header number) columns ≡ true)
unfolding record_fault
clean header columns number fields h =
    let bad = first_bad 1 (fields_read header number fields) in
    let c = clean_by number (eqb (length fields) columns) bad (is_matrix_within (rows_of header number) columns) h in
    (eqb-true (length fields) columns c.0, c.1)

-- the number of numbers of a record
as_many : (header : Bool) (columns count : ℕ) (fields : Fields) → length fields ≡ columns
    → rows_of header count * columns + length (numbers_of (fields_read header (count + 1) fields)) ≡ rows_of header (count + 1) * columns
as_many false columns count fields e = omega (arith, length-map fields (λ (f : Field). number_or_zero (field_number f)))
as_many true columns zero fields e = let none : (0 - 1) * columns + 0 ≡ (0 + 1 - 1) * columns = omega arith in none
as_many true columns (suc count) fields e =
    let later : eqb (suc count + 1) 1 ≡ false = grind (arith, nat_tests) in
    let before : suc count - 1 ≡ count = omega arith in
    let after : suc count + 1 - 1 ≡ suc count = omega arith in
    rw (later, before, after) (omega (arith, length-map fields (λ (f : Field). number_or_zero (field_number f))))

-- one more record without a fault
pub stands_on : {header : Bool} {all : List Fields} {columns count : ℕ} {numbers new : List ℤ} {fields : Fields} {later : List Fields}
    → Stands header all columns count numbers (fields ∷ later) → record_fault header columns (count + 1) fields ≡ None
    → new ≡ numbers ++ numbers_of (fields_read header (count + 1) fields) → Stands header all columns (count + 1) new later
stands_on {header = header} {columns = columns} {count = count} {numbers = numbers} {fields = fields} {later = later} s none is_new =
    let c = clean header columns (count + 1) fields none in
    let more = numbers_of (fields_read header (count + 1) fields) in record {
      first = s.first;
      faults = rw none at s.faults;
      items = rw is_new (append_assoc numbers more (numbers_from header (count + 1 + 1) later) ∙ s.items);
      counted = omega arith;
      within = λ h. c.1;
      full = rw (is_new, length-append numbers more, s.full) (as_many header columns count fields c.0);
    }

answers_first : (o later : Option TableFault) (f : TableFault) → AnswersFault o f → AnswersFault (or_else o later) f
answers_first o later (fault.Field row field) e = rw e refl
answers_first o later (fault.Length row) e = rw e refl
answers_first o later fault.Limit e = rw e refl
answers_first o later fault.NoMemory e = tt

-- the fault of a record is the first one
pub fault_here : {header : Bool} {all : List Fields} {columns count : ℕ} {numbers : List ℤ} {fields : Fields} {later : List Fields}
    → Stands header all columns count numbers (fields ∷ later) → (f : TableFault) → AnswersFault (record_fault header columns (count + 1) fields) f
    → AnswersFault (first_fault header (columns_of all) 1 all) f
fault_here {header = header} {columns = columns} {count = count} {fields = fields} {later = later} s f answers =
    rw (← s.first, ← s.faults) (answers_first (record_fault header columns (count + 1) fields) (first_fault header columns (count + 1 + 1) later) f answers)

-- all records are read
pub all_read : {header : Bool} {all : List Fields} {columns count : ℕ} {numbers : List ℤ} → Stands header all columns count numbers [] → 0 < count
    → (first_fault header (columns_of all) 1 all ≡ None) × AreRead header all numbers (rows_of header count) columns
all_read {header = header} {all = all} {count = count} {numbers = numbers} s some =
    let long : count ≡ length all = let counted = s.counted in omega arith in
    let items = sym (append-nil numbers) ∙ s.items in
    (rw (← s.first) (sym s.faults), record { all = items; high = ap (rows_of header) long; wide = s.first; within = s.within some; full = s.full })

-- more records than a table may have are an error
pub too_many : (header : Bool) (columns count : ℕ) → 1048578 ≤ count → is_matrix_within (rows_of header count) columns ≡ true → ⊥
too_many true columns count h is = search rules
too_many false columns count h is = search rules

-- a file without records
pub none_read : (header : Bool) (all : List Fields) (numbers : List ℤ) → all ≡ [] → numbers ≡ []
    → (first_fault header (columns_of all) 1 all ≡ None) × AreRead header all numbers 0 0
none_read header all numbers e none = rw (e, none) (refl, record { all = refl; high = sym (no_rows header); wide = refl; within = refl; full = refl })

-- the table of the records
pub table_is : (header : Bool) (all : List Fields) (rows columns : ℕ) (numbers : List ℤ) → AreRead header all numbers rows columns
    → record { item_type = Nums; shape = rows ∷ columns ∷ []; items = map (λ z. Num z) numbers } ≡ table_of header all
unfolding table_of
table_is header all rows columns numbers read = rw (read.high, read.wide, read.all) refl
