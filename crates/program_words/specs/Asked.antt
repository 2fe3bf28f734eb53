-- The meaning of the words of the command line.
use Rattle.std.{specs.Prelude.{◌≡◌, ◌↔◌, ◌≤◌, true, false, List, [], Bool, IsTrue, Option, Some, None, codes, length, option_map, string_bytes}, specs.declared.alloc.Global.{Global}, specs.declared.string.String.{String}, specs.Str.{bytes_eq, chars}}
use Rattle.names.{specs.Characters.{spells_name}, specs.Limits.{longest_name}}
use Rattle.clap.{specs.Words.{IsAmong, Row, Text, fault_of, first_of, kind_of, one_of, subcommand_of}, specs.declared.error.kind.ErrorKind.TheVariants.{InvalidValue}}
use Rattle.program_words.{specs.declared.reading.Words.{Words}, specs.declared.reading.WordsFault.{WordsFault}, specs.declared.reading.WordsFault.TheVariants.{NoMemory, BadName, BadWords}, specs.Program.{aplsheet}}

-- the text is a name
abbrev pub IsName : Text → Type 0
IsName text = (spells_name (chars text) ≡ true) × (length text ≤ longest_name)

-- the table of the values of `table`: its name, its file, and true if its first record is a header
pub record AsksForTable (values : List Row) (t : Text × Text × Bool) : Type 0 where
  pub name : first_of (codes "NAME") values ≡ Some t.0
  pub is_name : IsName t.0
  pub file : first_of (codes "FILE") values ≡ Some t.1
  pub header : IsTrue t.2 ↔ (one_of (codes "header") values ≡ Some (codes "true"))

abbrev pub HasTable : List Row → Option (Text × String Global × Bool) → Type 0
HasTable values None = ⊥
HasTable values (Some t) = AsksForTable values (t.0, string_bytes t.1, t.2)

abbrev pub is_table : Text → Bool
is_table command = bytes_eq command (codes "table")

-- the meaning of a subcommand and its values: without one nothing; `run` has a script, `table` a table and a script
unfoldable pub Means : Option (Text × List Row) → Words → Type 0
Means None w = (w.table ≡ None) × (w.script ≡ None)
Means (Some p) w = (option_map string_bytes w.script ≡ first_of (codes "SCRIPT") p.1)
    × (is_table p.0 ≡ true → HasTable p.1 w.table)
    × (is_table p.0 ≡ false → w.table ≡ None)

-- the name of the table is not a name
abbrev pub HasNoName : List Row → Type 0
HasNoName values = (text : Text) × (first_of (codes "NAME") values ≡ Some text) × (IsName text → ⊥)

unfoldable pub HasBadName : Option (Text × List Row) → Type 0
HasBadName None = ⊥
HasBadName (Some p) = (is_table p.0 ≡ true) × HasNoName p.1

-- the reason for a refusal: want of memory; the name of the table, if `clap` finds no fault; or a fault that `clap` finds
unfoldable pub IsRefusalOf : List Text → WordsFault → Type 0
IsRefusalOf words NoMemory = Unit {0}
IsRefusalOf words BadName = (fault_of aplsheet words ≡ []) × HasBadName (subcommand_of aplsheet words)
IsRefusalOf words (BadWords e) = IsAmong (kind_of e) (fault_of aplsheet words)

-- `clap` did not refuse the words
abbrev pub IsNotBadWords : WordsFault → Type 0
IsNotBadWords NoMemory = Unit {0}
IsNotBadWords BadName = Unit {0}
IsNotBadWords (BadWords e) = ⊥

-- the refusal of a word that is not text
abbrev pub IsNotText : WordsFault → Type 0
IsNotText NoMemory = Unit {0}
IsNotText BadName = ⊥
IsNotText (BadWords e) = kind_of e ≡ InvalidValue
