-- The values that `clap` matches, and its errors.
use Rattle.std.specs.Prelude.{◌≡◌, ◌⊎◌, true, List, Bool, Option, Some, None, codes, is_some}
use Rattle.clap.{specs.Words.{Row, Text, first_of, kind_of, one_of}, specs.declared.error.kind.ErrorKind.{ErrorKind}, specs.declared.error.kind.ErrorKind.TheVariants.{OutOfMemory}}
use Rattle.program_words.{specs.declared.reading.WordsFault.{WordsFault}, specs.declared.reading.WordsFault.TheVariants.{NoMemory, BadName, BadWords}, specs.Asked.{is_table}}

-- a flag is true, false or absent
abbrev pub IsTruth : Option Text → Type 0
IsTruth o = (o ≡ None) ⊎ ((o ≡ Some (codes "true")) ⊎ (o ≡ Some (codes "false")))

-- the refusal for an error of `clap`, by its kind
abbrev pub IsRefusalFor : ErrorKind → WordsFault → Type 0
IsRefusalFor kind NoMemory = kind ≡ OutOfMemory
IsRefusalFor kind BadName = ⊥
IsRefusalFor kind (BadWords e) = (kind_of e ≡ kind) × (kind ≡ OutOfMemory → ⊥)

-- the refusal of words that `clap` accepts: want of memory, or a bad name
abbrev pub IsForName : Type 0 → WordsFault → Type 0
IsForName IsBad NoMemory = Unit {0}
IsForName IsBad BadName = IsBad
IsForName IsBad (BadWords e) = ⊥

-- a required word is present
abbrev pub has_word : Text → List Row → Bool
has_word id values = is_some (first_of id values)

-- the required words of `table` are present, and its flag is true, false or absent
pub record HasTableWords (values : List Row) : Type 0 where
  pub name : has_word (codes "NAME") values ≡ true
  pub file : has_word (codes "FILE") values ≡ true
  pub header : IsTruth (one_of (codes "header") values)

unfoldable pub IsWholeTable : Option (Text × List Row) → Type 0
IsWholeTable None = Unit {0}
IsWholeTable (Some p) = is_table p.0 ≡ true → HasTableWords p.1
