-- The value of a host in contracts: its arguments and its files, where they are known.
use Rattle.std.{specs.Prelude.{◌≡◌, ℕ, List, All, Option, Some, IfSome}, specs.Str.{IsUtf8}, specs.declared.io.ErrorKind.{ErrorKind}, specs.declared.io.ErrorKind.TheVariants.{OutOfMemory}}
use Rattle.clap.specs.Words.{Text}
use Rattle.sheet_cli.{specs.declared.host.NoWords.{NoWords}, specs.declared.host.NotRead.{NotRead}}
use Rattle.sheet_cli.specs.declared.host.NoWords.TheVariants as words
use Rattle.sheet_cli.specs.declared.host.NotRead.TheVariants as file

-- a file: it cannot be opened; it breaks off after these bytes; or it has these bytes and can be read whole
pub data FileValue : Type 0 where
  Closed : FileValue
  Broken : List ℕ → FileValue
  Whole : List ℕ → FileValue

-- the arguments as bytes, the program's own name first, and the file of each path
pub record HostValue : Type 0 where
  pub words : Option (List Text)
  pub file : Text → Option FileValue

-- the arguments are these texts
abbrev pub HasWords : HostValue → List Text → Type 0
HasWords host words = IfSome host.words (λ given. given ≡ words)

-- an argument is not UTF-8 text
abbrev pub HasNoText : HostValue → Type 0
HasNoText host = IfSome host.words (λ given. All IsUtf8 given → ⊥)

-- the file can be read whole and has these bytes
abbrev pub IsWhole : FileValue → List ℕ → Type 0
IsWhole (Whole bytes) read = read ≡ bytes
IsWhole file read = ⊥

-- the file cannot be read whole
abbrev pub IsNotWhole : FileValue → Type 0
IsNotWhole (Whole bytes) = ⊥
IsNotWhole file = Unit {0}

-- the file can be opened, and a source of it has these bytes left
abbrev pub IsOpenedAs : FileValue → Option (List ℕ) → Type 0
IsOpenedAs Closed left = ⊥
IsOpenedAs (Broken bytes) left = left ≡ Some bytes
IsOpenedAs (Whole bytes) left = left ≡ Some bytes

-- the host has a file of this path with these bytes, and can read it whole
abbrev pub ReadsFile : HostValue → Text → List ℕ → Type 0
ReadsFile host path bytes = IfSome (host.file path) (λ file. IsWhole file bytes)

abbrev pub FailsToRead : HostValue → Text → Type 0
FailsToRead host path = IfSome (host.file path) IsNotWhole

abbrev pub Opens : HostValue → Text → Option (List ℕ) → Type 0
Opens host path left = IfSome (host.file path) (λ file. IsOpenedAs file left)

abbrev pub FailsToOpen : HostValue → Text → Type 0
FailsToOpen host path = IfSome (host.file path) (λ file. file ≡ Closed)

-- the reason that an error of this kind stands for: no arguments, or an unread file
abbrev pub no_words : ErrorKind → NoWords
no_words OutOfMemory = words.NoMemory
no_words kind = words.NotText

abbrev pub not_read : ErrorKind → NotRead
not_read OutOfMemory = file.NoMemory
not_read kind = file.CannotRead
