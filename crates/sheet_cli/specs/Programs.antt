-- The effect of the program on its devices, given its arguments and files.
use Rattle.std.{specs.Prelude.{◌≡◌, ℕ, Bool, true, List, [], ◌∷◌, replicate, Option, Some, None, Ok, Err, IfSome, ◌⊎◌, string_bytes}, specs.Io.KnownBytes.{Appends}, specs.declared.alloc.Global.{Global}, specs.declared.string.String.{String}}
use Rattle.clap.specs.Words.{Text, fault_of, subcommand_of, takes}
use Rattle.arrays_core.specs.Arrays.{ArrayValue}
use Rattle.array_text.specs.Tables.{IsTableRead, records_of}
use Rattle.program_words.{specs.Asked.{IsNotBadWords, IsNotText, IsRefusalOf, Means}, specs.Program.{aplsheet}, specs.declared.reading.Words.{Words}, specs.declared.reading.WordsFault.{WordsFault}}
use Rattle.sheet_recalc.specs.Names.{Names, Data}
use Rattle.sheet_desk.specs.Slots.{slot_count}
use Rattle.sheet_cli.{specs.Answer.{State}, specs.Endings.{OfWords, ending_of, status_of, told_of}, specs.Hosts.{HostValue, HasWords, HasNoText, ReadsFile, FailsToRead, Opens, FailsToOpen}, specs.Run.{Completes, BreaksOff, IsCut}, specs.declared.ending.Ending.{Ending}}
use Rattle.sheet_cli.{specs.declared.ending.Ending.TheVariants.{Done, Run, Table, CannotRead, NoMemory}, specs.declared.run_loop.Tally.{Tally}}
use Rattle.sheet_cli.specs.declared.run_loop.RunFault.TheVariants as run

-- the arguments have no fault and mean this
pub record AsksFor (host : HostValue) (asked : Words) : Type 0 where
  pub words : List Text
  pub given : HasWords host words
  pub faultless : fault_of aplsheet words ≡ []
  pub means : Means (subcommand_of aplsheet words) asked

-- the arguments are refused: for want of memory, because one is not text, or for a fault
pub data RefusesWords (host : HostValue) : Ending → Type 0 where
  no_memory : RefusesWords host NoMemory
  no_text : (fault : WordsFault) → HasNoText host → IsNotText fault → RefusesWords host (ending_of fault)
  refused : {ending : Ending} (words : List Text) → HasWords host words → OfWords (IsRefusalOf words) ending →
      (takes aplsheet words ≡ true → OfWords IsNotBadWords ending) → RefusesWords host ending

-- the file of this path can be read, and it is the table with this array
abbrev pub GivesTable : HostValue → Text → Bool → ArrayValue → Type 0
GivesTable host path header a = (bytes : List ℕ) × ReadsFile host path bytes × IsTableRead header (records_of bytes) (Ok a)

-- the file gives no table: it cannot be read, it has this fault, or memory is refused
abbrev pub GivesNoTable : HostValue → Text → Bool → Ending → Type 0
GivesNoTable host path header CannotRead = FailsToRead host path
GivesNoTable host path header (Table fault) = (bytes : List ℕ) × ReadsFile host path bytes × IsTableRead header (records_of bytes) (Err fault)
GivesNoTable host path header NoMemory = Unit {0}
GivesNoTable host path header ending = ⊥

-- a requested table: its name, its file, and whether the first record is a header
abbrev pub AskedTable : Type 0
AskedTable = Text × String Global × Bool

-- the names before the first line: none, or only the requested table
abbrev pub BeginsWith : HostValue → Option AskedTable → Names → Type 0
BeginsWith host None names = names ≡ []
BeginsWith host (Some t) names = (a : ArrayValue) × GivesTable host (string_bytes t.1) t.2 a × (names ≡ (t.0, Data a) ∷ [])

-- the lines do not begin: the requested table cannot be had
abbrev pub FailsToBegin : HostValue → Option AskedTable → Ending → Type 0
FailsToBegin host None ending = ⊥
FailsToBegin host (Some t) ending = GivesNoTable host (string_bytes t.1) t.2 ending

-- the state before the first line, with these names
abbrev pub first_state : Names → State
first_state names = record { names = names; cost = 0; slots = replicate slot_count None }

-- the views of a source type in contracts: the bytes left, if known, and whether a call has failed
pub record Sources (R : Type 0) : Type 0 where
  pub remaining : R → Option (List ℕ)
  pub has_failed : R → Bool

-- the views of a sink type: the bytes accepted, if known, whether a call has failed, and whether all is flushed
pub record Sinks (W : Type 0) : Type 0 where
  pub written : W → Option (List ℕ)
  pub has_failed : W → Bool
  pub is_flushed : W → Bool

-- the lines of a source are answered to a sink with this result
abbrev pub LinesComeTo : {R W : Type 0} → Sources R → Sinks W → R → R → W → W → State → Ending → Type 0
LinesComeTo r w source₁ source₂ sink₁ sink₂ old Done = (new : State) × (tally : Tally)
    × Completes (r.remaining source₁) (r.remaining source₂) (w.written sink₁) (w.written sink₂) old new tally × (w.is_flushed sink₂ ≡ true)
LinesComeTo r w source₁ source₂ sink₁ sink₂ old (Run run.Read) = (new : State)
    × BreaksOff (r.remaining source₁) (r.remaining source₂) (w.written sink₁) (w.written sink₂) (r.has_failed source₂) old new
LinesComeTo r w source₁ source₂ sink₁ sink₂ old (Run run.Write) = (new : State)
    × IsCut (r.remaining source₁) (r.remaining source₂) (w.written sink₁) (w.written sink₂) (w.has_failed sink₂) old new
LinesComeTo r w source₁ source₂ sink₁ sink₂ old (Run run.Memory) = (source₂ ≡ source₁) × (sink₂ ≡ sink₁)
LinesComeTo r w source₁ source₂ sink₁ sink₂ old ending = ⊥

-- the setting of the program: its arguments and files, its input and output before and after, and the views of the input, of a script and of the
-- output
pub record Setting (R S W : Type 0) : Type 0 where
  pub host : HostValue
  pub inputs : Sources R
  pub scripts : Sources S
  pub outputs : Sinks W
  pub input₁ : R
  pub input₂ : R
  pub output₁ : W
  pub output₂ : W

-- nothing is read or written
abbrev pub IsIdle : {R S W : Type 0} → Setting R S W → Type 0
IsIdle s = (s.input₂ ≡ s.input₁) × (s.output₂ ≡ s.output₁)

-- the result of the program: it answers the lines of the script, or of the input if there is none. The first fault counts: of the arguments, then
-- of the table, then of the script
pub data ComesTo {R S W : Type 0} (s : Setting R S W) : Ending → Type 0 where
  bad_words : {ending : Ending} → RefusesWords s.host ending → IsIdle s → ComesTo s ending
  no_table : {ending : Ending} (asked : Words) → AsksFor s.host asked → FailsToBegin s.host asked.table ending → IsIdle s → ComesTo s ending
  no_script : (asked : Words) (names : Names) (path : String Global) → AsksFor s.host asked → BeginsWith s.host asked.table names →
      asked.script ≡ Some path → FailsToOpen s.host (string_bytes path) → IsIdle s → ComesTo s CannotRead
  of_script : {ending : Ending} (asked : Words) (names : Names) (path : String Global) (script₁ script₂ : S) → AsksFor s.host asked →
      BeginsWith s.host asked.table names → asked.script ≡ Some path → Opens s.host (string_bytes path) (s.scripts.remaining script₁) →
      s.input₂ ≡ s.input₁ → LinesComeTo s.scripts s.outputs script₁ script₂ s.output₁ s.output₂ (first_state names) ending → ComesTo s ending
  of_input : {ending : Ending} (asked : Words) (names : Names) → AsksFor s.host asked → BeginsWith s.host asked.table names → asked.script ≡ None →
      LinesComeTo s.inputs s.outputs s.input₁ s.input₂ s.output₁ s.output₂ (first_state names) ending → ComesTo s ending

-- the message of the result is written, or a call has failed
abbrev pub IsEndingTold : Option (List ℕ) → Option (List ℕ) → Bool → Ending → Type 0
IsEndingTold told₁ told₂ has_failed ending = IfSome (told_of ending) (λ text. Appends told₁ told₂ text ⊎ (has_failed ≡ true))

-- the whole program: it has a result, reports it, and returns its exit status
pub record Performs {R S W : Type 0} (s : Setting R S W) (told₁ told₂ : Option (List ℕ)) (has_failed : Bool) (status : ℕ) : Type 0 where
  pub ending : Ending
  pub comes_to : ComesTo s ending
  pub is_told : IsEndingTold told₁ told₂ has_failed ending
  pub status_is : status ≡ status_of ending
