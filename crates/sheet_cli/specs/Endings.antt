-- The result of the program, its exit status and its message.
use Rattle.std.specs.Prelude.{ℕ, List, [], ◌++◌, codes, decimal, Option, Some, None, Result, Ok, Err}
use Rattle.program_words.specs.declared.reading.WordsFault.{WordsFault}
use Rattle.sheet_cli.{specs.declared.ending.Ending.{Ending}, specs.declared.ending.Ending.TheVariants.{Done, Run, Table, CannotRead, NoMemory, BadName, BadWords}, specs.declared.host.NotRead.{NotRead}}
use Rattle.array_text.{specs.declared.table_fault.TableFault.{TableFault}, specs.Text.{line_end}}
use Rattle.program_words.specs.declared.reading.WordsFault.TheVariants as fault
use Rattle.sheet_cli.specs.declared.host.NotRead.TheVariants as unread
use Rattle.sheet_cli.specs.declared.run_loop.RunFault.TheVariants as run
use Rattle.array_text.specs.declared.table_fault.TableFault.TheVariants as table

-- 0 if all is done, 2 if the arguments are refused, otherwise 1
abbrev pub status_of : Ending → ℕ
status_of Done = 0
status_of BadName = 2
status_of (BadWords e) = 2
status_of _ = 1

-- the message for a file that is not a table
abbrev pub fault_told : TableFault → List ℕ
fault_told (table.Field row field) = codes "TABLE ERROR AT RECORD " ++ decimal row ++ codes " FIELD " ++ decimal field ++ line_end
fault_told (table.Length row) = codes "TABLE ERROR AT RECORD " ++ decimal row ++ line_end
fault_told table.Limit = codes "LIMIT ERROR\n"
fault_told table.NoMemory = codes "NO MEMORY\n"

-- the message of a result on standard error. For refused arguments it is the text of the error, which `clap` does not specify
abbrev pub told_of : Ending → Option (List ℕ)
told_of Done = Some []
told_of (Run run.Read) = Some (codes "READ FAULT\n")
told_of (Run run.Write) = Some (codes "WRITE FAULT\n")
told_of (Run run.Memory) = Some (codes "NO MEMORY\n")
told_of (Table fault) = Some (fault_told fault)
told_of CannotRead = Some (codes "CANNOT READ FILE\n")
told_of NoMemory = Some (codes "NO MEMORY\n")
told_of BadName = Some (codes "BAD NAME\n")
told_of (BadWords e) = None

-- the result is Done if nothing failed
abbrev pub done_or_ending : Result (Unit {0}) Ending → Ending
done_or_ending (Ok done) = Done
done_or_ending (Err ending) = ending

-- the result for refused arguments
abbrev pub ending_of : WordsFault → Ending
ending_of fault.NoMemory = NoMemory
ending_of fault.BadName = BadName
ending_of (fault.BadWords e) = BadWords e

-- the result for a file that cannot be read
abbrev pub ending_unread : NotRead → Ending
ending_unread unread.NoMemory = NoMemory
ending_unread unread.CannotRead = CannotRead

-- the result for refused arguments with such a fault
abbrev pub OfWords : (WordsFault → Type 0) → Ending → Type 0
OfWords Holds NoMemory = Holds fault.NoMemory
OfWords Holds BadName = Holds fault.BadName
OfWords Holds (BadWords e) = Holds (fault.BadWords e)
OfWords Holds _ = ⊥
