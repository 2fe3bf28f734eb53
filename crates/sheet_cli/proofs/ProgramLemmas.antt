-- The result of the program.
use Rattle.std.{proofs.Common.{◌≡◌, ℕ, Bool, true, false, List, [], ◌∷◌, replicate, Option, Some, None, Result, Ok, Err, IfErr, OnOk, is_err, string_bytes, refl}, proofs.lemmas.Bool.{true≢false}}
use Rattle.{clap.specs.Words.{Text, takes}, arrays_core.specs.Arrays.{ArrayValue}}
use Rattle.program_words.{specs.Asked.{IsNotBadWords, IsRefusalOf}, specs.Program.{aplsheet}, specs.declared.reading.Words.{Words}}
use Rattle.{sheet_recalc.{specs.Names.{Names, Data}, specs.Changes.{Accepts, Put}}, sheet_desk.{specs.Desk.{DeskValue}, specs.Slots.{slot_count}}}
use Rattle.sheet_cli.{specs.Answer.{State, state_of}, specs.Run.{BreaksOff, IsCut}, specs.Endings.{OfWords, ending_unread}, specs.Hosts.{HostValue, HasWords, FailsToRead}, specs.Programs.{RefusesWords, refused, AskedTable, GivesTable, GivesNoTable, BeginsWith, FailsToBegin, Sources, Sinks, LinesComeTo, first_state}}
use Rattle.sheet_cli.{specs.declared.ending.Ending.{Ending}, specs.declared.ending.Ending.TheVariants.{Run}, specs.declared.host.NotRead.{NotRead}, specs.declared.run_loop.RunFault.{RunFault}}
use Rattle.sheet_cli.specs.declared.host.NotRead.TheVariants as unread
use Rattle.sheet_cli.specs.declared.run_loop.RunFault.TheVariants as run

-- arguments that are text are refused for a fault in them
pub refused-words : (host : HostValue) (words : List Text) (r : Result Words Ending) → HasWords host words → IfErr r (OfWords (IsRefusalOf words)) →
    (takes aplsheet words ≡ true → IfErr r (OfWords IsNotBadWords)) → IfErr r (RefusesWords host)
refused-words host words (Ok asked) given why taken = tt
refused-words host words (Err ending) given why taken = refused words given why taken

-- a file that cannot be read gives no table
pub unread-gives-none : (host : HostValue) (path : Text) (header : Bool) (why : NotRead) → (why ≡ unread.CannotRead → FailsToRead host path) →
    GivesNoTable host path header (ending_unread why)
unread-gives-none host path header unread.NoMemory fails = tt
unread-gives-none host path header unread.CannotRead fails = fails refl

-- the first names, or the reason why there are none
pub begins-bare : (host : HostValue) (asked : Option AskedTable) (names : Names) → asked ≡ None → names ≡ [] → BeginsWith host asked names
begins-bare host asked names e h = rw e h

pub begins-with-table : (host : HostValue) (asked : Option AskedTable) (t : AskedTable) (a : ArrayValue) (names : Names) → asked ≡ Some t →
    GivesTable host (string_bytes t.1) t.2 a → names ≡ (t.0, Data a) ∷ [] → BeginsWith host asked names
begins-with-table host asked t a names e table h = rw e (a, table, h)

pub fails-to-begin : (host : HostValue) (asked : Option AskedTable) (t : AskedTable) (ending : Ending) → asked ≡ Some t →
    GivesNoTable host (string_bytes t.1) t.2 ending → FailsToBegin host asked ending
fails-to-begin host asked t ending e table = rw e table

-- an array put into an empty sheet is its only one
pub put-alone : {E : Type 0} (r : Result (Unit {0}) E) (old new : Names) (name : List ℕ) (a : ArrayValue) → is_err r ≡ false → old ≡ [] →
    OnOk r (Accepts old (Put name a) new) → new ≡ (name, Data a) ∷ []
put-alone (Ok done) old new name a went empty accepts = rw empty at accepts.0
put-alone (Err e) old new name a went empty accepts = absurd (true≢false went)

-- the state of a desk of such a sheet
pub state-at-first : (d : DeskValue) (names : Names) → d.names ≡ names → d.cost ≡ 0 → d.slots ≡ replicate slot_count None → state_of d ≡ first_state names
state-at-first d names n c s = rw (n, c, s) refl

-- a run that stopped early, with the reason from `run`
pub lines-fault : {R W : Type 0} (r : Sources R) (w : Sinks W) (source₁ source₂ : R) (sink₁ sink₂ : W) (old first new : State) (Same : Type 0) (fault : RunFault) → old ≡ first →
    (fault ≡ run.Memory → (source₂ ≡ source₁) × (sink₂ ≡ sink₁) × Same) →
    (fault ≡ run.Read → BreaksOff (r.remaining source₁) (r.remaining source₂) (w.written sink₁) (w.written sink₂) (r.has_failed source₂) old new) →
    (fault ≡ run.Write → IsCut (r.remaining source₁) (r.remaining source₂) (w.written sink₁) (w.written sink₂) (w.has_failed sink₂) old new) →
    LinesComeTo r w source₁ source₂ sink₁ sink₂ first (Run fault)
lines-fault r w source₁ source₂ sink₁ sink₂ old first new Same run.Read e memory read write = (new, rw e at (read refl))
lines-fault r w source₁ source₂ sink₁ sink₂ old first new Same run.Write e memory read write = (new, rw e at (write refl))
lines-fault r w source₁ source₂ sink₁ sink₂ old first new Same run.Memory e memory read write = let m = memory refl in (m.0, m.1)
