-- The text printed for a request.
use Rattle.{std.{proofs.Common.{◌≡◌, ℕ, ℤ, List, codes, Ok, Err, refl}, proofs.lemmas.List.{length-map}}, apl_tokens.specs.Scans.{SpannedLexeme}}
use Rattle.apl_expr.{specs.declared.command.Command.{Command}, specs.declared.fault.LineFault.TheVariants.{Syntax, Limit}, specs.Lines.{Open, meaning, change_meaning}, specs.Answers.{IsAnswered}}
use Rattle.{sheet_recalc.specs.History.{change_of}, sheet_desk.specs.Desk.{DeskValue, IsEvent}}
use Rattle.sheet_cli.specs.Answer.{State, state_of, IsChangeAnswered, IsPrintedFor, IsAsked, IsCarriedOut, IsTextAnswer, no_line, too_large, carried_out}
use Rattle.apl_expr.specs.declared.command.Change as asked
use Rattle.apl_expr.specs.declared.command.Change.TheVariants as lined
use Rattle.sheet_desk.specs.Desk as desk

-- the changes of lines are edits
pub change_carried_out : (change : asked.Change) (old : State) (text : List ℕ) (new : State) → IsChangeAnswered old (change_of change) text new → IsCarriedOut old (change_meaning change) text new
change_carried_out (lined.Define name tree) old text new h = h
change_carried_out (lined.Data name tree) old text new h = h
change_carried_out (lined.Cell name positions literal) old text new h = h
change_carried_out (lined.Row name literal) old text new h = h
change_carried_out (lined.Erase name) old text new h = h

-- the changes of lines can be opened
pub opening_carried_out : (k : ℤ) (change : asked.Change) (old : State) (text : List ℕ) (new : State) → IsAsked old (desk.Open k (change_of change)) text new → IsCarriedOut old (Open k (change_meaning change)) text new
opening_carried_out k (lined.Define name tree) old text new h = h
opening_carried_out k (lined.Data name tree) old text new h = h
opening_carried_out k (lined.Cell name positions literal) old text new h = h
opening_carried_out k (lined.Row name literal) old text new h = h
opening_carried_out k (lined.Erase name) old text new h = h

-- an event of a desk, in terms of a run's state
pub asked_of : (d next : DeskValue) (event : desk.Event) (answer : desk.Answer) (text : List ℕ) → IsEvent d event answer next → IsPrintedFor answer text → IsAsked (state_of d) event text (state_of next)
asked_of d next event answer text e t = record { before = d; after = next; answer = answer; event_is = e; before_is = refl; after_is = refl; text_is = t }

pub answered_no_line : (old : State) (cs answer : List ℕ) → IsAnswered cs (Err Syntax) → answer ≡ codes "SYNTAX ERROR\n" → IsTextAnswer old cs answer old
answered_no_line old cs answer h e = rw e (no_line h)

pub answered_too_large : (old : State) (cs answer : List ℕ) → IsAnswered cs (Err Limit) → answer ≡ codes "LIMIT ERROR\n" → IsTextAnswer old cs answer old
answered_too_large old cs answer h e = rw e (too_large h)

pub answered_carried_out : (old new : State) (cs answer : List ℕ) (c : Command) → IsAnswered cs (Ok c) → IsCarriedOut old (meaning c) answer new → IsTextAnswer old cs answer new
answered_carried_out old new cs answer c h d = carried_out (meaning c) (h.0, h.1, rw (← length-map h.0 (λ (t : SpannedLexeme). t.lexeme)) h.2.0, h.2.1, h.2.2) d
