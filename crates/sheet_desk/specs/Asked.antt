-- Events and answers of the code, in terms of the model.
use Rattle.std.{specs.Prelude.{ℕ, Result, Ok, Err}, specs.declared.alloc.AllocError.{AllocError}}
use Rattle.apl_expr.specs.Trees.{tree_of}
use Rattle.arrays_core.specs.Outcomes.{Outcome}
use Rattle.sheet_recalc.{specs.History.{change_of}, specs.declared.refusal.Refusal.{Refusal}, specs.declared.refusal.Refusal.TheVariants.{NoMemory}}
use Rattle.sheet_desk.specs.Desk.{Event, Open, Step, Commit, Drop, Plain, Show, Answer, Done, Left, Shown, Refused}
use Rattle.sheet_desk.specs.declared.event.Event as asked
use Rattle.sheet_desk.specs.declared.event.Event.TheVariants as asked_for
use Rattle.sheet_desk.specs.declared.event.Answer as told
use Rattle.sheet_desk.specs.declared.event.Answer.TheVariants as told_of

-- the model of an event
abbrev pub event_of : asked.Event → Event
event_of (asked_for.Open k change) = Open k (change_of change)
event_of (asked_for.Step k) = Step k
event_of (asked_for.Commit k) = Commit k
event_of (asked_for.Drop k) = Drop k
event_of (asked_for.Plain change) = Plain (change_of change)
event_of (asked_for.Show tree) = Show (tree_of tree)

-- the model of an answer
abbrev pub answer_of : told.Answer → Answer
answer_of told_of.Done = Done
answer_of (told_of.Left n) = Left n
answer_of (told_of.Shown outcome) = Shown outcome
answer_of (told_of.Refused cause) = Refused cause

-- the answer of a call that returns a number of steps
abbrev pub count_answer : Result ℕ Refusal → Answer
count_answer (Ok n) = Left n
count_answer (Err cause) = Refused cause

-- the answer of a call that returns nothing
abbrev pub done_answer : Result (Unit {0}) Refusal → Answer
done_answer (Ok u) = Done
done_answer (Err cause) = Refused cause

-- the answer of a call that evaluates an expression
abbrev pub show_answer : Result Outcome AllocError → Answer
show_answer (Ok outcome) = Shown outcome
show_answer (Err e) = Refused NoMemory
