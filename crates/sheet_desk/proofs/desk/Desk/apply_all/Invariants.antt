use Rattle.std.proofs.Common.{◌≤◌, ◌+◌, ◌++◌, List, map, length, vec_len, vec_capacity}
use Rattle.sheet_desk.{specs.Desk.{DeskValue, Answer, AreEvents}, specs.Asked.{event_of, answer_of}}
use Rattle.sheet_desk.proofs.desk.Desk.apply_all.Given as goal

-- the answers to the rest complete the answers to all events
abbrev pub invariant-loop-event : goal.invariant-loop-event
invariant-loop-event l =
    record {
      room : vec_len l.answers + length l.events.items ≤ vec_capacity l.answers;
      run : (rest : List Answer) (new : DeskValue) → AreEvents l.self (map event_of l.events.items) rest new
          → AreEvents l.fn.self (map event_of l.fn.events.items) (map answer_of l.answers.items ++ rest) new;
    }

abbrev pub decreases-loop-event : goal.decreases-loop-event
decreases-loop-event l = length l.events.items
