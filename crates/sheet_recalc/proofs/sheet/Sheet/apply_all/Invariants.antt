use Rattle.std.proofs.Common.{◌≤◌, ◌+◌, ◌++◌, List, Result, map, length, vec_len, vec_capacity}
use Rattle.sheet_recalc.{specs.declared.refusal.Refusal.{Refusal}, specs.History.{SheetState, Run, change_of, sheet_state_of}}
use Rattle.sheet_recalc.proofs.sheet.Sheet.apply_all.Given as goal

-- whatever the rest is answered, all of it is a run
abbrev pub invariant-loop-change : goal.invariant-loop-change
invariant-loop-change l =
    record {
      room : vec_len l.answers + length l.changes.items ≤ vec_capacity l.answers;
      run : (rest : List (Result (Unit {0}) Refusal)) (new : SheetState) → Run (sheet_state_of l.self) (map change_of l.changes.items) rest new
          → Run (sheet_state_of l.fn.self) (map change_of l.fn.changes.items) (l.answers.items ++ rest) new;
    }

abbrev pub decreases-loop-change : goal.decreases-loop-change
decreases-loop-change l = length l.changes.items
