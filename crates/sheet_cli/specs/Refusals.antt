-- The answers that need no memory.
use Rattle.std.specs.Prelude.{◌≢◌, ◌⊎◌, Bool, true, false, None}
use Rattle.apl_expr.specs.Lines.{Meaning, Nothing, Cost, Open, Step, Commit, Drop}
use Rattle.sheet_recalc.specs.declared.refusal.Refusal.{Refusal}
use Rattle.sheet_desk.specs.Desk.{DeskValue, held_in, open_refusal, step_refusal, HasStepsLeft}
use Rattle.sheet_recalc.specs.declared.refusal.Refusal.TheVariants as why

-- the text is constant: not the error of an expression, which may name its origin, nor want of memory, which has none
abbrev pub is_always_there : Refusal → Bool
is_always_there why.NoMemory = false
is_always_there (why.Fault f) = false
is_always_there cause = true

-- the command is never refused memory on this desk: an empty line, the cost, a commit, a drop, an opening that the slots refuse, and a step that
-- the slots refuse or that has no step left
abbrev pub TakesNoMemory : DeskValue → Meaning → Type 0
TakesNoMemory d Nothing = Unit {0}
TakesNoMemory d Cost = Unit {0}
TakesNoMemory d (Open k m) = open_refusal (held_in d k) ≢ None
TakesNoMemory d (Step k) = (step_refusal (held_in d k) ≢ None) ⊎ (HasStepsLeft (held_in d k) → ⊥)
TakesNoMemory d (Commit k) = Unit {0}
TakesNoMemory d (Drop k) = Unit {0}
TakesNoMemory d m = ⊥
