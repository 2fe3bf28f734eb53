-- The progress of a run between two bytes.
use Rattle.std.specs.Prelude.{◌≡◌, ℕ, zero, suc, ◌+◌, Bool, true, false, List, [], ◌∷◌, ◌++◌, length, take}
use Rattle.sheet_cli.{specs.Lines.{longest_line, strip_bom, ended_lines, last_line, lines_of}, specs.Answer.{State}, specs.Answers.{IsFlaggedAnswer, Answered, StoppedAt, IsWrittenInPart}, specs.declared.run_loop.Tally.{Tally}}

-- the greatest number of bytes kept of the current line: a longest line, a CR, one byte too many, and a byte order mark
abbrev pub most_kept : ℕ
most_kept = longest_line + 5

-- the lines, the first without a byte order mark
unfoldable pub first_stripped : List (List ℕ) → List (List ℕ)
first_stripped [] = []
first_stripped (line ∷ lines) = strip_bom line ∷ lines

-- the line after n answered lines: the first loses a byte order mark
abbrev pub line_after : ℕ → List ℕ → List ℕ
line_after zero line = strip_bom line
line_after (suc n) line = line

-- 1 for a set flag, otherwise 0
abbrev pub count_of : Bool → ℕ
count_of true = 1
count_of false = 0

-- the kept bytes of the current line, the counts, and the state
pub record Standing : Type 0 where
  pub kept : List ℕ
  pub tally : Tally
  pub state : State

-- a standing of its three parts
abbrev pub standing : List ℕ → Tally → State → Standing
standing kept tally state = record { kept = kept; tally = tally; state = state }

-- the line has this text; a refusal for memory is counted
pub record AnswersLine (old : State) (line : List ℕ) (refused_old refused_new : ℕ) (text : List ℕ) (new : State) : Type 0 where
  pub flag : Bool
  pub refused_is : refused_new ≡ refused_old + count_of flag
  pub answer_is : IsFlaggedAnswer flag old line text new

-- all ended lines of the input so far are answered, and the first bytes of the current line are kept
pub record IsMidway (old : State) (input : List ℕ) (here : Standing) (text : List ℕ) : Type 0 where
  pub kept_is : here.kept ≡ take most_kept (last_line input)
  pub lines_is : here.tally.lines ≡ length (ended_lines input)
  pub answered : Answered old (first_stripped (ended_lines input)) here.tally.refused_for_memory text here.state

-- these bytes lead from here to there and write the text
abbrev pub Feeds : List ℕ → Standing → List ℕ → Standing → Type 0
Feeds bytes here text there = (old : State) (input before : List ℕ) → IsMidway old input here before → IsMidway old (input ++ bytes) there (before ++ text)

-- a line that ends in these bytes is answered, and only this text is written
abbrev pub StopsIn : List ℕ → Standing → List ℕ → State → Type 0
StopsIn bytes here text new = (old : State) (input before : List ℕ) → IsMidway old input here before → StoppedAt old (first_stripped (ended_lines (input ++ bytes))) (before ++ text) new

-- all lines of the input are answered
pub record FinishesAll (old : State) (input text : List ℕ) (tally : Tally) (new : State) : Type 0 where
  pub answered : Answered old (lines_of input) tally.refused_for_memory text new
  pub counted : tally.lines ≡ length (lines_of input)

-- the end of the input leads from here to the end of the run and writes the text
abbrev pub Finishes : Standing → List ℕ → Tally → State → Type 0
Finishes here text tally new = (old : State) (input before : List ℕ) → IsMidway old input here before → FinishesAll old input (before ++ text) tally new

-- the end of the input is reached, and only a part is written
abbrev pub StopsAtEnd : Standing → List ℕ → State → Type 0
StopsAtEnd here text new = (old : State) (input before : List ℕ) → IsMidway old input here before → IsWrittenInPart old (lines_of input) (before ++ text) new
