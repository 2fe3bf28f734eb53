-- The answers to lines, in order.
use Rattle.std.specs.Prelude.{◌≡◌, ℕ, Bool, true, false, List, [], ◌∷◌, ◌++◌, length, codes, count_by, ◌⊎◌}
use Rattle.sheet_cli.specs.Answer.{State, IsAnswer}

-- the line has this answer; a flagged line is refused memory and changes nothing
abbrev pub IsFlaggedAnswer : Bool → State → List ℕ → List ℕ → State → Type 0
IsFlaggedAnswer true old line text new = (text ≡ codes "NO MEMORY\n") × (new ≡ old)
IsFlaggedAnswer false old line text new = IsAnswer old line text new

-- lines with one flag each have this text and lead from the first state to the last
pub data Answers : State → List (List ℕ) → List Bool → List ℕ → State → Type 0 where
  no_lines : {old : State} → Answers old [] [] [] old
  line_first : {old mid new : State} {line : List ℕ} {lines : List (List ℕ)} {flag : Bool} {flags : List Bool} (now later : List ℕ) →
      IsFlaggedAnswer flag old line now mid → Answers mid lines flags later new → Answers old (line ∷ lines) (flag ∷ flags) (now ++ later) new

-- for some flags, `refused` of them set, the lines have this text
pub record Answered (old : State) (lines : List (List ℕ)) (refused : ℕ) (text : List ℕ) (new : State) : Type 0 where
  pub flags : List Bool
  pub one_a_line : length flags ≡ length lines
  pub refused_is : count_by (λ flag. flag) flags ≡ refused
  pub answers : Answers old lines flags text new

-- all earlier lines are answered whole, and a front part of one more answer is written
pub record StoppedAt (old : State) (lines : List (List ℕ)) (written : List ℕ) (new : State) : Type 0 where
  pub earlier : List (List ℕ)
  pub last : List ℕ
  pub later : List (List ℕ)
  pub lines_are : lines ≡ earlier ++ last ∷ later
  pub refused : ℕ
  pub whole : List ℕ
  pub state : State
  pub answered : Answered old earlier refused whole state
  pub flag : Bool
  pub part : List ℕ
  pub unwritten : List ℕ
  pub last_answer : IsFlaggedAnswer flag state last (part ++ unwritten) new
  pub written_is : written ≡ whole ++ part

-- some lines are answered, and a front part of the last answer is written
abbrev pub IsWrittenInPart : State → List (List ℕ) → List ℕ → State → Type 0
IsWrittenInPart old lines written new = StoppedAt old lines written new ⊎ ((refused : ℕ) × Answered old lines refused written new)

-- a line has one answer and leads to one state
abbrev pub EachLineHasOneAnswer : Type 0
EachLineHasOneAnswer = (old : State) (line text₁ text₂ : List ℕ) (new₁ new₂ : State) → IsAnswer old line text₁ new₁ → IsAnswer old line text₂ new₂ → (text₁ ≡ text₂) × (new₁ ≡ new₂)

-- lines with these flags have one answer and lead to one state
abbrev pub LinesHaveOneAnswer : Type 0
LinesHaveOneAnswer = (old : State) (lines : List (List ℕ)) (flags : List Bool) (text₁ text₂ : List ℕ) (new₁ new₂ : State) →
    Answers old lines flags text₁ new₁ → Answers old lines flags text₂ new₂ → (text₁ ≡ text₂) × (new₁ ≡ new₂)

-- if no line is refused memory, the lines have no other answer
abbrev pub IsOnlyAnswer : State → List (List ℕ) → List ℕ → State → Type 0
IsOnlyAnswer old lines text new = (text' : List ℕ) (new' : State) → Answered old lines 0 text' new' → (text' ≡ text) × (new' ≡ new)
