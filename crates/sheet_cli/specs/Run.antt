-- The bytes that a run reads and writes, and its effect. A source has bytes left and a sink has accepted bytes, where known.
use Rattle.std.{specs.Prelude.{◌≡◌, ℕ, ◌-◌, ◌^◌, Bool, true, List, length, Option, ◌⊎◌}, specs.Io.KnownBytes.{Appends, Consumes, IsAtEnd}}
use Rattle.sheet_cli.{specs.Lines.{lines_of, whole_lines_of}, specs.Answer.{State}, specs.Answers.{IsWrittenInPart, Answered, IsOnlyAnswer}, specs.declared.run_loop.Tally.{Tally}}

-- the whole input is read, and its lines are answered
pub record Completes (source₁ source₂ sink₁ sink₂ : Option (List ℕ)) (old new : State) (tally : Tally) : Type 0 where
  pub input : List ℕ
  pub text : List ℕ
  pub read : Consumes source₁ source₂ input
  pub at_end : IsAtEnd source₂
  pub wrote : Appends sink₁ sink₂ text
  pub answered : Answered old (lines_of input) tally.refused_for_memory text new
  pub counted : tally.lines ≡ length (lines_of input)
  pub only : tally.refused_for_memory ≡ 0 → IsOnlyAnswer old (lines_of input) text new

-- the input broke off, or as many bytes were read as can be counted; the lines that ended are answered
pub record BreaksOff (source₁ source₂ sink₁ sink₂ : Option (List ℕ)) (source_failed : Bool) (old new : State) : Type 0 where
  pub input : List ℕ
  pub text : List ℕ
  pub read : Consumes source₁ source₂ input
  pub why : (source_failed ≡ true) ⊎ (length input ≡ 2 ^ 64 - 1)
  pub wrote : Appends sink₁ sink₂ text
  pub refused : ℕ
  pub answered : Answered old (whole_lines_of input) refused text new

-- the sink failed: some of the lines that ended are executed, and a front part of the last answer is written. A last line without LF counts only if
-- the end of the input was read
pub record IsCut (source₁ source₂ sink₁ sink₂ : Option (List ℕ)) (sink_failed : Bool) (old new : State) : Type 0 where
  pub input : List ℕ
  pub written : List ℕ
  pub read : Consumes source₁ source₂ input
  pub why : sink_failed ≡ true
  pub wrote : Appends sink₁ sink₂ written
  pub carried_out : IsWrittenInPart old (whole_lines_of input) written new ⊎ (IsAtEnd source₂ × IsWrittenInPart old (lines_of input) written new)
