use Rattle.std.{proofs.Common.{◌≡◌, ◌≤◌, take}, specs.Prelude.{count_by, ◌==◌}}
use Rattle.apl_tokens.proofs.row_edit.count_blanks.Given as goal

abbrev pub invariant-loop-byte : goal.invariant-loop-byte
invariant-loop-byte l = (l.blanks ≤ l.byte-index) × (l.blanks ≡ count_by (λ byte. byte == 0x20) (take l.byte-index l.text))
