use Rattle.std.{proofs.Common.{◌≡◌, ◌∙◌, ◌-◌, true, length, take, slice_index, ap, sym, arith}, specs.Prelude.{nat_lt, ◌==◌, ◌&&◌, if◌then◌else◌}, proofs.lemmas.Bool.Decides.{nat_tests}}
use Rattle.sheet_cli.specs.Lines.{strip_cr}
use Rattle.sheet_cli.proofs.answer.strip_cr.Goals as goal

pub returns-in-13 : goal.returns-in-13
unfolding strip_cr
returns-in-13 c =
    let line = c.args.line.now in
    let some : nat_lt 0 (length line) ≡ true = grind (arith, nat_tests) in
    let last : (slice_index line (length line - 1) == 13) ≡ true = grind (arith, nat_tests) in
    sym (ap (λ t. if t && (slice_index line (length line - 1) == 13) then take (length line - 1) line else line) some
    ∙ ap (λ t. if t then take (length line - 1) line else line) last)
