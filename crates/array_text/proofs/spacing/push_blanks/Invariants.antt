use Rattle.std.{proofs.Common.{◌≡◌, ◌++◌}, specs.Prelude.{string_bytes, replicate}}
use Rattle.array_text.proofs.spacing.push_blanks.Given as goal

abbrev pub invariant-loop-blank : goal.invariant-loop-blank
invariant-loop-blank l = string_bytes l.out ≡ string_bytes l.initial.out ++ replicate l._blank 32
