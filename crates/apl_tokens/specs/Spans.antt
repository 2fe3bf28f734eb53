-- The text of a span.
use Rattle.std.specs.Prelude.{ℕ, List, ◌++◌, codes, decimal}
use Rattle.apl_tokens.specs.declared.token.Span.{Span}

-- `START to END`, in decimal digits
abbrev pub span_text : Span → List ℕ
span_text s = decimal s.start ++ codes " to " ++ decimal s.end
