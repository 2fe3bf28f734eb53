-- The bytes that a line prints.
use Rattle.std.specs.Prelude.{ℕ, List, string_bytes}
use Rattle.sheet_cli.{specs.declared.printed.Printed.{Printed}, specs.declared.printed.Printed.TheVariants.{Fixed, Count, Made}}

-- a constant text, a count, or an allocated text
abbrev pub printed_bytes : Printed → List ℕ
printed_bytes (Fixed text) = text.now
printed_bytes (Count line) = line
printed_bytes (Made text) = string_bytes text
