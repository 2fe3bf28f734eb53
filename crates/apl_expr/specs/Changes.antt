-- The change of a line, or of a line that opens a change.
use Rattle.std.specs.Prelude.{◌≡◌, IsTrue, Result, Ok, Err, List}
use Rattle.apl_tokens.specs.Lexemes.{Lexeme}
use Rattle.apl_expr.{specs.declared.command.Change.{Change}, specs.declared.command.Command.{Command}, specs.declared.fault.ParseFault.{ParseFault}, specs.declared.fault.ParseFault.TheVariants.{Syntax, Limit, NoMemory}, specs.Grammar.{IsTooLarge}}
use Rattle.apl_expr.specs.Lines.{Meaning, change_meaning, IsChange, HasTree, is_plain_change}
use Rattle.apl_expr.specs.declared.command.Command.TheVariants as command

-- the tokens are not a change
abbrev pub IsNoChange : List Lexeme → Type 0
IsNoChange ts = (m : Meaning) → IsChange ts m → ⊥

-- the result of reading a change from tokens within the limit
abbrev pub IsChangeOf : List Lexeme → Result Change ParseFault → Type 0
IsChangeOf ts (Ok c) = IsChange ts (change_meaning c) × (HasTree IsTooLarge (change_meaning c) → ⊥) × IsTrue (is_plain_change c)
IsChangeOf ts (Err Syntax) = IsNoChange ts
IsChangeOf ts (Err Limit) = (m : Meaning) × IsChange ts m × HasTree IsTooLarge m
IsChangeOf ts (Err NoMemory) = Unit {0}

-- the same as IsChangeOf, for a change stored as a command
abbrev pub IsChangeIn : {T : Type 0} → List Lexeme → Result T ParseFault → Command → Type 0
IsChangeIn ts (Ok x) there = (c : Change) × (there ≡ command.Change c) × IsChangeOf ts (Ok c)
IsChangeIn ts (Err e) there = IsChangeOf ts (Err e)
