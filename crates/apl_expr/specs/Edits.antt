-- The reader of a cell's edit as a machine: it reads the lexemes after `NAME [`, one at a time. A literal alone is read from the state after
-- `←`.
use Rattle.std.specs.Prelude.{◌≡◌, IsTrue, ℕ, ℤ, Option, Some, None, Result, Ok, Err, List, [], ◌∷◌, ◌++◌, if◌then◌else◌, ◌==◌}
use Rattle.smallvec.specs.SmallVec.{SmallVec}
use Rattle.apl_expr.{specs.Trees.{Literal, Numbers, Text, literal_of, is_plain}, specs.declared.fault.ParseFault.{ParseFault}, specs.declared.fault.ParseFault.TheVariants.{Syntax, Limit, NoMemory}}
use Rattle.apl_tokens.{specs.Lexemes.{Lexeme, Number, Characters, Named, Sign}, specs.Signs.{left_arrow, right_bracket, semicolon}}
use Rattle.apl_expr.specs.declared.expr.Literal as literal
use Rattle.apl_expr.specs.declared.edit.Edit as code
use Rattle.apl_expr.specs.declared.edit.Edit.TheVariants as edit

-- the part read last, with the positions so far: `[` or `;`, a position, `]`, `←` and the numbers so far, or a text
pub data Edit : Type 0 where
  Open : List ℤ → Edit
  Position : List ℤ → Edit
  Closed : List ℤ → Edit
  Items : List ℤ → List ℤ → Edit
  Quoted : List ℤ → List ℕ → Edit

-- the positions and the literal of an edit
pub data Written : Type 0 where
  Write : List ℤ → Literal → Written

-- the sign after a position: `;` or `]`
abbrev pub after_position : List ℤ → ℕ → Option Edit
after_position ps c = if c == semicolon then Some (Open ps) else (if c == right_bracket then Some (Closed ps) else None)

-- the sign after `]`: `←`
abbrev pub after_bracket : List ℤ → ℕ → Option Edit
after_bracket ps c = if c == left_arrow then Some (Items ps []) else None

-- the number is a position or an item
abbrev pub edit_number : ℤ → Edit → Option Edit
edit_number n (Open ps) = Some (Position (ps ++ n ∷ []))
edit_number n (Position ps) = None
edit_number n (Closed ps) = None
edit_number n (Items ps ns) = Some (Items ps (ns ++ n ∷ []))
edit_number n (Quoted ps cs) = None

-- the text is the whole literal
abbrev pub edit_text : List ℕ → Edit → Option Edit
edit_text cs (Open ps) = None
edit_text cs (Position ps) = None
edit_text cs (Closed ps) = None
edit_text cs (Items ps []) = Some (Quoted ps cs)
edit_text cs (Items ps (n ∷ ns)) = None
edit_text cs (Quoted ps ds) = None

-- the next lexeme is a sign
abbrev pub edit_sign : ℕ → Edit → Option Edit
edit_sign c (Open ps) = None
edit_sign c (Position ps) = after_position ps c
edit_sign c (Closed ps) = after_bracket ps c
edit_sign c (Items ps ns) = None
edit_sign c (Quoted ps cs) = None

-- the next lexeme
abbrev pub edit_step : Lexeme → Edit → Option Edit
edit_step (Number n) s = edit_number n s
edit_step (Characters cs) s = edit_text cs s
edit_step (Named n) s = None
edit_step (Sign c) s = edit_sign c s

-- the tokens end
abbrev pub edit_end : Edit → Option Written
edit_end (Open ps) = None
edit_end (Position ps) = None
edit_end (Closed ps) = None
edit_end (Items ps []) = None
edit_end (Items ps (n ∷ ns)) = Some (Write ps (Numbers (n ∷ ns)))
edit_end (Quoted ps cs) = Some (Write ps (Text cs))

-- the edit that the lexemes complete
unfoldable pub edits : List Lexeme → Option Edit → Option Written
edits [] None = None
edits [] (Some s) = edit_end s
edits (t ∷ ts) None = None
edits (t ∷ ts) (Some s) = edits ts (edit_step t s)

-- the state of the machine for the state of the code
abbrev pub edit_of : code.Edit → Edit
edit_of (edit.Open ps) = Open ps.items
edit_of (edit.Position ps) = Position ps.items
edit_of (edit.Closed ps) = Closed ps.items
edit_of (edit.Items ps ns) = Items ps.items ns.items
edit_of (edit.Quoted ps cs) = Quoted ps.items cs.items

-- a step of the code is a step of the machine, unless memory runs out
abbrev pub EditSteps : Result code.Edit ParseFault → Option Edit → Type 0
EditSteps (Ok s) o = o ≡ Some (edit_of s)
EditSteps (Err Syntax) o = o ≡ None
EditSteps (Err Limit) o = ⊥
EditSteps (Err NoMemory) o = Unit {0}

-- the positions and the literal of all tokens, or the fault
abbrev pub EditGives : Result (SmallVec ℤ × literal.Literal) ParseFault → Option Written → Type 0
EditGives (Ok w) o = (o ≡ Some (Write w.0.items (literal_of w.1))) × IsTrue (is_plain w.1)
EditGives (Err Syntax) o = o ≡ None
EditGives (Err Limit) o = ⊥
EditGives (Err NoMemory) o = Unit {0}

-- the literal of all tokens, or the fault
abbrev pub LiteralGives : Result literal.Literal ParseFault → Option Written → Type 0
LiteralGives (Ok l) o = (o ≡ Some (Write [] (literal_of l))) × IsTrue (is_plain l)
LiteralGives (Err Syntax) o = o ≡ None
LiteralGives (Err Limit) o = ⊥
LiteralGives (Err NoMemory) o = Unit {0}
