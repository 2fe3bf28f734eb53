-- The edit of an item by a number, `NAME[positions]←number`, and a row of numbers, `)ROW NAME numbers`, as the tokens of a line.
use Rattle.std.specs.Prelude.{◌≡◌, ℕ, ◌<◌, ◌≤◌, ℤ, Ok, List, [], ◌∷◌, ◌++◌, length, map, codes}
use Rattle.apl_tokens.{specs.Signs.{left_bracket, right_bracket, semicolon, left_arrow, right_parenthesis}, specs.Lexemes.{Lexeme, Number, Named, Sign}, specs.Scans.{Scans, SpannedLexeme}, specs.declared.cell_edit.NumberEdit.{NumberEdit}, specs.declared.row_edit.NumberRow.{NumberRow}}
use Rattle.apl_tokens.{specs.declared.row_edit.RowNumbers.{RowNumbers}, specs.declared.row_edit.RowNumbers.TheVariants.{One, Several}}

-- the positions, with `;` between them
abbrev pub position_lexemes : List ℤ → List Lexeme
position_lexemes [] = []
position_lexemes (p ∷ []) = Number p ∷ []
position_lexemes (p ∷ q ∷ ps) = Number p ∷ Sign semicolon ∷ position_lexemes (q ∷ ps)

-- the name, its positions in brackets, `←` and the number
abbrev pub edit_lexemes : List ℕ → List ℤ → ℤ → List Lexeme
edit_lexemes name ps n = Named name ∷ Sign left_bracket ∷ (position_lexemes ps ++ Sign right_bracket ∷ Sign left_arrow ∷ Number n ∷ [])

-- the characters, of which the first is at byte n, have tokens, and these are their lexemes
abbrev pub Says : ℕ → List ℕ → List Lexeme → Type 0
Says n cs ls = (ts : List SpannedLexeme) × Scans n cs (Ok ts) × (map (λ (t : SpannedLexeme). t.lexeme) ts ≡ ls)

-- the tokens of the characters are this edit, with one to four positions
abbrev pub IsNumberEdit : List ℕ → NumberEdit → Type 0
IsNumberEdit cs e = Says 0 cs (edit_lexemes e.name e.positions.items e.number) × (0 < length e.positions.items) × (length e.positions.items ≤ 4)

-- the numbers of a row
abbrev pub row_numbers_of : RowNumbers → List ℤ
row_numbers_of (One n) = n ∷ []
row_numbers_of (Several ns) = ns.items

-- a list of several numbers has more than one
abbrev pub AreSeveral : RowNumbers → Type 0
AreSeveral (One n) = Unit {0}
AreSeveral (Several ns) = 1 < length ns.items

-- the numbers in order
abbrev pub number_lexemes : List ℤ → List Lexeme
number_lexemes ns = map (λ (n : ℤ). Number n) ns

-- `)ROW`, the name and the numbers
abbrev pub row_lexemes : List ℕ → List ℤ → List Lexeme
row_lexemes name ns = Sign right_parenthesis ∷ Named (codes "ROW") ∷ Named name ∷ number_lexemes ns

-- the tokens of the characters are this row
abbrev pub IsNumberRow : List ℕ → NumberRow → Type 0
IsNumberRow cs r = Says 0 cs (row_lexemes r.name (row_numbers_of r.numbers)) × AreSeveral r.numbers
