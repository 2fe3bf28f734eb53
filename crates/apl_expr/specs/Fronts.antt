-- The first tokens of a line, which determine its kind.
use Rattle.std.specs.Prelude.{ℕ, ℤ, Option, Some, None, List, [], ◌∷◌, if◌then◌else◌, ◌==◌}
use Rattle.apl_tokens.{specs.Lexemes.{Lexeme, Number, Named, Sign}, specs.Signs.{right_parenthesis}}

-- the name and the rest, if the two lexemes are a name and the sign c
abbrev pub name_and_sign : ℕ → Lexeme → Lexeme → List Lexeme → Option (List ℕ × List Lexeme)
name_and_sign c (Named n) (Sign d) ts = if d == c then Some (n, ts) else None
name_and_sign c t u ts = None

-- the name at the front, if the sign c follows it, and the rest
abbrev pub name_before : ℕ → List Lexeme → Option (List ℕ × List Lexeme)
name_before c [] = None
name_before c (t ∷ []) = None
name_before c (t ∷ u ∷ ts) = name_and_sign c t u ts

-- the word and the rest, if the two lexemes are `)` and a name
abbrev pub sign_and_word : Lexeme → Lexeme → List Lexeme → Option (List ℕ × List Lexeme)
sign_and_word (Sign c) (Named w) ts = if c == right_parenthesis then Some (w, ts) else None
sign_and_word t u ts = None

-- the word at the front, after `)`, and the rest
abbrev pub command_word : List Lexeme → Option (List ℕ × List Lexeme)
command_word [] = None
command_word (t ∷ []) = None
command_word (t ∷ u ∷ ts) = sign_and_word t u ts

-- the name at the front, and the rest
abbrev pub name_first : List Lexeme → Option (List ℕ × List Lexeme)
name_first (Named n ∷ ts) = Some (n, ts)
name_first ts = None

-- the name, if it is the only lexeme
abbrev pub only_name : List Lexeme → Option (List ℕ)
only_name (Named n ∷ []) = Some n
only_name ts = None

-- the number at the front, and the rest
abbrev pub number_first : List Lexeme → Option (ℤ × List Lexeme)
number_first (Number k ∷ ts) = Some (k, ts)
number_first ts = None

-- the number, if it is the only lexeme
abbrev pub only_number : List Lexeme → Option ℤ
only_number (Number k ∷ []) = Some k
only_number ts = None
