-- Reading bytes from the front: the bytes at the front have these lexemes, for every continuation.
use Rattle.std.{specs.Prelude.{ℕ, ℤ, Bool, true, false, List, [], ◌∷◌, ◌++◌}, specs.Char.{is_ascii_digit}, specs.Str.{chars}}
use Rattle.apl_tokens.{specs.Lexemes.{Lexeme}, specs.Characters.{joins_number}, specs.Scans.{Ends}, specs.NumberEdits.{Says, number_lexemes}}
use Rattle.names.specs.Characters.{is_name_part}

-- if the characters of us satisfy C, the characters of bs have the lexemes ls and then the lexemes of us
pub record ReadsBefore (C : List ℕ → Type 0) (bs us : List ℕ) (ls : List Lexeme) : Type 0 where
  pub reads : (n : ℕ) → (m : ℕ) × ((ts : List Lexeme) → C (chars us) → Says m (chars us) ts → Says n (chars bs) (ls ++ ts))

-- the same for every continuation
abbrev pub Reads : List ℕ → List ℕ → List Lexeme → Type 0
Reads bs us ls = ReadsBefore (λ cs. Unit {0}) bs us ls

-- a name does not continue with these characters
abbrev pub EndsName : List ℕ → Type 0
EndsName cs = Ends is_name_part cs

-- a number does not continue with these characters
abbrev pub EndsNumber : List ℕ → Type 0
EndsNumber cs = Ends is_ascii_digit cs × Ends joins_number cs

-- if bytes have the numbers ms up to us, they have the numbers ns up to vs
abbrev pub GoesOn : (us : List ℕ) → (ms : List ℤ) → (vs : List ℕ) → (ns : List ℤ) → Type 0
GoesOn us ms vs ns = (bs : List ℕ) → ReadsBefore EndsNumber bs us (number_lexemes ms) → ReadsBefore EndsNumber bs vs (number_lexemes ns)

-- the bytes of a high minus if there is one
abbrev pub minus_bytes : Bool → List ℕ
minus_bytes false = []
minus_bytes true = 0xc2 ∷ 0xaf ∷ []
