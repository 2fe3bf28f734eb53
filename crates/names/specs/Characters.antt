-- The characters of a name.
use Rattle.std.{specs.Prelude.{ℕ, Bool, false, ◌||◌, ◌&&◌, ◌==◌, List, [], ◌∷◌}, specs.List.{list_all}, specs.Char.{is_ascii_digit, is_ascii_alphabetic}}
use Rattle.names.specs.Signs.{delta, delta_underbar, underbar}

-- a name may begin with the character
abbrev pub is_letter : ℕ → Bool
is_letter c = is_ascii_alphabetic c || (c == delta) || (c == delta_underbar)

-- a name may continue with the character
abbrev pub is_name_part : ℕ → Bool
is_name_part c = is_letter c || is_ascii_digit c || (c == underbar)

-- the characters are a name, of any length
abbrev pub spells_name : List ℕ → Bool
spells_name [] = false
spells_name (c ∷ cs) = is_letter c && list_all is_name_part cs
