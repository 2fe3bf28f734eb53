-- Names as words of eight bytes, by which they are compared and hashed.
use Rattle.std.{specs.Prelude.{ℕ, min, zero, suc, ◌+◌, ◌-◌, ◌*◌, List, [], ◌∷◌, ◌++◌, length, slice_index_or}, specs.Int.{div_ceil}}
use Rattle.names.specs.Limits.{longest_name}

-- the number of bytes in a word
abbrev pub word_size : ℕ
word_size = 8

-- the start of word k: a multiple of eight; the last word begins one byte earlier, to end within the 63 bytes
abbrev pub word_start : ℕ → ℕ
word_start k = min (k * word_size) (longest_name - word_size)

-- the byte of a name at an index, zero after its end
abbrev pub byte_or_zero : List ℕ → ℕ → ℕ
byte_or_zero name i = slice_index_or name i 0

-- eight bytes from an index on
unfoldable pub eight_bytes : List ℕ → ℕ → List ℕ
eight_bytes name i =
    byte_or_zero name i ∷ byte_or_zero name (i + 1) ∷ byte_or_zero name (i + 2) ∷ byte_or_zero name (i + 3) ∷
    byte_or_zero name (i + 4) ∷ byte_or_zero name (i + 5) ∷ byte_or_zero name (i + 6) ∷ byte_or_zero name (i + 7) ∷ []

-- word k of a name
abbrev pub word_at : List ℕ → ℕ → List ℕ
word_at name k = eight_bytes name (word_start k)

-- the number of words of a name, and the most of any name
abbrev pub count_of_words : List ℕ → ℕ
count_of_words name = div_ceil (length name) word_size

abbrev pub most_words : ℕ
most_words = word_size

-- the first k words of a name
unfoldable pub first_words : List ℕ → ℕ → List (List ℕ)
first_words name zero = []
first_words name (suc k) = first_words name k ++ word_at name k ∷ []

-- the words of a name that a hash takes
abbrev pub hashed_words : List ℕ → List (List ℕ)
hashed_words name = first_words name (count_of_words name)
