-- The limit of a name.
use Rattle.std.specs.Prelude.{ℕ}

-- the greatest length of a name, in bytes
abbrev pub longest_name : ℕ
longest_name = 63
