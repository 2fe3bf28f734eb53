-- The limits of a line and of its tree.
use Rattle.std.specs.Prelude.{ℕ}

-- the most tokens of a line
abbrev pub most_tokens : ℕ
most_tokens = 4096

-- the greatest height of a tree
abbrev pub most_height : ℕ
most_height = 256

-- the most nodes of a tree
abbrev pub most_nodes : ℕ
most_nodes = 512
