-- The order of tokens in their text.
use Rattle.std.specs.Prelude.{ℕ, ◌<◌, ◌≤◌, List, [], ◌∷◌}
use Rattle.apl_tokens.specs.Scans.{SpannedLexeme}

-- the tokens lie in order between byte m and byte n, and none is empty
abbrev pub InOrder : ℕ → List SpannedLexeme → ℕ → Type 0
InOrder m [] n = m ≤ n
InOrder m (t ∷ ts) n = (m ≤ t.start) × (t.start < t.end) × InOrder t.end ts n
