-- The characters of a name that are no letters or digits of ASCII, each by its code point.
use Rattle.std.specs.Prelude.{ℕ}

-- ∆
abbrev pub delta : ℕ
delta = 0x2206

-- ⍙
abbrev pub delta_underbar : ℕ
delta_underbar = 0x2359

-- _
abbrev pub underbar : ℕ
underbar = 0x5f
