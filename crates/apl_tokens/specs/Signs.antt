-- The characters of the language by name, each by its code point; names has those of a name.
use Rattle.std.specs.Prelude.{ℕ}

-- a space
abbrev pub space : ℕ
space = 0x20

-- a tab
abbrev pub tab : ℕ
tab = 0x09

-- +
abbrev pub plus_sign : ℕ
plus_sign = 0x2b

-- -
abbrev pub minus_sign : ℕ
minus_sign = 0x2d

-- ×
abbrev pub times_sign : ℕ
times_sign = 0xd7

-- ÷
abbrev pub divide_sign : ℕ
divide_sign = 0xf7

-- *
abbrev pub star : ℕ
star = 0x2a

-- |
abbrev pub stile : ℕ
stile = 0x7c

-- ⌈
abbrev pub up_stile : ℕ
up_stile = 0x2308

-- ⌊
abbrev pub down_stile : ℕ
down_stile = 0x230a

-- ~
abbrev pub tilde : ℕ
tilde = 0x7e

-- <
abbrev pub less_sign : ℕ
less_sign = 0x3c

-- ≤
abbrev pub less_or_equal_sign : ℕ
less_or_equal_sign = 0x2264

-- =
abbrev pub equal_sign : ℕ
equal_sign = 0x3d

-- ≥
abbrev pub greater_or_equal_sign : ℕ
greater_or_equal_sign = 0x2265

-- >
abbrev pub greater_sign : ℕ
greater_sign = 0x3e

-- ≠
abbrev pub not_equal_sign : ℕ
not_equal_sign = 0x2260

-- ∧
abbrev pub up_caret : ℕ
up_caret = 0x2227

-- ∨
abbrev pub down_caret : ℕ
down_caret = 0x2228

-- ⍲
abbrev pub up_caret_tilde : ℕ
up_caret_tilde = 0x2372

-- ⍱
abbrev pub down_caret_tilde : ℕ
down_caret_tilde = 0x2371

-- ⍴
abbrev pub rho : ℕ
rho = 0x2374

-- ,
abbrev pub comma : ℕ
comma = 0x2c

-- ⍪
abbrev pub comma_bar : ℕ
comma_bar = 0x236a

-- ↑
abbrev pub up_arrow : ℕ
up_arrow = 0x2191

-- ↓
abbrev pub down_arrow : ℕ
down_arrow = 0x2193

-- ⌽
abbrev pub circle_stile : ℕ
circle_stile = 0x233d

-- ⊖
abbrev pub circle_bar : ℕ
circle_bar = 0x2296

-- ⍉
abbrev pub circle_backslash : ℕ
circle_backslash = 0x2349

-- /
abbrev pub slash : ℕ
slash = 0x2f

-- ⌿
abbrev pub slash_bar : ℕ
slash_bar = 0x233f

-- \
abbrev pub backslash : ℕ
backslash = 0x5c

-- ⍀
abbrev pub backslash_bar : ℕ
backslash_bar = 0x2340

-- ⍳
abbrev pub iota : ℕ
iota = 0x2373

-- ∊
abbrev pub epsilon : ℕ
epsilon = 0x220a

-- ⊤
abbrev pub down_tack : ℕ
down_tack = 0x22a4

-- ⊥
abbrev pub up_tack : ℕ
up_tack = 0x22a5

-- ∘
abbrev pub jot : ℕ
jot = 0x2218

-- .
abbrev pub dot : ℕ
dot = 0x2e

-- ←
abbrev pub left_arrow : ℕ
left_arrow = 0x2190

-- (
abbrev pub left_parenthesis : ℕ
left_parenthesis = 0x28

-- )
abbrev pub right_parenthesis : ℕ
right_parenthesis = 0x29

-- [
abbrev pub left_bracket : ℕ
left_bracket = 0x5b

-- ]
abbrev pub right_bracket : ℕ
right_bracket = 0x5d

-- ;
abbrev pub semicolon : ℕ
semicolon = 0x3b

-- ∣
abbrev pub divides : ℕ
divides = 0x2223

-- ∼
abbrev pub tilde_operator : ℕ
tilde_operator = 0x223c

-- ⋆
abbrev pub star_operator : ℕ
star_operator = 0x22c6

-- ^
abbrev pub circumflex : ℕ
circumflex = 0x5e

-- ∈
abbrev pub element_of : ℕ
element_of = 0x2208

-- 0
abbrev pub digit_zero : ℕ
digit_zero = 0x30

-- ¯
abbrev pub high_minus : ℕ
high_minus = 0xaf

-- '
abbrev pub quote : ℕ
quote = 0x27

-- ⍝
abbrev pub lamp : ℕ
lamp = 0x235d
