-- The function at the front of the tokens. The longest match is the function, since no expression begins with a sign that continues a function.
use Rattle.std.specs.Prelude.{ℕ, ℤ, Option, Some, None, is_some, option_and_then, List, [], ◌∷◌, ◌&&◌, ◌||◌, ◌==◌, if◌then◌else◌}
use Rattle.apl_tokens.{specs.Lexemes.{Lexeme, Number, Characters, Named, Sign}, specs.Signs.{jot, dot, left_bracket, right_bracket}}
use Rattle.apl_expr.{specs.declared.functions.Function.{Function}, specs.declared.functions.Function1.{Function1}, specs.declared.functions.Function2.{Function2}, specs.Symbols.{monadic_of, monadic_along_of, folded_of, folded_along_of, dyadic_of, dyadic_along_of, outer_of, inner_of, stands_alone}}

-- the function f of one argument and g of two, with n lexemes after its first
abbrev pub function : Option Function1 → Option Function2 → ℕ → Function
function f g n = record { alone = f; between = g; more = n }

-- the axis, if the three lexemes are `[`, a number and `]`
abbrev bracketed : Lexeme → Lexeme → Lexeme → Option ℤ
bracketed (Sign c) (Number k) (Sign d) = if (c == left_bracket) && (d == right_bracket) then Some k else None
bracketed t u v = None

-- the axis at the front: [ num ]
abbrev pub axis_in : List Lexeme → Option ℤ
axis_in [] = None
axis_in (t ∷ []) = None
axis_in (t ∷ u ∷ []) = None
axis_in (t ∷ u ∷ v ∷ ts) = bracketed t u v

-- the product of the sign c and two lexemes, if they are one
abbrev dotted : ℕ → Lexeme → Lexeme → Option Function2
dotted c (Sign e) (Sign d) = if e == dot then (if c == jot then outer_of d else inner_of c d) else None
dotted c t u = None

-- the product that the sign begins: ∘ . sf, or sf . sf
abbrev pub product_in : ℕ → List Lexeme → Option Function2
product_in c [] = None
product_in c (t ∷ []) = None
product_in c (t ∷ u ∷ ts) = dotted c t u

-- the fold of the sign c and a lexeme, if they are one
abbrev folded_by : ℕ → Lexeme → Option Function1
folded_by c (Sign d) = folded_of c d
folded_by c (Number n) = None
folded_by c (Characters cs) = None
folded_by c (Named n) = None

-- the fold of the sign c and this lexeme, with the axis after them
abbrev folded_along_by : ℕ → Lexeme → List Lexeme → Option Function1
folded_along_by c (Sign d) ts = option_and_then (folded_along_of c d) (axis_in ts)
folded_along_by c (Number n) ts = None
folded_along_by c (Characters cs) ts = None
folded_along_by c (Named n) ts = None

-- the fold that begins with the sign
abbrev pub fold_in : ℕ → List Lexeme → Option Function1
fold_in c [] = None
fold_in c (t ∷ ts) = folded_by c t

-- the fold with an axis that begins with the sign
abbrev pub fold_along_in : ℕ → List Lexeme → Option Function1
fold_along_in c [] = None
fold_along_in c (t ∷ ts) = folded_along_by c t ts

-- the function of one argument with the sign and an axis after it
abbrev pub monadic_along_in : ℕ → List Lexeme → Option Function1
monadic_along_in c ts = option_and_then (monadic_along_of c) (axis_in ts)

-- the function of two arguments with the sign and an axis after it
abbrev pub dyadic_along_in : ℕ → List Lexeme → Option Function2
dyadic_along_in c ts = option_and_then (dyadic_along_of c) (axis_in ts)

-- the sign with an axis, if it is a function; otherwise the sign alone
abbrev pub along_or_plain : ℕ → Option Function1 → Option Function2 → Function
along_or_plain c f g = if is_some f || is_some g then function f g 3 else function (monadic_of c) (dyadic_of c) 0

-- a fold, if there is one; otherwise the sign with or without an axis
abbrev pub fold_or_less : ℕ → Option Function1 → List Lexeme → Function
fold_or_less c (Some f) ts = function (Some f) None 1
fold_or_less c None ts = along_or_plain c (monadic_along_in c ts) (dyadic_along_in c ts)

-- a fold with an axis, if there is one; otherwise one of the functions above
abbrev pub fold_along_or_less : ℕ → Option Function1 → List Lexeme → Function
fold_along_or_less c (Some f) ts = function (Some f) None 4
fold_along_or_less c None ts = fold_or_less c (fold_in c ts) ts

-- a product, if there is one; otherwise one of the functions above
abbrev pub product_or_less : ℕ → Option Function2 → List Lexeme → Function
product_or_less c (Some g) ts = function None (Some g) 2
product_or_less c None ts = fold_along_or_less c (fold_along_in c ts) ts

-- the function that begins with the sign, before these lexemes
abbrev pub function_at : ℕ → List Lexeme → Function
function_at c ts = if stands_alone c then function None None 0 else product_or_less c (product_in c ts) ts

-- the function that begins with a lexeme; a lexeme that is not a sign has none
abbrev pub function_from : Lexeme → List Lexeme → Function
function_from (Sign c) ts = function_at c ts
function_from (Number n) ts = function None None 0
function_from (Characters cs) ts = function None None 0
function_from (Named n) ts = function None None 0
