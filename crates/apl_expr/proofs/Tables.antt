-- Lemmas about the tables of symbols: no table has a sign that is part of no function, and no expression begins with a sign that continues a
-- function.
use Rattle.std.{proofs.Common.{◌≡◌, ℕ, Bool, true, false, cond, Option, Some, None, List, [], ◌∷◌, refl, sym, subst, arith}, specs.Prelude.{ℤ, ◌==◌, ◌||◌}, proofs.lemmas.Bool.{eqb-true}, proofs.lemmas.Option.{option_and_then_some}}
use Rattle.apl_expr.specs.declared.functions.Function1.{Function1}
use Rattle.apl_expr.specs.Symbols.{Meant, meant, foldings, foldings_along, scalar_monad_of, scalar_dyad_of, array_monad, array_dyad, monadic_of, monadic_along_of, folding_of, folding_along_of, folded_of, folded_along_of, dyadic_of, dyadic_along_of, inner_of, stands_alone}

-- the sign begins no function of one argument
pub record BeginsNone (c : ℕ) : Type 0 where
  pub plain : monadic_of c ≡ None
  pub along : (k : ℤ) → monadic_along_of c k ≡ None
  pub folded : (d : ℕ) → folded_of c d ≡ None
  pub folded_along : (d : ℕ) (k : ℤ) → folded_along_of c d k ≡ None

-- the sign begins no function of two arguments either
pub record IsNoFunction (c : ℕ) : Type 0 where
  pub one : BeginsNone c
  pub plain : dyadic_of c ≡ None
  pub along : (k : ℤ) → dyadic_along_of c k ≡ None
  pub inner : (d : ℕ) → inner_of c d ≡ None

left_parenthesis : IsNoFunction 0x28
unfolding scalar_monad_of scalar_dyad_of array_monad array_dyad monadic_along_of dyadic_along_of
left_parenthesis = record { one = record { plain = refl; along = λ k. refl; folded = λ d. refl; folded_along = λ d k. refl }; plain = refl; along = λ k. refl; inner = λ d. refl }

right_parenthesis : IsNoFunction 0x29
unfolding scalar_monad_of scalar_dyad_of array_monad array_dyad monadic_along_of dyadic_along_of
right_parenthesis = record { one = record { plain = refl; along = λ k. refl; folded = λ d. refl; folded_along = λ d k. refl }; plain = refl; along = λ k. refl; inner = λ d. refl }

pub left_bracket : IsNoFunction 0x5b
unfolding scalar_monad_of scalar_dyad_of array_monad array_dyad monadic_along_of dyadic_along_of
left_bracket = record { one = record { plain = refl; along = λ k. refl; folded = λ d. refl; folded_along = λ d k. refl }; plain = refl; along = λ k. refl; inner = λ d. refl }

pub right_bracket : IsNoFunction 0x5d
unfolding scalar_monad_of scalar_dyad_of array_monad array_dyad monadic_along_of dyadic_along_of
right_bracket = record { one = record { plain = refl; along = λ k. refl; folded = λ d. refl; folded_along = λ d k. refl }; plain = refl; along = λ k. refl; inner = λ d. refl }

pub semicolon : IsNoFunction 0x3b
unfolding scalar_monad_of scalar_dyad_of array_monad array_dyad monadic_along_of dyadic_along_of
semicolon = record { one = record { plain = refl; along = λ k. refl; folded = λ d. refl; folded_along = λ d k. refl }; plain = refl; along = λ k. refl; inner = λ d. refl }

arrow : IsNoFunction 0x2190
unfolding scalar_monad_of scalar_dyad_of array_monad array_dyad monadic_along_of dyadic_along_of
arrow = record { one = record { plain = refl; along = λ k. refl; folded = λ d. refl; folded_along = λ d k. refl }; plain = refl; along = λ k. refl; inner = λ d. refl }

pub dot : BeginsNone 0x2e
unfolding scalar_monad_of scalar_dyad_of array_monad monadic_along_of
dot = record { plain = refl; along = λ k. refl; folded = λ d. refl; folded_along = λ d k. refl }

pub no_function : (c : ℕ) → stands_alone c ≡ true → IsNoFunction c
no_function c is = first (c == 0x28) refl is
  where
    sixth : (b : Bool) → (c == 0x2190) ≡ b → b ≡ true → IsNoFunction c
    sixth true e h = subst IsNoFunction (sym (eqb-true c 0x2190 e)) arrow
    sixth false e h = let no : ⊥ = cc in absurd no

    fifth : (b : Bool) → (c == 0x3b) ≡ b → (b || (c == 0x2190)) ≡ true → IsNoFunction c
    fifth true e h = subst IsNoFunction (sym (eqb-true c 0x3b e)) semicolon
    fifth false e h = sixth (c == 0x2190) refl h

    fourth : (b : Bool) → (c == 0x5d) ≡ b → (b || (c == 0x3b) || (c == 0x2190)) ≡ true → IsNoFunction c
    fourth true e h = subst IsNoFunction (sym (eqb-true c 0x5d e)) right_bracket
    fourth false e h = fifth (c == 0x3b) refl h

    third : (b : Bool) → (c == 0x5b) ≡ b → (b || (c == 0x5d) || (c == 0x3b) || (c == 0x2190)) ≡ true → IsNoFunction c
    third true e h = subst IsNoFunction (sym (eqb-true c 0x5b e)) left_bracket
    third false e h = fourth (c == 0x5d) refl h

    second : (b : Bool) → (c == 0x29) ≡ b → (b || (c == 0x5b) || (c == 0x5d) || (c == 0x3b) || (c == 0x2190)) ≡ true → IsNoFunction c
    second true e h = subst IsNoFunction (sym (eqb-true c 0x29 e)) right_parenthesis
    second false e h = third (c == 0x5b) refl h

    first : (b : Bool) → (c == 0x28) ≡ b → (b || (c == 0x29) || (c == 0x5b) || (c == 0x5d) || (c == 0x3b) || (c == 0x2190)) ≡ true → IsNoFunction c
    first true e h = subst IsNoFunction (sym (eqb-true c 0x28 e)) left_parenthesis
    first false e h = second (c == 0x29) refl h

-- a folding begins no function, and is no parenthesis, no dot and no bracket
pub record IsFolding (d : ℕ) : Type 0 where
  pub begins_none : BeginsNone d
  pub no_parenthesis : d ≡ 0x28 → ⊥
  pub no_dot : d ≡ 0x2e → ⊥
  pub no_bracket : d ≡ 0x5b → ⊥

slash : IsFolding 0x2f
unfolding scalar_monad_of scalar_dyad_of array_monad monadic_along_of
slash = record { begins_none = record { plain = refl; along = λ k. refl; folded = λ d. refl; folded_along = λ d k. refl }; no_parenthesis = λ same. omega arith; no_dot = λ same. omega arith; no_bracket = λ same. omega arith }

slash_bar : IsFolding 0x233f
unfolding scalar_monad_of scalar_dyad_of array_monad monadic_along_of
slash_bar = record { begins_none = record { plain = refl; along = λ k. refl; folded = λ d. refl; folded_along = λ d k. refl }; no_parenthesis = λ same. omega arith; no_dot = λ same. omega arith; no_bracket = λ same. omega arith }

backslash : IsFolding 0x5c
unfolding scalar_monad_of scalar_dyad_of array_monad monadic_along_of
backslash = record { begins_none = record { plain = refl; along = λ k. refl; folded = λ d. refl; folded_along = λ d k. refl }; no_parenthesis = λ same. omega arith; no_dot = λ same. omega arith; no_bracket = λ same. omega arith }

backslash_bar : IsFolding 0x2340
unfolding scalar_monad_of scalar_dyad_of array_monad monadic_along_of
backslash_bar = record { begins_none = record { plain = refl; along = λ k. refl; folded = λ d. refl; folded_along = λ d k. refl }; no_parenthesis = λ same. omega arith; no_dot = λ same. omega arith; no_bracket = λ same. omega arith }

-- a claim about the entries of a table holds for the entry that is found
module _ {A : Type 0} (P : ℕ → Type 0) where
  abbrev Each : List (Meant A) → Type 0
  Each [] = Unit {0}
  Each (m ∷ ms) = P m.sign × Each ms

  this_or_later : (c : ℕ) (m : Meant A) (later : Option A) (x : A) → P m.sign → (later ≡ Some x → P c) → (b : Bool) → (c == m.sign) ≡ b → cond b (Some m.meaning) later ≡ Some x → P c
  this_or_later c m later x this rest true same h = subst P (sym (eqb-true c m.sign same)) this
  this_or_later c m later x this rest false same h = rest h

  among : (c : ℕ) (ms : List (Meant A)) (x : A) → Each ms → meant c ms ≡ Some x → P c
  among c [] x each h = let no : ⊥ = cc in absurd no
  among c (m ∷ ms) x each h = this_or_later c m (meant c ms) x each.0 (among c ms x each.1) (c == m.sign) refl h

pub folding : (c d : ℕ) (f : Function1) → folded_of c d ≡ Some f → IsFolding d
unfolding folding_of
folding c d f is = option_and_then_some (λ g. folding_of g d) (scalar_dyad_of c) f is (λ g of_c of_d. among IsFolding d (foldings g) f (slash, (slash_bar, (backslash, (backslash_bar, tt)))) of_d)

pub folding_along : (c d : ℕ) (k : ℤ) (f : Function1) → folded_along_of c d k ≡ Some f → IsFolding d
unfolding folding_along_of
folding_along c d k f is = option_and_then_some (λ g. folding_along_of g d k) (scalar_dyad_of c) f is (λ g of_c of_d. among IsFolding d (foldings_along g k) f (slash, (slash_bar, (backslash, (backslash_bar, tt)))) of_d)

pub jot_inner : (d : ℕ) → inner_of 0x2218 d ≡ None
unfolding scalar_dyad_of
jot_inner d = refl
