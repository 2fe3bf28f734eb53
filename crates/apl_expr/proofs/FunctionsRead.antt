-- Each function that is read at the front of the tokens is in the grammar.
use Rattle.std.{proofs.Common.{◌≡◌, ℕ, ◌≤◌, Bool, true, false, cond, Option, Some, None, List, [], ◌∷◌, length, drop, refl, sym, ap, subst, arith}, specs.Prelude.{ℤ, ◌==◌, ◌&&◌, option_and_then}, proofs.lemmas.Bool.{eqb-true}, proofs.lemmas.List.{length-map}}
use Rattle.apl_tokens.{specs.declared.token.Spanned.{Spanned}, specs.Lexemes.{Lexeme, Number, Characters, Named, Sign, lexeme, lexemes}}
use Rattle.apl_expr.{specs.declared.functions.Function1.{Function1}, specs.declared.functions.Function2.{Function2}, specs.declared.functions.Function.{Function}, specs.Symbols.{monadic_along_of, folded_along_of, dyadic_along_of, outer_of, inner_of, stands_alone}}
use Rattle.apl_expr.specs.Grammar.{IsMonadicFunction, plain1, along1, folded, folded_along, IsDyadicFunction, plain2, along2, outer, inner}
use Rattle.apl_expr.specs.Functions.{function, axis_in, product_in, fold_in, fold_along_in, monadic_along_in, dyadic_along_in, along_or_plain, fold_or_less, fold_along_or_less, product_or_less, function_at, function_from}

-- ---- the parts

-- an axis is its three lexemes
bracket : (c : ℕ) (k n : ℤ) (d : ℕ) (ts : List Lexeme) (b : Bool) → ((c == 0x5b) && (d == 0x5d)) ≡ b → cond b (Some n) None ≡ Some k → Sign c ∷ Number n ∷ Sign d ∷ ts ≡ Sign 0x5b ∷ Number k ∷ Sign 0x5d ∷ ts
bracket c k n d ts false is h = let no : ⊥ = cc in absurd no
bracket c k n d ts true is h = left (c == 0x5b) refl is
  where
    left : (b : Bool) → (c == 0x5b) ≡ b → (b && (d == 0x5d)) ≡ true → Sign c ∷ Number n ∷ Sign d ∷ ts ≡ Sign 0x5b ∷ Number k ∷ Sign 0x5d ∷ ts
    left false is_c is_d = let no : ⊥ = cc in absurd no
    left true is_c is_d = let same_c = eqb-true c 0x5b is_c in let same_d = eqb-true d 0x5d is_d in let same_k : n ≡ k = cc in λ i. Sign (same_c i) ∷ Number (same_k i) ∷ Sign (same_d i) ∷ ts

axis_is : (k : ℤ) (ts : List Lexeme) → axis_in ts ≡ Some k → ts ≡ Sign 0x5b ∷ Number k ∷ Sign 0x5d ∷ drop 3 ts
axis_is k [] h = let no : ⊥ = cc in absurd no
axis_is k (t ∷ []) h = let no : ⊥ = cc in absurd no
axis_is k (t ∷ u ∷ []) h = let no : ⊥ = cc in absurd no
axis_is k (Sign c ∷ Number n ∷ Sign d ∷ ts) h = bracket c k n d ts ((c == 0x5b) && (d == 0x5d)) refl h
axis_is k (Sign c ∷ Number n ∷ Number d ∷ ts) h = let no : ⊥ = cc in absurd no
axis_is k (Sign c ∷ Number n ∷ Characters d ∷ ts) h = let no : ⊥ = cc in absurd no
axis_is k (Sign c ∷ Number n ∷ Named d ∷ ts) h = let no : ⊥ = cc in absurd no
axis_is k (Sign c ∷ Sign n ∷ v ∷ ts) h = let no : ⊥ = cc in absurd no
axis_is k (Sign c ∷ Characters n ∷ v ∷ ts) h = let no : ⊥ = cc in absurd no
axis_is k (Sign c ∷ Named n ∷ v ∷ ts) h = let no : ⊥ = cc in absurd no
axis_is k (Number c ∷ u ∷ v ∷ ts) h = let no : ⊥ = cc in absurd no
axis_is k (Characters c ∷ u ∷ v ∷ ts) h = let no : ⊥ = cc in absurd no
axis_is k (Named c ∷ u ∷ v ∷ ts) h = let no : ⊥ = cc in absurd no

axis_long : (k : ℤ) (ts : List Lexeme) → axis_in ts ≡ Some k → 3 ≤ length ts
axis_long k ts h = let lengths = ap length (axis_is k ts h) in omega arith

dot : (c e d : ℕ) (ts : List Lexeme) (g : Function2) (b : Bool) → (e == 0x2e) ≡ b → cond b (cond (c == 0x2218) (outer_of d) (inner_of c d)) None ≡ Some g → IsDyadicFunction (Sign c ∷ Sign e ∷ Sign d ∷ ts) g ts
dot c e d ts g false is h = let no : ⊥ = cc in absurd no
dot c e d ts g true is h = subst (λ (n : ℕ). IsDyadicFunction (Sign c ∷ Sign n ∷ Sign d ∷ ts) g ts) (sym (eqb-true e 0x2e is)) (jot (c == 0x2218) refl h)
  where
    jot : (b : Bool) → (c == 0x2218) ≡ b → cond b (outer_of d) (inner_of c d) ≡ Some g → IsDyadicFunction (Sign c ∷ Sign 0x2e ∷ Sign d ∷ ts) g ts
    jot true is_jot h = subst (λ (n : ℕ). IsDyadicFunction (Sign n ∷ Sign 0x2e ∷ Sign d ∷ ts) g ts) (sym (eqb-true c 0x2218 is_jot)) (outer h)
    jot false is_jot h = inner h

product_is : (c : ℕ) (ts : List Lexeme) (g : Function2) → product_in c ts ≡ Some g → IsDyadicFunction (Sign c ∷ ts) g (drop 2 ts)
product_is c [] g h = let no : ⊥ = cc in absurd no
product_is c (t ∷ []) g h = let no : ⊥ = cc in absurd no
product_is c (Sign e ∷ Sign d ∷ ts) g h = dot c e d ts g (e == 0x2e) refl h
product_is c (Sign e ∷ Number d ∷ ts) g h = let no : ⊥ = cc in absurd no
product_is c (Sign e ∷ Characters d ∷ ts) g h = let no : ⊥ = cc in absurd no
product_is c (Sign e ∷ Named d ∷ ts) g h = let no : ⊥ = cc in absurd no
product_is c (Number e ∷ u ∷ ts) g h = let no : ⊥ = cc in absurd no
product_is c (Characters e ∷ u ∷ ts) g h = let no : ⊥ = cc in absurd no
product_is c (Named e ∷ u ∷ ts) g h = let no : ⊥ = cc in absurd no

product_long : (c : ℕ) (ts : List Lexeme) (g : Function2) → product_in c ts ≡ Some g → 2 ≤ length ts
product_long c [] g h = let no : ⊥ = cc in absurd no
product_long c (t ∷ []) g h = let no : ⊥ = cc in absurd no
product_long c (t ∷ u ∷ ts) g h = omega arith

fold_is : (c : ℕ) (ts : List Lexeme) (f : Function1) → fold_in c ts ≡ Some f → IsMonadicFunction (Sign c ∷ ts) f (drop 1 ts)
fold_is c [] f h = let no : ⊥ = cc in absurd no
fold_is c (Sign d ∷ ts) f h = folded h
fold_is c (Number d ∷ ts) f h = let no : ⊥ = cc in absurd no
fold_is c (Characters d ∷ ts) f h = let no : ⊥ = cc in absurd no
fold_is c (Named d ∷ ts) f h = let no : ⊥ = cc in absurd no

fold_long : (c : ℕ) (ts : List Lexeme) (f : Function1) → fold_in c ts ≡ Some f → 1 ≤ length ts
fold_long c [] f h = let no : ⊥ = cc in absurd no
fold_long c (t ∷ ts) f h = omega arith

-- a function of an axis, if there is an axis
module _ {A : Type 0} (make : ℤ → Option A) (x : A) (ts : List Lexeme) where
  with_axis : (o : Option ℤ) → axis_in ts ≡ o → option_and_then make o ≡ Some x → (k : ℤ) × (axis_in ts ≡ Some k) × (make k ≡ Some x)
  with_axis (Some k) is h = (k, is, h)
  with_axis None is h = let no : ⊥ = cc in absurd no

fold_along_is : (c : ℕ) (ts : List Lexeme) (f : Function1) → fold_along_in c ts ≡ Some f → IsMonadicFunction (Sign c ∷ ts) f (drop 4 ts)
fold_along_is c [] f h = let no : ⊥ = cc in absurd no
fold_along_is c (Sign d ∷ ts) f h =
    let x = with_axis (folded_along_of c d) f ts (axis_in ts) refl h in
    subst (λ (us : List Lexeme). IsMonadicFunction (Sign c ∷ Sign d ∷ us) f (drop 3 ts)) (sym (axis_is x.0 ts x.1)) (folded_along x.2)
fold_along_is c (Number d ∷ ts) f h = let no : ⊥ = cc in absurd no
fold_along_is c (Characters d ∷ ts) f h = let no : ⊥ = cc in absurd no
fold_along_is c (Named d ∷ ts) f h = let no : ⊥ = cc in absurd no

fold_along_long : (c : ℕ) (ts : List Lexeme) (f : Function1) → fold_along_in c ts ≡ Some f → 4 ≤ length ts
fold_along_long c [] f h = let no : ⊥ = cc in absurd no
fold_along_long c (Sign d ∷ ts) f h = let x = with_axis (folded_along_of c d) f ts (axis_in ts) refl h in let long = axis_long x.0 ts x.1 in omega arith
fold_along_long c (Number d ∷ ts) f h = let no : ⊥ = cc in absurd no
fold_along_long c (Characters d ∷ ts) f h = let no : ⊥ = cc in absurd no
fold_along_long c (Named d ∷ ts) f h = let no : ⊥ = cc in absurd no

along1_is : (c : ℕ) (ts : List Lexeme) (f : Function1) → monadic_along_in c ts ≡ Some f → IsMonadicFunction (Sign c ∷ ts) f (drop 3 ts)
along1_is c ts f h =
    let x = with_axis (monadic_along_of c) f ts (axis_in ts) refl h in
    subst (λ (us : List Lexeme). IsMonadicFunction (Sign c ∷ us) f (drop 3 ts)) (sym (axis_is x.0 ts x.1)) (along1 x.2)

along2_is : (c : ℕ) (ts : List Lexeme) (g : Function2) → dyadic_along_in c ts ≡ Some g → IsDyadicFunction (Sign c ∷ ts) g (drop 3 ts)
along2_is c ts g h =
    let x = with_axis (dyadic_along_of c) g ts (axis_in ts) refl h in
    subst (λ (us : List Lexeme). IsDyadicFunction (Sign c ∷ us) g (drop 3 ts)) (sym (axis_is x.0 ts x.1)) (along2 x.2)

-- ---- the whole

-- the functions of one and of two arguments are in the grammar, and within the tokens
pub record IsRead (c : ℕ) (ts : List Lexeme) (r : Function) : Type 0 where
  pub mono : (f : Function1) → r.alone ≡ Some f → IsMonadicFunction (Sign c ∷ ts) f (drop r.more ts)
  pub duo : (g : Function2) → r.between ≡ Some g → IsDyadicFunction (Sign c ∷ ts) g (drop r.more ts)
  pub short : r.more ≤ length ts

along_read : (c : ℕ) (ts : List Lexeme) (a : Option Function1) (b : Option Function2) → monadic_along_in c ts ≡ a → dyadic_along_in c ts ≡ b → IsRead c ts (along_or_plain c a b)
along_read c ts (Some f) b is_a is_b =
    let x = with_axis (monadic_along_of c) f ts (axis_in ts) refl is_a in
    record { mono = λ h s. along1_is c ts h (let e : Some f ≡ Some h = s in cc); duo = λ g s. along2_is c ts g cc; short = axis_long x.0 ts x.1 }
along_read c ts None (Some g) is_a is_b =
    let x = with_axis (dyadic_along_of c) g ts (axis_in ts) refl is_b in
    record { mono = λ h s. let no : ⊥ = cc in absurd no; duo = λ g' s. along2_is c ts g' cc; short = axis_long x.0 ts x.1 }
along_read c ts None None is_a is_b = record { mono = λ f s. plain1 s; duo = λ g s. plain2 s; short = omega arith }

fold_read : (c : ℕ) (ts : List Lexeme) (o : Option Function1) → fold_in c ts ≡ o → IsRead c ts (fold_or_less c o ts)
fold_read c ts (Some f) is = record { mono = λ h s. fold_is c ts h cc; duo = λ g s. let no : ⊥ = cc in absurd no; short = fold_long c ts f is }
fold_read c ts None is = along_read c ts (monadic_along_in c ts) (dyadic_along_in c ts) refl refl

fold_along_read : (c : ℕ) (ts : List Lexeme) (o : Option Function1) → fold_along_in c ts ≡ o → IsRead c ts (fold_along_or_less c o ts)
fold_along_read c ts (Some f) is = record { mono = λ h s. fold_along_is c ts h cc; duo = λ g s. let no : ⊥ = cc in absurd no; short = fold_along_long c ts f is }
fold_along_read c ts None is = fold_read c ts (fold_in c ts) refl

product_read : (c : ℕ) (ts : List Lexeme) (o : Option Function2) → product_in c ts ≡ o → IsRead c ts (product_or_less c o ts)
product_read c ts (Some g) is = record { mono = λ h s. let no : ⊥ = cc in absurd no; duo = λ h s. product_is c ts h cc; short = product_long c ts g is }
product_read c ts None is = fold_along_read c ts (fold_along_in c ts) refl

pub is_read : (c : ℕ) (ts : List Lexeme) → IsRead c ts (function_at c ts)
is_read c ts = alone (stands_alone c) refl
  where
    alone : (b : Bool) → stands_alone c ≡ b → IsRead c ts (cond b (function None None 0) (product_or_less c (product_in c ts) ts))
    alone true is = record { mono = λ h s. let no : ⊥ = cc in absurd no; duo = λ g s. let no : ⊥ = cc in absurd no; short = omega arith }
    alone false is = product_read c ts (product_in c ts) refl

lexemes_short : (t : Lexeme) (ts : List Lexeme) → (function_from t ts).more ≤ length ts
lexemes_short (Sign c) ts = (is_read c ts).short
lexemes_short (Number n) ts = omega arith
lexemes_short (Characters cs) ts = omega arith
lexemes_short (Named n) ts = omega arith

pub more_short : (t : Lexeme) (ts : List Spanned) → (function_from t (lexemes ts)).more ≤ length ts
more_short t ts = subst (λ (n : ℕ). (function_from t (lexemes ts)).more ≤ n) (length-map ts (λ (s : Spanned). lexeme s.token)) (lexemes_short t (lexemes ts))
