-- A function of the grammar before an expression is the function that is read there.
use Rattle.std.{proofs.Common.{◌≡◌, ℕ, Bool, true, false, cond, Option, Some, None, List, [], ◌∷◌, drop, refl, sym, ap, ◌∙◌, subst, arith}, specs.Prelude.{ℤ, ◌==◌, ◌&&◌, ◌||◌, option_and_then}, proofs.lemmas.Bool.{eqb-true}}
use Rattle.apl_tokens.specs.Lexemes.{Lexeme, Number, Characters, Named, Sign}
use Rattle.apl_expr.{specs.declared.functions.Function1.{Function1}, specs.declared.functions.Function2.{Function2}, specs.Symbols.{monadic_of, monadic_along_of, folded_of, folded_along_of, dyadic_of, dyadic_along_of, outer_of, inner_of, stands_alone}, specs.Trees.{Tree}}
use Rattle.apl_expr.specs.Grammar.{IsNums, one, more, IsMonadicFunction, plain1, along1, folded, folded_along, IsDyadicFunction, plain2, along2, outer, inner, IsExpr, operand, mono, duo, IsWrittenOperand, nums, text, ref, IsRef, name, parens, index}
use Rattle.apl_expr.{specs.Functions.{function, axis_in, product_in, fold_in, fold_along_in, monadic_along_in, dyadic_along_in, along_or_plain, fold_or_less, fold_along_or_less, product_or_less, function_at}, specs.Machine.{ends_position}}
use Rattle.apl_expr.proofs.Tables.{BeginsNone, IsNoFunction, IsFolding, left_bracket, right_bracket, semicolon, dot, no_function, folding, folding_along, jot_inner}

-- ---- the first lexeme of an expression

pub data Begins : List Lexeme → Type 0 where
  a_number : {n : ℤ} {ts : List Lexeme} → Begins (Number n ∷ ts)
  a_text : {cs : List ℕ} {ts : List Lexeme} → Begins (Characters cs ∷ ts)
  a_name : {n : List ℕ} {ts : List Lexeme} → Begins (Named n ∷ ts)
  a_parenthesis : {ts : List Lexeme} → Begins (Sign 0x28 ∷ ts)
  a_function : {c : ℕ} {ts : List Lexeme} → (BeginsNone c → ⊥) → Begins (Sign c ∷ ts)

mono_begins : {ts us : List Lexeme} {f : Function1} → IsMonadicFunction ts f us → Begins ts
mono_begins (plain1 is) = a_function (λ b. let n = b.plain in cc)
mono_begins (along1 {k = k} is) = a_function (λ b. let n = b.along k in cc)
mono_begins (folded {d = d} is) = a_function (λ b. let n = b.folded d in cc)
mono_begins (folded_along {d = d} {k = k} is) = a_function (λ b. let n = b.folded_along d k in cc)

nums_begin : {ts us : List Lexeme} {ns : List ℤ} → IsNums ts ns us → Begins ts
nums_begin one = a_number
nums_begin (more n) = a_number

mutual
  pub expr_begins : {ts us : List Lexeme} {e : Tree} → IsExpr ts e us → Begins ts
  expr_begins (operand o) = operand_begins o
  expr_begins (mono m d) = mono_begins m
  expr_begins (duo o m d) = operand_begins o

  operand_begins : {ts us : List Lexeme} {a : Tree} → IsWrittenOperand ts a us → Begins ts
  operand_begins (nums n) = nums_begin n
  operand_begins text = a_text
  operand_begins (ref r) = ref_begins r

  ref_begins : {ts us : List Lexeme} {a : Tree} → IsRef ts a us → Begins ts
  ref_begins name = a_name
  ref_begins (parens d) = a_parenthesis
  ref_begins (index r l is) = ref_begins r

-- ---- the sign of a function

pub not_equal : (c d : ℕ) → (c ≡ d → ⊥) → (c == d) ≡ false
not_equal c d refutes = decide (c == d) refl
  where
    decide : (b : Bool) → (c == d) ≡ b → (c == d) ≡ false
    decide true is = absurd (refutes (eqb-true c d is))
    decide false is = is

not_alone : (c : ℕ) → (IsNoFunction c → ⊥) → stands_alone c ≡ false
not_alone c refutes = decide (stands_alone c) refl
  where
    decide : (b : Bool) → stands_alone c ≡ b → stands_alone c ≡ false
    decide true is = absurd (refutes (no_function c is))
    decide false is = is

-- a sign that begins a function ends no position
pub begins_no_end : (c : ℕ) → (BeginsNone c → ⊥) → ends_position c ≡ false
begins_no_end c refutes =
    ap (λ (b : Bool). b || (c == 0x5d)) (not_equal c 0x3b (λ same. refutes (subst BeginsNone (sym same) semicolon.one)))
    ∙ not_equal c 0x5d (λ same. refutes (subst BeginsNone (sym same) right_bracket.one))

unfolded : (c d : ℕ) → (IsFolding d → ⊥) → folded_of c d ≡ None
unfolded c d refutes = decide (folded_of c d) refl
  where
    decide : (o : Option Function1) → folded_of c d ≡ o → folded_of c d ≡ None
    decide (Some f) is = absurd (refutes (folding c d f is))
    decide None is = is

unfolded_along : (c d : ℕ) → (IsFolding d → ⊥) → (o : Option ℤ) → option_and_then (folded_along_of c d) o ≡ None
unfolded_along c d refutes None = refl
unfolded_along c d refutes (Some k) = decide (folded_along_of c d k) refl
  where
    decide : (o : Option Function1) → folded_along_of c d k ≡ o → folded_along_of c d k ≡ None
    decide (Some f) is = absurd (refutes (folding_along c d k f is))
    decide None is = is

no_axis_sign : (c : ℕ) → (c ≡ 0x5b → ⊥) → (ts : List Lexeme) → axis_in (Sign c ∷ ts) ≡ None
no_axis_sign c refutes [] = refl
no_axis_sign c refutes (t ∷ []) = refl
no_axis_sign c refutes (Number k ∷ Sign d ∷ ts) = ap (λ (b : Bool). cond {A = Option ℤ} (b && (d == 0x5d)) (Some k) None) (not_equal c 0x5b refutes)
no_axis_sign c refutes (Number k ∷ Number d ∷ ts) = refl
no_axis_sign c refutes (Number k ∷ Characters d ∷ ts) = refl
no_axis_sign c refutes (Number k ∷ Named d ∷ ts) = refl
no_axis_sign c refutes (Sign k ∷ v ∷ ts) = refl
no_axis_sign c refutes (Characters k ∷ v ∷ ts) = refl
no_axis_sign c refutes (Named k ∷ v ∷ ts) = refl

no_product_sign : (c d : ℕ) → (d ≡ 0x2e → ⊥) → (ts : List Lexeme) → product_in c (Sign d ∷ ts) ≡ None
no_product_sign c d refutes [] = refl
no_product_sign c d refutes (Sign e ∷ ts) = ap (λ (b : Bool). cond {A = Option Function2} b (cond (c == 0x2218) (outer_of e) (inner_of c e)) None) (not_equal d 0x2e refutes)
no_product_sign c d refutes (Number e ∷ ts) = refl
no_product_sign c d refutes (Characters e ∷ ts) = refl
no_product_sign c d refutes (Named e ∷ ts) = refl

-- ---- functions that do not match before an expression

function_is : (c d : ℕ) → BeginsNone d → (BeginsNone c → ⊥) → c ≡ d → ⊥
function_is c d none refutes same = refutes (subst BeginsNone (sym same) none)

no_axis : {us : List Lexeme} → Begins us → axis_in us ≡ None
no_axis (a_number {ts = []}) = refl
no_axis (a_number {ts = t ∷ []}) = refl
no_axis (a_number {ts = t ∷ u ∷ ts}) = refl
no_axis (a_text {ts = []}) = refl
no_axis (a_text {ts = t ∷ []}) = refl
no_axis (a_text {ts = t ∷ u ∷ ts}) = refl
no_axis (a_name {ts = []}) = refl
no_axis (a_name {ts = t ∷ []}) = refl
no_axis (a_name {ts = t ∷ u ∷ ts}) = refl
no_axis (a_parenthesis {ts = ts}) = no_axis_sign 0x28 (λ same. omega arith) ts
no_axis (a_function {c = c} {ts = ts} refutes) = no_axis_sign c (function_is c 0x5b left_bracket.one refutes) ts

no_product : (c : ℕ) {us : List Lexeme} → Begins us → product_in c us ≡ None
no_product c (a_number {ts = []}) = refl
no_product c (a_number {ts = t ∷ ts}) = refl
no_product c (a_text {ts = []}) = refl
no_product c (a_text {ts = t ∷ ts}) = refl
no_product c (a_name {ts = []}) = refl
no_product c (a_name {ts = t ∷ ts}) = refl
no_product c (a_parenthesis {ts = ts}) = no_product_sign c 0x28 (λ same. omega arith) ts
no_product c (a_function {c = d} {ts = ts} refutes) = no_product_sign c d (function_is d 0x2e dot refutes) ts

no_fold : (c : ℕ) {us : List Lexeme} → Begins us → fold_in c us ≡ None
no_fold c a_number = refl
no_fold c a_text = refl
no_fold c a_name = refl
no_fold c a_parenthesis = unfolded c 0x28 (λ f. f.no_parenthesis refl)
no_fold c (a_function {c = d} refutes) = unfolded c d (λ f. refutes f.begins_none)

no_fold_along : (c : ℕ) {us : List Lexeme} → Begins us → fold_along_in c us ≡ None
no_fold_along c a_number = refl
no_fold_along c a_text = refl
no_fold_along c a_name = refl
no_fold_along c (a_parenthesis {ts = ts}) = unfolded_along c 0x28 (λ f. f.no_parenthesis refl) (axis_in ts)
no_fold_along c (a_function {c = d} {ts = ts} refutes) = unfolded_along c d (λ f. refutes f.begins_none) (axis_in ts)

-- ---- functions that match

-- no product matches
module _ (c : ℕ) (ts : List Lexeme) (function_sign : IsNoFunction c → ⊥) (unmultiplied : product_in c ts ≡ None) where
  past_product : function_at c ts ≡ fold_along_or_less c (fold_along_in c ts) ts
  past_product =
      ap (λ (b : Bool). cond b (function None None 0) (product_or_less c (product_in c ts) ts)) (not_alone c function_sign)
      ∙ ap (λ (o : Option Function2). product_or_less c o ts) unmultiplied

  past_folds : fold_along_in c ts ≡ None → fold_in c ts ≡ None → function_at c ts ≡ along_or_plain c (monadic_along_in c ts) (dyadic_along_in c ts)
  past_folds no_along none = past_product ∙ ap (λ (o : Option Function1). fold_along_or_less c o ts) no_along ∙ ap (λ (o : Option Function1). fold_or_less c o ts) none

plain_taken : (c : ℕ) {us : List Lexeme} → (IsNoFunction c → ⊥) → Begins us → function_at c us ≡ function (monadic_of c) (dyadic_of c) 0
plain_taken c {us = us} refutes b =
    past_folds c us refutes (no_product c b) (no_fold_along c b) (no_fold c b)
    ∙ ap (λ (o : Option ℤ). along_or_plain c (option_and_then (monadic_along_of c) o) (option_and_then (dyadic_along_of c) o)) (no_axis b)

axis_taken : (c : ℕ) (k : ℤ) (us : List Lexeme) → (IsNoFunction c → ⊥) → function_at c (Sign 0x5b ∷ Number k ∷ Sign 0x5d ∷ us) ≡ along_or_plain c (monadic_along_of c k) (dyadic_along_of c k)
axis_taken c k us refutes = past_folds c (Sign 0x5b ∷ Number k ∷ Sign 0x5d ∷ us) refutes refl (unfolded_along c 0x5b (λ f. f.no_bracket refl) (axis_in (Number k ∷ Sign 0x5d ∷ us))) (unfolded c 0x5b (λ f. f.no_bracket refl))

fold_taken : (c d : ℕ) (f : Function1) {us : List Lexeme} → folded_of c d ≡ Some f → Begins us → function_at c (Sign d ∷ us) ≡ function (Some f) None 1
fold_taken c d f {us = us} is b =
    past_product c (Sign d ∷ us) (λ n. let none = n.one.folded d in cc) (no_product_sign c d (folding c d f is).no_dot us)
    ∙ ap (λ (o : Option ℤ). fold_along_or_less c (option_and_then (folded_along_of c d) o) (Sign d ∷ us)) (no_axis b)
    ∙ ap (λ (o : Option Function1). fold_or_less c o (Sign d ∷ us)) is

fold_along_taken : (c d : ℕ) (k : ℤ) (f : Function1) (us : List Lexeme) → folded_along_of c d k ≡ Some f → function_at c (Sign d ∷ Sign 0x5b ∷ Number k ∷ Sign 0x5d ∷ us) ≡ function (Some f) None 4
fold_along_taken c d k f us is =
    past_product c (Sign d ∷ Sign 0x5b ∷ Number k ∷ Sign 0x5d ∷ us) (λ n. let none = n.one.folded_along d k in cc) (no_product_sign c d (folding_along c d k f is).no_dot (Sign 0x5b ∷ Number k ∷ Sign 0x5d ∷ us))
    ∙ ap (λ (o : Option Function1). fold_along_or_less c o (Sign d ∷ Sign 0x5b ∷ Number k ∷ Sign 0x5d ∷ us)) is

product_taken : (c d : ℕ) (g : Function2) (us : List Lexeme) → stands_alone c ≡ false → product_in c (Sign 0x2e ∷ Sign d ∷ us) ≡ Some g → function_at c (Sign 0x2e ∷ Sign d ∷ us) ≡ function None (Some g) 2
product_taken c d g us refutes is =
    ap (λ (b : Bool). cond b (function None None 0) (product_or_less c (product_in c (Sign 0x2e ∷ Sign d ∷ us)) (Sign 0x2e ∷ Sign d ∷ us))) refutes
    ∙ ap (λ (o : Option Function2). product_or_less c o (Sign 0x2e ∷ Sign d ∷ us)) is

inner_product : (c d : ℕ) (g : Function2) (us : List Lexeme) → inner_of c d ≡ Some g → product_in c (Sign 0x2e ∷ Sign d ∷ us) ≡ Some g
inner_product c d g us is = jot (c == 0x2218) refl
  where
    jot : (b : Bool) → (c == 0x2218) ≡ b → cond b (outer_of d) (inner_of c d) ≡ Some g
    jot true same = let none : inner_of c d ≡ None = subst (λ (n : ℕ). inner_of n d ≡ None) (sym (eqb-true c 0x2218 same)) (jot_inner d) in let false_is : ⊥ = cc in absurd false_is
    jot false same = is

-- ---- the whole

-- before us, the function that is read from ts is f
abbrev pub MonoTaken : List Lexeme → Function1 → List Lexeme → Type 0
MonoTaken [] f us = ⊥
MonoTaken (Number n ∷ ts) f us = ⊥
MonoTaken (Characters cs ∷ ts) f us = ⊥
MonoTaken (Named n ∷ ts) f us = ⊥
MonoTaken (Sign c ∷ ts) f us = (g : Option Function2) × (n : ℕ) × (function_at c ts ≡ function (Some f) g n) × (drop n ts ≡ us)

abbrev pub DuoTaken : List Lexeme → Function2 → List Lexeme → Type 0
DuoTaken [] g us = ⊥
DuoTaken (Number n ∷ ts) g us = ⊥
DuoTaken (Characters cs ∷ ts) g us = ⊥
DuoTaken (Named n ∷ ts) g us = ⊥
DuoTaken (Sign c ∷ ts) g us = (f : Option Function1) × (n : ℕ) × (function_at c ts ≡ function f (Some g) n) × (drop n ts ≡ us)

pub mono_taken : {ts us : List Lexeme} {f : Function1} → IsMonadicFunction ts f us → Begins us → MonoTaken ts f us
mono_taken (plain1 {c = c} is) b = (dyadic_of c, 0, plain_taken c (λ n. let none = n.one.plain in cc) b ∙ ap (λ (o : Option Function1). function o (dyadic_of c) 0) is, refl)
mono_taken (along1 {c = c} {k = k} {ts = ts} is) b = (dyadic_along_of c k, 3, axis_taken c k ts (λ n. let none = n.one.along k in cc) ∙ ap (λ (o : Option Function1). along_or_plain c o (dyadic_along_of c k)) is, refl)
mono_taken (folded {c = c} {d = d} {f = f} is) b = (None, 1, fold_taken c d f is b, refl)
mono_taken (folded_along {c = c} {d = d} {k = k} {f = f} {ts = ts} is) b = (None, 4, fold_along_taken c d k f ts is, refl)

along2_taken : (c : ℕ) (k : ℤ) (g : Function2) (o : Option Function1) → dyadic_along_of c k ≡ Some g → along_or_plain c o (dyadic_along_of c k) ≡ function o (Some g) 3
along2_taken c k g (Some f) is = ap (λ (p : Option Function2). function (Some f) p 3) is
along2_taken c k g None is = ap (λ (p : Option Function2). along_or_plain c None p) is

pub duo_taken : {ts us : List Lexeme} {g : Function2} → IsDyadicFunction ts g us → Begins us → DuoTaken ts g us
duo_taken (plain2 {c = c} is) b = (monadic_of c, 0, plain_taken c (λ n. let none = n.plain in cc) b ∙ ap (λ (o : Option Function2). function (monadic_of c) o 0) is, refl)
duo_taken (along2 {c = c} {k = k} {f = g} {ts = ts} is) b = (monadic_along_of c k, 3, axis_taken c k ts (λ n. let none = n.along k in cc) ∙ along2_taken c k g (monadic_along_of c k) is, refl)
duo_taken (outer {d = d} {f = g} {ts = ts} is) b = (None, 2, product_taken 0x2218 d g ts refl is, refl)
duo_taken (inner {c = c} {d = d} {f = g} {ts = ts} is) b = (None, 2, product_taken c d g ts (not_alone c (λ n. let none = n.inner d in cc)) (inner_product c d g ts is), refl)
