-- The tokens of a line with a name, a word or a number at its front.
use Rattle.std.{proofs.Common.{◌≡◌, ℕ, Option, Some, None, List, [], ◌∷◌, refl, ap, Bool, true, false, cond}, specs.Prelude.{ℤ, ◌==◌}, proofs.lemmas.Bool.{eqb-true, eq-eqb}}
use Rattle.apl_tokens.specs.Lexemes.{Lexeme, Number, Characters, Named, Sign}
use Rattle.apl_expr.specs.Fronts.{name_before, name_first, only_name, number_first, only_number, command_word}

pub name_before_is : (c : ℕ) (ts : List Lexeme) (n : List ℕ) (us : List Lexeme) → name_before c ts ≡ Some (n, us) → ts ≡ Named n ∷ Sign c ∷ us
name_before_is c [] n us h = cc
name_before_is c (t ∷ []) n us h = cc
name_before_is c (Number k ∷ u ∷ ts) n us h = cc
name_before_is c (Characters k ∷ u ∷ ts) n us h = cc
name_before_is c (Sign k ∷ u ∷ ts) n us h = cc
name_before_is c (Named k ∷ Number d ∷ ts) n us h = cc
name_before_is c (Named k ∷ Characters d ∷ ts) n us h = cc
name_before_is c (Named k ∷ Named d ∷ ts) n us h = cc
name_before_is c (Named k ∷ Sign d ∷ ts) n us h = same_sign (d == c) refl h
  where
    same_sign : (b : Bool) → (d == c) ≡ b → cond {A = Option (List ℕ × List Lexeme)} b (Some (k, ts)) None ≡ Some (n, us) → Named k ∷ Sign d ∷ ts ≡ Named n ∷ Sign c ∷ us
    same_sign true is h =
        let same : (k, ts) ≡ (n, us) = cc in
        λ i. Named ((ap (λ (p : List ℕ × List Lexeme). p.0) same) i) ∷ Sign ((eqb-true d c is) i) ∷ (ap (λ (p : List ℕ × List Lexeme). p.1) same) i
    same_sign false is h = cc

pub command_word_is : (ts : List Lexeme) (w : List ℕ) (us : List Lexeme) → command_word ts ≡ Some (w, us) → ts ≡ Sign 0x29 ∷ Named w ∷ us
command_word_is [] w us h = cc
command_word_is (t ∷ []) w us h = cc
command_word_is (Number k ∷ u ∷ ts) w us h = cc
command_word_is (Characters k ∷ u ∷ ts) w us h = cc
command_word_is (Named k ∷ u ∷ ts) w us h = cc
command_word_is (Sign k ∷ Number d ∷ ts) w us h = cc
command_word_is (Sign k ∷ Characters d ∷ ts) w us h = cc
command_word_is (Sign k ∷ Sign d ∷ ts) w us h = cc
command_word_is (Sign k ∷ Named v ∷ ts) w us h = closing (k == 0x29) refl h
  where
    closing : (b : Bool) → (k == 0x29) ≡ b → cond {A = Option (List ℕ × List Lexeme)} b (Some (v, ts)) None ≡ Some (w, us) → Sign k ∷ Named v ∷ ts ≡ Sign 0x29 ∷ Named w ∷ us
    closing true is h =
        let same : (v, ts) ≡ (w, us) = cc in
        λ i. Sign ((eqb-true k 0x29 is) i) ∷ Named ((ap (λ (p : List ℕ × List Lexeme). p.0) same) i) ∷ (ap (λ (p : List ℕ × List Lexeme). p.1) same) i
    closing false is h = cc

pub name_first_is : (ts : List Lexeme) (n : List ℕ) (us : List Lexeme) → name_first ts ≡ Some (n, us) → ts ≡ Named n ∷ us
name_first_is [] n us h = cc
name_first_is (Number k ∷ ts) n us h = cc
name_first_is (Characters k ∷ ts) n us h = cc
name_first_is (Sign k ∷ ts) n us h = cc
name_first_is (Named k ∷ ts) n us h =
    let same : (k, ts) ≡ (n, us) = cc in
    λ i. Named ((ap (λ (p : List ℕ × List Lexeme). p.0) same) i) ∷ (ap (λ (p : List ℕ × List Lexeme). p.1) same) i

pub only_name_is : (ts : List Lexeme) (n : List ℕ) → only_name ts ≡ Some n → ts ≡ Named n ∷ []
only_name_is [] n h = cc
only_name_is (Number k ∷ ts) n h = cc
only_name_is (Characters k ∷ ts) n h = cc
only_name_is (Sign k ∷ ts) n h = cc
only_name_is (Named k ∷ []) n h = cc
only_name_is (Named k ∷ t ∷ ts) n h = cc

pub number_first_is : (ts : List Lexeme) (k : ℤ) (us : List Lexeme) → number_first ts ≡ Some (k, us) → ts ≡ Number k ∷ us
number_first_is [] k us h = cc
number_first_is (Named n ∷ ts) k us h = cc
number_first_is (Characters n ∷ ts) k us h = cc
number_first_is (Sign n ∷ ts) k us h = cc
number_first_is (Number n ∷ ts) k us h =
    let same : (n, ts) ≡ (k, us) = cc in
    λ i. Number ((ap (λ (p : ℤ × List Lexeme). p.0) same) i) ∷ (ap (λ (p : ℤ × List Lexeme). p.1) same) i

pub only_number_is : (ts : List Lexeme) (k : ℤ) → only_number ts ≡ Some k → ts ≡ Number k ∷ []
only_number_is [] k h = cc
only_number_is (Named n ∷ ts) k h = cc
only_number_is (Characters n ∷ ts) k h = cc
only_number_is (Sign n ∷ ts) k h = cc
only_number_is (Number n ∷ []) k h = cc
only_number_is (Number n ∷ t ∷ ts) k h = cc

-- the tokens have no such front
pub no_name_before : {c : ℕ} {ts : List Lexeme} → name_before c ts ≡ None → (n : List ℕ) (us : List Lexeme) → ts ≡ Named n ∷ Sign c ∷ us → ⊥
no_name_before {c = c} none n us is =
    let found = ap (λ (b : Bool). cond {A = Option (List ℕ × List Lexeme)} b (Some (n, us)) None) (eq-eqb c c refl) in
    cc

pub no_name_first : {ts : List Lexeme} → name_first ts ≡ None → (n : List ℕ) (us : List Lexeme) → ts ≡ Named n ∷ us → ⊥
no_name_first none n us is = let computed = ap name_first is in cc

pub no_only_name : {ts : List Lexeme} → only_name ts ≡ None → (n : List ℕ) → ts ≡ Named n ∷ [] → ⊥
no_only_name none n is = let computed = ap only_name is in cc

pub no_number_first : {ts : List Lexeme} → number_first ts ≡ None → (k : ℤ) (us : List Lexeme) → ts ≡ Number k ∷ us → ⊥
no_number_first none k us is = let computed = ap number_first is in cc

pub no_only_number : {ts : List Lexeme} → only_number ts ≡ None → (k : ℤ) → ts ≡ Number k ∷ [] → ⊥
no_only_number none k is = let computed = ap only_number is in cc

pub no_command_word : {ts : List Lexeme} → command_word ts ≡ None → (w : List ℕ) (us : List Lexeme) → ts ≡ Sign 0x29 ∷ Named w ∷ us → ⊥
no_command_word none w us is = let computed = ap command_word is in cc
