-- The words after `)` that begin no change, and the lexemes after each.
use Rattle.std.{proofs.Common.{◌≡◌, ℕ, Option, Some, None, List, [], ◌∷◌, refl, sym, subst, Bool, true, false, cond, inl, inr, ◌⊎◌}, specs.Prelude.{ℤ}, specs.Str.{bytes_eq}, proofs.lemmas.Slice.Eq.{bytes_eq-Decides}}
use Rattle.apl_tokens.specs.Lexemes.{Lexeme, Number, Named, Sign}
use Rattle.apl_expr.{specs.Lines.{Meaning, Names, Cost, Csv, Open, Step, Commit, Drop, IsChange, names_word, cost_word, csv_word, open_word, step_word, commit_word, drop_word, word_query, name_query, opened_change, number_command}, specs.Changes.{IsNoChange}}
use Rattle.apl_expr.{proofs.ChangeWords.{looked_up, follows_as, differ, is_change_word}, proofs.Changes.{one_change, no_change_word}}

-- the lexemes after a word, and the meaning of the line
pub data After : List ℕ → List Lexeme → Meaning → Type 0 where
  names_line : After names_word [] Names
  cost_line : After cost_word [] Cost
  csv_line : {n : List ℕ} → After csv_word (Named n ∷ []) (Csv n)
  open_line : {k : ℤ} {ts : List Lexeme} {c : Meaning} → IsChange ts c → After open_word (Number k ∷ ts) (Open k c)
  step_line : {k : ℤ} → After step_word (Number k ∷ []) (Step k)
  commit_line : {k : ℤ} → After commit_word (Number k ∷ []) (Commit k)
  drop_line : {k : ℤ} → After drop_word (Number k ∷ []) (Drop k)

-- a lookup finds the first word of the table, or one of the others
looked_through : (w v : List ℕ) (x m : Meaning) (others : Option Meaning) → cond {A = Option Meaning} (bytes_eq w v) (Some x) others ≡ Some m → ((w ≡ v) × (x ≡ m)) ⊎ (others ≡ Some m)
looked_through w v x m others h = tested (bytes_eq w v) refl h
  where
    tested : (b : Bool) → bytes_eq w v ≡ b → cond {A = Option Meaning} b (Some x) others ≡ Some m → ((w ≡ v) × (x ≡ m)) ⊎ (others ≡ Some m)
    tested true is h = inl ((bytes_eq-Decides w v).0 is, cc)
    tested false is h = inr h

pub query_follows : {w : List ℕ} {m : Meaning} → word_query w ≡ Some m → After w [] m
query_follows {w = w} {m = m} h = by_names (looked_through w names_word Names m (cond (bytes_eq w cost_word) (Some Cost) None) h)
  where
    by_names : ((w ≡ names_word) × (Names ≡ m)) ⊎ (cond {A = Option Meaning} (bytes_eq w cost_word) (Some Cost) None ≡ Some m) → After w [] m
    by_names (inl found) = follows_as (λ v x. After v [] x) found names_line
    by_names (inr other) = follows_as (λ v x. After v [] x) (looked_up w cost_word Cost m other) cost_line

pub csv_follows : {w n : List ℕ} {m : Meaning} → name_query w n ≡ Some m → After w (Named n ∷ []) m
csv_follows {w = w} {n = n} {m = m} h = follows_as (λ v x. After v (Named n ∷ []) x) (looked_up w csv_word (Csv n) m h) csv_line

pub open_follows : {w : List ℕ} {k : ℤ} {ts : List Lexeme} {c m : Meaning} → IsChange ts c → opened_change w k c ≡ Some m → After w (Number k ∷ ts) m
open_follows {w = w} {k = k} {ts = ts} {c = c} {m = m} is h = follows_as (λ v x. After v (Number k ∷ ts) x) (looked_up w open_word (Open k c) m h) (open_line is)

pub number_follows : {w : List ℕ} {k : ℤ} {m : Meaning} → number_command w k ≡ Some m → After w (Number k ∷ []) m
number_follows {w = w} {k = k} {m = m} h = by_step (looked_through w step_word (Step k) m (cond (bytes_eq w commit_word) (Some (Commit k)) (cond (bytes_eq w drop_word) (Some (Drop k)) None)) h)
  where
    by_commit : ((w ≡ commit_word) × (Commit k ≡ m)) ⊎ (cond {A = Option Meaning} (bytes_eq w drop_word) (Some (Drop k)) None ≡ Some m) → After w (Number k ∷ []) m
    by_commit (inl found) = follows_as (λ v x. After v (Number k ∷ []) x) found commit_line
    by_commit (inr other) = follows_as (λ v x. After v (Number k ∷ []) x) (looked_up w drop_word (Drop k) m other) drop_line

    by_step : ((w ≡ step_word) × (Step k ≡ m)) ⊎ (cond {A = Option Meaning} (bytes_eq w commit_word) (Some (Commit k)) (cond (bytes_eq w drop_word) (Some (Drop k)) None) ≡ Some m) → After w (Number k ∷ []) m
    by_step (inl found) = follows_as (λ v x. After v (Number k ∷ []) x) found step_line
    by_step (inr other) = by_commit (looked_through w commit_word (Commit k) m (cond (bytes_eq w drop_word) (Some (Drop k)) None) other)

-- the lexemes after each word
pub after_names : {w : List ℕ} {us : List Lexeme} {m : Meaning} → After w us m → w ≡ names_word → (us ≡ []) × (m ≡ Names)
after_names names_line same = (refl, refl)
after_names {w = w} other same = absurd (differ w names_word refl same)

pub after_cost : {w : List ℕ} {us : List Lexeme} {m : Meaning} → After w us m → w ≡ cost_word → (us ≡ []) × (m ≡ Cost)
after_cost cost_line same = (refl, refl)
after_cost {w = w} other same = absurd (differ w cost_word refl same)

pub after_csv : {w : List ℕ} {us : List Lexeme} {m : Meaning} → After w us m → w ≡ csv_word → (n : List ℕ) × (us ≡ Named n ∷ []) × (m ≡ Csv n)
after_csv (csv_line {n = n}) same = (n, refl, refl)
after_csv {w = w} other same = absurd (differ w csv_word refl same)

pub after_open : {w : List ℕ} {us : List Lexeme} {m : Meaning} → After w us m → w ≡ open_word → (k : ℤ) × (ts : List Lexeme) × (c : Meaning) × (us ≡ Number k ∷ ts) × IsChange ts c × (m ≡ Open k c)
after_open (open_line {k = k} {ts = ts} {c = c} is) same = (k, ts, c, refl, is, refl)
after_open {w = w} other same = absurd (differ w open_word refl same)

pub after_step : {w : List ℕ} {us : List Lexeme} {m : Meaning} → After w us m → w ≡ step_word → (k : ℤ) × (us ≡ Number k ∷ []) × (m ≡ Step k)
after_step (step_line {k = k}) same = (k, refl, refl)
after_step {w = w} other same = absurd (differ w step_word refl same)

pub after_commit : {w : List ℕ} {us : List Lexeme} {m : Meaning} → After w us m → w ≡ commit_word → (k : ℤ) × (us ≡ Number k ∷ []) × (m ≡ Commit k)
after_commit (commit_line {k = k}) same = (k, refl, refl)
after_commit {w = w} other same = absurd (differ w commit_word refl same)

pub after_drop : {w : List ℕ} {us : List Lexeme} {m : Meaning} → After w us m → w ≡ drop_word → (k : ℤ) × (us ≡ Number k ∷ []) × (m ≡ Drop k)
after_drop (drop_line {k = k}) same = (k, refl, refl)
after_drop {w = w} other same = absurd (differ w drop_word refl same)

-- no other word has a meaning
pub after_other : {w : List ℕ} {us : List Lexeme} {m : Meaning} → After w us m → (w ≡ names_word → ⊥) → (w ≡ cost_word → ⊥) → (w ≡ csv_word → ⊥) → (w ≡ open_word → ⊥) → (w ≡ step_word → ⊥) → (w ≡ commit_word → ⊥) → (w ≡ drop_word → ⊥) → ⊥
after_other names_line no_names no_cost no_csv no_open no_step no_commit no_drop = no_names refl
after_other cost_line no_names no_cost no_csv no_open no_step no_commit no_drop = no_cost refl
after_other csv_line no_names no_cost no_csv no_open no_step no_commit no_drop = no_csv refl
after_other (open_line is) no_names no_cost no_csv no_open no_step no_commit no_drop = no_open refl
after_other step_line no_names no_cost no_csv no_open no_step no_commit no_drop = no_step refl
after_other commit_line no_names no_cost no_csv no_open no_step no_commit no_drop = no_commit refl
after_other drop_line no_names no_cost no_csv no_open no_step no_commit no_drop = no_drop refl

-- none of these words begins a change
other_word : {w : List ℕ} {us : List Lexeme} {m : Meaning} → After w us m → is_change_word w ≡ false
other_word names_line = refl
other_word cost_line = refl
other_word csv_line = refl
other_word (open_line is) = refl
other_word step_line = refl
other_word commit_line = refl
other_word drop_line = refl

pub no_change_after : {w : List ℕ} {us : List Lexeme} {m : Meaning} → After w us m → (vs : List Lexeme) → IsNoChange (Sign 0x29 ∷ Named w ∷ vs)
no_change_after {w = w} after vs = no_change_word w vs (other_word after)

-- a word with these lexemes has at most one command
pub one_after : {w : List ℕ} {us : List Lexeme} {m n : Meaning} → After w us m → After w us n → m ≡ n
one_after names_line other = sym (after_names other refl).1
one_after cost_line other = sym (after_cost other refl).1
one_after (csv_line {n = k}) other = let x = after_csv other refl in same x.0 x.1 x.2
  where
    same : {n : Meaning} (j : List ℕ) → Named k ∷ [] ≡ Named j ∷ [] → n ≡ Csv j → Csv k ≡ n
    same j h found = cc
one_after (open_line {k = k} {ts = ts} {c = c} is) other = let x = after_open other refl in same x.0 x.1 x.2 x.3 x.4 x.5
  where
    same : {n : Meaning} (j : ℤ) (vs : List Lexeme) (d : Meaning) → Number k ∷ ts ≡ Number j ∷ vs → IsChange vs d → n ≡ Open j d → Open k c ≡ n
    same j vs d h change found =
        let same_number : k ≡ j = cc in
        let same_rest : vs ≡ ts = cc in
        let same_change : c ≡ d = one_change is d (subst (λ (xs : List Lexeme). IsChange xs d) same_rest change) in
        cc
one_after (step_line {k = k}) other = let x = after_step other refl in same x.0 x.1 x.2
  where
    same : {n : Meaning} (j : ℤ) → Number k ∷ [] ≡ Number j ∷ [] → n ≡ Step j → Step k ≡ n
    same j h found = cc
one_after (commit_line {k = k}) other = let x = after_commit other refl in same x.0 x.1 x.2
  where
    same : {n : Meaning} (j : ℤ) → Number k ∷ [] ≡ Number j ∷ [] → n ≡ Commit j → Commit k ≡ n
    same j h found = cc
one_after (drop_line {k = k}) other = let x = after_drop other refl in same x.0 x.1 x.2
  where
    same : {n : Meaning} (j : ℤ) → Number k ∷ [] ≡ Number j ∷ [] → n ≡ Drop j → Drop k ≡ n
    same j h found = cc
