-- The words of changes, and the lexemes after each.
use Rattle.std.{proofs.Common.{◌≡◌, ℕ, Option, Some, None, List, [], ◌∷◌, refl, sym, subst, Bool, true, false, cond}, specs.Prelude.{◌||◌}, specs.Str.{bytes_eq}, proofs.lemmas.Slice.Eq.{bytes_eq-Decides}}
use Rattle.apl_tokens.specs.Lexemes.{Lexeme, Named, Sign}
use Rattle.apl_expr.{specs.Trees.{Tree, Literal}, specs.Grammar.{IsTreeOf}, specs.Lines.{Meaning, Data, Row, Erase, data_word, row_word, erase_word, row_change, name_change, IsLit}, proofs.Parsed.{one_tree_of}, proofs.CellEdits.{literal_read}}

-- the lexemes after the word of a change, and the meaning of the line
pub data ChangeAfter : List ℕ → List Lexeme → Meaning → Type 0 where
  data_line : {n : List ℕ} {ts : List Lexeme} {e : Tree} → IsTreeOf ts e → ChangeAfter data_word (Named n ∷ Sign 0x2190 ∷ ts) (Data n e)
  row_line : {n : List ℕ} {ts : List Lexeme} {l : Literal} → IsLit ts l → ChangeAfter row_word (Named n ∷ ts) (Row n l)
  erase_line : {n : List ℕ} → ChangeAfter erase_word (Named n ∷ []) (Erase n)

-- a lookup finds only the word of its table
pub looked_up : (w v : List ℕ) (x m : Meaning) → cond {A = Option Meaning} (bytes_eq w v) (Some x) None ≡ Some m → (w ≡ v) × (x ≡ m)
looked_up w v x m h = tested (bytes_eq w v) refl h
  where
    tested : (b : Bool) → bytes_eq w v ≡ b → cond {A = Option Meaning} b (Some x) None ≡ Some m → (w ≡ v) × (x ≡ m)
    tested true is h = ((bytes_eq-Decides w v).0 is, cc)
    tested false is h = let no : ⊥ = cc in absurd no

-- a claim about a word holds for an equal word
pub follows_as : (P : List ℕ → Meaning → Type 0) {w v : List ℕ} {x m : Meaning} → (w ≡ v) × (x ≡ m) → P v x → P w m
follows_as P {w = w} {x = x} found is = subst (λ (k : Meaning). P w k) found.1 (subst (λ (k : List ℕ). P k x) (sym found.0) is)

pub row_follows : {w n : List ℕ} {ts : List Lexeme} {l : Literal} {m : Meaning} → IsLit ts l → row_change w n l ≡ Some m → ChangeAfter w (Named n ∷ ts) m
row_follows {w = w} {n = n} {ts = ts} {l = l} {m = m} is h = follows_as (λ v x. ChangeAfter v (Named n ∷ ts) x) (looked_up w row_word (Row n l) m h) (row_line is)

pub erase_follows : {w n : List ℕ} {m : Meaning} → name_change w n ≡ Some m → ChangeAfter w (Named n ∷ []) m
erase_follows {w = w} {n = n} {m = m} h = follows_as (λ v x. ChangeAfter v (Named n ∷ []) x) (looked_up w erase_word (Erase n) m h) erase_line

pub differ : (v w : List ℕ) → bytes_eq v w ≡ false → v ≡ w → ⊥
differ v w is_not same = let is = (bytes_eq-Decides v w).1 same in cc

-- the lexemes after each word
pub after_data : {w : List ℕ} {us : List Lexeme} {m : Meaning} → ChangeAfter w us m → w ≡ data_word → (n : List ℕ) × (ts : List Lexeme) × (e : Tree) × (us ≡ Named n ∷ Sign 0x2190 ∷ ts) × IsTreeOf ts e × (m ≡ Data n e)
after_data (data_line {n = n} {ts = ts} {e = e} is) same = (n, ts, e, refl, is, refl)
after_data {w = w} other same = absurd (differ w data_word refl same)

pub after_row : {w : List ℕ} {us : List Lexeme} {m : Meaning} → ChangeAfter w us m → w ≡ row_word → (n : List ℕ) × (ts : List Lexeme) × (l : Literal) × (us ≡ Named n ∷ ts) × IsLit ts l × (m ≡ Row n l)
after_row (row_line {n = n} {ts = ts} {l = l} is) same = (n, ts, l, refl, is, refl)
after_row {w = w} other same = absurd (differ w row_word refl same)

pub after_erase : {w : List ℕ} {us : List Lexeme} {m : Meaning} → ChangeAfter w us m → w ≡ erase_word → (n : List ℕ) × (us ≡ Named n ∷ []) × (m ≡ Erase n)
after_erase (erase_line {n = n}) same = (n, refl, refl)
after_erase {w = w} other same = absurd (differ w erase_word refl same)

-- no other word begins a change
pub after_no_change : {w : List ℕ} {us : List Lexeme} {m : Meaning} → ChangeAfter w us m → (w ≡ data_word → ⊥) → (w ≡ row_word → ⊥) → (w ≡ erase_word → ⊥) → ⊥
after_no_change (data_line is) no_data no_row no_erase = no_data refl
after_no_change (row_line is) no_data no_row no_erase = no_row refl
after_no_change erase_line no_data no_row no_erase = no_erase refl

-- the word begins a change
abbrev pub is_change_word : List ℕ → Bool
is_change_word w = bytes_eq w data_word || bytes_eq w row_word || bytes_eq w erase_word

pub change_word : {w : List ℕ} {us : List Lexeme} {m : Meaning} → ChangeAfter w us m → is_change_word w ≡ true
change_word (data_line is) = refl
change_word (row_line is) = refl
change_word erase_line = refl

-- a word with these lexemes has at most one change
pub one_change_after : {w : List ℕ} {us : List Lexeme} {m n : Meaning} → ChangeAfter w us m → ChangeAfter w us n → m ≡ n
one_change_after (data_line {n = k} {ts = ts} {e = e} is) other = let x = after_data other refl in same x.0 x.1 x.2 x.3 x.4 x.5
  where
    same : {n : Meaning} (j : List ℕ) (vs : List Lexeme) (d : Tree) → Named k ∷ Sign 0x2190 ∷ ts ≡ Named j ∷ Sign 0x2190 ∷ vs → IsTreeOf vs d → n ≡ Data j d → Data k e ≡ n
    same j vs d h tree found =
        let same_name : k ≡ j = cc in
        let same_rest : vs ≡ ts = cc in
        let same_tree : e ≡ d = one_tree_of ts e d is (subst (λ (xs : List Lexeme). IsTreeOf xs d) same_rest tree) in
        cc
one_change_after (row_line {n = k} {ts = ts} {l = l} is) other = let x = after_row other refl in same x.0 x.1 x.2 x.3 x.4 x.5
  where
    same : {n : Meaning} (j : List ℕ) (vs : List Lexeme) (d : Literal) → Named k ∷ ts ≡ Named j ∷ vs → IsLit vs d → n ≡ Row j d → Row k l ≡ n
    same j vs d h literal found =
        let same_name : k ≡ j = cc in
        let same_rest : vs ≡ ts = cc in
        let read = literal_read is [] in
        let other_read = literal_read (subst (λ (xs : List Lexeme). IsLit xs d) same_rest literal) [] in
        let same_literal : l ≡ d = cc in
        cc
one_change_after (erase_line {n = k}) other = let x = after_erase other refl in same x.0 x.1 x.2
  where
    same : {n : Meaning} (j : List ℕ) → Named k ∷ [] ≡ Named j ∷ [] → n ≡ Erase j → Erase k ≡ n
    same j h found = cc
