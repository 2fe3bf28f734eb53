-- The change of a line, from its front and the rest.
use Rattle.std.{proofs.Common.{◌≡◌, ℕ, false, ◌≤◌, Some, None, Result, Ok, Err, List, [], ◌∷◌, length, refl, sym, ap, ◌∙◌, subst, arith, inl, inr}, specs.Prelude.{ℤ}}
use Rattle.{smallvec.specs.SmallVec.{SmallVec}, apl_tokens.specs.Lexemes.{Lexeme, Named, Sign}, names.specs.declared.name.Name.{Name}}
use Rattle.apl_expr.{specs.Limits.{most_tokens, most_height, most_nodes}, specs.declared.expr.Expr.{Expr}, specs.declared.fault.ParseFault.{ParseFault}, specs.declared.fault.ParseFault.TheVariants.{Syntax, Limit, NoMemory}, specs.Trees.{Tree, Literal, tree_of, literal_of, height, nodes}}
use Rattle.apl_expr.{specs.Grammar.{IsTreeOf, IsTooLarge}, specs.Parsing.{IsParsed}, specs.Edits.{Open, Items, Write, edits, EditGives, LiteralGives}, specs.Lines.{Meaning, Define, Data, Cell, Row, Erase, data_word, row_word, erase_word, IsCellPositions, IsLit, IsChange, define, keep, cell, row, erase}}
use Rattle.apl_expr.{specs.Fronts.{name_before, name_first, only_name, command_word}, specs.Changes.{IsNoChange, IsChangeOf}, proofs.Parsed.{one_tree_of}, proofs.CellEdits.{edit_read, edit_correct, literal_read, literal_correct}}
use Rattle.apl_expr.{proofs.Fronts.{name_before_is, name_first_is, only_name_is, no_name_before, no_name_first, no_only_name, no_command_word}, proofs.ChangeWords.{ChangeAfter, is_change_word, change_word, data_line, row_follows, erase_follows, after_data, after_row, after_erase, after_no_change, one_change_after}}
use Rattle.apl_expr.specs.declared.expr.Literal as code
use Rattle.apl_expr.specs.declared.command.Change.TheVariants as changed

-- a change by the lexemes at its front
pub data Changed : List Lexeme → Meaning → Type 0 where
  formula : {n : List ℕ} {ts : List Lexeme} {e : Tree} → IsTreeOf ts e → Changed (Named n ∷ Sign 0x2190 ∷ ts) (Define n e)
  edit : {n : List ℕ} {ts us : List Lexeme} {ps : List ℤ} {l : Literal} → IsCellPositions ts ps (Sign 0x5d ∷ Sign 0x2190 ∷ us) → IsLit us l → Changed (Named n ∷ Sign 0x5b ∷ ts) (Cell n ps l)
  worded : {w : List ℕ} {ts : List Lexeme} {m : Meaning} → ChangeAfter w ts m → Changed (Sign 0x29 ∷ Named w ∷ ts) m

pub by_front : {ts : List Lexeme} {m : Meaning} → IsChange ts m → Changed ts m
by_front (define is) = formula is
by_front (keep is) = worded (data_line is)
by_front (cell p is) = edit p is
by_front (row is found) = worded (row_follows is found)
by_front (erase found) = worded (erase_follows found)

same_sign_of : {m n : List ℕ} {c d : ℕ} {ts us : List Lexeme} → Named m ∷ Sign c ∷ ts ≡ Named n ∷ Sign d ∷ us → c ≡ d
same_sign_of h = cc

change_define : {ts : List Lexeme} {m : Meaning} → Changed ts m → (n : List ℕ) (us : List Lexeme) → ts ≡ Named n ∷ Sign 0x2190 ∷ us → (e : Tree) × IsTreeOf us e × (m ≡ Define n e)
change_define (formula {n = k} {ts = ts} {e = e} is) n us h =
    let same_rest : ts ≡ us = cc in
    (e, subst (λ (xs : List Lexeme). IsTreeOf xs e) same_rest is, ap (λ (x : List ℕ). Define x e) cc)
change_define (edit p is) n us h = let signs = same_sign_of h in absurd (omega arith)
change_define (worded is) n us h = let no : ⊥ = cc in absurd no

change_cell : {ts : List Lexeme} {m : Meaning} → Changed ts m → (n : List ℕ) (us : List Lexeme) → ts ≡ Named n ∷ Sign 0x5b ∷ us → (ps : List ℤ) × (l : Literal) × (edits us (Some (Open [])) ≡ Some (Write ps l)) × (m ≡ Cell n ps l)
change_cell (formula is) n us h = let signs = same_sign_of h in absurd (omega arith)
change_cell (edit {n = k} {ts = ts} {ps = ps} {l = l} p is) n us h =
    let same_rest : ts ≡ us = cc in
    (ps, l, subst (λ (xs : List Lexeme). edits xs (Some (Open [])) ≡ Some (Write ps l)) same_rest (edit_read p is), ap (λ (x : List ℕ). Cell x ps l) cc)
change_cell (worded is) n us h = let no : ⊥ = cc in absurd no

change_worded : {ts : List Lexeme} {m : Meaning} → Changed ts m → (w : List ℕ) (us : List Lexeme) → ts ≡ Sign 0x29 ∷ Named w ∷ us → ChangeAfter w us m
change_worded (formula is) w us h = let no : ⊥ = cc in absurd no
change_worded (edit p is) w us h = let no : ⊥ = cc in absurd no
change_worded (worded {w = v} {ts = ts} {m = m} is) w us h =
    let same_word : v ≡ w = cc in
    let same_rest : ts ≡ us = cc in
    subst (λ (xs : List Lexeme). ChangeAfter w xs m) same_rest (subst (λ (x : List ℕ). ChangeAfter x ts m) same_word is)

pub word_of_change : (w : List ℕ) (us : List Lexeme) {m : Meaning} → IsChange (Sign 0x29 ∷ Named w ∷ us) m → ChangeAfter w us m
word_of_change w us is = change_worded (by_front is) w us refl

pub no_change_word : (w : List ℕ) (us : List Lexeme) → is_change_word w ≡ false → IsNoChange (Sign 0x29 ∷ Named w ∷ us)
no_change_word w us other = λ m is. let word = change_word (word_of_change w us is) in cc

-- a list of tokens has at most one change
pub one_change : {ts : List Lexeme} {m : Meaning} → IsChange ts m → (n : Meaning) → IsChange ts n → m ≡ n
one_change is n other = same (by_front is) (by_front other)
  where
    same : {ts : List Lexeme} {m n : Meaning} → Changed ts m → Changed ts n → m ≡ n
    same (formula {n = k} {ts = ts} {e = e} is) other =
        let x = change_define other k ts refl in
        ap (λ (d : Tree). Define k d) (one_tree_of ts e x.0 is x.1) ∙ sym x.2
    same (edit {n = k} {ts = ts} {ps = ps} {l = c} p is) other =
        let x = change_cell other k ts refl in
        let read = edit_read p is in
        let same_positions : ps ≡ x.0 = cc in
        let same_literal : c ≡ x.1 = cc in
        ap (λ (qs : List ℤ). Cell k qs c) same_positions ∙ ap (λ (d : Literal). Cell k x.0 d) same_literal ∙ sym x.3
    same (worded {w = w} {ts = ts} is) other = one_change_after is (change_worded other w ts refl)

pub not_large : (e : Tree) → height e ≤ most_height → nodes e ≤ most_nodes → IsTooLarge e → ⊥
not_large e low few (inl high) = omega arith
not_large e low few (inr many) = omega arith

-- the definition
module _ (name : Name) (us : List Lexeme) (short : length us ≤ most_tokens) where
  pub define_ok : (e : Expr) → IsParsed us (Ok e) → IsChangeOf (Named name ∷ Sign 0x2190 ∷ us) (Ok (changed.Define name e))
  define_ok e given = (define given.1, not_large (tree_of e) given.2 given.3, given.4)

  pub define_err : (f : ParseFault) → IsParsed us (Err f) → IsChangeOf (Named name ∷ Sign 0x2190 ∷ us) (Err f)
  define_err Syntax given = λ m is. let x = change_define (by_front is) name us refl in given.1 x.0 x.1
  define_err Limit (inl long) = absurd (omega arith)
  define_err Limit (inr x) = (Define name x.0, define x.1, x.2)
  define_err NoMemory given = tt

-- the edit of a cell
module _ (name : Name) (us : List Lexeme) where
  pub cell_ok : (ps : SmallVec ℤ) (l : code.Literal) → EditGives (Ok (ps, l)) (edits us (Some (Open []))) → IsChangeOf (Named name ∷ Sign 0x5b ∷ us) (Ok (changed.Cell name ps l))
  cell_ok ps l given = let x = edit_correct us ps.items (literal_of l) given.0 in (cell x.1 x.2, λ no. no, given.1)

  pub cell_err : (f : ParseFault) → EditGives (Err f) (edits us (Some (Open []))) → IsChangeOf (Named name ∷ Sign 0x5b ∷ us) (Err f)
  cell_err Syntax none = λ m is. let x = change_cell (by_front is) name us refl in let found = x.2 in cc
  cell_err Limit given = absurd given
  cell_err NoMemory given = tt

-- data, where the rest is a definition
module _ (us : List Lexeme) (short : length us ≤ most_tokens) where
  pub data_none : name_before 0x2190 us ≡ None → IsChangeOf (Sign 0x29 ∷ Named data_word ∷ us) (Err Syntax)
  data_none none = λ m is. let x = after_data (word_of_change data_word us is) refl in no_name_before none x.0 x.1 x.3

  module _ (name : Name) (vs : List Lexeme) (is : name_before 0x2190 us ≡ Some (name, vs)) where
    pub data_ok : (e : Expr) → IsParsed vs (Ok e) → IsChangeOf (Sign 0x29 ∷ Named data_word ∷ us) (Ok (changed.Data name e))
    data_ok e given =
        (subst (λ (xs : List Lexeme). IsChange (Sign 0x29 ∷ Named data_word ∷ xs) (Data name (tree_of e))) (sym (name_before_is 0x2190 us name vs is)) (keep given.1), not_large (tree_of e) given.2 given.3, given.4)

    pub data_err : (f : ParseFault) → IsParsed vs (Err f) → IsChangeOf (Sign 0x29 ∷ Named data_word ∷ us) (Err f)
    data_err Syntax given = λ m c. let x = after_data (word_of_change data_word us c) refl in refuted x.1 x.0 x.3 x.2 x.4
      where
        refuted : (ws : List Lexeme) (n : List ℕ) → us ≡ Named n ∷ Sign 0x2190 ∷ ws → (e : Tree) → IsTreeOf ws e → ⊥
        refuted ws n same e tree = let here = name_before_is 0x2190 us name vs is in let same_rest : ws ≡ vs = cc in given.1 e (subst (λ (xs : List Lexeme). IsTreeOf xs e) same_rest tree)
    data_err Limit (inl long) = let lengths = ap length (name_before_is 0x2190 us name vs is) in absurd (omega arith)
    data_err Limit (inr x) = (Data name x.0, subst (λ (xs : List Lexeme). IsChange (Sign 0x29 ∷ Named data_word ∷ xs) (Data name x.0)) (sym (name_before_is 0x2190 us name vs is)) (keep x.1), x.2)
    data_err NoMemory given = tt

-- the row
module _ (us : List Lexeme) where
  pub row_none : name_first us ≡ None → IsChangeOf (Sign 0x29 ∷ Named row_word ∷ us) (Err Syntax)
  row_none none = λ m is. let x = after_row (word_of_change row_word us is) refl in no_name_first none x.0 x.1 x.3

  module _ (name : Name) (vs : List Lexeme) (is : name_first us ≡ Some (name, vs)) where
    pub row_ok : (l : code.Literal) → LiteralGives (Ok l) (edits vs (Some (Items [] []))) → IsChangeOf (Sign 0x29 ∷ Named row_word ∷ us) (Ok (changed.Row name l))
    row_ok l given =
        (subst (λ (xs : List Lexeme). IsChange (Sign 0x29 ∷ Named row_word ∷ xs) (Row name (literal_of l))) (sym (name_first_is us name vs is)) (row (literal_correct vs (literal_of l) given.0) refl), λ no. no, given.1)

    pub row_err : (f : ParseFault) → LiteralGives (Err f) (edits vs (Some (Items [] []))) → IsChangeOf (Sign 0x29 ∷ Named row_word ∷ us) (Err f)
    row_err Syntax none = λ m c. let x = after_row (word_of_change row_word us c) refl in no_literal x.1 x.0 x.3 x.2 x.4
      where
        no_literal : (ws : List Lexeme) (n : List ℕ) → us ≡ Named n ∷ ws → (l : Literal) → IsLit ws l → ⊥
        no_literal ws n same l literal =
            let here = name_first_is us name vs is in
            let same_rest : ws ≡ vs = cc in
            let read = literal_read (subst (λ (xs : List Lexeme). IsLit xs l) same_rest literal) [] in
            cc
    row_err Limit given = absurd given
    row_err NoMemory given = tt

-- an erasure, and any other word
module _ (us : List Lexeme) where
  pub erase_ok : (name : Name) → only_name us ≡ Some name → IsChangeOf (Sign 0x29 ∷ Named erase_word ∷ us) (Ok (changed.Erase name))
  erase_ok name is = (subst (λ (xs : List Lexeme). IsChange (Sign 0x29 ∷ Named erase_word ∷ xs) (Erase name)) (sym (only_name_is us name is)) (erase refl), λ no. no, refl)

  pub erase_none : only_name us ≡ None → IsChangeOf (Sign 0x29 ∷ Named erase_word ∷ us) (Err Syntax)
  erase_none none = λ m is. let x = after_erase (word_of_change erase_word us is) refl in no_only_name none x.0 x.1

  pub no_word_of_change : (w : List ℕ) → (w ≡ data_word → ⊥) → (w ≡ row_word → ⊥) → (w ≡ erase_word → ⊥) → IsNoChange (Sign 0x29 ∷ Named w ∷ us)
  no_word_of_change w no_data no_row no_erase = λ m is. after_no_change (word_of_change w us is) no_data no_row no_erase

-- no change has another front
pub no_front : (ts : List Lexeme) → name_before 0x2190 ts ≡ None → name_before 0x5b ts ≡ None → command_word ts ≡ None → IsNoChange ts
no_front ts no_definition no_edit no_word = λ m is. by (by_front is) refl
  where
    by : {us : List Lexeme} {m : Meaning} → Changed us m → ts ≡ us → ⊥
    by (formula {n = n} {ts = us} is) h = no_name_before no_definition n us h
    by (edit {n = n} {ts = us} p is) h = no_name_before no_edit n us h
    by (worded {w = w} {ts = us} is) h = no_command_word no_word w us h

-- `?` returns the fault
pub exits : {A : Type 0} (P : Result A ParseFault → Type 0) (result : Result A ParseFault) (f y : ParseFault) → result ≡ Err y → y ≡ f → P (Err f) → P result
exits {A = A} P result f y is same given = subst (λ (r : Result A ParseFault). P r) (sym (is ∙ ap (λ (z : ParseFault). Err z) same)) given
