-- The reader of edits reads exactly the edits of the grammar.
use Rattle.std.{proofs.Common.{◌≡◌, ℕ, Some, None, List, [], ◌∷◌, ◌++◌, refl, sym, ap, ◌∙◌, subst, append_assoc, Bool, true, false, cond}, proofs.lemmas.List.{append-nil}, proofs.lemmas.Bool.{eqb-true}, specs.Prelude.{ℤ, ◌==◌}}
use Rattle.apl_tokens.specs.Lexemes.{Lexeme, Number, Characters, Named, Sign}
use Rattle.apl_expr.{specs.Grammar.{IsNums, one, more}, specs.Lines.{IsCellPositions, last, further, IsLit, nums_lit, text_lit}, specs.Trees.{Literal, Numbers, Text}, specs.Edits.{Edit, Open, Position, Closed, Items, Quoted, Written, Write, edit_text, edit_end, after_position, after_bracket, edits}}
use Rattle.apl_expr.proofs.Sound.{IsStrand, none, strand_nums}
use Rattle.apl_expr.proofs.Sound as strand

cell_positions_read : {ts us : List Lexeme} {ps : List ℤ} → IsCellPositions ts ps us → (before : List ℤ) → edits ts (Some (Open before)) ≡ edits us (Some (Position (before ++ ps)))
unfolding edits
cell_positions_read last before = refl
cell_positions_read (further {n = n} {us = us} {ps = ps} p) before = cell_positions_read p (before ++ n ∷ []) ∙ ap (λ (qs : List ℤ). edits us (Some (Position qs))) (append_assoc before (n ∷ []) ps)

end_items : (ps ns : List ℤ) (n : ℤ) → edit_end (Items ps (ns ++ n ∷ [])) ≡ Some (Write ps (Numbers (ns ++ n ∷ [])))
end_items ps [] n = refl
end_items ps (m ∷ ns) n = refl

items_read : {ts us : List Lexeme} {ns : List ℤ} → IsNums ts ns us → us ≡ [] → (ps before : List ℤ) → edits ts (Some (Items ps before)) ≡ Some (Write ps (Numbers (before ++ ns)))
unfolding edits
items_read (one {n = n}) end ps before = ap (λ (xs : List Lexeme). edits xs (Some (Items ps (before ++ n ∷ [])))) end ∙ end_items ps before n
items_read (more {n = n} {ns = ns} r) end ps before = items_read r end ps (before ++ n ∷ []) ∙ ap (λ (ms : List ℤ). Some (Write ps (Numbers ms))) (append_assoc before (n ∷ []) ns)

pub literal_read : {ts : List Lexeme} {l : Literal} → IsLit ts l → (ps : List ℤ) → edits ts (Some (Items ps [])) ≡ Some (Write ps l)
unfolding edits
literal_read (nums_lit n) ps = items_read n refl ps []
literal_read text_lit ps = refl

pub edit_read : {ts us : List Lexeme} {ps : List ℤ} {l : Literal} → IsCellPositions ts ps (Sign 0x5d ∷ Sign 0x2190 ∷ us) → IsLit us l → edits ts (Some (Open [])) ≡ Some (Write ps l)
unfolding edits
edit_read {ps = ps} p is = cell_positions_read p [] ∙ literal_read is ps

-- after a position, ts are the rest of the positions with their bracket and the arrow, and us come after them
data IsRest : List Lexeme → List ℤ → List Lexeme → Type 0 where
  ends : {us : List Lexeme} → IsRest (Sign 0x5d ∷ Sign 0x2190 ∷ us) [] us
  goes_on : {ts us : List Lexeme} {ps : List ℤ} → IsCellPositions ts ps (Sign 0x5d ∷ Sign 0x2190 ∷ us) → IsRest (Sign 0x3b ∷ ts) ps us

cell_positions_of : {ts us : List Lexeme} {ps : List ℤ} (n : ℤ) → IsRest ts ps us → IsCellPositions (Number n ∷ ts) (n ∷ ps) (Sign 0x5d ∷ Sign 0x2190 ∷ us)
cell_positions_of n ends = last
cell_positions_of n (goes_on p) = further p

-- the rest of a literal after these numbers
data IsRestOf : List ℤ → List Lexeme → Literal → Type 0 where
  rest_of_nums : {n : ℤ} {ns ms : List ℤ} {ts : List Lexeme} → IsStrand ts ms [] → IsRestOf (n ∷ ns) ts (Numbers (n ∷ ns ++ ms))
  whole_lit : {ts : List Lexeme} {l : Literal} → IsLit ts l → IsRestOf [] ts l

-- the meaning in the grammar of reading in a state
abbrev Explains : List Lexeme → Edit → List ℤ → Literal → Type 0
Explains ts (Open before) ps l = (qs : List ℤ) × (us : List Lexeme) × IsCellPositions ts qs (Sign 0x5d ∷ Sign 0x2190 ∷ us) × IsLit us l × (before ++ qs ≡ ps)
Explains ts (Position before) ps l = (qs : List ℤ) × (us : List Lexeme) × IsRest ts qs us × IsLit us l × (before ++ qs ≡ ps)
Explains ts (Closed before) ps l = (us : List Lexeme) × (ts ≡ Sign 0x2190 ∷ us) × IsLit us l × (before ≡ ps)
Explains ts (Items before items) ps l = IsRestOf items ts l × (before ≡ ps)
Explains ts (Quoted before cs) ps l = (ts ≡ []) × (Text cs ≡ l) × (before ≡ ps)

edits_none : (ts : List Lexeme) (w : Written) → edits ts None ≡ Some w → ⊥
unfolding edits
edits_none [] w h = cc
edits_none (t ∷ ts) w h = cc

lit_with_number : {ts : List Lexeme} {l : Literal} (n : ℤ) → IsRestOf (n ∷ []) ts l → IsLit (Number n ∷ ts) l
lit_with_number n (rest_of_nums s) = nums_lit (strand_nums n s)

one_number_more : {ts : List Lexeme} {l : Literal} (n : ℤ) (ns : List ℤ) → IsRestOf (ns ++ n ∷ []) ts l → IsRestOf ns (Number n ∷ ts) l
one_number_more n [] r = whole_lit (lit_with_number n r)
one_number_more {ts = ts} n (m ∷ ns) (rest_of_nums {ms = ms} s) = subst (λ (xs : List ℤ). IsRestOf (m ∷ ns) (Number n ∷ ts) (Numbers (m ∷ xs))) (sym (append_assoc ns (n ∷ []) ms)) (rest_of_nums (strand.further s))

lit_of_rest : {ts : List Lexeme} {l : Literal} → IsRestOf [] ts l → IsLit ts l
lit_of_rest (whole_lit is) = is

abbrev Sound : List Lexeme → Type 0
Sound ts = (s : Edit) (ps : List ℤ) (l : Literal) → edits ts (Some s) ≡ Some (Write ps l) → Explains ts s ps l

module _ (ts : List Lexeme) (sound : Sound ts) where
  number_explains : (n : ℤ) (before ps : List ℤ) (l : Literal) → edits ts (Some (Position (before ++ n ∷ []))) ≡ Some (Write ps l) → Explains (Number n ∷ ts) (Open before) ps l
  number_explains n before ps l h =
      let x = sound (Position (before ++ n ∷ [])) ps l h in
      (n ∷ x.0, x.1, cell_positions_of n x.2, x.3, sym (append_assoc before (n ∷ []) x.0) ∙ x.4)

  item_explains : (n : ℤ) (before items ps : List ℤ) (l : Literal) → edits ts (Some (Items before (items ++ n ∷ []))) ≡ Some (Write ps l) → Explains (Number n ∷ ts) (Items before items) ps l
  item_explains n before items ps l h = let x = sound (Items before (items ++ n ∷ [])) ps l h in (one_number_more n items x.0, x.1)

  text_explains : (cs : List ℕ) (before items ps : List ℤ) (l : Literal) → edits ts (edit_text cs (Items before items)) ≡ Some (Write ps l) → Explains (Characters cs ∷ ts) (Items before items) ps l
  text_explains cs before [] ps l h =
      let x = sound (Quoted before cs) ps l h in
      let is : IsLit (Characters cs ∷ ts) l = subst (λ (xs : List Lexeme). IsLit (Characters cs ∷ xs) l) (sym x.0) (subst (λ (k : Literal). IsLit (Characters cs ∷ []) k) x.1 text_lit) in
      (whole_lit is, x.2)
  text_explains cs before (n ∷ items) ps l h = absurd (edits_none ts (Write ps l) h)

  position_explains : (c : ℕ) (before ps : List ℤ) (l : Literal) → edits ts (after_position before c) ≡ Some (Write ps l) → Explains (Sign c ∷ ts) (Position before) ps l
  position_explains c before ps l h = semicolon (c == 0x3b) refl h
    where
      bracket : (b : Bool) → (c == 0x5d) ≡ b → edits ts (cond b (Some (Closed before)) None) ≡ Some (Write ps l) → Explains (Sign c ∷ ts) (Position before) ps l
      bracket true is h =
          let x = sound (Closed before) ps l h in
          ([], x.0, subst (λ (xs : List Lexeme). IsRest xs [] x.0) (sym (let e = eqb-true c 0x5d is in let e' = x.1 in cc)) ends, x.2, append-nil before ∙ x.3)
      bracket false is h = absurd (edits_none ts (Write ps l) h)

      semicolon : (b : Bool) → (c == 0x3b) ≡ b → edits ts (cond b (Some (Open before)) (cond (c == 0x5d) (Some (Closed before)) None)) ≡ Some (Write ps l) → Explains (Sign c ∷ ts) (Position before) ps l
      semicolon true is h =
          let x = sound (Open before) ps l h in
          (x.0, x.1, subst (λ (n : ℕ). IsRest (Sign n ∷ ts) x.0 x.1) (sym (eqb-true c 0x3b is)) (goes_on x.2), x.3, x.4)
      semicolon false is h = bracket (c == 0x5d) refl h

  arrow_explains : (c : ℕ) (before ps : List ℤ) (l : Literal) → edits ts (after_bracket before c) ≡ Some (Write ps l) → Explains (Sign c ∷ ts) (Closed before) ps l
  arrow_explains c before ps l h = arrow (c == 0x2190) refl h
    where
      arrow : (b : Bool) → (c == 0x2190) ≡ b → edits ts (cond b (Some (Items before [])) None) ≡ Some (Write ps l) → Explains (Sign c ∷ ts) (Closed before) ps l
      arrow true is h =
          let x = sound (Items before []) ps l h in
          (ts, ap (λ (n : ℕ). Sign n ∷ ts) (eqb-true c 0x2190 is), lit_of_rest x.0, x.1)
      arrow false is h = absurd (edits_none ts (Write ps l) h)

sound_of : (ts : List Lexeme) → Sound ts
unfolding edits
sound_of [] (Open before) ps l h = let no : ⊥ = cc in absurd no
sound_of [] (Position before) ps l h = let no : ⊥ = cc in absurd no
sound_of [] (Closed before) ps l h = let no : ⊥ = cc in absurd no
sound_of [] (Items before []) ps l h = let no : ⊥ = cc in absurd no
sound_of [] (Items before (n ∷ items)) ps l h =
    (subst (λ (k : Literal). IsRestOf (n ∷ items) [] k) (ap (λ (ms : List ℤ). Numbers ms) (append-nil (n ∷ items)) ∙ cc) (rest_of_nums none), cc)
sound_of [] (Quoted before cs) ps l h = (refl, cc, cc)
sound_of (Number n ∷ ts) (Open before) ps l h = number_explains ts (sound_of ts) n before ps l h
sound_of (Number n ∷ ts) (Position before) ps l h = absurd (edits_none ts (Write ps l) h)
sound_of (Number n ∷ ts) (Closed before) ps l h = absurd (edits_none ts (Write ps l) h)
sound_of (Number n ∷ ts) (Items before items) ps l h = item_explains ts (sound_of ts) n before items ps l h
sound_of (Number n ∷ ts) (Quoted before cs) ps l h = absurd (edits_none ts (Write ps l) h)
sound_of (Characters cs ∷ ts) (Open before) ps l h = absurd (edits_none ts (Write ps l) h)
sound_of (Characters cs ∷ ts) (Position before) ps l h = absurd (edits_none ts (Write ps l) h)
sound_of (Characters cs ∷ ts) (Closed before) ps l h = absurd (edits_none ts (Write ps l) h)
sound_of (Characters cs ∷ ts) (Items before items) ps l h = text_explains ts (sound_of ts) cs before items ps l h
sound_of (Characters cs ∷ ts) (Quoted before ds) ps l h = absurd (edits_none ts (Write ps l) h)
sound_of (Named n ∷ ts) s ps l h = absurd (edits_none ts (Write ps l) h)
sound_of (Sign c ∷ ts) (Open before) ps l h = absurd (edits_none ts (Write ps l) h)
sound_of (Sign c ∷ ts) (Position before) ps l h = position_explains ts (sound_of ts) c before ps l h
sound_of (Sign c ∷ ts) (Closed before) ps l h = arrow_explains ts (sound_of ts) c before ps l h
sound_of (Sign c ∷ ts) (Items before items) ps l h = absurd (edits_none ts (Write ps l) h)
sound_of (Sign c ∷ ts) (Quoted before cs) ps l h = absurd (edits_none ts (Write ps l) h)

pub edit_correct : (ts : List Lexeme) (ps : List ℤ) (l : Literal) → edits ts (Some (Open [])) ≡ Some (Write ps l) → (us : List Lexeme) × IsCellPositions ts ps (Sign 0x5d ∷ Sign 0x2190 ∷ us) × IsLit us l
edit_correct ts ps l h = let x = sound_of ts (Open []) ps l h in (x.1, subst (λ (qs : List ℤ). IsCellPositions ts qs (Sign 0x5d ∷ Sign 0x2190 ∷ x.1)) x.4 x.2, x.3)

pub literal_correct : (ts : List Lexeme) (l : Literal) → edits ts (Some (Items [] [])) ≡ Some (Write [] l) → IsLit ts l
literal_correct ts l h = let x = sound_of ts (Items [] []) [] l h in lit_of_rest x.0

-- a literal alone has no positions
pub no_positions : (ts : List Lexeme) (ps : List ℤ) (l : Literal) → edits ts (Some (Items [] [])) ≡ Some (Write ps l) → edits ts (Some (Items [] [])) ≡ Some (Write [] l)
no_positions ts ps l h = let x = sound_of ts (Items [] []) ps l h in h ∙ ap (λ (qs : List ℤ). Some (Write qs l)) (sym x.1)
