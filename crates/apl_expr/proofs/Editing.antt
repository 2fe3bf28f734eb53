-- One more lexeme of an edit.
use Rattle.std.{proofs.Common.{◌≡◌, ℕ, ◌+◌, ◌<◌, ◌≤◌, subst, Option, Some, None, Result, Err, List, [], ◌∷◌, length, drop, get_or, sym, ap, ◌∙◌, refl, drop-cons, add-one, arith, Bool, true, false}, specs.Prelude.{ℤ, ◌==◌}, proofs.Math.ListN.{drop_of_length-le}}
use Rattle.{smallvec.specs.SmallVec.{SmallVec}, apl_tokens.{specs.declared.token.Spanned.{Spanned}, specs.Lexemes.{Lexeme, lexeme, lexemes}}}
use Rattle.apl_expr.{specs.declared.fault.ParseFault.{ParseFault}, specs.declared.fault.ParseFault.TheVariants.{Syntax, Limit, NoMemory}, specs.Trees.{Literal, Numbers}, specs.Edits.{Edit, Items, Written, Write, edit_step, edit_end, edits, EditSteps, EditGives}}
use Rattle.apl_expr.specs.declared.expr.Literal as code

edits_next : (ts : List Spanned) (i : ℕ) (d : Spanned) (s : Edit) → i < length ts → edits (lexemes (drop i ts)) (Some s) ≡ edits (lexemes (drop (i + 1) ts)) (edit_step (lexeme (get_or ts i d).token) s)
unfolding edits
edits_next ts i d s h = ap (λ (xs : List Spanned). edits (lexemes xs) (Some s)) (drop-cons ts i d h) ∙ rw add-one refl

edits_none : (ts : List Lexeme) → edits ts None ≡ None
unfolding edits
edits_none [] = refl
edits_none (t ∷ ts) = refl

pub kept : (ts : List Spanned) (i : ℕ) (x : Spanned) (s : Edit) (o : Option Edit) (w : Option Written) → i < length ts → x ≡ get_or ts i x → edits (lexemes (drop i ts)) (Some s) ≡ w → edit_step (lexeme x.token) s ≡ o → edits (lexemes (drop (i + 1) ts)) o ≡ w
kept ts i x s o w h is so_far stepped =
    ap (λ (p : Option Edit). edits (lexemes (drop (i + 1) ts)) p) (sym stepped ∙ ap (λ (y : Spanned). edit_step (lexeme y.token) s) is) ∙ sym (edits_next ts i x s h) ∙ so_far

-- a fault of a step is the fault of the whole
pub failed : (e : ParseFault) (ts : List Spanned) (i : ℕ) (x : Spanned) (s : Edit) (w : Option Written) → i < length ts → x ≡ get_or ts i x → edits (lexemes (drop i ts)) (Some s) ≡ w → EditSteps (Err e) (edit_step (lexeme x.token) s) → EditGives (Err e) w
failed Syntax ts i x s w h is so_far fault = sym (kept ts i x s None w h is so_far fault) ∙ edits_none (lexemes (drop (i + 1) ts))
failed Limit ts i x s w h is so_far fault = fault
failed NoMemory ts i x s w h is so_far fault = tt

-- all lexemes are read
pub finished : (result : Result (SmallVec ℤ × code.Literal) ParseFault) (ts : List Spanned) (i : ℕ) (s : Edit) (w : Option Written) → length ts ≤ i → edits (lexemes (drop i ts)) (Some s) ≡ w → EditGives result (edit_end s) → EditGives result w
unfolding edits
finished result ts i s w h so_far given = subst (λ (o : Option Written). EditGives result o) (sym (ap (λ (xs : List Spanned). edits (lexemes xs) (Some s)) (drop_of_length-le ts h)) ∙ so_far) given

-- no edit ends before its first number
pub no_items : (ps ns : List ℤ) (s : Edit) → s ≡ Items ps ns → length ns ≡ 0 → edit_end s ≡ None
no_items ps [] s is none = ap edit_end is
no_items ps (n ∷ ns) s is none = absurd (omega arith)

pub not_none : (n : ℕ) (is_none : Bool) → is_none ≡ (n == 0) → is_none ≡ false → n ≡ 0 → ⊥
not_none n is_none tested refused none = let found : (n == 0) ≡ true = ap (λ (m : ℕ). m == 0) none in cc

pub some_items : (ps ns : List ℤ) (s : Edit) (l : Literal) → s ≡ Items ps ns → (length ns ≡ 0 → ⊥) → l ≡ Numbers ns → edit_end s ≡ Some (Write ps l)
some_items ps [] s l is some says = absurd (some refl)
some_items ps (n ∷ ns) s l is some says = ap edit_end is ∙ ap (λ (c : Literal). Some (Write ps c)) (sym says)
