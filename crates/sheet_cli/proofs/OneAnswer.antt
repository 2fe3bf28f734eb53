-- A line has one answer and leads to one state.
use Rattle.std.{proofs.Common.{◌≡◌, ℕ, ◌<◌, ◌≤◌, ◌⊎◌, inl, inr, ℤ, List, length, Option, Some, None, Ok, Err, refl, sym, ap, subst, ◌∙◌, arith}, proofs.lemmas.List.{length-map}}
use Rattle.apl_tokens.{specs.Scans.{Scans, SpannedLexeme, Fault, SyntaxAt, LimitAt}, proofs.Complete.{one_answer_of}}
use Rattle.apl_expr.{specs.Limits.{most_tokens}, specs.declared.fault.LineFault.TheVariants.{Syntax, Limit}, specs.Grammar.{IsTooLarge}, specs.Lines.{Meaning, Nothing, Define, Data, Cell, Row, Erase, Show, Names, Cost, Csv, Open, Step, Commit, Drop, IsLine, HasTree}, specs.Answers.{lexemes_of, IsAnswered, IsReadAs}}
use Rattle.apl_expr.proofs.Commands.{one_meaning_of}
use Rattle.sheet_cli.{specs.Answer.{State, change_meant, IsOpening, IsCarriedOut, IsTextAnswer, no_line, too_large, carried_out, too_long, not_text, of_text}, specs.Answers.{EachLineHasOneAnswer}, proofs.OneEdit.{edit_one}, proofs.OneEvent.{asked_one}}
use Rattle.sheet_recalc.specs.Changes as change
use Rattle.sheet_desk.specs.Desk as desk

module _ (cs : List ℕ) where
  tokens_one : (ts us : List SpannedLexeme) → Scans 0 cs (Ok ts) → Scans 0 cs (Ok us) → us ≡ ts
  tokens_one ts us a b = let e : Ok us ≡ Ok ts = one_answer_of 0 cs (Ok us) (Ok ts) b a in cc

  tokens_or_fault : (ts : List SpannedLexeme) (f : Fault) → Scans 0 cs (Ok ts) → Scans 0 cs (Err f) → ⊥
  tokens_or_fault ts f a b = let e : Ok ts ≡ Err f = one_answer_of 0 cs (Ok ts) (Err f) a b in absurd cc

  syntax_or_limit : (m n m' n' : ℕ) → Scans 0 cs (Err (SyntaxAt m n)) → Scans 0 cs (Err (LimitAt m' n')) → ⊥
  syntax_or_limit m n m' n' a b = let e : Err (SyntaxAt m n) ≡ Err (LimitAt m' n') = one_answer_of 0 cs (Err (SyntaxAt m n)) (Err (LimitAt m' n')) a b in absurd cc

  -- a line of the grammar has the same tokens
  line_in : (ts us : List SpannedLexeme) (m : Meaning) → Scans 0 cs (Ok ts) → Scans 0 cs (Ok us) → IsLine (lexemes_of us) m → IsLine (lexemes_of ts) m
  line_in ts us m a b l = subst (λ (xs : List SpannedLexeme). IsLine (lexemes_of xs) m) (tokens_one ts us a b) l

  short_in : (ts us : List SpannedLexeme) → Scans 0 cs (Ok ts) → Scans 0 cs (Ok us) → length (lexemes_of us) ≤ most_tokens → most_tokens < length (lexemes_of ts) → ⊥
  short_in ts us a b short long = let e : length (lexemes_of us) ≡ length (lexemes_of ts) = ap (λ (xs : List SpannedLexeme). length (lexemes_of xs)) (tokens_one ts us a b) in omega (arith, e, short, long)

  no_line_or_too_large : IsAnswered cs (Err Syntax) → IsAnswered cs (Err Limit) → ⊥
  no_line_or_too_large (inl a) (inl b) = syntax_or_limit a.0 a.1 b.0 b.1 a.2 b.2
  no_line_or_too_large (inl a) (inr b) = tokens_or_fault b.0 (SyntaxAt a.0 a.1) b.1 a.2
  no_line_or_too_large (inr a) (inl b) = tokens_or_fault a.0 (LimitAt b.0 b.1) a.1 b.2
  no_line_or_too_large (inr a) (inr b) = by b.2
    where
      by : (most_tokens < length (lexemes_of b.0)) ⊎ ((m : Meaning) × IsLine (lexemes_of b.0) m × HasTree IsTooLarge m) → ⊥
      by (inl long) = short_in b.0 a.0 b.1 a.1 a.2.0 long
      by (inr l) = a.2.1 l.0 (line_in a.0 b.0 l.0 a.1 b.1 l.1)

  no_line_or_read : (m : Meaning) → IsAnswered cs (Err Syntax) → IsReadAs cs m → ⊥
  no_line_or_read m (inl a) b = tokens_or_fault b.0 (SyntaxAt a.0 a.1) b.1 a.2
  no_line_or_read m (inr a) b = a.2.1 m (line_in a.0 b.0 m a.1 b.1 b.3)

  too_large_or_read : (m : Meaning) → IsAnswered cs (Err Limit) → IsReadAs cs m → ⊥
  too_large_or_read m (inl a) b = tokens_or_fault b.0 (LimitAt a.0 a.1) b.1 a.2
  too_large_or_read m (inr a) b = by a.2
    where
      by : (most_tokens < length (lexemes_of a.0)) ⊎ ((k : Meaning) × IsLine (lexemes_of a.0) k × HasTree IsTooLarge k) → ⊥
      by (inl long) = short_in a.0 b.0 a.1 b.1 (rw (length-map b.0 (λ (t : SpannedLexeme). t.lexeme)) b.2) long
      by (inr l) = b.4 (subst (λ (k : Meaning). HasTree IsTooLarge k) (one_meaning_of l.1 m (line_in a.0 b.0 m a.1 b.1 b.3)) l.2)

  read_one : (m n : Meaning) → IsReadAs cs m → IsReadAs cs n → n ≡ m
  read_one m n a b = sym (one_meaning_of a.3 n (line_in a.0 b.0 n a.1 b.1 b.3))

opening_one : (old : State) (k : ℤ) (edit : Option change.SheetChange) (text₁ text₂ : List ℕ) (new₁ new₂ : State) → IsOpening old k edit text₁ new₁ → IsOpening old k edit text₂ new₂ → (text₁ ≡ text₂) × (new₁ ≡ new₂)
opening_one old k None text₁ text₂ new₁ new₂ a b = absurd a
opening_one old k (Some edit) text₁ text₂ new₁ new₂ a b = asked_one old (desk.Open k edit) text₁ text₂ new₁ new₂ a b

carried_out_one : (old : State) (m : Meaning) (text₁ text₂ : List ℕ) (new₁ new₂ : State) → IsCarriedOut old m text₁ new₁ → IsCarriedOut old m text₂ new₂ → (text₁ ≡ text₂) × (new₁ ≡ new₂)
carried_out_one old Nothing text₁ text₂ new₁ new₂ a b = (a.0 ∙ sym b.0, a.1 ∙ sym b.1)
carried_out_one old (Define n t) text₁ text₂ new₁ new₂ a b = edit_one old (change.Define n t) text₁ text₂ new₁ new₂ a b
carried_out_one old (Data n t) text₁ text₂ new₁ new₂ a b = edit_one old (change.Store n t) text₁ text₂ new₁ new₂ a b
carried_out_one old (Cell n positions literal) text₁ text₂ new₁ new₂ a b = edit_one old (change.SetCell n positions literal) text₁ text₂ new₁ new₂ a b
carried_out_one old (Row n literal) text₁ text₂ new₁ new₂ a b = edit_one old (change.AddRow n literal) text₁ text₂ new₁ new₂ a b
carried_out_one old (Erase n) text₁ text₂ new₁ new₂ a b = edit_one old (change.Erase n) text₁ text₂ new₁ new₂ a b
carried_out_one old (Show t) text₁ text₂ new₁ new₂ a b = (a.0 ∙ sym b.0, a.1 ∙ sym b.1)
carried_out_one old Names text₁ text₂ new₁ new₂ a b = (a.0 ∙ sym b.0, a.1 ∙ sym b.1)
carried_out_one old Cost text₁ text₂ new₁ new₂ a b = (a.0 ∙ sym b.0, a.1 ∙ sym b.1)
carried_out_one old (Csv n) text₁ text₂ new₁ new₂ a b = (a.0 ∙ sym b.0, a.1 ∙ sym b.1)
carried_out_one old (Open k m) text₁ text₂ new₁ new₂ a b = opening_one old k (change_meant m) text₁ text₂ new₁ new₂ a b
carried_out_one old (Step k) text₁ text₂ new₁ new₂ a b = asked_one old (desk.Step k) text₁ text₂ new₁ new₂ a b
carried_out_one old (Commit k) text₁ text₂ new₁ new₂ a b = asked_one old (desk.Commit k) text₁ text₂ new₁ new₂ a b
carried_out_one old (Drop k) text₁ text₂ new₁ new₂ a b = asked_one old (desk.Drop k) text₁ text₂ new₁ new₂ a b

text_one : (old : State) (cs text₁ text₂ : List ℕ) (new₁ new₂ : State) → IsTextAnswer old cs text₁ new₁ → IsTextAnswer old cs text₂ new₂ → (text₁ ≡ text₂) × (new₁ ≡ new₂)
text_one old cs text₁ text₂ new₁ new₂ (no_line a) (no_line b) = (refl, refl)
text_one old cs text₁ text₂ new₁ new₂ (no_line a) (too_large b) = absurd (no_line_or_too_large cs a b)
text_one old cs text₁ text₂ new₁ new₂ (no_line a) (carried_out m b d) = absurd (no_line_or_read cs m a b)
text_one old cs text₁ text₂ new₁ new₂ (too_large a) (no_line b) = absurd (no_line_or_too_large cs b a)
text_one old cs text₁ text₂ new₁ new₂ (too_large a) (too_large b) = (refl, refl)
text_one old cs text₁ text₂ new₁ new₂ (too_large a) (carried_out m b d) = absurd (too_large_or_read cs m a b)
text_one old cs text₁ text₂ new₁ new₂ (carried_out m a c) (no_line b) = absurd (no_line_or_read cs m b a)
text_one old cs text₁ text₂ new₁ new₂ (carried_out m a c) (too_large b) = absurd (too_large_or_read cs m b a)
text_one old cs text₁ text₂ new₁ new₂ (carried_out m a c) (carried_out n b d) =
    carried_out_one old m text₁ text₂ new₁ new₂ c (subst (λ (k : Meaning). IsCarriedOut old k text₂ new₂) (read_one cs m n a b) d)

pub line_one : EachLineHasOneAnswer
line_one old line text₁ text₂ new₁ new₂ (too_long a) (too_long b) = (refl, refl)
line_one old line text₁ text₂ new₁ new₂ (too_long a) (not_text b n) = absurd (omega arith)
line_one old line text₁ text₂ new₁ new₂ (too_long a) (of_text b u c) = absurd (omega arith)
line_one old line text₁ text₂ new₁ new₂ (not_text a n) (too_long b) = absurd (omega arith)
line_one old line text₁ text₂ new₁ new₂ (not_text a n) (not_text b m) = (refl, refl)
line_one old line text₁ text₂ new₁ new₂ (not_text a n) (of_text b u c) = absurd (n u)
line_one old line text₁ text₂ new₁ new₂ (of_text a u c) (too_long b) = absurd (omega arith)
line_one old line text₁ text₂ new₁ new₂ (of_text a u c) (not_text b n) = absurd (n u)
line_one old line text₁ text₂ new₁ new₂ (of_text a u c) (of_text b v d) = text_one old _ text₁ text₂ new₁ new₂ c d
