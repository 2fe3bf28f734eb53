-- The answer to one line, and the answers to several.
use Rattle.std.{proofs.Common.{◌≡◌, ℕ, ◌+◌, ◌-◌, ◌<◌, ◌≤◌, Bool, true, false, eqb, ltb, List, [], ◌∷◌, ◌++◌, length, take, get_or, refl, sym, ap, subst, ◌∙◌, arith, count_by, replicate, append_assoc, codes, ⊎_elim}, specs.Prelude.{◌&&◌}, proofs.lemmas.Bool.{cases_lt, cond_both}, proofs.lemmas.List.Sums.{sum_by-append}}
use Rattle.std.{proofs.lemmas.List.{take_all, append-nil, length-take, length_push}, specs.Str.{IsUtf8, chars}}
use Rattle.sheet_cli.{specs.Lines.{longest_line, strip_cr, ended_lines, last_line}, specs.Answer.{State, IsTextAnswer, IsAnswer, too_long, not_text, of_text}, specs.Answers.{IsFlaggedAnswer, Answers, no_lines, line_first, Answered, LinesHaveOneAnswer, IsOnlyAnswer}}
use Rattle.sheet_cli.{specs.Progress.{most_kept, line_after, count_of, AnswersLine}, proofs.Cuts.{next_stripped, long_enough, kept_line}, proofs.OneAnswer.{line_one}}

-- a line of at least this length is too long even without its CR
longer : (line : List ℕ) → longest_line + 2 ≤ length line → longest_line < length (strip_cr line)
unfolding strip_cr
longer line h = cond_both (ltb 0 (length line) && eqb (get_or line (length line - 1) 0) 13) (take (length line - 1) line) line (λ (x : List ℕ). longest_line < length x)
    (λ e. rw length-take (omega arith)) (λ e. omega arith)

-- the first bytes decide the answer to a line that is too long
answer_of_long : (line line' : List ℕ) → longest_line + 2 ≤ length line → longest_line + 2 ≤ length line' → (old new : State) (answer : List ℕ) → IsAnswer old line answer new → IsAnswer old line' answer new
answer_of_long line line' h h' old new answer (too_long l) = too_long (longer line' h')
answer_of_long line line' h h' old new answer (not_text l n) = absurd (omega (arith, longer line h))
answer_of_long line line' h h' old new answer (of_text l u a) = absurd (omega (arith, longer line h))

answer_of_kept : (ls : List (List ℕ)) (line : List ℕ) (old new : State) (answer : List ℕ) → IsAnswer old (next_stripped ls (take most_kept line)) answer new → IsAnswer old (next_stripped ls line) answer new
answer_of_kept ls line old new answer a = ⊎_elim whole cut (cases_lt most_kept (length line))
  where
    whole : most_kept < length line → IsAnswer old (next_stripped ls line) answer new
    whole h = answer_of_long _ _ (long_enough ls (take most_kept line) (rw length-take (omega arith))) (long_enough ls line (omega arith)) old new answer a

    cut : length line ≤ most_kept → IsAnswer old (next_stripped ls line) answer new
    cut h = rw (take_all most_kept line h) at a

flagged_answer_of_kept : (flag : Bool) (ls : List (List ℕ)) (line : List ℕ) (old new : State) (answer : List ℕ) →
    IsFlaggedAnswer flag old (next_stripped ls (take most_kept line)) answer new → IsFlaggedAnswer flag old (next_stripped ls line) answer new
flagged_answer_of_kept true ls line old new answer a = a
flagged_answer_of_kept false ls line old new answer a = answer_of_kept ls line old new answer a

-- the answer to the kept bytes is the answer to the line
pub AnswersLine-kept : (old : State) (kept line input : List ℕ) (lines refused refused' : ℕ) (answer : List ℕ) (new : State) → kept ≡ take most_kept (last_line input) → lines ≡ length (ended_lines input) →
    line ≡ line_after lines kept → AnswersLine old line refused refused' answer new → AnswersLine old (next_stripped (ended_lines input) (last_line input)) refused refused' answer new
AnswersLine-kept old kept line input lines refused refused' answer new k n e a = record {
  flag = a.flag;
  refused_is = a.refused_is;
  answer_is = flagged_answer_of_kept a.flag (ended_lines input) (last_line input) old new answer (rw (e ∙ kept_line kept input lines k n) at a.answer_is);
}

-- the text printed for a line answers it, in one piece or two
pub AnswersLine-printed : (old : State) (line : List ℕ) (refused : ℕ) (printed text : List ℕ) (new : State) → printed ≡ text → IsAnswer old line printed new → AnswersLine old line refused refused text new
AnswersLine-printed old line refused printed text new e a = record { flag = false; refused_is = omega arith; answer_is = subst (λ (t : List ℕ). IsAnswer old line t new) e a }

-- one more answer
answers_push : {old mid new : State} {lines : List (List ℕ)} {flags : List Bool} {before : List ℕ} (line now : List ℕ) (flag : Bool) →
    Answers old lines flags before mid → IsFlaggedAnswer flag mid line now new → Answers old (lines ++ line ∷ []) (flags ++ flag ∷ []) (before ++ now) new
answers_push line now flag no_lines a = rw (← append-nil now) (line_first now [] a no_lines)
answers_push line now flag (line_first first later f rest) a = rw (append_assoc first later now) (line_first first (later ++ now) f (answers_push line now flag rest a))

count_by-push : (flags : List Bool) (flag : Bool) → count_by (λ f. f) (flags ++ flag ∷ []) ≡ count_by (λ f. f) flags + count_of flag
count_by-push flags flag = sum_by-append _ flags (flag ∷ []) ∙ ap (λ (n : ℕ). count_by (λ f. f) flags + n) (one flag)
  where
    one : (flag : Bool) → count_by (λ f. f) (flag ∷ []) ≡ count_of flag
    one true = refl
    one false = refl

-- some lines are answered, and one more
pub Answered-push : (old : State) (lines : List (List ℕ)) (refused : ℕ) (before : List ℕ) (mid : State) (line : List ℕ) (refused' : ℕ) (more : List ℕ) (new : State) →
    Answered old lines refused before mid → AnswersLine mid line refused refused' more new → Answered old (lines ++ line ∷ []) refused' (before ++ more) new
Answered-push old lines refused before mid line refused' more new a l = record {
  flags = a.flags ++ l.flag ∷ [];
  one_a_line = length_push a.flags l.flag ∙ ap (λ (n : ℕ). n + 1) a.one_a_line ∙ sym (length_push lines line);
  refused_is = count_by-push a.flags l.flag ∙ rw a.refused_is (sym l.refused_is);
  answers = answers_push line more l.flag a.answers l.answer_is;
}

pub Answered-none : (old : State) → Answered old [] 0 [] old
Answered-none old = record { flags = []; one_a_line = refl; refused_is = refl; answers = no_lines }

-- one line has one answer, flagged or not
flagged_one : (flag : Bool) (old : State) (line answer₁ answer₂ : List ℕ) (new₁ new₂ : State) → IsFlaggedAnswer flag old line answer₁ new₁ → IsFlaggedAnswer flag old line answer₂ new₂ → (answer₁ ≡ answer₂) × (new₁ ≡ new₂)
flagged_one true old line answer₁ answer₂ new₁ new₂ a b = (a.0 ∙ sym b.0, a.1 ∙ sym b.1)
flagged_one false old line answer₁ answer₂ new₁ new₂ a b = line_one old line answer₁ answer₂ new₁ new₂ a b

-- the parts of the answers to these lines with these flags
abbrev Parts : State → List (List ℕ) → List Bool → List ℕ → State → Type 0
Parts old [] [] answer new = (answer ≡ []) × (new ≡ old)
Parts old [] (flag ∷ flags) answer new = ⊥
Parts old (line ∷ lines) [] answer new = ⊥
Parts old (line ∷ lines) (flag ∷ flags) answer new =
    (mid : State) × (now : List ℕ) × (later : List ℕ) × IsFlaggedAnswer flag old line now mid × Answers mid lines flags later new × (answer ≡ now ++ later)

parts : {old new : State} {lines : List (List ℕ)} {flags : List Bool} {answer : List ℕ} → Answers old lines flags answer new → Parts old lines flags answer new
parts no_lines = (refl, refl)
parts (line_first {mid = mid} now later f rest) = (mid, now, later, f, rest, refl)

-- lines with their flags have one answer
pub answers_one : LinesHaveOneAnswer
answers_one old [] [] answer₁ answer₂ new₁ new₂ a b = let p = parts a in let q = parts b in (p.0 ∙ sym q.0, p.1 ∙ sym q.1)
answers_one old [] (flag ∷ flags) answer₁ answer₂ new₁ new₂ a b = absurd (parts a)
answers_one old (line ∷ lines) [] answer₁ answer₂ new₁ new₂ a b = absurd (parts a)
answers_one old (line ∷ lines) (flag ∷ flags) answer₁ answer₂ new₁ new₂ a b =
    let p = parts a in
    let q = parts b in
    let first = flagged_one flag old line p.1 q.1 p.0 q.0 p.3 q.3 in
    let rest = answers_one q.0 lines flags p.2 q.2 new₁ new₂ (rw first.1 at p.4) q.4 in
    (p.5 ∙ rw (first.0, rest.0) refl ∙ sym q.5, rest.1)

-- if no flag is set, the flags are all unset
no_flags : (flags : List Bool) → count_by (λ f. f) flags ≡ 0 → flags ≡ replicate (length flags) false
no_flags [] h = refl
no_flags (true ∷ flags) h = let e : 1 + count_by (λ f. f) flags ≡ 0 = sym (sum_by-append _ (true ∷ []) flags) ∙ h in absurd (omega (arith, e))
no_flags (false ∷ flags) h = ap (λ (t : List Bool). false ∷ t) (no_flags flags h)

-- if no line is refused memory, the lines have no other answer
pub only_answer : (old : State) (lines : List (List ℕ)) (refused : ℕ) (answer : List ℕ) (new : State) → Answered old lines refused answer new → refused ≡ 0 → IsOnlyAnswer old lines answer new
only_answer old lines refused answer new a z = λ answer' new' b.
    let same : b.flags ≡ a.flags = no_flags b.flags b.refused_is ∙ ap (λ (n : ℕ). replicate n false) (b.one_a_line ∙ sym a.one_a_line) ∙ sym (no_flags a.flags (a.refused_is ∙ z)) in
    answers_one old lines a.flags answer' answer new' new (rw same at b.answers) a.answers

pub answered_too_long : (old : State) (line answer : List ℕ) → answer ≡ codes "LINE TOO LONG\n" → longest_line < length (strip_cr line) → IsAnswer old line answer old
answered_too_long old line answer e h = rw e (too_long h)

pub answered_not_text : (old : State) (line answer : List ℕ) → answer ≡ codes "NOT TEXT\n" → length (strip_cr line) ≤ longest_line → (IsUtf8 (strip_cr line) → ⊥) → IsAnswer old line answer old
answered_not_text old line answer e h n = rw e (not_text h n)

pub answered_text : (old new : State) (line stripped cs answer : List ℕ) → stripped ≡ strip_cr line → length stripped ≤ longest_line → IsUtf8 stripped → cs ≡ chars stripped → IsTextAnswer old cs answer new → IsAnswer old line answer new
answered_text old new line stripped cs answer is h u e a = of_text (rw (← is) h) (rw (← is) u) (rw (← is, ← e) a)
