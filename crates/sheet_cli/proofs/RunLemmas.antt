-- The progress of a run from one pull to the next.
use Rattle.std.{proofs.Common.{◌≡◌, ℕ, ◌+◌, ◌<◌, ◌≤◌, Bool, true, List, [], ◌∷◌, ◌++◌, length, take, refl, sym, ap, ◌∙◌, arith, Option, Result, Ok, Err, OnOk, OnErr, append_assoc, ⊎_elim, ◌⊎◌, inl, inr, length-append}, proofs.lemmas.List.{append-nil, length_push}}
use Rattle.std.specs.Io.KnownBytes.{Appends, Consumes, Keeps, IsAtEnd}
use Rattle.sheet_cli.{specs.declared.run_loop.Tally.{Tally}, specs.Lines.{ended_lines, last_line, lines_of, whole_lines_of}, specs.Answer.{State}, specs.Answers.{StoppedAt}, specs.Run.{Completes, BreaksOff, IsCut}}
use Rattle.sheet_cli.specs.Progress.{most_kept, first_stripped, line_after, AnswersLine, Standing, standing, IsMidway, Feeds, StopsIn, Finishes, StopsAtEnd}
use Rattle.sheet_cli.proofs.Cuts.{next_stripped, ended_lines-lf, last_line-lf, ended_lines-piece, last_line-piece, take-piece, ended_lines-bom, first_stripped-push, first_stripped-append, length-first_stripped, ended_lines-append, kept_empty, line_if_any-none, line_if_any-some, lines_of-is, kept_line}
use Rattle.sheet_cli.{proofs.Devices.{Appends-none, Appends-more, Consumes-none, Consumes-more, Consumes-keeps}, proofs.AnswerLemmas.{AnswersLine-kept, Answered-push, Answered-none, only_answer}}

-- before the first byte
pub IsMidway-start : (old : State) (tally : Tally) → tally ≡ record { lines = 0; refused_for_memory = 0 } → IsMidway old [] (standing [] tally old) []
unfolding ended_lines last_line first_stripped
IsMidway-start old tally e = record { kept_is = refl; lines_is = ap (λ (t : Tally). t.lines) e; answered = rw e (Answered-none old) }

-- bytes without an LF
pub Feeds-piece : (bytes kept kept' : List ℕ) (tally : Tally) (state : State) → ended_lines bytes ≡ [] → kept' ≡ take most_kept (kept ++ bytes) →
    Feeds bytes (standing kept tally state) [] (standing kept' tally state)
Feeds-piece bytes kept kept' tally state h e = λ old input before m. record {
  kept_is = e ∙ rw (m.kept_is, last_line-piece input bytes h) (take-piece most_kept (last_line input) bytes);
  lines_is = rw (ended_lines-piece input bytes h) m.lines_is;
  answered = rw (ended_lines-piece input bytes h, append-nil) m.answered;
}

pub Feeds-none : (here : Standing) → Feeds [] here [] here
Feeds-none here = λ old input before m. rw (append-nil input, append-nil before) m

pub Feeds-more : (bytes₁ bytes₂ text₁ text₂ : List ℕ) (here mid there : Standing) → Feeds bytes₁ here text₁ mid → Feeds bytes₂ mid text₂ there → Feeds (bytes₁ ++ bytes₂) here (text₁ ++ text₂) there
Feeds-more b₁ b₂ t₁ t₂ here mid there f f' = λ old input before m.
    rw (← append_assoc input b₁ b₂, ← append_assoc before t₁ t₂) (f' old (input ++ b₁) (before ++ t₁) (f old input before m))

-- an LF after the line before it was answered
pub Feeds-line : (kept kept' line text : List ℕ) (tally tally' : Tally) (state state' : State) → kept' ≡ [] → tally'.lines ≡ tally.lines + 1 →
    line ≡ line_after tally.lines kept → AnswersLine state line tally.refused_for_memory tally'.refused_for_memory text state' → Feeds (10 ∷ []) (standing kept tally state) text (standing kept' tally' state')
Feeds-line kept kept' line text tally tally' state state' k n e a = λ old input before m. record {
  kept_is = k ∙ rw (last_line-lf input) refl;
  lines_is = rw (ended_lines-lf input, length_push) (n ∙ ap (λ (l : ℕ). l + 1) m.lines_is);
  answered = rw (ended_lines-lf input, first_stripped-push) (Answered-push _ _ _ _ _ _ _ _ _ m.answered (AnswersLine-kept state kept line input _ _ _ text state' m.kept_is m.lines_is e a));
}

-- an LF after only a part of the answer was written
pub StopsIn-line : (kept line part unwritten : List ℕ) (tally : Tally) (refused' : ℕ) (state state' : State) →
    line ≡ line_after tally.lines kept → AnswersLine state line tally.refused_for_memory refused' (part ++ unwritten) state' → StopsIn (10 ∷ []) (standing kept tally state) part state'
StopsIn-line kept line part unwritten tally refused' state state' e a = λ old input before m. let k = AnswersLine-kept state kept line input _ _ refused' (part ++ unwritten) state' m.kept_is m.lines_is e a in record {
  earlier = first_stripped (ended_lines input);
  last = next_stripped (ended_lines input) (last_line input);
  later = [];
  lines_are = rw (ended_lines-lf input, first_stripped-push) refl;
  refused = tally.refused_for_memory;
  whole = before;
  state = state;
  answered = m.answered;
  flag = k.flag;
  part = part;
  unwritten = unwritten;
  last_answer = k.answer_is;
  written_is = refl;
}

pub StopsIn-more : (bytes₁ bytes₂ text₁ text₂ : List ℕ) (here mid : Standing) (new : State) → Feeds bytes₁ here text₁ mid → StopsIn bytes₂ mid text₂ new → StopsIn (bytes₁ ++ bytes₂) here (text₁ ++ text₂) new
StopsIn-more b₁ b₂ t₁ t₂ here mid new f f' = λ old input before m.
    rw (← append_assoc input b₁ b₂, ← append_assoc before t₁ t₂) (f' old (input ++ b₁) (before ++ t₁) (f old input before m))

StoppedAt-later : (old : State) (lines more : List (List ℕ)) (written : List ℕ) (new : State) → StoppedAt old lines written new → StoppedAt old (lines ++ more) written new
StoppedAt-later old lines more written new s = record {
  earlier = s.earlier;
  last = s.last;
  later = s.later ++ more;
  lines_are = ap (λ (ls : List (List ℕ)). ls ++ more) s.lines_are ∙ append_assoc s.earlier (s.last ∷ s.later) more;
  refused = s.refused;
  whole = s.whole;
  state = s.state;
  answered = s.answered;
  flag = s.flag;
  part = s.part;
  unwritten = s.unwritten;
  last_answer = s.last_answer;
  written_is = s.written_is;
}

StoppedAt-some : (old : State) (lines : List (List ℕ)) (written : List ℕ) (new : State) → StoppedAt old lines written new → 0 < length lines
StoppedAt-some old lines written new s = omega (arith, simp length-append at (ap length s.lines_are))

-- more bytes add lines at the end
pub StopsIn-later : (bytes more text : List ℕ) (here : Standing) (new : State) → StopsIn bytes here text new → StopsIn (bytes ++ more) here text new
StopsIn-later bytes more text here new f = λ old input before m.
    let s = f old input before m in
    let some : 0 < length (ended_lines (input ++ bytes)) = rw (← length-first_stripped (ended_lines (input ++ bytes))) (StoppedAt-some old _ _ new s) in
    let all = ended_lines-append (input ++ bytes) more in
    rw (← append_assoc input bytes more, all.1, first_stripped-append (ended_lines (input ++ bytes)) all.0 some) (StoppedAt-later old _ all.0 _ new s)

-- no byte follows the last LF
pub Finishes-none : (kept line : List ℕ) (tally : Tally) (state : State) → length line ≡ 0 → line ≡ line_after tally.lines kept → Finishes (standing kept tally state) [] tally state
Finishes-none kept line tally state h e = λ old input before m.
    let no_line : length (next_stripped (ended_lines input) (last_line input)) ≡ 0 = (kept_empty (ended_lines input) (last_line input)).0 (ap length (sym (e ∙ kept_line kept input tally.lines m.kept_is m.lines_is)) ∙ h) in
    let all : lines_of input ≡ first_stripped (ended_lines input) = lines_of-is input ∙ rw (line_if_any-none _ no_line, append-nil) refl in
    record { answered = rw (append-nil, all) m.answered; counted = rw all (m.lines_is ∙ sym (length-first_stripped (ended_lines input))) }

last_one_more : (kept line input : List ℕ) (lines : ℕ) → 0 < length line → line ≡ line_after lines kept → kept ≡ take most_kept (last_line input) → lines ≡ length (ended_lines input) →
    lines_of input ≡ first_stripped (ended_lines input) ++ next_stripped (ended_lines input) (last_line input) ∷ []
last_one_more kept line input lines h e k n =
    let some : 0 < length (next_stripped (ended_lines input) (last_line input)) = (kept_empty (ended_lines input) (last_line input)).1 (rw (← (e ∙ kept_line kept input lines k n)) h) in
    lines_of-is input ∙ ap (λ (ls : List (List ℕ)). first_stripped (ended_lines input) ++ ls) (line_if_any-some _ some)

-- a last line is answered
pub Finishes-line : (kept line text : List ℕ) (tally tally' : Tally) (state state' : State) → 0 < length line → tally'.lines ≡ tally.lines + 1 →
    line ≡ line_after tally.lines kept → AnswersLine state line tally.refused_for_memory tally'.refused_for_memory text state' → Finishes (standing kept tally state) text tally' state'
Finishes-line kept line text tally tally' state state' h n e a = λ old input before m.
    let all = last_one_more kept line input tally.lines h e m.kept_is m.lines_is in
    record {
      answered = rw all (Answered-push _ _ _ _ _ _ _ _ _ m.answered (AnswersLine-kept state kept line input _ _ _ text state' m.kept_is m.lines_is e a));
      counted = rw all (n ∙ rw (length_push, length-first_stripped) (ap (λ (k : ℕ). k + 1) m.lines_is));
    }

-- a part of its answer is written
pub StopsAtEnd-line : (kept line part unwritten : List ℕ) (tally : Tally) (refused' : ℕ) (state state' : State) → 0 < length line →
    line ≡ line_after tally.lines kept → AnswersLine state line tally.refused_for_memory refused' (part ++ unwritten) state' → StopsAtEnd (standing kept tally state) part state'
StopsAtEnd-line kept line part unwritten tally refused' state state' h e a = λ old input before m. let k = AnswersLine-kept state kept line input _ _ refused' (part ++ unwritten) state' m.kept_is m.lines_is e a in inl (record {
  earlier = first_stripped (ended_lines input);
  last = next_stripped (ended_lines input) (last_line input);
  later = [];
  lines_are = last_one_more kept line input tally.lines h e m.kept_is m.lines_is;
  refused = tally.refused_for_memory;
  whole = before;
  state = state;
  answered = m.answered;
  flag = k.flag;
  part = part;
  unwritten = unwritten;
  last_answer = k.answer_is;
  written_is = refl;
})

-- all lines are answered, and the flush fails
pub StopsAtEnd-flush : (here : Standing) (text : List ℕ) (tally : Tally) (new : State) → Finishes here text tally new → StopsAtEnd here text new
StopsAtEnd-flush here text tally new f = λ old input before m. inr (tally.refused_for_memory, (f old input before m).answered)

pub OnErr-from : {T E P : Type 0} (r : Result T E) → P → OnErr r P
OnErr-from (Ok x) p = tt
OnErr-from (Err e) p = p

pub OnOk-from : {T E P : Type 0} (r : Result T E) → P → OnOk r P
OnOk-from (Ok x) p = p
OnOk-from (Err e) p = tt

-- the same for equal bytes
pub Feeds-is : (bytes all text : List ℕ) (here there : Standing) → all ≡ bytes → Feeds bytes here text there → Feeds all here text there
Feeds-is bytes all text here there e f = λ old input before m. rw e (f old input before m)

pub StopsIn-is : (bytes all text : List ℕ) (here : Standing) (new : State) → all ≡ bytes → StopsIn bytes here text new → StopsIn all here text new
StopsIn-is bytes all text here new e f = λ old input before m. rw e (f old input before m)

-- the effect of a run between two pulls
pub record IsRunning (source₁ source₂ sink₁ sink₂ : Option (List ℕ)) (old : State) (here : Standing) (bytes_read : ℕ) : Type 0 where
  pub input : List ℕ
  pub text : List ℕ
  pub read : Consumes source₁ source₂ input
  pub wrote : Appends sink₁ sink₂ text
  pub midway : IsMidway old input here text
  pub length_is : length input ≡ bytes_read
  pub few_lines : here.tally.lines ≤ bytes_read
  pub few_refused : here.tally.refused_for_memory ≤ bytes_read

pub IsRunning-start : (source sink : Option (List ℕ)) (old : State) (kept : List ℕ) (tally : Tally) → kept ≡ [] → tally ≡ record { lines = 0; refused_for_memory = 0 } →
    IsRunning source source sink sink old (standing kept tally old) 0
IsRunning-start source sink old kept tally k t = record {
  input = [];
  text = [];
  read = Consumes-none source;
  wrote = Appends-none sink;
  midway = rw k (IsMidway-start old tally t);
  length_is = refl;
  few_lines = omega (arith, ap (λ (u : Tally). u.lines) t);
  few_refused = omega (arith, ap (λ (u : Tally). u.refused_for_memory) t);
}

pub IsRunning-more : (source₁ source₂ source₃ sink₁ sink₂ sink₃ : Option (List ℕ)) (old : State) (here there : Standing) (bytes_read n : ℕ) (bytes text : List ℕ) →
    IsRunning source₁ source₂ sink₁ sink₂ old here bytes_read → Consumes source₂ source₃ bytes → Appends sink₂ sink₃ text → length bytes ≡ n →
    there.tally.lines ≤ here.tally.lines + n → there.tally.refused_for_memory ≤ here.tally.refused_for_memory + n → Feeds bytes here text there →
    IsRunning source₁ source₃ sink₁ sink₃ old there (bytes_read + n)
IsRunning-more source₁ source₂ source₃ sink₁ sink₂ sink₃ old here there bytes_read n bytes text r c a e l f feeds = record {
  input = r.input ++ bytes;
  text = r.text ++ text;
  read = Consumes-more source₁ source₂ source₃ r.input bytes r.read c;
  wrote = Appends-more sink₁ sink₂ sink₃ r.text text r.wrote a;
  midway = feeds old r.input r.text r.midway;
  length_is = rw length-append (omega (arith, r.length_is));
  few_lines = omega (arith, r.few_lines);
  few_refused = omega (arith, r.few_refused);
}

pub Completes-from : (source₁ source₂ source₃ sink₁ sink₂ sink₃ : Option (List ℕ)) (old : State) (here : Standing) (bytes_read : ℕ) (text : List ℕ) (tally : Tally) (new : State) →
    IsRunning source₁ source₂ sink₁ sink₂ old here bytes_read → Consumes source₂ source₃ [] → IsAtEnd source₃ → Appends sink₂ sink₃ text → Finishes here text tally new →
    Completes source₁ source₃ sink₁ sink₃ old new tally
Completes-from source₁ source₂ source₃ sink₁ sink₂ sink₃ old here bytes_read text tally new r c e a f = let done = f old r.input r.text r.midway in record {
  input = r.input;
  text = r.text ++ text;
  read = rw append-nil at (Consumes-more source₁ source₂ source₃ r.input [] r.read c);
  at_end = e;
  wrote = Appends-more sink₁ sink₂ sink₃ r.text text r.wrote a;
  answered = done.answered;
  counted = done.counted;
  only = only_answer old (lines_of r.input) tally.refused_for_memory (r.text ++ text) new done.answered;
}

pub BreaksOff-from : (source₁ source₂ source₃ sink₁ sink₂ : Option (List ℕ)) (failed : Bool) (old : State) (here : Standing) (bytes_read : ℕ) →
    IsRunning source₁ source₂ sink₁ sink₂ old here bytes_read → Keeps source₂ source₃ → (failed ≡ true) ⊎ (bytes_read ≡ 18446744073709551615) →
    BreaksOff source₁ source₃ sink₁ sink₂ failed old here.state
unfolding whole_lines_of
BreaksOff-from source₁ source₂ source₃ sink₁ sink₂ failed old here bytes_read r k why = record {
  input = r.input;
  text = r.text;
  read = Consumes-keeps source₁ source₂ source₃ r.input r.read k;
  why = ⊎_elim (λ e. inl e) (λ e. inr (r.length_is ∙ e)) why;
  wrote = r.wrote;
  refused = here.tally.refused_for_memory;
  answered = rw (ended_lines-bom r.input) r.midway.answered;
}

pub IsCut-midway : (source₁ source₂ source₃ sink₁ sink₂ sink₃ : Option (List ℕ)) (failed : Bool) (old : State) (here : Standing) (bytes_read : ℕ) (bytes text : List ℕ) (new : State) →
    IsRunning source₁ source₂ sink₁ sink₂ old here bytes_read → Consumes source₂ source₃ bytes → Appends sink₂ sink₃ text → failed ≡ true → StopsIn bytes here text new →
    IsCut source₁ source₃ sink₁ sink₃ failed old new
unfolding whole_lines_of
IsCut-midway source₁ source₂ source₃ sink₁ sink₂ sink₃ failed old here bytes_read bytes text new r c a b s = record {
  input = r.input ++ bytes;
  written = r.text ++ text;
  read = Consumes-more source₁ source₂ source₃ r.input bytes r.read c;
  why = b;
  wrote = Appends-more sink₁ sink₂ sink₃ r.text text r.wrote a;
  carried_out = inl (inl (rw (ended_lines-bom (r.input ++ bytes)) (s old r.input r.text r.midway)));
}

pub IsCut-end : (source₁ source₂ source₃ sink₁ sink₂ sink₃ : Option (List ℕ)) (failed : Bool) (old : State) (here : Standing) (bytes_read : ℕ) (text : List ℕ) (new : State) →
    IsRunning source₁ source₂ sink₁ sink₂ old here bytes_read → Consumes source₂ source₃ [] → IsAtEnd source₃ → Appends sink₂ sink₃ text → failed ≡ true →
    StopsAtEnd here text new → IsCut source₁ source₃ sink₁ sink₃ failed old new
IsCut-end source₁ source₂ source₃ sink₁ sink₂ sink₃ failed old here bytes_read text new r c e a b s = record {
  input = r.input;
  written = r.text ++ text;
  read = rw append-nil at (Consumes-more source₁ source₂ source₃ r.input [] r.read c);
  why = b;
  wrote = Appends-more sink₁ sink₂ sink₃ r.text text r.wrote a;
  carried_out = inr (e, s old r.input r.text r.midway);
}
