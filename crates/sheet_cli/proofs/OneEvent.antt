-- A slot command has one answer, except for want of memory, because each event of a desk has one.
use Rattle.std.{proofs.Common.{◌≡◌, ◌≢◌, ℕ, inl, inr, Bool, true, List, [], ◌∷◌, map, codes, Option, Some, None, refl, sym, ap, subst, ◌∙◌}, specs.Option.{option_map}, proofs.lemmas.Bool.{false≢true}}
use Rattle.sheet_recalc.specs.Changes.{SheetChange}
use Rattle.sheet_desk.{specs.Desk.{SlotValue, DeskValue, Event, Plain, Answer, Done, Left, Shown, Refused, stale, IsRefused, IsEvent}, specs.Histories.{told_of_slot, AreAlike, names_cycle, IsSameAnswer}, proofs.OneAnswer.{one_answer}}
use Rattle.sheet_cli.specs.Answer.{OpenChange, State, open_change, state_of, as_stale, IsChangeAnswered, accepted, refused, IsPrintedFor, IsAsked}
use Rattle.sheet_recalc.specs.declared.refusal.Refusal.TheVariants as why

-- answers depend on the part of a slot that a run keeps
abbrev told : OpenChange → SheetChange × Bool × ℕ
told o = (o.change, o.is_stale, o.left)

abbrev kept : SheetChange × Bool × ℕ → OpenChange
kept t = record { change = t.0; is_stale = t.1; left = t.2 }

told_open : (slots : List (Option SlotValue)) → map (option_map told_of_slot) slots ≡ map (option_map told) (map (option_map open_change) slots)
told_open [] = refl
told_open (None ∷ slots) = ap (λ (rest : List (Option (SheetChange × Bool × ℕ))). None ∷ rest) (told_open slots)
told_open (Some s ∷ slots) = ap (λ (rest : List (Option (SheetChange × Bool × ℕ))). Some (told_of_slot s) ∷ rest) (told_open slots)

kept_told : (slots : List (Option SlotValue)) → map (option_map open_change) slots ≡ map (option_map kept) (map (option_map told_of_slot) slots)
kept_told [] = refl
kept_told (None ∷ slots) = ap (λ (rest : List (Option OpenChange)). None ∷ rest) (kept_told slots)
kept_told (Some s ∷ slots) = ap (λ (rest : List (Option OpenChange)). Some (open_change s) ∷ rest) (kept_told slots)

alike : (d e : DeskValue) → state_of d ≡ state_of e → AreAlike d e
alike d e same = record {
  names = ap (λ (s : State). s.names) same;
  cost = ap (λ (s : State). s.cost) same;
  slots = told_open d.slots ∙ ap (λ (s : State). map (option_map told) s.slots) same ∙ sym (told_open e.slots);
}

one_state : (d e : DeskValue) → AreAlike d e → state_of d ≡ state_of e
one_state d e are =
    let slots = kept_told d.slots ∙ ap (λ (ts : List (Option (SheetChange × Bool × ℕ))). map (option_map kept) ts) are.slots ∙ sym (kept_told e.slots) in
    λ i. record { names = are.names i; cost = are.cost i; slots = slots i }

-- an answer has one text; all cycles have the same
printed_one : (a : Answer) (text₁ text₂ : List ℕ) → IsPrintedFor a text₁ → IsPrintedFor a text₂ → text₁ ≡ text₂
printed_one Done text₁ text₂ h k = h ∙ sym k
printed_one (Left n) text₁ text₂ h k = h ∙ sym k
printed_one (Shown outcome) text₁ text₂ h k = absurd h
printed_one (Refused cause) text₁ text₂ h k = h.0 ∙ sym k.0

cycle_text : (a : Answer) (text : List ℕ) → names_cycle a ≡ true → IsPrintedFor a text → text ≡ codes "CYCLE\n"
cycle_text Done text is h = absurd (false≢true is)
cycle_text (Left n) text is h = absurd (false≢true is)
cycle_text (Shown outcome) text is h = absurd (false≢true is)
cycle_text (Refused (why.Cycle names)) text is h = h.0
cycle_text (Refused why.NotFound) text is h = absurd (false≢true is)
cycle_text (Refused why.NotData) text is h = absurd (false≢true is)
cycle_text (Refused why.Rank) text is h = absurd (false≢true is)
cycle_text (Refused why.Length) text is h = absurd (false≢true is)
cycle_text (Refused why.Index) text is h = absurd (false≢true is)
cycle_text (Refused why.Domain) text is h = absurd (false≢true is)
cycle_text (Refused why.Limit) text is h = absurd (false≢true is)
cycle_text (Refused why.SheetFull) text is h = absurd (false≢true is)
cycle_text (Refused (why.Fault e)) text is h = absurd (false≢true is)
cycle_text (Refused why.NoMemory) text is h = absurd (false≢true is)
cycle_text (Refused why.Stale) text is h = absurd (false≢true is)
cycle_text (Refused why.NotReady) text is h = absurd (false≢true is)
cycle_text (Refused why.NoSlot) text is h = absurd (false≢true is)
cycle_text (Refused why.SlotInUse) text is h = absurd (false≢true is)

pub texts_one : (a b : Answer) (text₁ text₂ : List ℕ) → IsSameAnswer a b → IsPrintedFor a text₁ → IsPrintedFor b text₂ → text₁ ≡ text₂
texts_one a b text₁ text₂ (inl same) h k = printed_one b text₁ text₂ (subst (λ (x : Answer). IsPrintedFor x text₁) same h) k
texts_one a b text₁ text₂ (inr cycles) h k = cycle_text a text₁ cycles.0 h ∙ sym (cycle_text b text₂ cycles.1 k)

-- want of memory has no such text
no_memory : (a : Answer) (text : List ℕ) → IsPrintedFor a text → a ≢ Refused why.NoMemory
no_memory Done text h e = let no : ⊥ = cc in no
no_memory (Left n) text h e = let no : ⊥ = cc in no
no_memory (Shown outcome) text h e = h
no_memory (Refused cause) text h e = h.1 (let same : cause ≡ why.NoMemory = cc in same)

-- a slot command has one answer and leads to one state
pub asked_one : (old : State) (event : Event) (text₁ text₂ : List ℕ) (new₁ new₂ : State) → IsAsked old event text₁ new₁ → IsAsked old event text₂ new₂ → (text₁ ≡ text₂) × (new₁ ≡ new₂)
asked_one old event text₁ text₂ new₁ new₂ a b =
    let one = one_answer a.before b.before a.after b.after event a.answer b.answer (alike a.before b.before (a.before_is ∙ sym b.before_is)) a.event_is b.event_is
    (no_memory a.answer text₁ a.text_is) (no_memory b.answer text₂ b.text_is) in
    (texts_one a.answer b.answer text₁ text₂ one.0 a.text_is b.text_is, sym a.after_is ∙ one_state a.after b.after one.1 ∙ b.after_is)

open_stale : (slots : List (Option SlotValue)) → map (option_map open_change) (map (option_map stale) slots) ≡ map (option_map as_stale) (map (option_map open_change) slots)
open_stale [] = refl
open_stale (None ∷ slots) = ap (λ (rest : List (Option OpenChange)). None ∷ rest) (open_stale slots)
open_stale (Some s ∷ slots) = ap (λ (rest : List (Option OpenChange)). Some (as_stale (open_change s)) ∷ rest) (open_stale slots)

-- a plain change is an edit
pub plain_edited : (d next : DeskValue) (change : SheetChange) (answer : Answer) (text : List ℕ) → IsEvent d (Plain change) answer next → IsPrintedFor answer text → IsChangeAnswered (state_of d) change text (state_of next)
plain_edited d next change Done text made h = rw h (accepted made.accepts made.cost (ap (λ (slots : List (Option SlotValue)). map (option_map open_change) slots) made.slots ∙ open_stale d.slots))
plain_edited d next change (Left n) text e h = absurd e
plain_edited d next change (Shown outcome) text e h = absurd h
plain_edited d next change (Refused cause) text e h = by e.0
  where
    by : IsRefused d (Plain change) cause → IsChangeAnswered (state_of d) change text (state_of next)
    by (inl slot) = let never : None ≡ Some cause = slot in absurd (let no : ⊥ = cc in no)
    by (inr then) = rw (e.1, h.0) (refused cause then.1 h.1)
