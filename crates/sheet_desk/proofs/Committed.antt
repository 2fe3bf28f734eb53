-- The names after events are the result of the changes that were made.
use Rattle.std.{proofs.Common.{◌≡◌, ℕ, zero, suc, ℤ, List, [], ◌∷◌, ◌++◌, map, Option, Some, None, refl, sym, ap, subst, ◌∙◌, arith}, specs.Option.{option_map}}
use Rattle.{formula_core.specs.Meaning.{eval}, sheet_recalc.{specs.Names.{Names}, specs.Meaning.{val}, specs.Changes.{SheetChange, Accepts}}}
use Rattle.sheet_desk.{specs.Slots.{with_slot}, specs.Desk.{DeskValue, SlotValue, Event, Open, Step, Commit, Drop, Plain, Show, Answer, Done, Left, Shown, Refused, stale, with_held, IsEvent, IsMade, IsStepped}}
use Rattle.sheet_desk.{specs.Histories.{open_changes, the_change, made_by, opened_after, committed, AreAccepted, NamesAreOfChangesCommitted, ShowsAreOfChangesCommitted}, proofs.Slotted.{slot_in-map, with_slot-map}, proofs.Placed.{with_slot_same}, proofs.Spent.{accepts_one}}

accepted_append : (old mid new : Names) (xs ys : List SheetChange) → AreAccepted old xs mid → AreAccepted mid ys new → AreAccepted old (xs ++ ys) new
accepted_append old mid new [] ys h rest = subst (λ (names : Names). AreAccepted names ys new) h rest
accepted_append old mid new (x ∷ xs) ys h rest = (h.0, h.1, accepted_append h.0 mid new xs ys h.2 rest)

accepted_one : (old new₁ new₂ : Names) (xs : List SheetChange) → AreAccepted old xs new₁ → AreAccepted old xs new₂ → new₁ ≡ new₂
accepted_one old new₁ new₂ [] a b = a ∙ sym b
accepted_one old new₁ new₂ (x ∷ xs) a b = accepted_one b.0 new₁ new₂ xs (subst (λ (names : Names). AreAccepted names xs new₁) (accepts_one old x a.0 b.0 a.1 b.1)
    a.2) b.2

stale_changes : (slots : List (Option SlotValue)) → open_changes (map (option_map stale) slots) ≡ open_changes slots
stale_changes [] = refl
stale_changes (None ∷ slots) = ap (λ (rest : List (Option SheetChange)). None ∷ rest) (stale_changes slots)
stale_changes (Some s ∷ slots) = ap (λ (rest : List (Option SheetChange)). Some s.change ∷ rest) (stale_changes slots)

put_changes : (slots : List (Option SlotValue)) (k : ℤ) (held : Option SlotValue) →
    open_changes (with_slot slots k held) ≡ with_slot (open_changes slots) k (option_map (λ (s : SlotValue). s.change) held)
put_changes slots k held = with_slot-map (λ (s : SlotValue). s.change) slots k held

-- the effect of an event on the names and on the open changes
record Follows (d next : DeskValue) (event : Event) (answer : Answer) : Type 0 where
  names : AreAccepted d.names (made_by (open_changes d.slots) event answer) next.names
  opened : open_changes next.slots ≡ opened_after (open_changes d.slots) event answer

-- names and open changes stay
record IsAsBefore (d next : DeskValue) : Type 0 where
  names : next.names ≡ d.names
  opened : open_changes next.slots ≡ open_changes d.slots

as_before : (d next : DeskValue) → next ≡ d → IsAsBefore d next
as_before d next h = record { names = ap (λ (e : DeskValue). e.names) h; opened = ap (λ (e : DeskValue). open_changes e.slots) h }

stepped : (d next : DeskValue) (k : ℤ) (n : ℕ) → IsStepped d k n next → IsAsBefore d next
stepped d next k n h = by h.slot.left refl
  where
    by : (left : ℕ) → h.slot.left ≡ left → IsAsBefore d next
    by zero is = as_before d next (h.none is)
    by (suc left) is =
        let one = h.one (omega (arith, is)) in
        let held = slot_in-map (λ (s : SlotValue). s.change) d.slots k ∙ ap (option_map (option_map (λ (s : SlotValue). s.change))) h.held in
        record {
          names = ap (λ (e : DeskValue). e.names) one.next_is;
          opened = ap (λ (e : DeskValue). open_changes e.slots) one.next_is ∙ put_changes d.slots k (Some _)
              ∙ with_slot_same (open_changes d.slots) k (Some h.slot.change) held;
        }

made : (d e next : DeskValue) (change : SheetChange) → IsMade e change next → e.names ≡ d.names → AreAccepted d.names (change ∷ []) next.names
made d e next change h same = (next.names, subst (λ (names : Names). Accepts names change next.names) same h.accepts, refl)

follows : (d next : DeskValue) (event : Event) (answer : Answer) → IsEvent d event answer next → Follows d next event answer
follows d next (Open k change) Done h = absurd h
follows d next (Open k change) (Left n) h = record {
  names = ap (λ (e : DeskValue). e.names) h.next_is;
  opened = ap (λ (e : DeskValue). open_changes e.slots) h.next_is ∙ put_changes d.slots k (Some _);
}
follows d next (Open k change) (Shown outcome) h = absurd h
follows d next (Open k change) (Refused cause) h = let b = as_before d next h.1 in record { names = b.names; opened = b.opened }
follows d next (Step k) Done h = absurd h
follows d next (Step k) (Left n) h = let b = stepped d next k n h in record { names = b.names; opened = b.opened }
follows d next (Step k) (Shown outcome) h = absurd h
follows d next (Step k) (Refused cause) h = let b = as_before d next h.1 in record { names = b.names; opened = b.opened }
follows d next (Commit k) Done h =
    let held = slot_in-map (λ (s : SlotValue). s.change) d.slots k ∙ ap (option_map (option_map (λ (s : SlotValue). s.change))) h.held in
    record {
      names = subst (λ (changes : List SheetChange). AreAccepted d.names changes next.names) (sym (ap the_change held)) (made d (with_held d k None) next h.slot.change
          h.made refl);
      opened = ap open_changes h.made.slots ∙ stale_changes (with_slot d.slots k None) ∙ put_changes d.slots k None;
    }
follows d next (Commit k) (Left n) h = absurd h
follows d next (Commit k) (Shown outcome) h = absurd h
follows d next (Commit k) (Refused cause) h = let b = as_before d next h.1 in record { names = b.names; opened = b.opened }
follows d next (Drop k) Done h = record {
  names = ap (λ (e : DeskValue). e.names) h.next_is;
  opened = ap (λ (e : DeskValue). open_changes e.slots) h.next_is ∙ put_changes d.slots k None;
}
follows d next (Drop k) (Left n) h = absurd h
follows d next (Drop k) (Shown outcome) h = absurd h
follows d next (Drop k) (Refused cause) h = let b = as_before d next h.1 in record { names = b.names; opened = b.opened }
follows d next (Plain change) Done h = record { names = made d d next change h refl; opened = ap open_changes h.slots ∙ stale_changes d.slots }
follows d next (Plain change) (Left n) h = absurd h
follows d next (Plain change) (Shown outcome) h = absurd h
follows d next (Plain change) (Refused cause) h = let b = as_before d next h.1 in record { names = b.names; opened = b.opened }
follows d next (Show tree) Done h = absurd h
follows d next (Show tree) (Left n) h = absurd h
follows d next (Show tree) (Shown outcome) h = let b = as_before d next h.1 in record { names = b.names; opened = b.opened }
follows d next (Show tree) (Refused cause) h = let b = as_before d next h.1 in record { names = b.names; opened = b.opened }

pub names_committed : NamesAreOfChangesCommitted
names_committed d new [] [] h = ap (λ (e : DeskValue). e.names) h
names_committed d new [] (answer ∷ answers) h = absurd h
names_committed d new (event ∷ events) [] h = absurd h
names_committed d new (event ∷ events) (answer ∷ answers) h =
    let f = follows d h.0 event answer h.1 in
    let rest = names_committed h.0 new events answers h.2 in
    accepted_append d.names h.0.names new.names (made_by (open_changes d.slots) event answer) _ f.names
    (subst (λ (opened : List (Option SheetChange)). AreAccepted h.0.names (committed opened events answers) new.names) f.opened rest)

pub shows_committed : ShowsAreOfChangesCommitted
shows_committed d mid new events answers tree outcome names h shown changes =
    shown.0 ∙ ap (λ (ns : Names). eval tree (val ns)) (accepted_one d.names mid.names names (committed (open_changes d.slots) events answers) (names_committed d mid
    events answers h) changes)
