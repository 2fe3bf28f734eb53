-- A change that stays open is stale if and only if another one was made.
use Rattle.std.{proofs.Common.{◌≡◌, ◌≢◌, ℕ, zero, suc, ℤ, Bool, true, false, ◌||◌, List, [], ◌∷◌, map, Option, Some, None, refl, sym, ap, subst, ◌∙◌, arith}, specs.Option.{option_map}}
use Rattle.sheet_recalc.specs.Changes.{SheetChange}
use Rattle.sheet_desk.{specs.Slots.{slot_in}, specs.Desk.{DeskValue, SlotValue, Event, Open, Step, Commit, Drop, Plain, Show, Answer, Done, Left, Shown, Refused, stale, held_in, with_held, IsEvent, IsStepped, AreEvents}, specs.Histories.{makes_change, make_change, Keeps, AllKeep, HoldsStale, StaleWhereChanged}}
use Rattle.sheet_desk.{proofs.Slotted.{slot_in-map, with_slot-map}, proofs.Placed.{slot_in-same, slot_in-other, with_slot_same}}

or_false : (b : Bool) → (b || false) ≡ b
or_false true = refl
or_false false = refl

or_true : (b : Bool) → (b || true) ≡ true
or_true true = refl
or_true false = refl

or_assoc : (a b c : Bool) → ((a || b) || c) ≡ (a || (b || c))
or_assoc true b c = refl
or_assoc false b c = refl

module _ (k : ℤ) (change : SheetChange) where
  -- a slot with the same contents holds the same change
  same_held : (d next : DeskValue) (b : Bool) → HoldsStale d k change b → held_in next k ≡ held_in d k → HoldsStale next k change (b || false)
  same_held d next b h same = (h.0, same ∙ h.1, h.2, h.3 ∙ sym (or_false b))

  -- all open changes are stale
  all_stale : (e next : DeskValue) (b : Bool) → HoldsStale e k change b → next.slots ≡ map (option_map stale) e.slots → HoldsStale next k change (b || true)
  all_stale e next b h is = (
    stale h.0,
    ap (λ (slots : List (Option SlotValue)). slot_in slots k) is ∙ slot_in-map stale e.slots k
        ∙ ap (option_map (option_map stale)) h.1,
    h.2,
    sym (or_true b),
  )

  same_other : (d : DeskValue) (j : ℤ) (held : Option SlotValue) → j ≢ k → held_in (with_held d j held) k ≡ held_in d k
  same_other d j held other = slot_in-other d.slots j k held other

-- the change and the flag of a slot
abbrev mark : SlotValue → SheetChange × Bool
mark s = (s.change, s.is_stale)

abbrev marks : List (Option SlotValue) → List (Option (SheetChange × Bool))
marks slots = map (option_map mark) slots

-- a slot with a mark holds a change
marked_as : (o : Option (Option SlotValue)) (m : SheetChange × Bool) → option_map (option_map mark) o ≡ Some (Some m) →
    (s : SlotValue) × (o ≡ Some (Some s)) × (mark s ≡ m)
marked_as None m h = cc
marked_as (Some None) m h = cc
marked_as (Some (Some s)) m h = (s, refl, some_some h)
  where
    some_some : {A : Type 0} {x y : A} → Some (Some x) ≡ Some (Some y) → x ≡ y
    some_some e = cc

-- slots with the same marks hold the same changes
same_marks : (k : ℤ) (change : SheetChange) (d next : DeskValue) (b : Bool) → HoldsStale d k change b → marks next.slots ≡ marks d.slots →
    HoldsStale next k change (b || false)
same_marks k change d next b h same =
    let there : option_map (option_map mark) (held_in next k) ≡ Some (Some (h.0.change, h.0.is_stale)) =
    sym (slot_in-map mark next.slots k) ∙ ap (λ (ms : List (Option (SheetChange × Bool))). slot_in ms k) same ∙ slot_in-map mark d.slots k
    ∙ ap (option_map (option_map mark)) h.1 in
    let s = marked_as (held_in next k) (h.0.change, h.0.is_stale) there in
    (s.0, s.1, ap (λ (m : SheetChange × Bool). m.0) s.2 ∙ h.2, ap (λ (m : SheetChange × Bool). m.1) s.2 ∙ h.3 ∙ sym (or_false b))

stepped_marks : (d next : DeskValue) (j : ℤ) (n : ℕ) → IsStepped d j n next → marks next.slots ≡ marks d.slots
stepped_marks d next j n h = by h.slot.left refl
  where
    by : (left : ℕ) → h.slot.left ≡ left → marks next.slots ≡ marks d.slots
    by zero is = ap (λ (e : DeskValue). marks e.slots) (h.none is)
    by (suc left) is =
        let one = h.one (omega (arith, is)) in
        let held : slot_in (marks d.slots) j ≡ Some (Some (h.slot.change, false)) =
        slot_in-map mark d.slots j ∙ ap (option_map (option_map mark)) h.held ∙ ap (λ (b : Bool). Some (Some (h.slot.change, b))) h.fresh in
        ap (λ (e : DeskValue). marks e.slots) one.next_is ∙ with_slot-map mark d.slots j (Some _)
        ∙ with_slot_same (marks d.slots) j (Some (h.slot.change, false)) held

-- an empty slot differs from one that holds something
empty_other : (d : DeskValue) (j k : ℤ) (s : SlotValue) → held_in d j ≡ Some None → held_in d k ≡ Some (Some s) → j ≢ k
empty_other d j k s empty held same = clash (held_in d k) (sym (ap (held_in d) same) ∙ empty) held
  where
    clash : (o : Option (Option SlotValue)) → o ≡ Some None → o ≡ Some (Some s) → ⊥
    clash o p q = cc

stays : (k : ℤ) (change : SheetChange) (d next : DeskValue) (b : Bool) (event : Event) (answer : Answer) → HoldsStale d k change b → Keeps k event answer →
    IsEvent d event answer next →
    HoldsStale next k change (b || makes_change event answer)
stays k change d next b (Open j c) Done h keeps e = absurd e
stays k change d next b (Open j c) (Left n) h keeps e = same_held k change d next b h (ap (λ (x : DeskValue). held_in x k) e.next_is
    ∙ same_other k change d j (Some _) (empty_other d j k h.0 e.empty h.1))
stays k change d next b (Open j c) (Shown outcome) h keeps e = absurd e
stays k change d next b (Open j c) (Refused cause) h keeps e = same_held k change d next b h (ap (λ (x : DeskValue). held_in x k) e.1)
stays k change d next b (Step j) Done h keeps e = absurd e
stays k change d next b (Step j) (Left n) h keeps e = same_marks k change d next b h (stepped_marks d next j n e)
stays k change d next b (Step j) (Shown outcome) h keeps e = absurd e
stays k change d next b (Step j) (Refused cause) h keeps e = same_held k change d next b h (ap (λ (x : DeskValue). held_in x k) e.1)
stays k change d next b (Commit j) Done h keeps e =
    all_stale k change (with_held d j None) next b (h.0, same_other k change d j None keeps ∙ h.1, h.2, h.3) e.made.slots
stays k change d next b (Commit j) (Left n) h keeps e = absurd e
stays k change d next b (Commit j) (Shown outcome) h keeps e = absurd e
stays k change d next b (Commit j) (Refused cause) h keeps e = same_held k change d next b h (ap (λ (x : DeskValue). held_in x k) e.1)
stays k change d next b (Drop j) Done h keeps e = same_held k change d next b h (ap (λ (x : DeskValue). held_in x k) e.next_is ∙ same_other k change d j None keeps)
stays k change d next b (Drop j) (Left n) h keeps e = absurd e
stays k change d next b (Drop j) (Shown outcome) h keeps e = absurd e
stays k change d next b (Drop j) (Refused cause) h keeps e = same_held k change d next b h (ap (λ (x : DeskValue). held_in x k) e.1)
stays k change d next b (Plain c) Done h keeps e = all_stale k change d next b h e.slots
stays k change d next b (Plain c) (Left n) h keeps e = absurd e
stays k change d next b (Plain c) (Shown outcome) h keeps e = absurd e
stays k change d next b (Plain c) (Refused cause) h keeps e = same_held k change d next b h (ap (λ (x : DeskValue). held_in x k) e.1)
stays k change d next b (Show tree) Done h keeps e = absurd e
stays k change d next b (Show tree) (Left n) h keeps e = absurd e
stays k change d next b (Show tree) (Shown outcome) h keeps e = same_held k change d next b h (ap (λ (x : DeskValue). held_in x k) e.1)
stays k change d next b (Show tree) (Refused cause) h keeps e = same_held k change d next b h (ap (λ (x : DeskValue). held_in x k) e.1)

all_stay : (k : ℤ) (change : SheetChange) (d new : DeskValue) (b : Bool) (events : List Event) (answers : List Answer) → HoldsStale d k change b →
    AllKeep k events answers → AreEvents d events answers new →
    HoldsStale new k change (b || make_change events answers)
all_stay k change d new b [] [] h keeps e = subst (λ (x : DeskValue). HoldsStale x k change (b || false)) (sym e) (h.0, h.1, h.2, h.3 ∙ sym (or_false b))
all_stay k change d new b [] (answer ∷ answers) h keeps e = absurd e
all_stay k change d new b (event ∷ events) [] h keeps e = absurd e
all_stay k change d new b (event ∷ events) (answer ∷ answers) h keeps e =
    let one = stays k change d e.0 b event answer h keeps.0 e.1 in
    subst (HoldsStale new k change) (or_assoc b (makes_change event answer) (make_change events answers))
    (all_stay k change e.0 new (b || makes_change event answer) events answers one keeps.1 e.2)

pub stale_changed : StaleWhereChanged
stale_changed d mid new k change n events answers opened events_are keeps =
    let s : SlotValue = record { change = change; is_stale = false; left = opened.left; ticks = opened.ticks } in
    all_stay k change mid new false events answers
    (s, ap (λ (x : DeskValue). held_in x k) opened.next_is ∙ slot_in-same d.slots k (Some s) None opened.empty, refl, refl) keeps events_are
