-- An event on two alike desks has one answer, except for want of memory and the choice of a cycle.
use Rattle.std.{proofs.Common.{◌≡◌, ◌≢◌, ◌⊎◌, ⊎_elim, inl, inr, ℕ, zero, suc, ◌-◌, ℤ, Bool, true, false, eqb, List, [], ◌∷◌, map, Option, Some, None, refl, sym, ap, subst, ◌∙◌, arith, if◌then◌else◌}, specs.Option.{option_map}}
use Rattle.formula_core.specs.Meaning.{eval}
use Rattle.sheet_recalc.{specs.Names.{Names}, specs.Meaning.{val}, specs.Changes.{SheetChange, Accepts, Refuses}, specs.Costs.{HasCost, IsStepCount, changed_name}, specs.declared.refusal.Refusal.{Refusal}}
use Rattle.sheet_desk.specs.Slots.{slot_in, with_slot}
use Rattle.sheet_desk.specs.Desk.{DeskValue, SlotValue, Event, Open, Step, Commit, Drop, Plain, Show, Answer, Done, Left, Shown, Refused, steps_told, stale, held_in, with_held, open_refusal, step_refusal, commit_refusal, drop_refusal, slot_refusal, RefusesThen, IsOpened, IsStepped, IsMade, IsCommitted, IsEvent}
use Rattle.sheet_desk.{specs.Histories.{told_of_slot, AreAlike, IsSameAnswer, EachEventHasOneAnswer}, proofs.Slotted.{slot_in-map, with_slot-map}, proofs.Spent.{accepts_one}, proofs.Counted.{count_one}, proofs.Causes.{accepted_refused, refused_one}}
use Rattle.sheet_recalc.specs.declared.refusal.Refusal.TheVariants as why

-- the part of a slot that answers depend on
abbrev Told : Type 0
Told = SheetChange × Bool × ℕ

abbrev told_in : DeskValue → ℤ → Option (Option Told)
told_in d k = option_map (option_map told_of_slot) (held_in d k)

told_alike : (d e : DeskValue) → AreAlike d e → (k : ℤ) → told_in d k ≡ told_in e k
told_alike d e h k = sym (slot_in-map told_of_slot d.slots k) ∙ ap (λ (ts : List (Option Told)). slot_in ts k) h.slots ∙ slot_in-map told_of_slot e.slots k

-- the refusals of slots, by that part
abbrev open_by : Option (Option Told) → Option Refusal
open_by None = Some why.NoSlot
open_by (Some None) = None
open_by (Some (Some t)) = Some why.SlotInUse

abbrev step_by : Option (Option Told) → Option Refusal
step_by None = Some why.NoSlot
step_by (Some None) = Some why.NoSlot
step_by (Some (Some t)) = if t.1 then Some why.Stale else None

abbrev commit_by : Option (Option Told) → Option Refusal
commit_by None = Some why.NoSlot
commit_by (Some None) = Some why.NoSlot
commit_by (Some (Some t)) = if t.1 then Some why.Stale else if eqb t.2 0 then None else Some why.NotReady

abbrev drop_by : Option (Option Told) → Option Refusal
drop_by None = Some why.NoSlot
drop_by (Some None) = Some why.NoSlot
drop_by (Some (Some t)) = None

open_told : (o : Option (Option SlotValue)) → open_refusal o ≡ open_by (option_map (option_map told_of_slot) o)
open_told None = refl
open_told (Some None) = refl
open_told (Some (Some s)) = refl

step_told : (o : Option (Option SlotValue)) → step_refusal o ≡ step_by (option_map (option_map told_of_slot) o)
step_told None = refl
step_told (Some None) = refl
step_told (Some (Some s)) = refl

commit_told : (o : Option (Option SlotValue)) → commit_refusal o ≡ commit_by (option_map (option_map told_of_slot) o)
commit_told None = refl
commit_told (Some None) = refl
commit_told (Some (Some s)) = refl

drop_told : (o : Option (Option SlotValue)) → drop_refusal o ≡ drop_by (option_map (option_map told_of_slot) o)
drop_told None = refl
drop_told (Some None) = refl
drop_told (Some (Some s)) = refl

refusals_alike : (d e : DeskValue) (event : Event) → AreAlike d e → slot_refusal d event ≡ slot_refusal e event
refusals_alike d e (Open k change) h = open_told (held_in d k) ∙ ap open_by (told_alike d e h k) ∙ sym (open_told (held_in e k))
refusals_alike d e (Step k) h = step_told (held_in d k) ∙ ap step_by (told_alike d e h k) ∙ sym (step_told (held_in e k))
refusals_alike d e (Commit k) h = commit_told (held_in d k) ∙ ap commit_by (told_alike d e h k) ∙ sym (commit_told (held_in e k))
refusals_alike d e (Drop k) h = drop_told (held_in d k) ∙ ap drop_by (told_alike d e h k) ∙ sym (drop_told (held_in e k))
refusals_alike d e (Plain change) h = refl
refusals_alike d e (Show tree) h = refl

-- the effect of an event that is not refused
abbrev Passes : DeskValue → Event → Answer → DeskValue → Type 0
Passes d event Done next = IsEvent d event Done next
Passes d event (Left n) next = IsEvent d event (Left n) next
Passes d event (Shown outcome) next = IsEvent d event (Shown outcome) next
Passes d event (Refused cause) next = ⊥

-- the slot refuses it
record IsStopped (d : DeskValue) (event : Event) (a : Answer) (next : DeskValue) : Type 0 where
  cause : Refusal
  by_slot : slot_refusal d event ≡ Some cause
  answer : a ≡ Refused cause
  as_was : next ≡ d

-- it is refused afterwards
record IsRefusedThen (d : DeskValue) (event : Event) (a : Answer) (next : DeskValue) : Type 0 where
  cause : Refusal
  refuses : RefusesThen d event cause
  answer : a ≡ Refused cause
  as_was : next ≡ d

-- an event that passes is allowed by its slot
passes_slot : (d next : DeskValue) (event : Event) (a : Answer) → Passes d event a next → slot_refusal d event ≡ None
passes_slot d next (Open k change) Done h = absurd h
passes_slot d next (Open k change) (Left n) h = ap open_refusal h.empty
passes_slot d next (Open k change) (Shown outcome) h = absurd h
passes_slot d next (Open k change) (Refused cause) h = absurd h
passes_slot d next (Step k) Done h = absurd h
passes_slot d next (Step k) (Left n) h = ap step_refusal h.held ∙ ap (λ (b : Bool). if b then Some why.Stale else None) h.fresh
passes_slot d next (Step k) (Shown outcome) h = absurd h
passes_slot d next (Step k) (Refused cause) h = absurd h
passes_slot d next (Commit k) Done h =
    ap commit_refusal h.held ∙ ap (λ (b : Bool). if b then Some why.Stale else if eqb h.slot.left 0 then None else Some why.NotReady) h.fresh
    ∙ ap (λ (n : ℕ). if eqb n 0 then None else Some why.NotReady) h.ready
passes_slot d next (Commit k) (Left n) h = absurd h
passes_slot d next (Commit k) (Shown outcome) h = absurd h
passes_slot d next (Commit k) (Refused cause) h = absurd h
passes_slot d next (Drop k) Done h = ap drop_refusal h.held
passes_slot d next (Drop k) (Left n) h = absurd h
passes_slot d next (Drop k) (Shown outcome) h = absurd h
passes_slot d next (Drop k) (Refused cause) h = absurd h
passes_slot d next (Plain change) a h = refl
passes_slot d next (Show tree) a h = refl

abbrev Comes : DeskValue → Event → Answer → DeskValue → Type 0
Comes d event a next = IsStopped d event a next ⊎ ((slot_refusal d event ≡ None) × (IsRefusedThen d event a next ⊎ Passes d event a next))

comes : (d next : DeskValue) (event : Event) (a : Answer) → IsEvent d event a next → Comes d event a next
comes d next event Done h = inr (passes_slot d next event Done h, inr h)
comes d next event (Left n) h = inr (passes_slot d next event (Left n) h, inr h)
comes d next event (Shown outcome) h = inr (passes_slot d next event (Shown outcome) h, inr h)
comes d next event (Refused cause) h =
    ⊎_elim (λ (s : slot_refusal d event ≡ Some cause). inl (record { cause = cause; by_slot = s; answer = refl; as_was = h.1 }))
    (λ (r : (slot_refusal d event ≡ None) × RefusesThen d event cause). inr (r.0, inl (record { cause = cause; refuses = r.1; answer = refl; as_was = h.1 }))) h.0

alike_as_was : (d e d' e' : DeskValue) → AreAlike d e → d' ≡ d → e' ≡ e → AreAlike d' e'
alike_as_was d e d' e' h p q = subst (λ (x : DeskValue). AreAlike x e') (sym p) (subst (λ (y : DeskValue). AreAlike d y) (sym q) h)

holding_alike : (d e : DeskValue) (k : ℤ) (a b : Option SlotValue) → AreAlike d e → option_map told_of_slot a ≡ option_map told_of_slot b →
    AreAlike (with_held d k a) (with_held e k b)
holding_alike d e k a b h same = record {
  names = h.names;
  cost = h.cost;
  slots =
      with_slot-map told_of_slot d.slots k a
      ∙ ap (λ (ts : List (Option Told)). with_slot ts k (option_map told_of_slot a)) h.slots
      ∙ ap (with_slot (map (option_map told_of_slot) e.slots) k) same
      ∙ sym (with_slot-map told_of_slot e.slots k b);
}

-- that part of a stale change
abbrev restaled : Told → Told
restaled t = (t.0, true, t.2)

stale_told : (slots : List (Option SlotValue)) → map (option_map told_of_slot) (map (option_map stale) slots) ≡ map (option_map restaled) (map (option_map told_of_slot) slots)
stale_told [] = refl
stale_told (None ∷ slots) = ap (λ (ts : List (Option Told)). None ∷ ts) (stale_told slots)
stale_told (Some s ∷ slots) = ap (λ (ts : List (Option Told)). Some (s.change, true, s.left) ∷ ts) (stale_told slots)

made_alike : (d e d' e' : DeskValue) (change : SheetChange) → AreAlike d e → IsMade d change d' → IsMade e change e' → AreAlike d' e'
made_alike d e d' e' change h p q =
    let accepts : Accepts d.names change e'.names = subst (λ (ns : Names). Accepts ns change e'.names) (sym h.names) q.accepts in
    let names = accepts_one d.names change d'.names e'.names p.accepts accepts in
    let cost : HasCost d.names change d'.names e'.cost =
    subst (λ (ns : Names). HasCost d.names change ns e'.cost) (sym names) (subst (λ (ns : Names). HasCost ns change e'.names e'.cost) (sym h.names) q.cost) in
    record {
      names = names;
      cost = p.cost ∙ sym cost;
      slots =
          ap (map (option_map told_of_slot)) p.slots ∙ stale_told d.slots ∙ ap (map (option_map restaled)) h.slots ∙ sym (stale_told e.slots)
          ∙ ap (map (option_map told_of_slot)) (sym q.slots);
    }

-- two alike desks have alike slots
same_told : (d e : DeskValue) → AreAlike d e → (k : ℤ) (s t : SlotValue) → held_in d k ≡ Some (Some s) → held_in e k ≡ Some (Some t) → told_of_slot s ≡ told_of_slot t
same_told d e h k s t p q = some_some (sym (ap (option_map (option_map told_of_slot)) p) ∙ told_alike d e h k ∙ ap (option_map (option_map told_of_slot)) q)
  where
    some_some : {A : Type 0} {x y : A} → Some (Some x) ≡ Some (Some y) → x ≡ y
    some_some r = cc

opened_alike : (d e d' e' : DeskValue) (k : ℤ) (change : SheetChange) (m n : ℕ) → AreAlike d e → IsOpened d k change m d' → IsOpened e k change n e' →
    (m ≡ n) × AreAlike d' e'
opened_alike d e d' e' k change m n h p q =
    let accepts : Accepts d.names change q.new = subst (λ (ns : Names). Accepts ns change q.new) (sym h.names) q.accepts in
    let new = accepts_one d.names change p.new q.new p.accepts accepts in
    let left = count_one q.new (changed_name change) p.left q.left (subst (λ (ns : Names). IsStepCount ns (changed_name change) p.left) new p.counted) q.counted in (
      p.told_is ∙ ap steps_told left ∙ sym q.told_is,
      alike_as_was _ _ d' e' (holding_alike d e k (Some _) (Some _) h (ap (λ (l : ℕ). Some (change, false, l)) left)) p.next_is q.next_is,
    )

stepped_alike : (d e d' e' : DeskValue) (k : ℤ) (m n : ℕ) → AreAlike d e → IsStepped d k m d' → IsStepped e k n e' → (m ≡ n) × AreAlike d' e'
stepped_alike d e d' e' k m n h p q = (p.told_is ∙ ap (λ (l : ℕ). steps_told (l - 1)) left ∙ sym q.told_is, by p.slot.left refl)
  where
    same : told_of_slot p.slot ≡ told_of_slot q.slot
    same = same_told d e h k p.slot q.slot p.held q.held

    left : p.slot.left ≡ q.slot.left
    left = ap (λ (t : Told). t.2) same

    by : (l : ℕ) → p.slot.left ≡ l → AreAlike d' e'
    by zero is = alike_as_was d e d' e' h (p.none is) (q.none (sym left ∙ is))
    by (suc l) is =
        let a = p.one (omega (arith, is)) in
        let b = q.one (omega (arith, is, left)) in
        let both = ap (λ (t : Told). Some (t.0, false, t.2 - 1)) same in
        alike_as_was _ _ d' e' (holding_alike d e k (Some _) (Some _) h both) a.next_is b.next_is

committed_alike : (d e d' e' : DeskValue) (k : ℤ) → AreAlike d e → IsCommitted d k d' → IsCommitted e k e' → AreAlike d' e'
committed_alike d e d' e' k h p q =
    let same = ap (λ (t : Told). t.0) (same_told d e h k p.slot q.slot p.held q.held) in
    made_alike (with_held d k None) (with_held e k None) d' e' q.slot.change (holding_alike d e k None None h refl) (subst (λ (c : SheetChange). IsMade (with_held d k None) c
    d') same p.made) q.made

-- both pass
both_pass : (d e d' e' : DeskValue) (event : Event) (a b : Answer) → AreAlike d e → Passes d event a d' → Passes e event b e' → IsSameAnswer a b × AreAlike d' e'
both_pass d e d' e' (Open k change) Done b h p q = absurd p
both_pass d e d' e' (Open k change) (Left m) Done h p q = absurd q
both_pass d e d' e' (Open k change) (Left m) (Left n) h p q = let r = opened_alike d e d' e' k change m n h p q in (inl (ap Left r.0), r.1)
both_pass d e d' e' (Open k change) (Left m) (Shown y) h p q = absurd q
both_pass d e d' e' (Open k change) (Left m) (Refused c') h p q = absurd q
both_pass d e d' e' (Open k change) (Shown x) b h p q = absurd p
both_pass d e d' e' (Open k change) (Refused c) b h p q = absurd p
both_pass d e d' e' (Step k) Done b h p q = absurd p
both_pass d e d' e' (Step k) (Left m) Done h p q = absurd q
both_pass d e d' e' (Step k) (Left m) (Left n) h p q = let r = stepped_alike d e d' e' k m n h p q in (inl (ap Left r.0), r.1)
both_pass d e d' e' (Step k) (Left m) (Shown y) h p q = absurd q
both_pass d e d' e' (Step k) (Left m) (Refused c') h p q = absurd q
both_pass d e d' e' (Step k) (Shown x) b h p q = absurd p
both_pass d e d' e' (Step k) (Refused c) b h p q = absurd p
both_pass d e d' e' (Commit k) Done Done h p q = (inl refl, committed_alike d e d' e' k h p q)
both_pass d e d' e' (Commit k) Done (Left n) h p q = absurd q
both_pass d e d' e' (Commit k) Done (Shown y) h p q = absurd q
both_pass d e d' e' (Commit k) Done (Refused c') h p q = absurd q
both_pass d e d' e' (Commit k) (Left m) b h p q = absurd p
both_pass d e d' e' (Commit k) (Shown x) b h p q = absurd p
both_pass d e d' e' (Commit k) (Refused c) b h p q = absurd p
both_pass d e d' e' (Drop k) Done Done h p q = (inl refl, alike_as_was _ _ d' e' (holding_alike d e k None None h refl) p.next_is q.next_is)
both_pass d e d' e' (Drop k) Done (Left n) h p q = absurd q
both_pass d e d' e' (Drop k) Done (Shown y) h p q = absurd q
both_pass d e d' e' (Drop k) Done (Refused c') h p q = absurd q
both_pass d e d' e' (Drop k) (Left m) b h p q = absurd p
both_pass d e d' e' (Drop k) (Shown x) b h p q = absurd p
both_pass d e d' e' (Drop k) (Refused c) b h p q = absurd p
both_pass d e d' e' (Plain change) Done Done h p q = (inl refl, made_alike d e d' e' change h p q)
both_pass d e d' e' (Plain change) Done (Left n) h p q = absurd q
both_pass d e d' e' (Plain change) Done (Shown y) h p q = absurd q
both_pass d e d' e' (Plain change) Done (Refused c') h p q = absurd q
both_pass d e d' e' (Plain change) (Left m) b h p q = absurd p
both_pass d e d' e' (Plain change) (Shown x) b h p q = absurd p
both_pass d e d' e' (Plain change) (Refused c) b h p q = absurd p
both_pass d e d' e' (Show tree) Done b h p q = absurd p
both_pass d e d' e' (Show tree) (Left m) b h p q = absurd p
both_pass d e d' e' (Show tree) (Shown x) Done h p q = absurd q
both_pass d e d' e' (Show tree) (Shown x) (Left n) h p q = absurd q
both_pass d e d' e' (Show tree) (Shown x) (Shown y) h p q = (
  inl (ap Shown (p.0 ∙ ap (λ (ns : Names). eval tree (val ns)) h.names
      ∙ sym q.0)),
  alike_as_was d e d' e' h p.1 q.1,
)
both_pass d e d' e' (Show tree) (Shown x) (Refused c') h p q = absurd q
both_pass d e d' e' (Show tree) (Refused c) b h p q = absurd p

-- one passes and one is refused
pass_refused : (d e d' : DeskValue) (event : Event) (a : Answer) (cause : Refusal) → d.names ≡ e.names → Passes d event a d' → RefusesThen e event cause →
    cause ≢ why.NoMemory → ⊥
pass_refused d e d' (Open k change) Done cause h p r other = absurd p
pass_refused d e d' (Open k change) (Left m) cause h p r other = accepted_refused e.names change p.new cause (subst (λ (ns : Names). Accepts ns change p.new) h
    p.accepts) r other
pass_refused d e d' (Open k change) (Shown x) cause h p r other = absurd p
pass_refused d e d' (Open k change) (Refused c) cause h p r other = absurd p
pass_refused d e d' (Step k) Done cause h p r other = absurd p
pass_refused d e d' (Step k) (Left m) cause h p r other = other r.1
pass_refused d e d' (Step k) (Shown x) cause h p r other = absurd p
pass_refused d e d' (Step k) (Refused c) cause h p r other = absurd p
pass_refused d e d' (Commit k) Done cause h p r other = r
pass_refused d e d' (Commit k) (Left m) cause h p r other = absurd p
pass_refused d e d' (Commit k) (Shown x) cause h p r other = absurd p
pass_refused d e d' (Commit k) (Refused c) cause h p r other = absurd p
pass_refused d e d' (Drop k) Done cause h p r other = r
pass_refused d e d' (Drop k) (Left m) cause h p r other = absurd p
pass_refused d e d' (Drop k) (Shown x) cause h p r other = absurd p
pass_refused d e d' (Drop k) (Refused c) cause h p r other = absurd p
pass_refused d e d' (Plain change) Done cause h p r other = accepted_refused e.names change d'.names cause (subst (λ (ns : Names). Accepts ns change d'.names) h
    p.accepts) r other
pass_refused d e d' (Plain change) (Left m) cause h p r other = absurd p
pass_refused d e d' (Plain change) (Shown x) cause h p r other = absurd p
pass_refused d e d' (Plain change) (Refused c) cause h p r other = absurd p
pass_refused d e d' (Show tree) Done cause h p r other = absurd p
pass_refused d e d' (Show tree) (Left m) cause h p r other = absurd p
pass_refused d e d' (Show tree) (Shown x) cause h p r other = other r
pass_refused d e d' (Show tree) (Refused c) cause h p r other = absurd p

-- both are refused
both_refused : (d e : DeskValue) (event : Event) (c c' : Refusal) → d.names ≡ e.names → RefusesThen d event c → c ≢ why.NoMemory → RefusesThen e event c' →
    c' ≢ why.NoMemory → IsSameAnswer (Refused c) (Refused c')
both_refused d e (Open k change) c c' h r other s another = refused_one e.names change c c' (subst (λ (ns : Names). Refuses ns change c) h r) other s another
both_refused d e (Step k) c c' h r other s another = absurd (other r.1)
both_refused d e (Commit k) c c' h r other s another = absurd r
both_refused d e (Drop k) c c' h r other s another = absurd r
both_refused d e (Plain change) c c' h r other s another = refused_one e.names change c c' (subst (λ (ns : Names). Refuses ns change c) h r) other s another
both_refused d e (Show tree) c c' h r other s another = absurd (other r)

same_for : (a b : Answer) (c c' : Refusal) → a ≡ Refused c → b ≡ Refused c' → IsSameAnswer (Refused c) (Refused c') → IsSameAnswer a b
same_for a b c c' p q h = subst (λ (x : Answer). IsSameAnswer x b) (sym p) (subst (λ (y : Answer). IsSameAnswer (Refused c) y) (sym q) h)

-- the reason of an answer is not want of memory if the answer is not
not_memory : (a : Answer) (c : Refusal) → a ≡ Refused c → a ≢ Refused why.NoMemory → c ≢ why.NoMemory
not_memory a c p other is = other (p ∙ ap (λ (x : Refusal). Refused x) is)

pub one_answer : EachEventHasOneAnswer
one_answer d e d' e' event a b h p q other another = by (comes d d' event a p) (comes e e' event b q)
  where
    alike_slots : slot_refusal d event ≡ slot_refusal e event
    alike_slots = refusals_alike d e event h

    some_none : {A : Type 0} {x : A} {o : Option A} → o ≡ Some x → o ≡ None → ⊥
    some_none r s = cc

    same_some : {A : Type 0} {x y : A} {o : Option A} → o ≡ Some x → o ≡ Some y → x ≡ y
    same_some r s = cc

    by : Comes d event a d' → Comes e event b e' → IsSameAnswer a b × AreAlike d' e'
    by (inl r) (inl s) =
        let cause : r.cause ≡ s.cause = same_some (sym alike_slots ∙ r.by_slot) s.by_slot in
        (inl (r.answer ∙ ap (λ (c : Refusal). Refused c) cause ∙ sym s.answer), alike_as_was d e d' e' h r.as_was s.as_was)
    by (inl r) (inr s) = absurd (some_none r.by_slot (alike_slots ∙ s.0))
    by (inr r) (inl s) = absurd (some_none s.by_slot (sym alike_slots ∙ r.0))
    by (inr r) (inr s) = on r.1 s.1
      where
        on : IsRefusedThen d event a d' ⊎ Passes d event a d' → IsRefusedThen e event b e' ⊎ Passes e event b e' → IsSameAnswer a b × AreAlike d' e'
        on (inl u) (inl v) = (
          same_for a b u.cause v.cause u.answer v.answer (both_refused d e event u.cause v.cause h.names u.refuses (not_memory a u.cause u.answer other)
              v.refuses (not_memory b v.cause v.answer another)),
          alike_as_was d e d' e' h u.as_was v.as_was,
        )
        on (inl u) (inr v) = absurd (pass_refused e d e' event b u.cause (sym h.names) v u.refuses (not_memory a u.cause u.answer other))
        on (inr u) (inl v) = absurd (pass_refused d e d' event a v.cause h.names u v.refuses (not_memory b v.cause v.answer another))
        on (inr u) (inr v) = both_pass d e d' e' event a b h u v
