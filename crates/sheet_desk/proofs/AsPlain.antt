-- Opening and committing a change has the effect of the plain change.
use Rattle.std.{proofs.Common.{◌≡◌, Bool, true, false, ◌||◌, List, [], ◌∷◌, ◌++◌, Option, Some, None, refl, sym, ap, subst, ◌∙◌}, proofs.lemmas.Bool.{false≢true}}
use Rattle.sheet_recalc.{specs.Names.{Names}, specs.Changes.{SheetChange, Accepts}, specs.Costs.{HasCost, HasTicks}}
use Rattle.sheet_desk.{specs.Desk.{DeskValue, SlotValue, Event, Open, Step, Commit, Drop, Plain, Show, Answer, Done, Left, Shown, Refused, with_held, AreEvents, IsMade}, specs.Histories.{makes_change, make_change, made_by, opened_after, committed, open_changes, AreAccepted, IsSameChange, OpenedIsAsPlain}}
use Rattle.sheet_desk.{proofs.Committed.{names_committed}, proofs.Kept.{stale_changed}, proofs.Spent.{accepts_one}}

-- an event that makes no change adds no committed change
none_by : (opened : List (Option SheetChange)) (event : Event) (answer : Answer) → makes_change event answer ≡ false → made_by opened event answer ≡ []
none_by opened (Open k change) answer h = refl
none_by opened (Step k) answer h = refl
none_by opened (Commit k) Done h = absurd (false≢true (sym h))
none_by opened (Commit k) (Left n) h = refl
none_by opened (Commit k) (Shown outcome) h = refl
none_by opened (Commit k) (Refused cause) h = refl
none_by opened (Drop k) answer h = refl
none_by opened (Plain change) Done h = absurd (false≢true (sym h))
none_by opened (Plain change) (Left n) h = refl
none_by opened (Plain change) (Shown outcome) h = refl
none_by opened (Plain change) (Refused cause) h = refl
none_by opened (Show tree) answer h = refl

neither : (a b : Bool) → (a || b) ≡ false → (a ≡ false) × (b ≡ false)
neither true b h = absurd (false≢true (sym h))
neither false b h = (refl, h)

-- the same for several events
none_committed : (opened : List (Option SheetChange)) (events : List Event) (answers : List Answer) → make_change events answers ≡ false → committed opened events answers ≡ []
none_committed opened [] answers h = refl
none_committed opened (event ∷ events) [] h = refl
none_committed opened (event ∷ events) (answer ∷ answers) h =
    let both = neither (makes_change event answer) (make_change events answers) h in
    let rest = committed (opened_after opened event answer) events answers in
    ap (λ (changes : List SheetChange). changes ++ rest) (none_by opened event answer both.0) ∙ none_committed (opened_after opened event answer) events answers both.1

-- such events keep the names
same_names : (d new : DeskValue) (events : List Event) (answers : List Answer) → AreEvents d events answers new → make_change events answers ≡ false → new.names ≡ d.names
same_names d new events answers h none =
    subst (λ (changes : List SheetChange). AreAccepted d.names changes new.names) (none_committed (open_changes d.slots) events answers none) (names_committed d new events answers h)

-- one change of the same names, made twice
made_same : (d e a b : DeskValue) (change : SheetChange) → e.names ≡ d.names → IsMade e change a → IsMade d change b → IsSameChange d.names change a b
made_same d e a b change same p q =
    let accepts : Accepts d.names change a.names = subst (λ (ns : Names). Accepts ns change a.names) same p.accepts in
    let names = accepts_one d.names change a.names b.names accepts q.accepts in
    let cost : HasCost d.names change b.names a.cost =
    subst (λ (ns : Names). HasCost d.names change ns a.cost) names (subst (λ (ns : Names). HasCost ns change a.names a.cost) same p.cost) in
    let ticks : HasTicks d.names change a.names a.ticks = subst (λ (ns : Names). HasTicks ns change a.names a.ticks) same p.computed in
    let other : HasTicks d.names change a.names b.ticks = subst (λ (ns : Names). HasTicks d.names change ns b.ticks) (sym names) q.computed in
    record { names = names; cost = cost ∙ sym q.cost; ticks = λ good. ticks.all good ∙ sym (other.all good) }

same_slot : {o : Option (Option SlotValue)} {s t : SlotValue} → o ≡ Some (Some s) → o ≡ Some (Some t) → s ≡ t
same_slot p q = cc

pub opened_as_plain : OpenedIsAsPlain
opened_as_plain d mid new last plain k change n events answers opened between keeps none made_there made_here =
    let holds = stale_changed d mid new k change n events answers opened between keeps in
    let change_is : made_there.slot.change ≡ change = ap (λ (s : SlotValue). s.change) (same_slot made_there.held holds.1) ∙ holds.2 in
    let names : new.names ≡ d.names = same_names mid new events answers between none ∙ ap (λ (e : DeskValue). e.names) opened.next_is in
    made_same d (with_held new k None) last plain change names (subst (λ (c : SheetChange). IsMade (with_held new k None) c last) change_is made_there.made) made_here
