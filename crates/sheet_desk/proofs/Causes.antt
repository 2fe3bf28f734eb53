-- A change is accepted or refused, for one reason, except for want of memory and the choice of a cycle.
use Rattle.std.{proofs.Common.{◌≡◌, ◌≢◌, ℕ, ℤ, ◌<◌, ◌⊎◌, ⊎_elim, inl, inr, true, List, [], ◌∷◌, length, is_some, None, Result, Ok, Err, refl, sym, ap, ◌∙◌, arith}, proofs.lemmas.Bool.{false≢true}}
use Rattle.{apl_expr.specs.Trees.{Tree, Literal}, arrays_core.{specs.Arrays.{ArrayValue}, specs.declared.fault.Fault.{Fault}}}
use Rattle.formula_core.specs.Meaning.{eval}
use Rattle.sheet_recalc.{specs.Names.{Names, Binding, Formula, binding, put, Refers, most_names}, specs.Meaning.{val}, specs.Cells.{cell_put}, specs.Rows.{row_put}, specs.Changes.{SheetChange, Define, Store, Put, SetCell, AddRow, Erase, Accepts, Refuses, CannotPut, HasRoomForName, IsFullFor, IsCycleFrom}}
use Rattle.{sheet_recalc.specs.declared.refusal.Refusal.{Refusal}, sheet_desk.{specs.Desk.{Refused}, specs.Histories.{names_cycle, IsSameAnswer}}}
use Rattle.sheet_recalc.specs.declared.refusal.Refusal.TheVariants as why

full_with_room : (names : Names) (name : List ℕ) → HasRoomForName names name → IsFullFor names name → ⊥
full_with_room names name room full =
    ⊎_elim (λ present. false≢true (sym (ap is_some full.0) ∙ present)) (λ (few : length names < most_names). omega (arith, few, full.1)) room

-- a name that only lacks room would not reach itself
cycle_full : (names : Names) (name : List ℕ) (b : Binding) (cycle : List (List ℕ)) → CannotPut names name b why.SheetFull →
    IsCycleFrom (Refers (put names name b)) name cycle → ⊥
cycle_full names name b [] full h = h
cycle_full names name b (x ∷ via) full h = full.0 x (via, h.1)

-- a name whose definition is accepted does not reach itself
cycle_accepted : (names : Names) (name : List ℕ) (t : Tree) (new : Names) (cycle : List (List ℕ)) → Accepts names (Define name t) new
    → IsCycleFrom (Refers (put names name (Formula t))) name cycle → ⊥
cycle_accepted names name t new [] a h = h
cycle_accepted names name t new (x ∷ via) a h = (rw a.0 at a.1) x (via, h.1)

-- the reason why a definition is refused: a cycle, or no room
abbrev DefineCause : Names → List ℕ → Tree → Refusal → Type 0
DefineCause names n t cause =
    ((names_cycle (Refused cause) ≡ true) × ((cycle : List (List ℕ)) × IsCycleFrom (Refers (put names n (Formula t))) n cycle))
    ⊎ ((cause ≡ why.SheetFull) × CannotPut names n (Formula t) why.SheetFull)

define_cause : (names : Names) (n : List ℕ) (t : Tree) (cause : Refusal) → Refuses names (Define n t) cause → cause ≢ why.NoMemory → DefineCause names n t cause
define_cause names n t (why.Cycle c) h other = inl (refl, (c.items, h))
define_cause names n t why.NotFound h other = absurd h
define_cause names n t why.NotData h other = absurd h
define_cause names n t why.Rank h other = absurd h
define_cause names n t why.Length h other = absurd h
define_cause names n t why.Index h other = absurd h
define_cause names n t why.Domain h other = absurd h
define_cause names n t why.Limit h other = absurd h
define_cause names n t why.SheetFull h other = inr (refl, h)
define_cause names n t (why.Fault e) h other = absurd h
define_cause names n t why.NoMemory h other = absurd (other refl)
define_cause names n t why.Stale h other = absurd h
define_cause names n t why.NotReady h other = absurd h
define_cause names n t why.NoSlot h other = absurd h
define_cause names n t why.SlotInUse h other = absurd h

-- the reason why data is refused: its expression fails, or there is no room
abbrev StoreCause : Names → List ℕ → Tree → Refusal → Type 0
StoreCause names n t cause =
    ((e : Fault) × (cause ≡ why.Fault e) × (eval t (val names) ≡ Err e))
    ⊎ ((cause ≡ why.SheetFull) × ((a : ArrayValue) × (eval t (val names) ≡ Ok a) × IsFullFor names n))

store_cause : (names : Names) (n : List ℕ) (t : Tree) (cause : Refusal) → Refuses names (Store n t) cause → cause ≢ why.NoMemory → StoreCause names n t cause
store_cause names n t (why.Cycle c) h other = absurd h
store_cause names n t why.NotFound h other = absurd h
store_cause names n t why.NotData h other = absurd h
store_cause names n t why.Rank h other = absurd h
store_cause names n t why.Length h other = absurd h
store_cause names n t why.Index h other = absurd h
store_cause names n t why.Domain h other = absurd h
store_cause names n t why.Limit h other = absurd h
store_cause names n t why.SheetFull h other = inr (refl, h)
store_cause names n t (why.Fault e) h other = inl (e, refl, h)
store_cause names n t why.NoMemory h other = absurd (other refl)
store_cause names n t why.Stale h other = absurd h
store_cause names n t why.NotReady h other = absurd h
store_cause names n t why.NoSlot h other = absurd h
store_cause names n t why.SlotInUse h other = absurd h

put_cause : (names : Names) (n : List ℕ) (a : ArrayValue) (cause : Refusal) → Refuses names (Put n a) cause → cause ≢ why.NoMemory →
    (cause ≡ why.SheetFull) × IsFullFor names n
put_cause names n a (why.Cycle c) h other = absurd h
put_cause names n a why.NotFound h other = absurd h
put_cause names n a why.NotData h other = absurd h
put_cause names n a why.Rank h other = absurd h
put_cause names n a why.Length h other = absurd h
put_cause names n a why.Index h other = absurd h
put_cause names n a why.Domain h other = absurd h
put_cause names n a why.Limit h other = absurd h
put_cause names n a why.SheetFull h other = (refl, h)
put_cause names n a (why.Fault e) h other = absurd h
put_cause names n a why.NoMemory h other = absurd (other refl)
put_cause names n a why.Stale h other = absurd h
put_cause names n a why.NotReady h other = absurd h
put_cause names n a why.NoSlot h other = absurd h
put_cause names n a why.SlotInUse h other = absurd h

cell_cause : (names : Names) (n : List ℕ) (positions : List ℤ) (literal : Literal) (cause : Refusal) → Refuses names (SetCell n positions literal) cause →
    cause ≢ why.NoMemory → cell_put (binding names n) positions literal ≡ Err cause
cell_cause names n positions literal (why.Cycle c) h other = h
cell_cause names n positions literal why.NotFound h other = h
cell_cause names n positions literal why.NotData h other = h
cell_cause names n positions literal why.Rank h other = h
cell_cause names n positions literal why.Length h other = h
cell_cause names n positions literal why.Index h other = h
cell_cause names n positions literal why.Domain h other = h
cell_cause names n positions literal why.Limit h other = h
cell_cause names n positions literal why.SheetFull h other = h
cell_cause names n positions literal (why.Fault e) h other = h
cell_cause names n positions literal why.NoMemory h other = absurd (other refl)
cell_cause names n positions literal why.Stale h other = h
cell_cause names n positions literal why.NotReady h other = h
cell_cause names n positions literal why.NoSlot h other = h
cell_cause names n positions literal why.SlotInUse h other = h

row_cause : (names : Names) (n : List ℕ) (literal : Literal) (cause : Refusal) → Refuses names (AddRow n literal) cause → cause ≢ why.NoMemory →
    row_put (binding names n) literal ≡ Err cause
row_cause names n literal (why.Cycle c) h other = h
row_cause names n literal why.NotFound h other = h
row_cause names n literal why.NotData h other = h
row_cause names n literal why.Rank h other = h
row_cause names n literal why.Length h other = h
row_cause names n literal why.Index h other = h
row_cause names n literal why.Domain h other = h
row_cause names n literal why.Limit h other = h
row_cause names n literal why.SheetFull h other = h
row_cause names n literal (why.Fault e) h other = h
row_cause names n literal why.NoMemory h other = absurd (other refl)
row_cause names n literal why.Stale h other = h
row_cause names n literal why.NotReady h other = h
row_cause names n literal why.NoSlot h other = h
row_cause names n literal why.SlotInUse h other = h

erase_cause : (names : Names) (n : List ℕ) (cause : Refusal) → Refuses names (Erase n) cause → cause ≢ why.NoMemory →
    (cause ≡ why.NotFound) × (binding names n ≡ None)
erase_cause names n (why.Cycle c) h other = absurd h
erase_cause names n why.NotFound h other = (refl, h)
erase_cause names n why.NotData h other = absurd h
erase_cause names n why.Rank h other = absurd h
erase_cause names n why.Length h other = absurd h
erase_cause names n why.Index h other = absurd h
erase_cause names n why.Domain h other = absurd h
erase_cause names n why.Limit h other = absurd h
erase_cause names n why.SheetFull h other = absurd h
erase_cause names n (why.Fault e) h other = absurd h
erase_cause names n why.NoMemory h other = absurd (other refl)
erase_cause names n why.Stale h other = absurd h
erase_cause names n why.NotReady h other = absurd h
erase_cause names n why.NoSlot h other = absurd h
erase_cause names n why.SlotInUse h other = absurd h

ok_or_err : {A B : Type 0} {r : Result A B} {a : A} {b : B} → r ≡ Ok a → r ≡ Err b → ⊥
ok_or_err p q = cc

one_err : {A B : Type 0} {r : Result A B} {a b : B} → r ≡ Err a → r ≡ Err b → a ≡ b
one_err p q = cc

-- an accepted change is not refused
pub accepted_refused : (names : Names) (change : SheetChange) (new : Names) (cause : Refusal) → Accepts names change new → Refuses names change cause →
    cause ≢ why.NoMemory → ⊥
accepted_refused names (Define n t) new cause a r other = by (define_cause names n t cause r other)
  where
    by : DefineCause names n t cause → ⊥
    by (inl c) = cycle_accepted names n t new c.1.0 a c.1.1
    by (inr c) = full_with_room names n a.2 c.1.1
accepted_refused names (Store n t) new cause a r other = by (store_cause names n t cause r other)
  where
    by : StoreCause names n t cause → ⊥
    by (inl c) = ok_or_err a.1 c.2
    by (inr c) = full_with_room names n a.3 c.1.2
accepted_refused names (Put n x) new cause a r other = full_with_room names n a.1 (put_cause names n x cause r other).1
accepted_refused names (SetCell n positions literal) new cause a r other = ok_or_err a.1 (cell_cause names n positions literal cause r other)
accepted_refused names (AddRow n literal) new cause a r other = ok_or_err a.1 (row_cause names n literal cause r other)
accepted_refused names (Erase n) new cause a r other = false≢true (sym (ap is_some (erase_cause names n cause r other).1) ∙ a.0)

same : (a b : Refusal) → a ≡ b → IsSameAnswer (Refused a) (Refused b)
same a b h = inl (ap (λ (c : Refusal). Refused c) h)

-- two reasons for one refusal are equal, or both are cycles
pub refused_one : (names : Names) (change : SheetChange) (a b : Refusal) → Refuses names change a → a ≢ why.NoMemory → Refuses names change b → b ≢ why.NoMemory →
    IsSameAnswer (Refused a) (Refused b)
refused_one names (Define n t) a b r other s another = by (define_cause names n t a r other) (define_cause names n t b s another)
  where
    by : DefineCause names n t a → DefineCause names n t b → IsSameAnswer (Refused a) (Refused b)
    by (inl c) (inl d) = inr (c.0, d.0)
    by (inl c) (inr d) = absurd (cycle_full names n (Formula t) c.1.0 d.1 c.1.1)
    by (inr c) (inl d) = absurd (cycle_full names n (Formula t) d.1.0 c.1 d.1.1)
    by (inr c) (inr d) = same a b (c.0 ∙ sym d.0)
refused_one names (Store n t) a b r other s another = by (store_cause names n t a r other) (store_cause names n t b s another)
  where
    by : StoreCause names n t a → StoreCause names n t b → IsSameAnswer (Refused a) (Refused b)
    by (inl c) (inl d) = same a b (c.1 ∙ ap (λ (e : Fault). why.Fault e) (one_err c.2 d.2) ∙ sym d.1)
    by (inl c) (inr d) = absurd (ok_or_err d.1.1 c.2)
    by (inr c) (inl d) = absurd (ok_or_err c.1.1 d.2)
    by (inr c) (inr d) = same a b (c.0 ∙ sym d.0)
refused_one names (Put n x) a b r other s another = same a b ((put_cause names n x a r other).0 ∙ sym (put_cause names n x b s another).0)
refused_one names (SetCell n positions literal) a b r other s another = same a b (one_err (cell_cause names n positions literal a r other) (cell_cause names n
    positions literal b s another))
refused_one names (AddRow n literal) a b r other s another = same a b (one_err (row_cause names n literal a r other) (row_cause names n literal b s another))
refused_one names (Erase n) a b r other s another = same a b ((erase_cause names n a r other).0 ∙ sym (erase_cause names n b s another).0)
