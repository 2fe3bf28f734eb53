-- Why a change was refused, from why a name could not be bound so.
use Rattle.std.{proofs.Common.{◌≡◌, ◌≤◌, ◌<◌, ◌+◌, ◌∙◌, ℕ, ℤ, List, [], ◌∷◌, length, is_some, IsSome, Option, Some, None, Ok, Err, sym, ap, subst, arith, refl, ⊎_elim}, specs.Option.{option_map, option_map_or}, proofs.lemmas.Bool.{false≢true}, proofs.lemmas.List.{length-map, length-append}}
use Rattle.{dep_order.specs.Reachability.{IsAcyclic}, apl_expr.specs.Trees.{Tree, Literal}, arrays_core.{specs.Arrays.{ArrayValue}, specs.Growth.{grown_by}}}
use Rattle.{change_rules.specs.Currency.{applied}, formula_core.specs.Meaning.{eval}}
use Rattle.index_region.{specs.Patches.{PatchValue, patched}, specs.Tails.{TailValue}, specs.declared.delta.Delta.TheVariants.{Patch, Grown}}
use Rattle.sheet_recalc.{specs.Names.{Names, Binding, Data, Formula, binding, put, without, rebound, Refers, referred, most_names}, specs.Meaning.{val}, specs.Cells.{cell_put}, specs.Entries.{binding_of}, specs.ProposedSheet.{data_entry, names_with}, specs.Rows.{row_put}}
use Rattle.sheet_recalc.{specs.Changes.{Define, Store, Put, SetCell, AddRow, Erase, Refuses, CannotBecome, CannotPut, IsCycleFrom, HasRoomForName}, specs.declared.refusal.Refusal.{Refusal}, proofs.Cycles.{no_cycle_anew}, proofs.Live.{val_data}, proofs.Putting.{keys_put, put_last}}
use Rattle.sheet_recalc.specs.declared.proposal.Proposal.TheVariants as proposed
use Rattle.sheet_recalc.specs.declared.refusal.Refusal.TheVariants as why

pub refused_define : (names : Names) (name : List ℕ) (t : Tree) (cause : Refusal) → CannotPut names name (Formula t) cause → Refuses names (Define name t) cause
refused_define names name t (why.Cycle c) h = h
refused_define names name t why.SheetFull h = h
refused_define names name t why.NoMemory h = tt
refused_define names name t why.NotFound h = h
refused_define names name t why.NotData h = h
refused_define names name t why.Rank h = h
refused_define names name t why.Length h = h
refused_define names name t why.Index h = h
refused_define names name t why.Domain h = h
refused_define names name t why.Limit h = h
refused_define names name t (why.Fault e) h = h
refused_define names name t why.Stale h = absurd h
refused_define names name t why.NotReady h = absurd h
refused_define names name t why.NoSlot h = absurd h
refused_define names name t why.SlotInUse h = absurd h

-- a binding in which no name stands makes no cycle
never_cycle : (names : Names) (name : List ℕ) (b : Option Binding) → option_map_or referred b [] ≡ [] → IsAcyclic (Refers names) → (cycle : List (List ℕ)) → IsCycleFrom (Refers (rebound names name b)) name cycle → ⊥
never_cycle names name b none acyclic [] h = h
never_cycle names name b none acyclic (x ∷ via) h = no_cycle_anew names name b none acyclic x (via, h.1)

pub refused_put : (names : Names) (name : List ℕ) (a : ArrayValue) → IsAcyclic (Refers names) → (cause : Refusal) → CannotPut names name (Data a) cause → Refuses names (Put name a) cause
refused_put names name a acyclic (why.Cycle c) h = never_cycle names name (Some (Data a)) refl acyclic c.items h
refused_put names name a acyclic why.SheetFull h = h.1
refused_put names name a acyclic why.NoMemory h = tt
refused_put names name a acyclic why.NotFound h = h
refused_put names name a acyclic why.NotData h = h
refused_put names name a acyclic why.Rank h = h
refused_put names name a acyclic why.Length h = h
refused_put names name a acyclic why.Index h = h
refused_put names name a acyclic why.Domain h = h
refused_put names name a acyclic why.Limit h = h
refused_put names name a acyclic (why.Fault e) h = absurd h
refused_put names name a acyclic why.Stale h = absurd h
refused_put names name a acyclic why.NotReady h = absurd h
refused_put names name a acyclic why.NoSlot h = absurd h
refused_put names name a acyclic why.SlotInUse h = absurd h

-- a name that is present is removed without a refusal but for want of memory
pub refused_erase : (names : Names) (name : List ℕ) → IsAcyclic (Refers names) → IsSome (binding names name) → (cause : Refusal) → CannotBecome names (without names name) name cause → Refuses names (Erase name) cause
refused_erase names name acyclic present (why.Cycle c) h = never_cycle names name None refl acyclic c.items h
refused_erase names name acyclic present why.SheetFull h = absurd (false≢true (sym (ap is_some h.1.0) ∙ present))
refused_erase names name acyclic present why.NoMemory h = tt
refused_erase names name acyclic present why.NotFound h = absurd h
refused_erase names name acyclic present why.NotData h = h
refused_erase names name acyclic present why.Rank h = h
refused_erase names name acyclic present why.Length h = h
refused_erase names name acyclic present why.Index h = h
refused_erase names name acyclic present why.Domain h = h
refused_erase names name acyclic present why.Limit h = h
refused_erase names name acyclic present (why.Fault e) h = absurd h
refused_erase names name acyclic present why.Stale h = absurd h
refused_erase names name acyclic present why.NotReady h = absurd h
refused_erase names name acyclic present why.NoSlot h = absurd h
refused_erase names name acyclic present why.SlotInUse h = absurd h

pub refused_data : (names : Names) (name : List ℕ) (t : Tree) (a : ArrayValue) → eval t (val names) ≡ Ok a → (cause : Refusal) → Refuses names (Put name a) cause → Refuses names (Store name t) cause
refused_data names name t a is why.SheetFull h = (a, is, h)
refused_data names name t a is why.NoMemory h = tt
refused_data names name t a is (why.Cycle c) h = h
refused_data names name t a is why.NotFound h = h
refused_data names name t a is why.NotData h = h
refused_data names name t a is why.Rank h = h
refused_data names name t a is why.Length h = h
refused_data names name t a is why.Index h = h
refused_data names name t a is why.Domain h = h
refused_data names name t a is why.Limit h = h
refused_data names name t a is (why.Fault e) h = absurd h
refused_data names name t a is why.Stale h = absurd h
refused_data names name t a is why.NotReady h = absurd h
refused_data names name t a is why.NoSlot h = absurd h
refused_data names name t a is why.SlotInUse h = absurd h

-- a name that is present is bound to an array without a refusal but for want of memory
pub only_memory : (names : Names) (name : List ℕ) (a : ArrayValue) → IsSome (binding names name) → (cause : Refusal) → Refuses names (Put name a) cause → cause ≡ why.NoMemory
only_memory names name a present why.SheetFull h = absurd (false≢true (sym (ap is_some h.0) ∙ present))
only_memory names name a present why.NoMemory h = refl
only_memory names name a present (why.Cycle c) h = absurd h
only_memory names name a present why.NotFound h = absurd h
only_memory names name a present why.NotData h = absurd h
only_memory names name a present why.Rank h = absurd h
only_memory names name a present why.Length h = absurd h
only_memory names name a present why.Index h = absurd h
only_memory names name a present why.Domain h = absurd h
only_memory names name a present why.Limit h = absurd h
only_memory names name a present (why.Fault e) h = absurd h
only_memory names name a present why.Stale h = absurd h
only_memory names name a present why.NotReady h = absurd h
only_memory names name a present why.NoSlot h = absurd h
only_memory names name a present why.SlotInUse h = absurd h

-- a cell was edited, so its name is present
pub cell_present : (b : Option Binding) (positions : List ℤ) (literal : Literal) (a : ArrayValue) → cell_put b positions literal ≡ Ok a → IsSome b
cell_present None positions literal a h = let never : Err why.NotFound ≡ Ok a = h in absurd cc
cell_present (Some b) positions literal a h = refl

pub refused_cell : (names : Names) (name : List ℕ) (positions : List ℤ) (literal : Literal) (a : ArrayValue) → cell_put (binding names name) positions literal ≡ Ok a
    → (cause : Refusal) → Refuses names (Put name a) cause → Refuses names (SetCell name positions literal) cause
refused_cell names name positions literal a is cause h =
    subst (λ (y : Refusal). Refuses names (SetCell name positions literal) y) (sym (only_memory names name a (cell_present (binding names name) positions literal a is) cause h)) tt

-- so it is where the cell is patched
pub refused_patch : (names : Names) (name : List ℕ) (positions : List ℤ) (literal : Literal) (a : ArrayValue) (p : PatchValue) → binding names name ≡ Some (Data a) → cell_put (binding names name) positions literal ≡ Ok (patched a p)
    → IsAcyclic (Refers names) → (cause : Refusal) → CannotBecome names (names_with names name (proposed.Data (Patch p))) name cause → Refuses names (SetCell name positions literal) cause
refused_patch names name positions literal a p held is acyclic cause h =
    let patched_names : names_with names name (proposed.Data (Patch p)) ≡ put names name (Data (patched a p)) =
    ap (λ r. rebound names name (option_map binding_of (data_entry (applied (Patch p) r)))) (val_data names name a held) in
    refused_cell names name positions literal (patched a p) is cause (refused_put names name (patched a p) acyclic cause (subst (λ ns. CannotBecome names ns name cause) patched_names h))

-- a row was added to data, so its name is present
pub row_present : (b : Option Binding) (literal : Literal) (a : ArrayValue) → row_put b literal ≡ Ok a → IsSome b
row_present None literal a h = let never : Err why.NotFound ≡ Ok a = h in absurd cc
row_present (Some b) literal a h = refl

pub refused_row : (names : Names) (name : List ℕ) (literal : Literal) (a : ArrayValue) → row_put (binding names name) literal ≡ Ok a
    → (cause : Refusal) → Refuses names (Put name a) cause → Refuses names (AddRow name literal) cause
refused_row names name literal a is cause h =
    subst (λ (y : Refusal). Refuses names (AddRow name literal) y) (sym (only_memory names name a (row_present (binding names name) literal a is) cause h)) tt

-- so it is where the data grows
pub refused_tail : (names : Names) (name : List ℕ) (literal : Literal) (a : ArrayValue) (t : TailValue) → binding names name ≡ Some (Data a) → row_put (binding names name) literal ≡ Ok (grown_by a t.items)
    → IsAcyclic (Refers names) → (cause : Refusal) → CannotBecome names (names_with names name (proposed.Data (Grown t))) name cause → Refuses names (AddRow name literal) cause
refused_tail names name literal a t held is acyclic cause h =
    let longer = grown_by a t.items in
    let grown_names : names_with names name (proposed.Data (Grown t)) ≡ put names name (Data longer) =
    ap (λ r. rebound names name (option_map binding_of (data_entry (applied (Grown t) r)))) (val_data names name a held) in
    refused_row names name literal longer is cause (refused_put names name longer acyclic cause (subst (λ ns. CannotBecome names ns name cause) grown_names h))

-- the number of names after one is rebound
module _ (names : Names) (name : List ℕ) (b : Binding) where
  present_long : IsSome (binding names name) → length (put names name b) ≡ length names
  present_long there =
      sym (length-map (put names name b) (λ (e : List ℕ × Binding). e.0)) ∙ (ap length (keys_put name b names there) ∙ length-map names (λ (e : List ℕ × Binding). e.0))

  absent_long : binding names name ≡ None → length (put names name b) ≡ length names + 1
  absent_long none = ap length (put_last name b names none) ∙ length-append names ((name, b) ∷ [])

  pub few_put : length names ≤ most_names → HasRoomForName names name → length (put names name b) ≤ most_names
  few_put few room = ⊎_elim (λ there. omega (arith, few, present_long there)) (λ fewer. by (binding names name) refl fewer) room
    where
      by : (o : Option Binding) → binding names name ≡ o → length names < most_names → length (put names name b) ≤ most_names
      by (Some c) is fewer = omega (arith, few, present_long (subst (λ o. IsSome o) (sym is) refl))
      by None is fewer = omega (arith, fewer, absent_long is)
