use Rattle.std.{proofs.Common.{◌≡◌, ◌∙◌, ℕ, List, refl, sym, ap, subst, Some, Option, Ok, Err}, specs.Prelude.{Box, Vec}, specs.Option.{option_map}}
use Rattle.{change_rules.specs.Currency.{applied}, arrays_core.{specs.Growth.{grown_by}, specs.Arrays.{ArrayValue}}}
use Rattle.index_region.{specs.Patches.{PatchValue, patched}, specs.Tails.{TailValue}, specs.declared.delta.Delta.{Delta}, specs.declared.delta.Delta.TheVariants.{Same, Patch, Grown, Whole}}
use Rattle.sheet_recalc.{specs.Names.{Names, Data, binding, put, rebound}, specs.Meaning.{val}, specs.Entries.{names_of, binding_of, HasData}, specs.Planning.{IsProposalAt}, specs.Tables.{Tables}, specs.Pending.{IsReadyToMake, outline_at}, specs.Live.{TellsUsers, AreRightOnceTaken, plan_in}}
use Rattle.sheet_recalc.{specs.ProposedSheet.{data_entry, proposed_entry, proposed_names, names_with}, specs.declared.entry.Entry.{Entry}, specs.declared.growth.Growth.{Growth}, specs.declared.proposal.Proposal.{Proposal}, proofs.Live.{val_data, binding_of_name}, proofs.Accounted.{table_kept}}
use Rattle.formula_core.{specs.Changes.{FitsIn}, specs.Plans.{PlanValue}}
use Rattle.sheet_recalc.specs.declared.entry.Entry.TheVariants as entry
use Rattle.sheet_recalc.specs.declared.proposal.Proposal.TheVariants as proposed
use Rattle.sheet_recalc.proofs.commit.make.Goals as goal

-- data that is changed where it lies
abbrev changed_data : ArrayValue → Delta → ArrayValue
changed_data a (Patch p) = patched a p
changed_data a (Grown t) = grown_by a t.items
changed_data a d = a

in_place : (es : List (List ℕ × Entry)) (name : List ℕ) (d : Delta) → IsProposalAt es name (proposed.Data d) → ((b : ArrayValue) → d ≡ Whole (Ok b) → ⊥) → (a : ArrayValue) × HasData es name a × FitsIn d (Ok a)
in_place es name Same h other = absurd h
in_place es name (Patch p) h other = h
in_place es name (Grown t) h other = h
in_place es name (Whole (Ok b)) h other = absurd (other b refl)
in_place es name (Whole (Err e)) h other = absurd h

-- and this is the entry that it makes of it
own_changed : (es : List (List ℕ × Entry)) (name : List ℕ) (d : Delta) → IsProposalAt es name (proposed.Data d) → ((b : ArrayValue) → d ≡ Whole (Ok b) → ⊥) → (a : ArrayValue) → HasData es name a
    → proposed_entry (val (names_of es) name) (proposed.Data d) ≡ Some (entry.Data (changed_data a d))
own_changed es name d h other a held = ap (λ r. data_entry (applied d r)) (val_data (names_of es) name a (binding_of_name es name ∙ ap (option_map binding_of) held)) ∙ by d h other
  where
    by : (d : Delta) → IsProposalAt es name (proposed.Data d) → ((b : ArrayValue) → d ≡ Whole (Ok b) → ⊥) → data_entry (applied d (Ok a)) ≡ Some (entry.Data (changed_data a d))
    by Same h other = absurd h
    by (Patch p) h other = refl
    by (Grown t) h other = refl
    by (Whole (Ok b)) h other = absurd (other b refl)
    by (Whole (Err e)) h other = absurd h

pub returns-in-Formula-clause-tells : goal.returns-in-Formula-clause-tells
returns-in-Formula-clause-tells c =
    subst (λ (p : Proposal). TellsUsers (names_with (names_of c.args.entries.now.entries) c.args.name p) c.commit_with.new.users.entries) (sym c.in-Formula.is) c.commit_with.ensures.tells

pub returns-in-Removed-clause-tells : goal.returns-in-Removed-clause-tells
returns-in-Removed-clause-tells c =
    subst (λ (p : Proposal). TellsUsers (names_with (names_of c.args.entries.now.entries) c.args.name p) c.commit_removal.new.users.entries) (sym c.in-Removed.is) c.commit_removal.ensures.tells

pub returns-in-Data-Whole-Ok-clause-tells : goal.returns-in-Data-Whole-Ok-clause-tells
returns-in-Data-Whole-Ok-clause-tells c =
    let whole = c.in-Data-Whole-Ok in
    let is = whole.is ∙ (ap (λ (d : Delta). proposed.Data d) (whole.field-0-is ∙ ap Whole whole.field-0-0-is)) in
    subst (λ (p : Proposal). TellsUsers (names_with (names_of c.args.entries.now.entries) c.args.name p) c.commit_with-in-Data-Whole-Ok.new.users.entries) (sym is) c.commit_with-in-Data-Whole-Ok.ensures.tells

-- where the data is changed in place
module _ {A : Type 0} (t : Tables) (name : List ℕ) (p : Proposal) (found : List (List ℕ × Option PlanValue)) (growth : Option (Box Growth A)) (d : Delta) (is : p ≡ proposed.Data d)
    (other : (b : ArrayValue) → d ≡ Whole (Ok b) → ⊥) (ready : IsReadyToMake t name p found growth) where
  abbrev es : List (List ℕ × Entry)
  es = t.entries.entries

  stands : IsProposalAt es name (proposed.Data d)
  stands = subst (IsProposalAt es name) is ready.proposal_at

  held : (a : ArrayValue) × HasData es name a × FitsIn d (Ok a)
  held = in_place es name d stands other

  own : (a : ArrayValue) → HasData es name a → proposed_entry (val (names_of es) name) p ≡ Some (entry.Data (changed_data a d))
  own a there = ap (proposed_entry (val (names_of es) name)) is ∙ own_changed es name d stands other a there

  fits_planned : (a : ArrayValue) → HasData es name a → AreRightOnceTaken es name (Some (entry.Data (changed_data a d))) (put (names_of es) name (Data (changed_data a d))) (plan_in found)
  fits_planned a there =
      subst (λ (e : Option Entry). AreRightOnceTaken es name e (rebound (names_of es) name (option_map binding_of e)) (plan_in found)) (own a there) ready.planned

  makes_names : (new : Names) → ((a : ArrayValue) → HasData es name a → new ≡ put (names_of es) name (Data (changed_data a d))) → new ≡ proposed_names (outline_at t name p)
  makes_names new made = made held.0 held.1 ∙ sym (ap (λ (e : Option Entry). rebound (names_of es) name (option_map binding_of e)) (own held.0 held.1))

  makes_table : {S : Type 0} (users : List (List ℕ × Vec (List ℕ) S)) → TellsUsers (names_of es) users → TellsUsers (proposed_names (outline_at t name p)) users
  makes_table users tells =
      let there : binding (names_of es) name ≡ Some (Data held.0) = binding_of_name es name ∙ ap (option_map binding_of) held.1 in
      subst (λ (e : Option Entry). TellsUsers (rebound (names_of es) name (option_map binding_of e)) users) (sym (own held.0 held.1))
      (table_kept (names_of es) name held.0 (changed_data held.0 d) users there tells)

no_array : (p : PatchValue) (b : ArrayValue) → Patch p ≡ Whole (Ok b) → ⊥
no_array p b h = cc

tail_no_array : (t : TailValue) (b : ArrayValue) → Grown t ≡ Whole (Ok b) → ⊥
tail_no_array t b h = cc

pub commit_patch-requires-clause-planned : goal.commit_patch-requires-clause-planned
commit_patch-requires-clause-planned c =
    let p = c.in-Data-Patch.patch in
    let is = c.in-Data-Patch.is ∙ ap (λ (d : Delta). proposed.Data d) c.in-Data-Patch.field-0-is in
    fits_planned (record { entries = c.args.entries.now; users = c.args.users.now }) c.args.name c.args.proposal c.args.found.now.entries c.args.growth (Patch p) is (no_array p) c.requires.ready

pub returns-in-Data-Patch-clause-names : goal.returns-in-Data-Patch-clause-names
returns-in-Data-Patch-clause-names c =
    let p = c.in-Data-Patch.patch in
    let is = c.in-Data-Patch.is ∙ ap (λ (d : Delta). proposed.Data d) c.in-Data-Patch.field-0-is in
    makes_names (record { entries = c.args.entries.now; users = c.args.users.now }) c.args.name c.args.proposal c.args.found.now.entries c.args.growth (Patch p) is (no_array p) c.requires.ready (names_of c.commit_patch.new.entries.entries) c.commit_patch.ensures.names

pub returns-in-Data-Patch-clause-tells : goal.returns-in-Data-Patch-clause-tells
returns-in-Data-Patch-clause-tells c =
    let p = c.in-Data-Patch.patch in
    let is = c.in-Data-Patch.is ∙ ap (λ (d : Delta). proposed.Data d) c.in-Data-Patch.field-0-is in
    makes_table (record { entries = c.args.entries.now; users = c.args.users.now }) c.args.name c.args.proposal c.args.found.now.entries c.args.growth (Patch p) is (no_array p) c.requires.ready c.args.users.now.entries c.requires.tells

pub commit_row-requires-clause-planned : goal.commit_row-requires-clause-planned
commit_row-requires-clause-planned c =
    let t = c.in-Data-Grown.tail in
    let is = c.in-Data-Grown.is ∙ ap (λ (d : Delta). proposed.Data d) c.in-Data-Grown.field-0-is in
    fits_planned (record { entries = c.args.entries.now; users = c.args.users.now }) c.args.name c.args.proposal c.args.found.now.entries c.args.growth (Grown t) is (tail_no_array t) c.requires.ready

pub returns-in-Data-Grown-clause-names : goal.returns-in-Data-Grown-clause-names
returns-in-Data-Grown-clause-names c =
    let t = c.in-Data-Grown.tail in
    let is = c.in-Data-Grown.is ∙ ap (λ (d : Delta). proposed.Data d) c.in-Data-Grown.field-0-is in
    makes_names (record { entries = c.args.entries.now; users = c.args.users.now }) c.args.name c.args.proposal c.args.found.now.entries c.args.growth (Grown t) is (tail_no_array t) c.requires.ready (names_of c.commit_row.new.entries.entries) c.commit_row.ensures.names

pub returns-in-Data-Grown-clause-tells : goal.returns-in-Data-Grown-clause-tells
returns-in-Data-Grown-clause-tells c =
    let t = c.in-Data-Grown.tail in
    let is = c.in-Data-Grown.is ∙ ap (λ (d : Delta). proposed.Data d) c.in-Data-Grown.field-0-is in
    makes_table (record { entries = c.args.entries.now; users = c.args.users.now }) c.args.name c.args.proposal c.args.found.now.entries c.args.growth (Grown t) is (tail_no_array t) c.requires.ready c.args.users.now.entries c.requires.tells

pub returns-in-Data-Same-clause-tells : goal.returns-in-Data-Same-clause-tells
returns-in-Data-Same-clause-tells c = absurd (rw (c.in-Data-Same.is ∙ ap (λ (d : Delta). proposed.Data d) c.in-Data-Same.field-0-is) at c.requires.ready.proposal_at)

pub returns-in-Data-Whole-Err-clause-tells : goal.returns-in-Data-Whole-Err-clause-tells
returns-in-Data-Whole-Err-clause-tells c =
    let whole = c.in-Data-Whole-Err in
    absurd (rw (whole.is ∙ (ap (λ (d : Delta). proposed.Data d) (whole.field-0-is ∙ ap Whole whole.field-0-0-is))) at c.requires.ready.proposal_at)
