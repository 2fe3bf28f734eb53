-- The proposal of each change is the one it asks for.
use Rattle.std.{proofs.Common.{◌≡◌, ◌∙◌, ℕ, ℤ, List, Option, Some, None, IsSome, Result, Ok, Err, IfOk, OnOk, IfErr, true, refl, sym, ap, subst, arith}, specs.Option.{option_map}}
use Rattle.{apl_expr.specs.Trees.{Tree, Literal}, arrays_core.{specs.Arrays.{ArrayValue}, specs.Growth.{grown_by}}}
use Rattle.{change_core.specs.Meters.{ticked, MeterValue}, change_rules.specs.Currency.{applied}}
use Rattle.index_region.{specs.Patches.{PatchValue, FitsPatch, patched}, specs.Tails.{TailValue, FitsTail}, specs.declared.delta.Delta.{Delta}, specs.declared.delta.Delta.TheVariants.{Patch, Grown, Whole}}
use Rattle.formula_core.{specs.Formulas.{FormulaValue}, specs.Meaning.{eval}, specs.Plans.{tree_cost}}
use Rattle.sheet_recalc.{specs.Names.{SheetValue, Data, Formula, binding, put, rebound}, specs.Meaning.{val}, specs.Cells.{cell_put, index_of_numbers, literal_items}, specs.Costs.{names_at_rest, cell_delta, row_delta, changed_name, asked_change, expression_cost, sheet_change}, specs.Rows.{row_put}}
use Rattle.sheet_recalc.{specs.Changes.{SheetChange, Accepts, Define, Put, Store, SetCell, AddRow, Erase, CannotPut}, specs.Entries.{names_of, binding_of, HasData}, specs.ProposedSheet.{data_entry, proposed_entry, proposed_delta, proposed_change}}
use Rattle.sheet_recalc.{specs.Pending.{IsPendingOn, IsProposedOn, IsProposalOf, names_after, outline_for}, specs.declared.entry.Entry.{Entry}, specs.declared.pending.Pending.{Pending}, specs.declared.proposal.Proposal.{Proposal}, proofs.Accounted.{shows_put, whole_put}, proofs.Live.{val_data, binding_of_name}}
use Rattle.sheet_recalc.proofs.Refused.{refused_define, refused_put, refused_erase, refused_data, refused_patch, refused_tail}
use Rattle.sheet_recalc.specs.declared.entry.Entry.TheVariants as entry
use Rattle.sheet_recalc.specs.declared.proposal.Proposal.TheVariants as proposed

pub if_ok_map : {T E : Type 0} (r : Result T E) (P Q : T → Type 0) → ((t : T) → P t → Q t) → IfOk r P → IfOk r Q
if_ok_map (Ok t) P Q f h = f t h
if_ok_map (Err e) P Q f h = h

pub if_err_map : {T E : Type 0} (r : Result T E) (P Q : E → Type 0) → ((e : E) → P e → Q e) → IfErr r P → IfErr r Q
if_err_map (Ok t) P Q f h = h
if_err_map (Err e) P Q f h = f e h

pub on_ok_map : {T E : Type 0} (r : Result T E) (P Q : Type 0) → (P → Q) → OnOk r P → OnOk r Q
on_ok_map (Ok t) P Q f h = f h
on_ok_map (Err e) P Q f h = h

module _ (s : SheetValue) (name : List ℕ) (proposal : Proposal) (spent : ℕ) (p : Pending) (h : IsProposedOn s name proposal spent p) where
  -- the names, by the entry that the proposal makes
  becomes : (e : Option Entry) → proposed_entry (val s.names name) proposal ≡ e → names_after s.tables p ≡ rebound s.names name (option_map binding_of e)
  becomes e is =
      (λ i. rebound (h.names_are i) (h.name_is i) (option_map binding_of (proposed_entry (val (h.names_are i) (h.name_is i)) (h.proposal_is i))))
      ∙ ap (λ x. rebound s.names name (option_map binding_of x)) is

  -- and the change of each, by the change of the name
  makes : (d : Delta) → proposed_delta name (names_after s.tables p) proposal ≡ d → proposed_change (outline_for s.tables p) ≡ sheet_change s.names (names_after s.tables p) name d
  makes d is =
      (λ i. sheet_change (h.names_are i) (names_after s.tables p) (h.name_is i) (proposed_delta (h.name_is i) (names_after s.tables p) (h.proposal_is i)))
      ∙ ap (λ e. sheet_change s.names (names_after s.tables p) name e) is

  pub asked : (change : SheetChange) → spent ≡ ticked 0 (expression_cost s.names change) → Accepts s.names change (names_after s.tables p) → name ≡ changed_name change → proposed_change (outline_for s.tables p) ≡ asked_change s.names change (names_after s.tables p) → IsPendingOn s change p
  asked change first accepts about is = record { base = spent; begun = h.begun; base_is = first; accepts = accepts; name_is = h.name_is ∙ about; makes = is }

-- nothing was spent where no expression is worked out
free : 0 ≡ ticked 0 0
free = omega arith

define_pending : (s : SheetValue) (name : List ℕ) (f : FormulaValue) (t : Tree) → f.tree ≡ t → (p : Pending) → IsProposedOn s name (proposed.Formula f) 0 p → IsPendingOn s (Define name t) p
define_pending s name f t is p h =
    asked s name (proposed.Formula f) 0 p h (Define name t) free
    (becomes s name (proposed.Formula f) 0 p h (Some (entry.Formula f)) refl ∙ ap (λ u. put s.names name (Formula u)) is, h.begun.sheet.acyclic, h.room)
    refl (makes s name (proposed.Formula f) 0 p h (Whole (val (names_after s.tables p) name)) refl)

erase_pending : (s : SheetValue) (name : List ℕ) → IsSome (binding s.names name) → (p : Pending) → IsProposedOn s name proposed.Removed 0 p → IsPendingOn s (Erase name) p
erase_pending s name there p h =
    asked s name proposed.Removed 0 p h (Erase name) free (there, becomes s name proposed.Removed 0 p h None refl) refl (makes s name proposed.Removed 0 p h (Whole (val (names_after s.tables p) name)) refl)

-- data that is patched in one cell
cell_pending : (s : SheetValue) (name : List ℕ) (positions : List ℤ) (literal : Literal) (patch : PatchValue) (a : ArrayValue) → HasData s.tables.entries.entries name a
    → cell_put (binding s.names name) positions literal ≡ Ok (patched a patch) → Patch patch ≡ cell_delta (index_of_numbers positions) (literal_items literal)
    → (p : Pending) → IsProposedOn s name (proposed.Data (Patch patch)) 0 p → IsPendingOn s (SetCell name positions literal) p
cell_pending s name positions literal patch a held is delta p h =
    let shows : val s.names name ≡ Ok a = ap (λ ns. val ns name) (sym h.names_are) ∙ val_data (names_of s.tables.entries.entries) name a (binding_of_name s.tables.entries.entries name ∙ ap (option_map binding_of) held) in
    asked s name (proposed.Data (Patch patch)) 0 p h (SetCell name positions literal) free
    (patched a patch, is, becomes s name (proposed.Data (Patch patch)) 0 p h (Some (entry.Data (patched a patch))) (ap (λ r. data_entry (applied (Patch patch) r)) shows))
    refl (makes s name (proposed.Data (Patch patch)) 0 p h (cell_delta (index_of_numbers positions) (literal_items literal)) delta)

-- a whole array
module _ (s : SheetValue) (name : List ℕ) (a : ArrayValue) (spent : ℕ) (p : Pending) (h : IsProposedOn s name (proposed.Data (Whole (Ok a))) spent p) where
  array_names : names_after s.tables p ≡ put s.names name (Data a)
  array_names = becomes s name (proposed.Data (Whole (Ok a))) spent p h (Some (entry.Data a)) refl

  array_makes : proposed_change (outline_for s.tables p) ≡ sheet_change s.names (names_after s.tables p) name (Whole (val (names_after s.tables p) name))
  array_makes = makes s name (proposed.Data (Whole (Ok a))) spent p h (Whole (val (names_after s.tables p) name)) (whole_put s.names (names_after s.tables p) name a (Whole (Ok a)) refl (sym array_names))

  data_pending : (t : Tree) → eval t (val s.names) ≡ Ok a → spent ≡ ticked 0 (tree_cost true (names_at_rest s.names) t) → IsPendingOn s (Store name t) p
  data_pending t is first = asked s name (proposed.Data (Whole (Ok a))) spent p h (Store name t) first (a, is, array_names, h.room) refl array_makes

put_pending : (s : SheetValue) (name : List ℕ) (a : ArrayValue) (p : Pending) → IsProposedOn s name (proposed.Data (Whole (Ok a))) 0 p → IsPendingOn s (Put name a) p
put_pending s name a p h = asked s name (proposed.Data (Whole (Ok a))) 0 p h (Put name a) free (array_names s name a 0 p h, h.room) refl (array_makes s name a 0 p h)

-- data that grows by a row
row_pending : (s : SheetValue) (name : List ℕ) (literal : Literal) (tail : TailValue) (a : ArrayValue) → HasData s.tables.entries.entries name a → FitsTail a tail
    → row_put (binding s.names name) literal ≡ Ok (grown_by a tail.items) → tail.items ≡ literal_items literal
    → (p : Pending) → IsProposedOn s name (proposed.Data (Grown tail)) 0 p → IsPendingOn s (AddRow name literal) p
row_pending s name literal tail a held fits is items p h =
    let longer = grown_by a tail.items in
    let shows : val s.names name ≡ Ok a = ap (λ ns. val ns name) (sym h.names_are) ∙ val_data (names_of s.tables.entries.entries) name a (binding_of_name s.tables.entries.entries name ∙ ap (option_map binding_of) held) in
    let names : names_after s.tables p ≡ put s.names name (Data longer) = becomes s name (proposed.Data (Grown tail)) 0 p h (Some (entry.Data longer)) (ap (λ r. data_entry (applied (Grown tail) r)) shows) in
    let now : val (names_after s.tables p) name ≡ Ok longer = ap (λ ns. val ns name) names ∙ shows_put s.names name longer in
    let typed = fits.typed in
    let shaped = fits.shaped in
    let grown : Grown tail ≡ row_delta (Ok longer) (literal_items literal) = λ i. Grown (record { item_type = typed i; shape = shaped i; items = items i }) in
    asked s name (proposed.Data (Grown tail)) 0 p h (AddRow name literal) free (longer, is, names) refl
    (makes s name (proposed.Data (Grown tail)) 0 p h (row_delta (val (names_after s.tables p) name) (literal_items literal)) (grown ∙ sym (ap (λ r. row_delta r (literal_items literal)) now)))

-- each change asks for its proposal
pub define_asked : (s : SheetValue) (name : List ℕ) (f : FormulaValue) (t : Tree) → f.tree ≡ t → f.is_new ≡ true → IsProposalOf s (Define name t) name (proposed.Formula f) 0
define_asked s name f t is new = record {
  fits = new;
  begins = define_pending s name f t is;
  refuses = λ acyclic cause h. refused_define s.names name t cause (subst (λ u. CannotPut s.names name (Formula u) cause) is h);
  spent_is = free;
}

pub erase_asked : (s : SheetValue) (name : List ℕ) → IsSome (binding s.names name) → IsProposalOf s (Erase name) name proposed.Removed 0
erase_asked s name there =
    record { fits = tt; begins = erase_pending s name there; refuses = λ acyclic cause h. refused_erase s.names name acyclic there cause h; spent_is = free }

pub cell_asked : (s : SheetValue) → names_of s.tables.entries.entries ≡ s.names → (name : List ℕ) (positions : List ℤ) (literal : Literal) (patch : PatchValue) (a : ArrayValue) → HasData s.tables.entries.entries name a → FitsPatch a patch
    → cell_put (binding (names_of s.tables.entries.entries) name) positions literal ≡ Ok (patched a patch) → Patch patch ≡ cell_delta (index_of_numbers positions) (literal_items literal) → IsProposalOf s (SetCell name positions literal) name (proposed.Data (Patch patch)) 0
cell_asked s same name positions literal patch a held fits put delta =
    let is = subst (λ ns. cell_put (binding ns name) positions literal ≡ Ok (patched a patch)) same put in
    let bound = ap (λ ns. binding ns name) (sym same) ∙ binding_of_name s.tables.entries.entries name ∙ ap (option_map binding_of) held in
    record {
      fits = (a, held, fits);
      begins = cell_pending s name positions literal patch a held is delta;
      refuses = λ acyclic cause h. refused_patch s.names name positions literal a patch bound is acyclic cause h;
      spent_is = free;
    }

pub row_asked : (s : SheetValue) → names_of s.tables.entries.entries ≡ s.names → (name : List ℕ) (literal : Literal) (tail : TailValue) (a : ArrayValue) → HasData s.tables.entries.entries name a → FitsTail a tail
    → row_put (binding (names_of s.tables.entries.entries) name) literal ≡ Ok (grown_by a tail.items) → tail.items ≡ literal_items literal → IsProposalOf s (AddRow name literal) name (proposed.Data (Grown tail)) 0
row_asked s same name literal tail a held fits put items =
    let is = subst (λ ns. row_put (binding ns name) literal ≡ Ok (grown_by a tail.items)) same put in
    let bound = ap (λ ns. binding ns name) (sym same) ∙ binding_of_name s.tables.entries.entries name ∙ ap (option_map binding_of) held in
    record {
      fits = (a, held, fits);
      begins = row_pending s name literal tail a held fits is items;
      refuses = λ acyclic cause h. refused_tail s.names name literal a tail bound is acyclic cause h;
      spent_is = free;
    }

pub store_asked : (s : SheetValue) (name : List ℕ) (a : ArrayValue) (spent : ℕ) (t : Tree) → eval t (val s.names) ≡ Ok a → spent ≡ ticked 0 (tree_cost true (names_at_rest s.names) t) → IsProposalOf s (Store name t) name (proposed.Data (Whole (Ok a))) spent
store_asked s name a spent t is first = record {
  fits = tt;
  begins = λ p h. data_pending s name a spent p h t is first;
  refuses = λ acyclic cause h. refused_data s.names name t a is cause (refused_put s.names name a acyclic cause h);
  spent_is = first;
}

pub put_asked : (s : SheetValue) (name : List ℕ) (a : ArrayValue) → IsProposalOf s (Put name a) name (proposed.Data (Whole (Ok a))) 0
put_asked s name a = record { fits = tt; begins = put_pending s name a; refuses = λ acyclic cause h. refused_put s.names name a acyclic cause h; spent_is = free }

-- a new meter has counted nothing
pub at_first : (s : SheetValue) (change : SheetChange) (name : List ℕ) (proposal : Proposal) (m : MeterValue) → m ≡ record { ticks = 0; joins = 0 } → IsProposalOf s change name proposal 0 → IsProposalOf s change name proposal m.ticks
at_first s change name proposal m is h = subst (λ (m : MeterValue). IsProposalOf s change name proposal m.ticks) (sym is) h

-- the name is the one of the change
pub of_name : (s : SheetValue) (change : SheetChange) (name : List ℕ) (proposal : Proposal) (spent : ℕ) → name ≡ changed_name change → IsProposalOf s change (changed_name change) proposal spent → IsProposalOf s change name proposal spent
of_name s change name proposal spent is h = subst (λ (q : List ℕ). IsProposalOf s change q proposal spent) (sym is) h
