-- A formula that adopts its plan gives its name the value it shall show.
use Rattle.std.{proofs.Common.{◌≡◌, ℕ, zero, suc, ◌<◌, ◌-◌, Bool, true, false, List, [], ◌∷◌, ◌++◌, length, map, get_or, Option, Some, None, is_some, Ok, Err, IfOk, refl, sym, ap, ◌∙◌, subst, arith, ⊎_elim}, specs.Borrow.{Bor}, specs.Str.{bytes_eq}, specs.Map.{lookup}, specs.List.{Contains}}
use Rattle.std.{specs.Option.{option_map, option_map_or}, proofs.lemmas.Bool.{false≢true}, proofs.lemmas.List.{length-map, length-append, map-append, get_or-map}, proofs.lemmas.List.Elements.{Contains-append_cases}, proofs.Math.Seq.{get_or-append_seam}}
use Rattle.{dep_order.proofs.Following.{contains_one}, apl_expr.specs.Trees.{Tree}}
use Rattle.arrays_core.{specs.Arrays.{ArrayValue, IsArray}, specs.declared.fault.Fault.{Fault}, specs.declared.item.Kind.TheVariants.{Value}, specs.Growth.{grown_by}, specs.Outcomes.{Outcome, fault}}
use Rattle.index_region.{specs.Patches.{patched}, specs.declared.delta.Delta.{Delta}, specs.declared.delta.Delta.TheVariants.{Same, Patch, Grown, Whole}}
use Rattle.change_rules.{specs.Currency.{applied}, specs.Nodes.{is_same}}
use Rattle.formula_core.{specs.Meaning.{eval, names_in}, specs.Tables.{subtrees}, specs.Formulas.{FormulaValue, root_result}, specs.Changes.{NamesChange, FitsIn, IsNameChanged}, specs.declared.kept.NodeChange.{NodeChange}, specs.Holdings.{Holding, holding_at, not_worked_out, no_change, taking, adopted}}
use Rattle.formula_core.{specs.Inputs.{IsInput, IsAllOrNothing}, specs.Plans.{PlanValue, IsPlanOf, IsPlanned, root_change, node_change, IsNameSound, AreInputs, IsTold, tree_cost}, specs.declared.input.Input.{Input}, specs.declared.input.Input.TheVariants.{Good, Bad}, proofs.Rooted.{before_root, root_last}}
use Rattle.formula_core.specs.Outcomes.{arisen_in}
use Rattle.sheet_recalc.{specs.Names.{Names, Binding, Formula, binding}, specs.Meaning.{with_origin, shown_beside, val}, specs.Costs.{origin_delta, delta_by, binding_cost}, specs.Entries.{names_of, binding_of}, specs.Live.{IsRightEntry}}
use Rattle.sheet_recalc.{specs.ProposedSheet.{Outline, is_data, data_entry, proposed_entry, own_entry, proposed_names, proposed_delta, proposed_change, entry_of}, specs.Planning.{IsProposed, IsPlanAt, HasItsPlan, IsUntouched, NeedsNoPlan, IsProposalAt, name_cost}, specs.declared.entry.Entry.{Entry}}
use Rattle.sheet_recalc.{specs.declared.proposal.Proposal.{Proposal}, proofs.NameEquality.{equal-true, equal-same}, proofs.Scratch.{val_absent}, proofs.Live.{val_data, binding_of_name}, proofs.Proposed.{bound_own, bound_other}}
use Rattle.sheet_recalc.specs.declared.entry.Entry.TheVariants as entry
use Rattle.sheet_recalc.specs.declared.proposal.Proposal.TheVariants as proposed

-- an array or an error gets its origin, and so does its change
pub origin_applied : (x : List ℕ) (d : Delta) (o : Outcome) → applied (origin_delta x d) (with_origin x o) ≡ with_origin x (applied d o)
origin_applied x Same o = refl
origin_applied x (Patch p) (Ok a) = refl
origin_applied x (Patch p) (Err e) = refl
origin_applied x (Grown t) (Ok a) = refl
origin_applied x (Grown t) (Err e) = refl
origin_applied x (Whole r) o = refl

pub origin_fits : (x : List ℕ) (d : Delta) (o : Outcome) → FitsIn d o → FitsIn (origin_delta x d) (with_origin x o)
origin_fits x Same o f = tt
origin_fits x (Patch p) (Ok a) f = f
origin_fits x (Patch p) (Err e) f = f
origin_fits x (Grown t) (Ok a) f = f
origin_fits x (Grown t) (Err e) f = f
origin_fits x (Whole r) o f = tt

pub origin_sound : (x : List ℕ) (o : Outcome) → IfOk o IsArray → IfOk (with_origin x o) IsArray
origin_sound x (Ok a) s = s
origin_sound x (Err e) s = tt

same_origin : (x : List ℕ) (d : Delta) → is_same d ≡ is_same (origin_delta x d)
same_origin x Same = refl
same_origin x (Patch p) = refl
same_origin x (Grown t) = refl
same_origin x (Whole r) = refl

good_delta : (x : List ℕ) (d : Delta) (held : Outcome) (a : ArrayValue) → Ok a ≡ applied d held → d ≡ origin_delta x d
good_delta x Same held a is = refl
good_delta x (Patch p) held a is = refl
good_delta x (Grown t) held a is = refl
good_delta x (Whole (Ok b)) held a is = refl
good_delta x (Whole (Err e)) held a is = let never : Ok a ≡ Err e = is in absurd cc

-- an input gets its origin
pub good_origin : (x : List ℕ) (d : Delta) (held : Outcome) (a : ArrayValue) (delta : Bor Delta) → IsInput (applied d held) d (Good a delta) → IsInput (with_origin x (applied d held)) (origin_delta x d) (Good a delta)
good_origin x d held a delta i = record { is = ap (with_origin x) i.is; same = i.same ∙ same_origin x d; delta = i.delta ∙ good_delta x d held a i.is }

all_by_origin : (x : List ℕ) (d : Delta) → IsAllOrNothing d → IsAllOrNothing (origin_delta x d)
all_by_origin x Same h = tt
all_by_origin x (Patch p) h = h
all_by_origin x (Grown t) h = h
all_by_origin x (Whole r) h = tt

pub bad_origin : (x : List ℕ) (d : Delta) (held : Outcome) (e f : Fault) (changed : Bool) → f ≡ arisen_in x e → IsInput (applied d held) d (Bad e changed) → IsInput (with_origin x (applied d held)) (origin_delta x d) (Bad f changed)
bad_origin x d held e f changed from i = record {
  is = ap (λ g. Err g) from ∙ ap (with_origin x) i.is;
  same = i.same ∙ same_origin x d;
  delta = all_by_origin x d i.delta;
}

-- the change of something that did not change
pub rest_input : (d : Delta) → d ≡ Same → (r o : Outcome) → r ≡ o → (i : Input) → IsInput (applied d r) d i → IsInput o Same i
rest_input d same r o is i told = subst (λ s. IsInput s Same i) is (subst (λ e. IsInput (applied e r) e i) same told)

-- the last result over the subtrees is the result for the tree
pub at_root : {X : Type 0} (g : Tree → X) (t : Tree) (d : X) → get_or (map g (subtrees t)) (length (map g (subtrees t)) - 1) d ≡ g t
at_root g t d =
    let all : map g (subtrees t) ≡ map g (before_root t) ++ g t ∷ [] = ap (map g) (root_last t) ∙ map-append g (before_root t) (t ∷ []) in
    let long : length (map g (before_root t) ++ g t ∷ []) - 1 ≡ length (map g (before_root t)) = omega (arith, length-append (map g (before_root t)) (g t ∷ [])) in
    ap (λ ys. get_or ys (length ys - 1) d) all ∙ (ap (λ k. get_or (map g (before_root t) ++ g t ∷ []) k d) long ∙ get_or-append_seam (map g (before_root t)) (g t) [] d)

pub has_root : (t : Tree) → 0 < length (subtrees t)
has_root t = omega (arith, ap (λ ts. length ts) (root_last t), length-append (before_root t) (t ∷ []))

adopted_at : (ds : List NodeChange) (hs : List Holding) (k : ℕ) → length ds ≡ length hs → get_or (adopted ds hs) k not_worked_out ≡ taking (get_or ds k no_change) (get_or hs k not_worked_out)
adopted_at [] [] k long = refl
adopted_at [] (h ∷ hs) k long = absurd (omega (arith, long))
adopted_at (d ∷ ds) [] k long = absurd (omega (arith, long))
adopted_at (d ∷ ds) (h ∷ hs) zero long = refl
adopted_at (d ∷ ds) (h ∷ hs) (suc k) long = adopted_at ds hs k (omega (arith, long))

-- a plan has a change for each tree with a node, and the last belongs to the whole tree
module _ (f : FormulaValue) (c : NamesChange) (p : PlanValue) (planned : IsPlanned f c p) where
  pub each_changed : length p.changes ≡ length (subtrees f.tree)
  each_changed = sym (length-map p.changes (λ (d : NodeChange). d.delta)) ∙ (ap (λ (ds : List Delta). length ds) planned.changes ∙ length-map (subtrees f.tree) (node_change f.is_new c))

  pub root_changed : root_change p.changes ≡ node_change f.is_new c f.tree
  root_changed =
      let last : length p.changes - 1 ≡ length (map (node_change f.is_new c) (subtrees f.tree)) - 1 = omega (arith, each_changed, length-map (subtrees f.tree) (node_change f.is_new c)) in
      sym (get_or-map (λ (d : NodeChange). d.delta) p.changes (length p.changes - 1) no_change Same (omega (arith, each_changed, has_root f.tree)))
      ∙ (ap (λ (ds : List Delta). get_or ds (length p.changes - 1) Same) planned.changes
      ∙ (ap (λ k. get_or (map (node_change f.is_new c) (subtrees f.tree)) k Same) last ∙ at_root (node_change f.is_new c) f.tree Same))

-- an array or an error is no formula
no_formula : (r : Outcome) (f : FormulaValue) → data_entry r ≡ Some (entry.Formula f) → ⊥
no_formula (Ok a) f is = let never : Some (entry.Data a) ≡ Some (entry.Formula f) = is in absurd cc
no_formula (Err e) f is = let never : None ≡ Some (entry.Formula f) = is in absurd cc

-- proposed data is an array: its change applied to the value of the name
pub data_made : (es : List (List ℕ × Entry)) (name : List ℕ) (d : Delta) → IsProposalAt es name (proposed.Data d) → (a : ArrayValue) × (applied d (val (names_of es) name) ≡ Ok a) × FitsIn d (val (names_of es) name)
data_made es name (Whole (Ok a)) h = (a, refl, tt)
data_made es name (Whole (Err e)) h = absurd h
data_made es name Same h = absurd h
data_made es name (Patch p) h =
    let shows : val (names_of es) name ≡ Ok h.0 = val_data (names_of es) name h.0 (binding_of_name es name ∙ ap (option_map binding_of) h.1) in
    (patched h.0 p, ap (applied (Patch p)) shows, subst (FitsIn (Patch p)) (sym shows) h.2)
data_made es name (Grown t) h =
    let shows : val (names_of es) name ≡ Ok h.0 = val_data (names_of es) name h.0 (binding_of_name es name ∙ ap (option_map binding_of) h.1) in
    (grown_by h.0 t.items, ap (applied (Grown t)) shows, subst (FitsIn (Grown t)) (sym shows) h.2)

module _ (o : Outline) where
  abbrev es : List (List ℕ × Entry)
  es = o.entries

  abbrev old : Names
  old = names_of es

  abbrev new : Names
  new = proposed_names o

  abbrev c : NamesChange
  c = proposed_change o

  -- the entry of a name after the change, and its binding
  pub entry_own : (q : List ℕ) (r : Option Entry) → bytes_eq q o.name ≡ true → entry_of o q ≡ r → own_entry o ≡ r
  entry_own q r same is = rw same at is

  pub entry_other : (q : List ℕ) (r : Option Entry) → bytes_eq q o.name ≡ false → entry_of o q ≡ r → lookup (bytes_eq q) es ≡ r
  entry_other q r other is = rw other at is

  pub binding_entry : (q : List ℕ) → binding new q ≡ option_map binding_of (entry_of o q)
  binding_entry q = by (bytes_eq q o.name) refl
    where
      by : (t : Bool) → bytes_eq q o.name ≡ t → binding new q ≡ option_map binding_of (entry_of o q)
      by true is = rw is (bound_own es o.name (option_map binding_of (own_entry o)) q is)
      by false is = rw is (bound_other es o.name (option_map binding_of (own_entry o)) q (lookup (bytes_eq q) es) is refl)

  module _ (ready : IsProposed o) where
    -- the change of the rebound name, and of others
    pub delta_own : (q : List ℕ) → bytes_eq q o.name ≡ true → c.delta q ≡ proposed_delta o.name new o.proposal
    delta_own q is = rw is at (ready.deltas q)

    pub delta_other : (q : List ℕ) → bytes_eq q o.name ≡ false → c.delta q ≡ delta_by q (binding new q) c
    delta_other q is = rw is at (ready.deltas q)

    -- a plan of a name's formula
    module _ (q : List ℕ) (f : FormulaValue) (held : entry_of o q ≡ Some (entry.Formula f)) where
      pub bound_to : binding new q ≡ Some (Formula f.tree)
      bound_to = binding_entry q ∙ ap (option_map binding_of) held

      pub formula_new : bytes_eq q o.name ≡ true → f.is_new ≡ true
      formula_new same = by o.proposal ready.proposal (entry_own q (Some (entry.Formula f)) same held)
        where
          by : (s : Proposal) → IsProposalAt es o.name s → proposed_entry (val old o.name) s ≡ Some (entry.Formula f) → f.is_new ≡ true
          by (proposed.Formula g) fine is = let this : g ≡ f = cc in subst (λ (v : FormulaValue). v.is_new ≡ true) this fine
          by (proposed.Data d) fine is = absurd (no_formula (applied d (val old o.name)) f is)
          by proposed.Removed fine is = let never : None ≡ Some (entry.Formula f) = is in absurd cc

      pub own_whole : bytes_eq q o.name ≡ true → proposed_delta o.name new o.proposal ≡ Whole (val new o.name)
      own_whole same = by o.proposal (entry_own q (Some (entry.Formula f)) same held)
        where
          by : (s : Proposal) → proposed_entry (val old o.name) s ≡ Some (entry.Formula f) → proposed_delta o.name new s ≡ Whole (val new o.name)
          by (proposed.Formula g) is = refl
          by (proposed.Data d) is = absurd (no_formula (applied d (val old o.name)) f is)
          by proposed.Removed is = refl

      own_no_data : bytes_eq q o.name ≡ true → is_data o.proposal ≡ false
      own_no_data same = by o.proposal (entry_own q (Some (entry.Formula f)) same held)
        where
          by : (s : Proposal) → proposed_entry (val old o.name) s ≡ Some (entry.Formula f) → is_data s ≡ false
          by (proposed.Formula g) is = refl
          by (proposed.Data d) is = absurd (no_formula (applied d (val old o.name)) f is)
          by proposed.Removed is = refl

      pub formula_old : bytes_eq q o.name ≡ false → IsRightEntry (val old) q (entry.Formula f)
      formula_old other = ready.current q (entry.Formula f) (entry_other q (Some (entry.Formula f)) other held)

      pub is_new_own : f.is_new ≡ bytes_eq q o.name
      is_new_own = by (bytes_eq q o.name) refl
        where
          by : (t : Bool) → bytes_eq q o.name ≡ t → f.is_new ≡ bytes_eq q o.name
          by true is = formula_new is ∙ sym is
          by false is = (formula_old is).0.worked_out ∙ sym is

      pub shows_formula : val new q ≡ with_origin q (eval f.tree (val new))
      shows_formula = ready.settled q ∙ ap (λ b. shown_beside q b (val new)) bound_to

      -- it holds its old result, unless it is new
      formula_holds : f.is_new ≡ false → f.nodes ≡ map (holding_at (val old)) (subtrees f.tree)
      formula_holds worked_out = by (bytes_eq q o.name) refl
        where
          by : (t : Bool) → bytes_eq q o.name ≡ t → f.nodes ≡ map (holding_at (val old)) (subtrees f.tree)
          by true is = absurd (false≢true (sym worked_out ∙ formula_new is))
          by false is = (formula_old is).0.nodes

      -- the inputs of its names
      pub formula_told : (names : List (List ℕ)) (inputs : List Input) → names ≡ names_in f.tree → AreInputs c names inputs
          → ((x : List ℕ) → Contains names x → IsNameChanged c x) → ((x : List ℕ) → Contains names x → IsNameSound c x) → IsTold f c inputs
      formula_told names inputs is told changed sound =
          let there = λ (x : List ℕ) (h : Contains (names_in f.tree) x). subst (λ (ns : List (List ℕ)). Contains ns x) (sym is) h in
          record {
            holds = formula_holds;
            tell = subst (λ (ns : List (List ℕ)). AreInputs c ns inputs) is told;
            changed = λ x h. changed x (there x h);
            sound = λ x h. sound x (there x h);
          }

      -- the cost of its plan
      pub formula_cost : tree_cost f.is_new c f.tree ≡ name_cost o.name c new q
      formula_cost = ap (λ b. tree_cost b c f.tree) is_new_own ∙ ap (λ (b : Option Binding). option_map_or (λ d. binding_cost o.name c (q, d)) b 0) (sym bound_to)

      module _ (p : PlanValue) (fits : IsPlanOf f p) (planned : IsPlanned f c p) where
        abbrev root : Outcome
        root = root_result f.nodes

        abbrev root_delta : Delta
        root_delta = root_change p.changes

        abbrev last : ℕ
        last = length f.nodes - 1

        counted : length p.changes ≡ length (subtrees f.tree)
        counted = each_changed f c p planned

        root_delta_at : root_delta ≡ (get_or p.changes last no_change).delta
        root_delta_at = ap (λ n. (get_or p.changes (n - 1) no_change).delta) fits.each

        pub root_becomes : applied root_delta root ≡ eval f.tree (val new)
        root_becomes =
            let nodes = map (holding_at (val new)) (subtrees f.tree) in
            let long : length nodes - 1 ≡ last = omega (arith, length-map (subtrees f.tree) (holding_at (val new)), counted, fits.each) in
            ap (λ d. applied d root) root_delta_at
            ∙ ap (λ (h : Holding). h.result) (sym (adopted_at p.changes f.nodes last fits.each)
            ∙ (ap (λ (hs : List Holding). get_or hs last not_worked_out) planned.right
            ∙ (ap (λ k. get_or nodes k not_worked_out) (sym long) ∙ at_root (holding_at (val new)) f.tree not_worked_out)))

        pub root_changes : root_delta ≡ node_change f.is_new c f.tree
        root_changes = root_changed f c p planned

        pub root_fits : FitsIn root_delta root
        root_fits = subst (λ n. FitsIn (get_or p.changes (n - 1) no_change).delta root) (sym fits.each) (fits.fit last (omega (arith, counted, fits.each, has_root f.tree))).delta

        pub planned_shows : with_origin q (applied root_delta root) ≡ val new q
        planned_shows = ap (with_origin q) root_becomes ∙ sym shows_formula

        pub planned_delta : origin_delta q root_delta ≡ c.delta q
        planned_delta = by (bytes_eq q o.name) refl
          where
            by : (t : Bool) → bytes_eq q o.name ≡ t → origin_delta q root_delta ≡ c.delta q
            by true is =
                let name : q ≡ o.name = equal-true q o.name is in
                ap (origin_delta q) (root_changes ∙ ap (λ b. node_change b c f.tree) (formula_new is))
                ∙ (ap (λ r. Whole r) (sym shows_formula) ∙ (ap (λ x. Whole (val new x)) name ∙ (sym (own_whole is) ∙ sym (delta_own q is))))
            by false is =
                ap (origin_delta q) (root_changes ∙ ap (λ b. node_change b c f.tree) (formula_old is).0.worked_out)
                ∙ (ap (λ b. delta_by q b c) (sym bound_to) ∙ sym (delta_other q is))

        pub planned_changed : IsNameChanged c q
        planned_changed = record { right = by (bytes_eq q o.name) refl; fit = fit (bytes_eq q o.name) refl }
          where
            by : (t : Bool) → bytes_eq q o.name ≡ t → applied (c.delta q) (val old q) ≡ val new q
            by true is = ap (λ d. applied d (val old q)) (delta_own q is ∙ own_whole is) ∙ ap (val new) (sym (equal-true q o.name is))
            by false is =
                ap (λ d. applied d (val old q)) (sym planned_delta)
                ∙ (ap (applied (origin_delta q root_delta)) (sym (formula_old is).1) ∙ (origin_applied q root_delta root ∙ planned_shows))

            fit : (t : Bool) → bytes_eq q o.name ≡ t → FitsIn (c.delta q) (val old q)
            fit true is = subst (λ d. FitsIn d (val old q)) (sym (delta_own q is ∙ own_whole is)) tt
            fit false is = subst (λ d. FitsIn d (val old q)) planned_delta (subst (FitsIn (origin_delta q root_delta)) (formula_old is).1 (origin_fits q root_delta root root_fits))

        pub planned_sound : IfOk root IsArray → IfOk (applied root_delta root) IsArray → IsNameSound c q
        planned_sound before after = record { old = by (bytes_eq q o.name) refl; new = subst (λ r. IfOk r IsArray) planned_shows (origin_sound q (applied root_delta root) after) }
          where
            by : (t : Bool) → bytes_eq q o.name ≡ t → IfOk (val old q) IsArray
            by true is = subst (λ x. IfOk (val old x) IsArray) (sym (equal-true q o.name is)) (ready.sound (own_no_data is))
            by false is = subst (λ r. IfOk r IsArray) (formula_old is).1 (origin_sound q root before)

        pub planned_input : (i : Input) → IsInput (with_origin q (applied root_delta root)) (origin_delta q root_delta) i → IsInput (val new q) (c.delta q) i
        planned_input i is = subst (λ d. IsInput (val new q) d i) planned_delta (subst (λ r. IsInput r (origin_delta q root_delta) i) planned_shows is)

    -- a name without a plan
    module _ (q : List ℕ) (still : IsUntouched o q) where
      pub untouched_changed : IsNameChanged c q
      untouched_changed = record {
        right = ap (λ d. applied d (val old q)) still.same ∙ sym still.shows;
        fit = subst (λ d. FitsIn d (val old q)) (sym still.same) tt;
      }

      pub untouched_sound : IfOk (val old q) IsArray → IsNameSound c q
      untouched_sound sound = record { old = sound; new = subst (λ u. IfOk u IsArray) (sym still.shows) sound }

      pub untouched_input : (i : Input) → IsInput (val old q) Same i → IsInput (val new q) (c.delta q) i
      untouched_input i told = subst (λ d. IsInput (val new q) d i) (sym still.same) (subst (λ r. IsInput r Same i) (sym still.shows) told)

    -- the rebound name
    own_bound : (s : Proposal) → o.proposal ≡ s → binding new o.name ≡ option_map binding_of (proposed_entry (val old o.name) s)
    own_bound s is = bound_own es o.name (option_map binding_of (own_entry o)) o.name (equal-same o.name o.name refl) ∙ ap (λ p. option_map binding_of (proposed_entry (val old o.name) p)) is

    pub own_held : (f : FormulaValue) → o.proposal ≡ proposed.Formula f → entry_of o o.name ≡ Some (entry.Formula f)
    own_held f is = rw (equal-same o.name o.name refl) (ap (proposed_entry (val old o.name)) is)

    pub own_formula : (f : FormulaValue) → o.proposal ≡ proposed.Formula f → NeedsNoPlan o o.name → ⊥
    own_formula f is done = (done.reads f.tree (own_bound (proposed.Formula f) is)).0 refl

    module _ (d : Delta) (is : o.proposal ≡ proposed.Data d) where
      made : (a : ArrayValue) × (applied d (val old o.name) ≡ Ok a) × FitsIn d (val old o.name)
      made = data_made es o.name d (subst (λ p. IsProposalAt es o.name p) is ready.proposal)

      pub data_fits : FitsIn d (val old o.name)
      data_fits = made.2

      data_shows : applied d (val old o.name) ≡ val new o.name
      data_shows = made.1 ∙ sym (val_data new o.name made.0 (own_bound (proposed.Data d) is ∙ ap (λ r. option_map binding_of (data_entry r)) made.1))

      data_delta : d ≡ c.delta o.name
      data_delta = sym (delta_own o.name (equal-same o.name o.name refl) ∙ ap (proposed_delta o.name new) is)

      pub data_input : (i : Input) → IsInput (applied d (val old o.name)) d i → IsInput (val new o.name) (c.delta o.name) i
      data_input i told = subst (λ e. IsInput (val new o.name) e i) data_delta (subst (λ r. IsInput r d i) data_shows told)

      pub data_changed : IsNameChanged c o.name
      data_changed = record {
        right = ap (λ e. applied e (val old o.name)) (sym data_delta) ∙ data_shows;
        fit = subst (λ e. FitsIn e (val old o.name)) data_delta data_fits;
      }

      pub data_sound : IfOk (val old o.name) IsArray → IfOk (applied d (val old o.name)) IsArray → IsNameSound c o.name
      data_sound before after = record { old = before; new = subst (λ r. IfOk r IsArray) data_shows after }

    module _ (is : o.proposal ≡ proposed.Removed) where
      none_shows : val new o.name ≡ Err (fault Value)
      none_shows = val_absent new (length new) o.name (own_bound proposed.Removed is)

      none_delta : c.delta o.name ≡ Whole (val new o.name)
      none_delta = delta_own o.name (equal-same o.name o.name refl) ∙ ap (proposed_delta o.name new) is

      pub none_input : (e : Fault) → e ≡ fault Value → IsInput (val new o.name) (c.delta o.name) (Bad e true)
      none_input e same = record {
        is = ap (λ f. Err f) same ∙ sym none_shows;
        same = ap is_same (sym none_delta);
        delta = subst IsAllOrNothing (sym none_delta) tt;
      }

      pub none_changed : IsNameChanged c o.name
      none_changed = record { right = ap (λ d. applied d (val old o.name)) none_delta; fit = subst (λ d. FitsIn d (val old o.name)) (sym none_delta) tt }

      pub none_sound : IsNameSound c o.name
      none_sound = record { old = ready.sound (ap is_data is); new = subst (λ r. IfOk r IsArray) (sym none_shows) tt }

-- the plan of a name is one of the formula that stands there
pub plan_now : (o : Outline) (q : List ℕ) (p : PlanValue) (f : FormulaValue) → IsPlanAt o q p → entry_of o q ≡ Some (entry.Formula f) → IsPlanOf f p × IsPlanned f (proposed_change o) p
plan_now o q p f plan held =
    let both : Some (entry.Formula plan.formula) ≡ Some (entry.Formula f) = sym plan.held ∙ held in
    let same : plan.formula ≡ f = cc in
    subst (λ (g : FormulaValue). IsPlanOf g p × IsPlanned g (proposed_change o) p) same (plan.of, plan.planned)

-- another name without a plan stays
pub stays_untouched : (o : Outline) (plans : List ℕ → Option PlanValue) (q : List ℕ) → HasItsPlan o plans q → plans q ≡ None → (q ≡ o.name → ⊥) → IsUntouched o q
stays_untouched o plans q done none apart = ⊎_elim (λ some. absurd (false≢true (subst (λ p. is_some p ≡ true) none some))) (λ n. n.others apart) done

-- the inputs of further names
pub inputs_more : (c : NamesChange) (names : List (List ℕ)) (inputs : List Input) (x : List ℕ) (i : Input) → AreInputs c names inputs → IsInput (c.new x) (c.delta x) i → AreInputs c (names ++ x ∷ []) (inputs ++ i ∷ [])
inputs_more c [] [] x i are is = (is, tt)
inputs_more c [] (j ∷ inputs) x i are is = absurd are
inputs_more c (y ∷ names) [] x i are is = absurd are
inputs_more c (y ∷ names) (j ∷ inputs) x i are is = (are.0, inputs_more c names inputs x i are.1 is)

pub all_more : (P : List ℕ → Type 0) (names : List (List ℕ)) (x : List ℕ) → ((y : List ℕ) → Contains names y → P y) → P x → (y : List ℕ) → Contains (names ++ x ∷ []) y → P y
all_more P names x all one y c = ⊎_elim (λ l. all y l) (λ r. subst P (sym (contains_one x y r)) one) (Contains-append_cases names (x ∷ []) y c)

-- a list of one item
pub one_item : (xs : List (List ℕ)) (x : List ℕ) → length xs ≡ 1 → x ≡ get_or xs 0 x → xs ≡ x ∷ []
one_item [] x long is = absurd (omega (arith, long))
one_item (y ∷ []) x long is = ap (λ (z : List ℕ). z ∷ []) (sym is)
one_item (y ∷ z ∷ xs) x long is = absurd (omega (arith, long))

pub of_one : (P : List ℕ → Type 0) (x : List ℕ) → P x → (y : List ℕ) → Contains (x ∷ []) y → P y
of_one P x one y c = subst P (sym (contains_one x y c)) one
