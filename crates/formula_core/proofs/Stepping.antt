-- The change of an operation, computed from its inputs, is the change of its tree.
use Rattle.std.{proofs.Common.{◌≡◌, ℕ, ◌+◌, ◌≤◌, List, [], ◌∷◌, ◌++◌, map, Bool, true, false, ◌&&◌, Option, Some, None, is_some, Result, Ok, Err, refl, sym, ap, ◌∙◌, subst, IfOk, if◌then◌else◌}, specs.List.{list_all}, specs.declared.alloc.AllocError.{AllocError}, proofs.lemmas.Bool.{false≢true}}
use Rattle.apl_expr.{specs.Trees.{Tree, Index, before_argument, between_arguments, positions_of}, specs.declared.functions.Function1.{Function1}, specs.declared.functions.Function2.{Function2}}
use Rattle.arrays_core.{specs.Arrays.{ArrayValue}, specs.declared.fault.Fault.{Fault}, specs.Outcomes.{Outcome}}
use Rattle.index_region.{specs.declared.delta.Delta.{Delta}, specs.declared.delta.Delta.TheVariants.{Same, Patch, Grown, Whole}}
use Rattle.{change_core.specs.RuleModels.{RuleModel}, change_rules.specs.Nodes.{is_same, is_whole}, selection_fns.specs.Index.{index_rule}}
use Rattle.formula_core.{specs.declared.input.Input.{Input}, specs.declared.input.Input.TheVariants.{Good, Bad}, specs.Meaning.{eval}, specs.Rules.{right_rule, both_rule}}
use Rattle.formula_core.{specs.Changes.{NamesChange, arguments, result_of, result_delta, result_cost, operation_delta, operation_cost, operation_size, written, values_of, change, changes, cost_at, tree_size}, specs.Inputs.{shown, stays, delta_of, written_inputs, AllHaveFit, IsInput, IsOperationChange}}
use Rattle.formula_core.{specs.Stages.{GivesItsTree, GiveTheirTrees, IsStep}, proofs.Applied.{change_before, change_between, cost_before, cost_between, eval_before, eval_between, size_before, size_between}, proofs.Changed.{all_arrays, monad_meant, dyad_meant, indexing_meant}}

-- each input has its value and its change
abbrev pub AllInputs : List Outcome → List Delta → List Input → Type 0
AllInputs [] [] [] = Unit {0}
AllInputs (o ∷ os) (d ∷ ds) (i ∷ is) = IsInput o d i × AllInputs os ds is
AllInputs _ _ _ = ⊥

pub stays_same : (i : Input) → stays i ≡ is_same (delta_of i)
stays_same (Good array delta) = refl
stays_same (Bad fault true) = refl
stays_same (Bad fault false) = refl

all_shown : (os : List Outcome) (ds : List Delta) (is : List Input) → AllInputs os ds is → map shown is ≡ os
all_shown [] [] [] h = refl
all_shown (o ∷ os) (d ∷ ds) (i ∷ is) h = let here = h.0.is in let rest = all_shown os ds is h.1 in λ k. here k ∷ rest k
all_shown [] [] (i ∷ is) h = absurd h
all_shown [] (d ∷ ds) is h = absurd h
all_shown (o ∷ os) [] is h = absurd h
all_shown (o ∷ os) (d ∷ ds) [] h = absurd h

all_stay : (os : List Outcome) (ds : List Delta) (is : List Input) → AllInputs os ds is → list_all is_same (map delta_of is) ≡ list_all is_same ds
all_stay [] [] [] h = refl
all_stay (o ∷ os) (d ∷ ds) (i ∷ is) h = let here = sym (stays_same i) ∙ h.0.same in let rest = all_stay os ds is h.1 in λ k. here k && rest k
all_stay [] [] (i ∷ is) h = absurd h
all_stay [] (d ∷ ds) is h = absurd h
all_stay (o ∷ os) [] is h = absurd h
all_stay (o ∷ os) (d ∷ ds) [] h = absurd h

pub array_delta : (i : Input) (a : ArrayValue) (d : Delta) → IsInput (Ok a) d i → delta_of i ≡ d
array_delta (Good array delta) a d h = h.delta
array_delta (Bad fault changed) a d h = absurd (let is : Err fault ≡ Ok a = h.is in let no : ⊥ = cc in no)

all_deltas : (arrays : List ArrayValue) (ds : List Delta) (is : List Input) → AllInputs (map (λ a. Ok a) arrays) ds is → map delta_of is ≡ ds
all_deltas [] [] [] h = refl
all_deltas (a ∷ arrays) (d ∷ ds) (i ∷ is) h = let here = array_delta i a d h.0 in let rest = all_deltas arrays ds is h.1 in λ k. here k ∷ rest k
all_deltas [] [] (i ∷ is) h = absurd h
all_deltas [] (d ∷ ds) is h = absurd h
all_deltas (a ∷ arrays) [] is h = absurd h
all_deltas (a ∷ arrays) (d ∷ ds) [] h = absurd h

module _ (p : RuleModel) (os : List Outcome) (ds : List Delta) (is : List Input) (all : AllInputs os ds is) (held : Outcome) where
  delta_by : (r : Result (List ArrayValue) Fault) → arguments os ≡ r → operation_delta p r (map delta_of is) held ≡ operation_delta p r ds held
  delta_by (Ok arrays) e = ap (λ xs. result_delta p arrays xs held) (all_deltas arrays ds is (subst (λ (xs : List Outcome). AllInputs xs ds is) (all_arrays os arrays e) all))
  delta_by (Err f) e = ap (λ (b : Bool). if b then Same else Whole (Err f)) (all_stay os ds is all)

  cost_by : (r : Result (List ArrayValue) Fault) → arguments os ≡ r → operation_cost p r (map delta_of is) held ≡ operation_cost p r ds held
  cost_by (Ok arrays) e = ap (λ xs. result_cost p arrays xs held) (all_deltas arrays ds is (subst (λ (xs : List Outcome). AllInputs xs ds is) (all_arrays os arrays e) all))
  cost_by (Err f) e = refl

  pub delta_stepped : operation_delta p (arguments (map shown is)) (map delta_of is) held ≡ operation_delta p (arguments os) ds held
  delta_stepped = ap (λ xs. operation_delta p (arguments xs) (map delta_of is) held) (all_shown os ds is all) ∙ delta_by (arguments os) refl

  pub cost_stepped : operation_cost p (arguments (map shown is)) (map delta_of is) held ≡ operation_cost p (arguments os) ds held
  cost_stepped = ap (λ xs. operation_cost p (arguments xs) (map delta_of is) held) (all_shown os ds is all) ∙ cost_by (arguments os) refl

-- the step of an operation in a formula that holds results
pub held_step : (p : RuleModel) (c : NamesChange) (t : Tree) (os : List Outcome) (ds : List Delta) (is : List Input) (held : Outcome) (before after : ℕ) (r : Result (Delta × ℕ) AllocError) → AllInputs os ds is
    → change c t ≡ operation_delta p (arguments os) ds held → cost_at c t ≡ operation_cost p (arguments os) ds held → IsOperationChange p is held before after r → IsStep false c t before after r
held_step p c t os ds is held before after r all changed costs made = record {
  delta = subst (λ (x : Delta). IfOk r (λ s. s.0 ≡ x)) (delta_stepped p os ds is all held ∙ sym changed) made.delta;
  cost = subst (λ (x : ℕ). IfOk r (λ s. s.1 ≡ x)) (cost_stepped p os ds is all held ∙ sym costs) made.cost;
  ticks = subst (λ (x : ℕ). after ≤ before + x) (cost_stepped p os ds is all held ∙ sym costs) made.ticks;
  least = made.least;
  rises = made.rises;
}

-- the first input is marked new
abbrev pub BeginsAnew : List Input → Type 0
BeginsAnew [] = ⊥
BeginsAnew (i ∷ is) = is_whole (delta_of i) ≡ true

-- an operation with a new argument is computed whole
pub record IsWhole (p : RuleModel) (r : Result (List ArrayValue) Fault) (ds : List Delta) (held : Outcome) : Type 0 where
  pub delta : operation_delta p r ds held ≡ Whole (result_of p r)
  pub cost : operation_cost p r ds held ≡ operation_size p r

whole_by : (p : RuleModel) (r : Result (List ArrayValue) Fault) (d : Delta) (ds : List Delta) (held : Outcome) → is_whole d ≡ true → IsWhole p r (d ∷ ds) held
whole_by p r Same ds held w = absurd (false≢true w)
whole_by p r (Patch q) ds held w = absurd (false≢true w)
whole_by p r (Grown t) ds held w = absurd (false≢true w)
whole_by p (Err e) (Whole o) ds held w = record { delta = refl; cost = refl }
whole_by p (Ok arrays) (Whole o) ds held w = record { delta = refl; cost = refl }

pub whole_all : (p : RuleModel) (os : List Outcome) (is : List Input) (held : Outcome) → map shown is ≡ os → BeginsAnew is → IsWhole p (arguments (map shown is)) (map delta_of is) held
whole_all p os [] held shows new = absurd new
whole_all p os (i ∷ is) held shows new = whole_by p (arguments (map shown (i ∷ is))) (delta_of i) (map delta_of is) held new

-- the step of an operation in a new formula
pub new_step : (p : RuleModel) (c : NamesChange) (t : Tree) (os : List Outcome) (is : List Input) (held : Outcome) (before after : ℕ) (r : Result (Delta × ℕ) AllocError) → map shown is ≡ os → BeginsAnew is
    → result_of p (arguments os) ≡ eval t c.new → tree_size c.new t ≡ operation_size p (arguments os) → IsOperationChange p is held before after r → IsStep true c t before after r
new_step p c t os is held before after r shows new meant sized made =
    let whole = whole_all p os is held shows new in
    let delta = whole.delta ∙ ap (λ xs. Whole (result_of p (arguments xs))) shows ∙ ap (λ o. Whole o) meant in
    let cost = whole.cost ∙ ap (λ xs. operation_size p (arguments xs)) shows ∙ sym sized in
    record {
      delta = subst (λ (x : Delta). IfOk r (λ s. s.0 ≡ x)) delta made.delta;
      cost = subst (λ (x : ℕ). IfOk r (λ s. s.1 ≡ x)) cost made.cost;
      ticks = subst (λ (x : ℕ). after ≤ before + x) cost made.ticks;
      least = made.least;
      rises = made.rises;
    }

pub monad_step : (is_new : Bool) (c : NamesChange) (f : Function1) (b : Tree) (right : Input) (held : Outcome) (before after : ℕ) (r : Result (Delta × ℕ) AllocError) → GivesItsTree is_new c b right → (is_new ≡ false → held ≡ eval (before_argument f b) c.old)
    → IsOperationChange (right_rule f) (right ∷ []) held before after r → IsStep is_new c (before_argument f b) before after r
monad_step true c f b right held before after r ready holds made =
    let shows = ready.shows refl in
    new_step (right_rule f) c (before_argument f b) (eval b c.new ∷ []) (right ∷ []) held before after r (λ i. shows i ∷ []) (ready.anew refl) (monad_meant f (eval b c.new) ∙ sym (eval_before c.new f b)) (size_before c.new f b) made
monad_step false c f b right held before after r ready holds made =
    held_step (right_rule f) c (before_argument f b) (eval b c.new ∷ []) (change c b ∷ []) (right ∷ []) held before after r (ready.is refl, tt)
    (change_before c f b ∙ ap (operation_delta (right_rule f) (arguments (eval b c.new ∷ [])) (change c b ∷ [])) (sym (holds refl)))
    (cost_before c f b ∙ ap (operation_cost (right_rule f) (arguments (eval b c.new ∷ [])) (change c b ∷ [])) (sym (holds refl))) made

pub dyad_step : (is_new : Bool) (c : NamesChange) (f : Function2) (a b : Tree) (left right : Input) (held : Outcome) (before after : ℕ) (r : Result (Delta × ℕ) AllocError) → GivesItsTree is_new c a left → GivesItsTree is_new c b right
    → (is_new ≡ false → held ≡ eval (between_arguments f a b) c.old) → IsOperationChange (both_rule f) (left ∷ right ∷ []) held before after r → IsStep is_new c (between_arguments f a b) before after r
dyad_step true c f a b left right held before after r l k holds made =
    let shows = l.shows refl in
    let show = k.shows refl in
    new_step (both_rule f) c (between_arguments f a b) (eval a c.new ∷ eval b c.new ∷ []) (left ∷ right ∷ []) held before after r (λ i. shows i ∷ show i ∷ []) (l.anew refl) (dyad_meant f (eval a c.new) (eval b c.new) ∙ sym (eval_between c.new f a b)) (size_between c.new f a b) made
dyad_step false c f a b left right held before after r l k holds made =
    held_step (both_rule f) c (between_arguments f a b) (eval a c.new ∷ eval b c.new ∷ []) (change c a ∷ change c b ∷ []) (left ∷ right ∷ []) held before after r (l.is refl, (k.is refl, tt))
    (change_between c f a b ∙ ap (operation_delta (both_rule f) (arguments (eval a c.new ∷ eval b c.new ∷ [])) (change c a ∷ change c b ∷ [])) (sym (holds refl)))
    (cost_between c f a b ∙ ap (operation_cost (both_rule f) (arguments (eval a c.new ∷ eval b c.new ∷ [])) (change c a ∷ change c b ∷ [])) (sym (holds refl))) made

-- the positions of an index
ready_inputs : (c : NamesChange) (ts : List (Option Tree)) (is : List (Option Input)) → GiveTheirTrees false c ts is → AllInputs (values_of (positions_of ts) c.new) (changes c (positions_of ts)) (written_inputs is)
ready_inputs c [] [] h = tt
ready_inputs c (None ∷ ts) (None ∷ is) h = ready_inputs c ts is h
ready_inputs c (Some t ∷ ts) (Some i ∷ is) h = (h.0.is refl, ready_inputs c ts is h.1)
ready_inputs c [] (i ∷ is) h = absurd h
ready_inputs c (None ∷ ts) [] h = absurd h
ready_inputs c (None ∷ ts) (Some i ∷ is) h = absurd h
ready_inputs c (Some t ∷ ts) [] h = absurd h
ready_inputs c (Some t ∷ ts) (None ∷ is) h = absurd h

ready_shown : (c : NamesChange) (ts : List (Option Tree)) (is : List (Option Input)) → GiveTheirTrees true c ts is → map shown (written_inputs is) ≡ values_of (positions_of ts) c.new
ready_shown c [] [] h = refl
ready_shown c (None ∷ ts) (None ∷ is) h = ready_shown c ts is h
ready_shown c (Some t ∷ ts) (Some i ∷ is) h = let here = h.0.shows refl in let rest = ready_shown c ts is h.1 in λ k. here k ∷ rest k
ready_shown c [] (i ∷ is) h = absurd h
ready_shown c (None ∷ ts) [] h = absurd h
ready_shown c (None ∷ ts) (Some i ∷ is) h = absurd h
ready_shown c (Some t ∷ ts) [] h = absurd h
ready_shown c (Some t ∷ ts) (None ∷ is) h = absurd h

ready_written : (is_new : Bool) (c : NamesChange) (ts : List (Option Tree)) (is : List (Option Input)) → GiveTheirTrees is_new c ts is → map is_some is ≡ written (positions_of ts)
ready_written is_new c [] [] h = refl
ready_written is_new c (None ∷ ts) (None ∷ is) h = ap (λ ws. false ∷ ws) (ready_written is_new c ts is h)
ready_written is_new c (Some t ∷ ts) (Some i ∷ is) h = ap (λ ws. true ∷ ws) (ready_written is_new c ts is h.1)
ready_written is_new c [] (i ∷ is) h = absurd h
ready_written is_new c (None ∷ ts) [] h = absurd h
ready_written is_new c (None ∷ ts) (Some i ∷ is) h = absurd h
ready_written is_new c (Some t ∷ ts) [] h = absurd h
ready_written is_new c (Some t ∷ ts) (None ∷ is) h = absurd h

-- one more position, written or not
pub ready_more : (is_new : Bool) (c : NamesChange) (ts : List (Option Tree)) (is : List (Option Input)) (t : Option Tree) (i : Option Input) → GiveTheirTrees is_new c ts is → GiveTheirTrees is_new c (t ∷ []) (i ∷ []) → GiveTheirTrees is_new c (ts ++ t ∷ []) (is ++ i ∷ [])
ready_more is_new c [] [] t i h one = one
ready_more is_new c (None ∷ ts) (None ∷ is) t i h one = ready_more is_new c ts is t i h one
ready_more is_new c (Some u ∷ ts) (Some j ∷ is) t i h one = (h.0, ready_more is_new c ts is t i h.1 one)
ready_more is_new c [] (j ∷ is) t i h one = absurd h
ready_more is_new c (None ∷ ts) [] t i h one = absurd h
ready_more is_new c (None ∷ ts) (Some j ∷ is) t i h one = absurd h
ready_more is_new c (Some u ∷ ts) [] t i h one = absurd h
ready_more is_new c (Some u ∷ ts) (None ∷ is) t i h one = absurd h

pub fit_more : (is : List (Option Input)) (i : Option Input) → AllHaveFit is → AllHaveFit (i ∷ []) → AllHaveFit (is ++ i ∷ [])
fit_more [] i h one = one
fit_more (None ∷ is) i h one = fit_more is i h one
fit_more (Some j ∷ is) i h one = (h.0, fit_more is i h.1 one)

index_by : (is_new : Bool) (c : NamesChange) (a : Tree) (ts : List (Option Tree)) (array : Input) (positions : List (Option Input)) (held : Outcome) (before after : ℕ) (r : Result (Delta × ℕ) AllocError)
    → GivesItsTree is_new c a array → GiveTheirTrees is_new c ts positions → (is_new ≡ false → held ≡ eval (Index a (positions_of ts)) c.old)
    → IsOperationChange (index_rule (written (positions_of ts))) (array ∷ written_inputs positions) held before after r → IsStep is_new c (Index a (positions_of ts)) before after r
index_by true c a ts array positions held before after r ready all holds made =
    let ps = positions_of ts in
    let shows = ready.shows refl in
    let rest = ready_shown c ts positions all in
    new_step (index_rule (written ps)) c (Index a ps) (eval a c.new ∷ values_of ps c.new) (array ∷ written_inputs positions) held before after r (λ i. shows i ∷ rest i) (ready.anew refl) (indexing_meant a ps c.new) refl made
index_by false c a ts array positions held before after r ready all holds made =
    let ps = positions_of ts in
    held_step (index_rule (written ps)) c (Index a ps) (eval a c.new ∷ values_of ps c.new) (change c a ∷ changes c ps) (array ∷ written_inputs positions) held before after r (ready.is refl, ready_inputs c ts positions all)
    (ap (operation_delta (index_rule (written ps)) (arguments (eval a c.new ∷ values_of ps c.new)) (change c a ∷ changes c ps)) (sym (holds refl)))
    (ap (operation_cost (index_rule (written ps)) (arguments (eval a c.new ∷ values_of ps c.new)) (change c a ∷ changes c ps)) (sym (holds refl))) made

pub index_step : (is_new : Bool) (c : NamesChange) (a : Tree) (ts : List (Option Tree)) (array : Input) (positions : List (Option Input)) (held : Outcome) (before after : ℕ) (r : Result (Delta × ℕ) AllocError)
    → GivesItsTree is_new c a array → GiveTheirTrees is_new c ts positions → (is_new ≡ false → held ≡ eval (Index a (positions_of ts)) c.old)
    → IsOperationChange (index_rule (map is_some positions)) (array ∷ written_inputs positions) held before after r → IsStep is_new c (Index a (positions_of ts)) before after r
index_step is_new c a ts array positions held before after r ready all holds made =
    index_by is_new c a ts array positions held before after r ready all holds
    (subst (λ (ws : List Bool). IsOperationChange (index_rule ws) (array ∷ written_inputs positions) held before after r) (ready_written is_new c ts positions all) made)
