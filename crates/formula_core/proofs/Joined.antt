-- The number of joins for the node of a tree.
use Rattle.std.{proofs.Common.{◌≡◌, ℕ, ◌+◌, ◌-◌, ◌*◌, ◌≤◌, List, [], ◌∷◌, length, Bool, true, false, ◌&&◌, is_some, Option, Some, None, Result, Ok, Err, IfOk, refl, sym, ap, ◌∙◌, subst, arith, inl, inr}, specs.Option.{option_map_or}, specs.declared.alloc.AllocError.{AllocError}}
use Rattle.std.proofs.lemmas.Bool.{cases_Bool, cond-false, cond-true, false≢true}
use Rattle.apl_expr.{specs.Trees.{Tree, before_argument}, specs.declared.functions.Function1.{Function1}}
use Rattle.arrays_core.{specs.Arrays.{ArrayValue}, specs.Growth.{grown_by}, specs.declared.fault.Fault.{Fault}, specs.Outcomes.{Outcome}}
use Rattle.index_region.{specs.Arguments.{is_of_numbers}, specs.declared.delta.Delta.{Delta}, specs.declared.delta.Delta.TheVariants.{Same, Patch, Grown, Whole}, specs.Patches.{PatchValue, patched}, specs.Tails.{TailValue}}
use Rattle.{function_names.specs.Axes.{axis_at}, reduce_fns.specs.declared.reduce.Reduce.{Reduce}}
use Rattle.{change_core.{specs.Meters.{ticked}, specs.RuleModels.{RuleModel}}, change_rules.{specs.Currency.{applied}, specs.Nodes.{is_error, is_whole}}}
use Rattle.sum_rules.{specs.LineSums.{SummedValue, keeps_sums, length_along}, specs.Totals.{is_narrow, total_rule}}
use Rattle.formula_core.{specs.declared.input.Input.{Input}, specs.declared.stage.Stage.{Stage}, specs.declared.table.Operand.{Operand}, specs.Changes.{NamesChange, FitsIn, arguments, change, cost_at, operation_cost, operation_size}, specs.Inputs.{IsInput, delta_of, shown}}
use Rattle.formula_core.{specs.Joins.{had_trees, has_trees_for, least_joins, least_joins_of, most_joins, most_joins_of}, specs.Meaning.{eval}, specs.Plans.{node_change, node_cost_at}, specs.Rules.{right_rule}, specs.Stages.{AreTotalsJoined, IsJoined, IsKeptBy, GivesItsTree, IsStaged}}
use Rattle.formula_core.{specs.Sums.{AreSumsKept, WereSumsKept, summed_in, total_of}, specs.Tables.{IsOperand, tree_of_operand}, proofs.Applied.{cost_before, least_before, most_before, size_before, summed_before}, proofs.Stepping.{array_delta, cost_stepped, whole_all}, proofs.Summed.{at_axis, was_summed}}
use Rattle.formula_core.proofs.Totalled.{total_has, total_is}
use Rattle.formula_core.specs.declared.table.Node.TheVariants as node

-- ---- the sums that are kept

some_summed : (fold : Reduce) (a : ArrayValue) → is_some (summed_in fold (Ok a)) ≡ keeps_sums fold a
some_summed fold a = elim (cases_Bool (keeps_sums fold a)) [
  | inl t ↦ ap is_some (cond-true (keeps_sums fold a) (Some (at_axis fold.function (axis_at (length a.shape) fold.along) a)) None t) ∙ sym t
  | inr f ↦ ap is_some (cond-false (keeps_sums fold a) (Some (at_axis fold.function (axis_at (length a.shape) fold.along) a)) None f) ∙ sym f
]

kept_beside : (fold : Reduce) (p : PatchValue) (a : ArrayValue) (kept : Option SummedValue) (old : Outcome) → FitsIn (Patch p) old → applied (Patch p) old ≡ Ok a → kept ≡ summed_in fold old → is_some kept ≡ keeps_sums fold a
kept_beside fold p a kept (Err e) fit is keeps = absurd fit
kept_beside fold p a kept (Ok b) fit is keeps = let same : patched b p ≡ a = cc in ap is_some keeps ∙ (some_summed fold b ∙ ap (keeps_sums fold) same)

grown_beside : (fold : Reduce) (t : TailValue) (a : ArrayValue) (kept : Option SummedValue) (old : Outcome) → FitsIn (Grown t) old → applied (Grown t) old ≡ Ok a → kept ≡ summed_in fold old → WereSumsKept fold a t kept
grown_beside fold t a kept (Err e) fit is keeps = absurd fit
grown_beside fold t a kept (Ok b) fit is keeps = let same : grown_by b t.items ≡ a = cc in record { before = b; fit = fit; becomes = sym same; keeps = ap is_some keeps ∙ some_summed fold b }

-- the sums of a patched or grown argument are kept if its lines are long enough, or were before it grew
pub kept_well : (s : Stage) (f : Function1) (b : Operand) → IsOperand (length s.inputs.now) (length s.changes.now) b → (kept : Option SummedValue) → IsKeptBy s (node.Monad f b) kept → (i : Input)
    → ((c : NamesChange) → (names : List (List ℕ)) → (trees : List Tree) → IsStaged c names trees s → GivesItsTree s.is_new c (tree_of_operand names trees b) i)
    → (fold : Reduce) → total_of f ≡ Some fold → AreSumsKept fold (shown i) (delta_of i) kept
kept_well s f b within kept keeps i ready fold total = record {
  folded = total_has f fold total;
  changed = λ p a patch now.
      let was = was_summed fold c names trees s staged b within i (ready c names trees staged) kept held (ap is_whole patch) in
      kept_beside fold p a kept old (subst (λ (d : Delta). FitsIn d old) patch was.fit) (ap (λ (d : Delta). applied d old) (sym patch) ∙ (was.becomes ∙ now)) was.keeps;
  grew = λ t a grown now.
      let was = was_summed fold c names trees s staged b within i (ready c names trees staged) kept held (ap is_whole grown) in
      grown_beside fold t a kept old (subst (λ (d : Delta). FitsIn d old) grown was.fit) (ap (λ (d : Delta). applied d old) (sym grown) ∙ (was.becomes ∙ now)) was.keeps;
}
  where
    c : NamesChange
    c = keeps.0

    names : List (List ℕ)
    names = keeps.1.0

    trees : List Tree
    trees = keeps.1.1.0

    staged : IsStaged c names trees s
    staged = keeps.1.1.1.0

    old : Outcome
    old = eval (tree_of_operand names trees b) c.old

    held : s.is_new ≡ false → kept ≡ summed_in fold old
    held was = keeps.1.1.1.1 was ∙ summed_before c.old f (tree_of_operand names trees b) ∙ ap (λ (k : Option Reduce). option_map_or (λ x. summed_in x old) k None) total

-- ---- a node that joins none

ok_all : (r : Result (Delta × ℕ) AllocError) (P : Delta × ℕ → Type 0) → ((s : Delta × ℕ) → P s) → IfOk r P
ok_all (Ok s) P h = h s
ok_all (Err e) P h = tt

pub unjoined : (is_new : Bool) (c : NamesChange) (t : Tree) (before after : ℕ) (r : Result (Delta × ℕ) AllocError) → after ≡ before → most_joins is_new c t ≡ 0 → least_joins is_new c t ≡ 0 → IsJoined is_new c t before after r
unjoined is_new c t before after r same most least = record {
  most = omega (arith, same);
  least = ok_all r (λ s. is_error s.0 ≡ false → ticked before (least_joins is_new c t) ≤ after) (λ s sound. omega (arith, same, least));
}

-- ---- a total

whole_not_narrow : (d : Delta) → is_whole d ≡ true → (axis : ℕ) → is_narrow axis d ≡ false
whole_not_narrow (Whole r) h axis = refl
whole_not_narrow Same h axis = refl
whole_not_narrow (Grown t) h axis = absurd (false≢true h)
whole_not_narrow (Patch p) h axis = absurd (false≢true h)

-- a count of joins: 0 beside an error; for folded lines one less for each than it has numbers
record Counts (fold : Reduce) (count : Outcome → Delta → Outcome → ℕ → ℕ) : Type 0 where
  pub error : (e : Fault) (d other : Delta) (held gave : Outcome) (n m : ℕ) → count (Err e) d held n ≡ count (Err e) other gave m
  pub folds : (a : ArrayValue) (d : Delta) (held : Outcome) (n : ℕ) → is_narrow (axis_at (length a.shape) fold.along) d ≡ false → count (Ok a) d held n ≡ n * (length_along fold.along a.shape - 1)

none_narrow : (fold : Reduce) (a : ArrayValue) (d : Delta) (held : Outcome) → is_narrow (axis_at (length a.shape) fold.along) d ≡ false → has_trees_for fold a d held ≡ false
none_narrow fold a d held h = ap (λ (b : Bool). b && (is_of_numbers a.item_type && had_trees d held (length_along fold.along a.shape))) h

most_counts : (fold : Reduce) → Counts fold (most_joins_of fold)
most_counts fold = record { error = λ e d other held gave n m. refl; folds = λ a d held n h. cond-false (has_trees_for fold a d held) _ _ (none_narrow fold a d held h) }

least_counts : (fold : Reduce) → Counts fold (least_joins_of fold)
least_counts fold = record { error = λ e d other held gave n m. refl; folds = λ a d held n h. cond-false (has_trees_for fold a d held) _ _ (none_narrow fold a d held h) }

module _ (fold : Reduce) (count : Outcome → Delta → Outcome → ℕ → ℕ) (counts : Counts fold count) where
  held_same : (o : Outcome) (d : Delta) (i : Input) → IsInput o d i → (held gave : Outcome) → held ≡ gave → (n m : ℕ) → n ≡ m → count (shown i) (delta_of i) held n ≡ count o d gave m
  held_same (Ok a) d i input held gave h n m e = let is = input.is in let delta = array_delta i a d input in λ k. count (is k) (delta k) (h k) (e k)
  held_same (Err x) d i input held gave h n m e = ap (λ (o : Outcome). count o (delta_of i) held n) input.is ∙ counts.error x (delta_of i) d held gave n m

  new_same : (o : Outcome) (d other : Delta) → ((axis : ℕ) → is_narrow axis d ≡ false) → ((axis : ℕ) → is_narrow axis other ≡ false) → (held gave : Outcome) (n m : ℕ) → n ≡ m → count o d held n ≡ count o other gave m
  new_same (Ok a) d other h k held gave n m e =
      counts.folds a d held n (h (axis_at (length a.shape) fold.along)) ∙ (ap (λ x. x * (length_along fold.along a.shape - 1)) e ∙ sym (counts.folds a other gave m (k (axis_at (length a.shape) fold.along))))
  new_same (Err x) d other h k held gave n m e = counts.error x d other held gave n m

  -- the count of a total for its input is the count for its tree
  counted_same : (is_new : Bool) (c : NamesChange) (f : Function1) (b : Tree) (i : Input) (held : Outcome) → GivesItsTree is_new c b i → (is_new ≡ false → held ≡ eval (before_argument f b) c.old) → right_rule f ≡ total_rule fold
      → count (shown i) (delta_of i) held (operation_cost (total_rule fold) (arguments (shown i ∷ [])) (delta_of i ∷ []) held) ≡ count (eval b c.new) (node_change is_new c b) (eval (before_argument f b) c.old) (node_cost_at is_new c (before_argument f b))
  counted_same true c f b i held ready holds rule =
      let shows = ready.shows refl in
      let whole = whole_all (right_rule f) (eval b c.new ∷ []) (i ∷ []) held (λ k. shows k ∷ []) (ready.anew refl) in
      let cost : operation_cost (total_rule fold) (arguments (shown i ∷ [])) (delta_of i ∷ []) held ≡ operation_size (right_rule f) (arguments (eval b c.new ∷ [])) =
      ap (λ (p : RuleModel). operation_cost p (arguments (shown i ∷ [])) (delta_of i ∷ []) held) (sym rule) ∙ (whole.cost ∙ ap (λ (o : Outcome). operation_size (right_rule f) (arguments (o ∷ []))) shows) in
      ap (λ (o : Outcome). count o (delta_of i) held (operation_cost (total_rule fold) (arguments (shown i ∷ [])) (delta_of i ∷ []) held)) shows
      ∙ new_same (eval b c.new) (delta_of i) (Whole (eval b c.new)) (whole_not_narrow (delta_of i) (ready.anew refl)) (λ axis. refl) held (eval (before_argument f b) c.old) _ _ (cost ∙ sym (size_before c.new f b))
  counted_same false c f b i held ready holds rule =
      let input = ready.is refl in
      let cost : operation_cost (total_rule fold) (arguments (shown i ∷ [])) (delta_of i ∷ []) held ≡ cost_at c (before_argument f b) =
      ap (λ (p : RuleModel). operation_cost p (arguments (shown i ∷ [])) (delta_of i ∷ []) held) (sym rule)
      ∙ (cost_stepped (right_rule f) (eval b c.new ∷ []) (change c b ∷ []) (i ∷ []) (input, tt) held
      ∙ (ap (operation_cost (right_rule f) (arguments (eval b c.new ∷ [])) (change c b ∷ [])) (holds refl) ∙ sym (cost_before c f b))) in
      held_same (eval b c.new) (change c b) i input held (eval (before_argument f b) c.old) (holds refl) _ _ cost

-- a count of joins for the node of a tree, if it is a total
abbrev counted_for : (Reduce → Outcome → Delta → Outcome → ℕ → ℕ) → (is_new : Bool) → NamesChange → Function1 → Tree → Option Reduce → ℕ
counted_for count is_new c f b o = option_map_or (λ fold. count fold (eval b c.new) (node_change is_new c b) (eval (before_argument f b) c.old) (node_cost_at is_new c (before_argument f b))) o 0

pub monad_joined : (is_new : Bool) (c : NamesChange) (f : Function1) (b : Tree) (right : Input) (held : Outcome) (before after : ℕ) (r : Result (Delta × ℕ) AllocError) → GivesItsTree is_new c b right
    → (is_new ≡ false → held ≡ eval (before_argument f b) c.old) → ((fold : Reduce) → total_of f ≡ Some fold → AreTotalsJoined fold right held before after r) → (total_of f ≡ None → after ≡ before)
    → IsJoined is_new c (before_argument f b) before after r
monad_joined is_new c f b right held before after r ready holds joined none = by (total_of f) refl
  where
    by : (o : Option Reduce) → total_of f ≡ o → IsJoined is_new c (before_argument f b) before after r
    by (Some fold) total =
        let j = joined fold total in
        let rule = total_is f fold total in
        record {
          most = subst (λ k. after ≤ before + k) (counted_same fold (most_joins_of fold) (most_counts fold) is_new c f b right held ready holds rule ∙ sym (most_before is_new c f b ∙ ap (counted_for most_joins_of is_new c f b) total)) j.most;
          least =
              subst (λ k. IfOk r (λ s. is_error s.0 ≡ false → ticked before k ≤ after))
              (counted_same fold (least_joins_of fold) (least_counts fold) is_new c f b right held ready holds rule ∙ sym (least_before is_new c f b ∙ ap (counted_for least_joins_of is_new c f b) total)) j.least;
        }
    by None other = unjoined is_new c (before_argument f b) before after r (none other) (most_before is_new c f b ∙ ap (counted_for most_joins_of is_new c f b) other) (least_before is_new c f b ∙ ap (counted_for least_joins_of is_new c f b) other)
