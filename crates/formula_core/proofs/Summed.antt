-- The sums that totals keep follow the changes of their arguments.
use Rattle.std.{proofs.Common.{◌≡◌, ℕ, List, length, Box, Global, Bool, true, false, Option, Some, None, is_some, Result, Ok, Err, IfOk, refl, sym, ap, ◌∙◌, subst, inl, inr}, specs.declared.alloc.AllocError.{AllocError}, specs.Option.{option_map, option_map_or}}
use Rattle.{std.proofs.lemmas.Bool.{false≢true, cases_Bool, cond-true, cond-false}, apl_expr.specs.Trees.{Tree}}
use Rattle.arrays_core.{specs.Arrays.{ArrayValue}, specs.Growth.{grown_by}, proofs.Growing.{rank_longer}, specs.Outcomes.{Outcome}}
use Rattle.{function_names.{specs.Axes.{axis_at}, specs.declared.scalar.Scalar2.{Scalar2}}, reduce_fns.specs.declared.reduce.Reduce.{Reduce}}
use Rattle.index_region.{specs.declared.delta.Delta.{Delta}, specs.declared.delta.Delta.TheVariants.{Same, Patch, Grown, Whole}, specs.Patches.{PatchValue, patched}, specs.Tails.{TailValue, FitsTail}}
use Rattle.{change_rules.{specs.Currency.{applied}, specs.Nodes.{is_same, is_whole}}, fold_trees.specs.ArrayLines.{TreesValue}}
use Rattle.sum_rules.{specs.LineSums.{StandFor, SummedValue, keeps_sums, grown_sums, summed}, specs.NewLines.{NewLinesValue, FitsSums as FitBehind}, specs.Totals.{StoodBefore, StoodFor}, proofs.KeptSums.{kept_parts}}
use Rattle.formula_core.{specs.declared.input.Input.{Input}, specs.declared.input.Input.TheVariants.{Good, Bad}, specs.declared.stage.Stage.{Stage}, specs.declared.sums.SumsDelta.{SumsDelta}, specs.declared.table.Operand.{Operand}, specs.declared.table.Node.{Node}, specs.Meaning.{eval}}
use Rattle.formula_core.{specs.Tables.{tree_of_operand, tree_of_node, IsOperand, IsNode}, specs.Changes.{NamesChange, change, FitsIn}, specs.Inputs.{shown, delta_of, IsInput}, specs.Stages.{IsStaged, GivesItsTree, IsKeptBy, IsMadeBy, IsSumsStep}}
use Rattle.formula_core.{specs.Sums.{summed_in, summed_at, total_of, totalled, WasGrown, WasPatched, WasSummed, AreNewSums, FitsInSums, IsJoinedFrom, IsSumsDelta, IsSummedFor}, proofs.Applied.{summed_before, summed_between}, proofs.Steps.{operand_changed}}
use Rattle.formula_core.specs.declared.sums.SumsDelta.TheVariants as sums
use Rattle.formula_core.specs.declared.table.Node.TheVariants as node

-- an array whose lines along an axis are folded by a function
abbrev pub at_axis : Scalar2 → ℕ → ArrayValue → SummedValue
at_axis function axis a = record { function = function; axis = axis; array = a }

-- an array with kept sums is summed along its fold's axis
as_summed : (fold : Reduce) (axis : ℕ) (a : ArrayValue) → axis ≡ axis_at (length a.shape) fold.along → keeps_sums fold a ≡ true → Some (at_axis fold.function axis a) ≡ summed fold a
as_summed fold axis a meant keeps = ap (λ k. Some (at_axis fold.function k a)) meant ∙ sym (cond-true (keeps_sums fold a) (Some (at_axis fold.function (axis_at (length a.shape) fold.along) a)) None keeps)

-- ---- an array that is patched

-- the kept sums
pub record Kept (fold : Reduce) (o : Outcome) (s : SummedValue) : Type 0 where
  pub is : o ≡ Ok s.array
  pub folded : s.function ≡ fold.function
  pub meant : s.axis ≡ axis_at (length s.array.shape) fold.along
  pub long : keeps_sums fold s.array ≡ true

pub kept_of : (fold : Reduce) (o : Outcome) (s : SummedValue) → Some s ≡ summed_in fold o → Kept fold o s
kept_of fold (Err e) s is = absurd (let no : ⊥ = cc in no)
kept_of fold (Ok b) s is = elim (cases_Bool (keeps_sums fold b)) [
  | inl t ↦
      let same : Some s ≡ Some (at_axis fold.function (axis_at (length b.shape) fold.along) b) = is ∙ cond-true _ _ _ t in
      let here : s ≡ at_axis fold.function (axis_at (length b.shape) fold.along) b = cc in
      let array : s.array ≡ b = ap (λ (x : SummedValue). x.array) here in
      record {
        is = ap (λ (x : ArrayValue). Ok x) (sym array);
        folded = ap (λ (x : SummedValue). x.function) here;
        meant = ap (λ (x : SummedValue). x.axis) here ∙ ap (λ (x : ArrayValue). axis_at (length x.shape) fold.along) (sym array);
        long = ap (keeps_sums fold) array ∙ t;
      }
  | inr f ↦ let none : Some s ≡ None = is ∙ cond-false _ _ _ f in absurd (let no : ⊥ = cc in no)
]

-- the kept trees of a patched array stand for its old value
pub stood_for : (fold : Reduce) (a : ArrayValue) (p : PatchValue) (s : SummedValue) (t : TreesValue) → WasPatched fold (Ok a) p s → StandFor t s.axis s.array → StoodFor fold.along t p a
stood_for fold a p s t was stand =
    let kept = kept_of fold (Ok s.array) s (sym was.lines) in
    let becomes : Ok a ≡ Ok (patched s.array p) = was.becomes in
    let same : a ≡ patched s.array p = cc in
    record {
      before = s.array;
      on_axis = (kept_parts fold s.array kept.long).on_axis;
      lines = subst (λ (axis : ℕ). StandFor t axis s.array) kept.meant stand;
      fit = was.fit;
      is = same;
    }

-- ---- an array that grew

-- the kept trees of a grown array stand for its old value
pub stood_before : (fold : Reduce) (a : ArrayValue) (t : TailValue) (s : SummedValue) (trees : TreesValue) → WasGrown fold (Ok a) t s → StandFor trees s.axis s.array → StoodBefore fold.along trees t a
stood_before fold a t s trees was stand =
    let kept = kept_of fold (Ok s.array) s (sym was.lines) in
    let becomes : Ok a ≡ Ok (grown_by s.array t.items) = was.becomes in
    let same : a ≡ grown_by s.array t.items = cc in
    record {
      before = s.array;
      on_axis = (kept_parts fold s.array kept.long).on_axis;
      lines = subst (λ (axis : ℕ). StandFor trees axis s.array) kept.meant stand;
      fit = was.fit;
      is = same;
    }

-- the new lines along the axis of the kept sums
pub lines_taken : (fold : Reduce) (now : ArrayValue) (t : TailValue) (q : Box NewLinesValue Global) (kept : Option SummedValue) → is_some kept ≡ true → keeps_sums fold now ≡ true
    → q.value.function ≡ fold.function → q.value.axis ≡ axis_at (length now.shape) fold.along → q.value.tail ≡ t → IsSumsDelta fold (Ok now) (Grown t) kept (sums.Grown q)
lines_taken fold now t q None some keeps by on_axis is = absurd (false≢true some)
lines_taken fold now t q (Some s) some keeps by on_axis is = record { right = right; fit = fit }
  where
    -- the axis stays
    meant_now : (old : Outcome) → WasSummed fold (Ok now) (Grown t) (Some s) old → s.axis ≡ axis_at (length now.shape) fold.along
    meant_now old w =
        let k = kept_of fold old s w.keeps in
        let becomes : Ok (grown_by s.array t.items) ≡ Ok now = ap (applied (Grown t)) (sym k.is) ∙ w.becomes in
        let grown : grown_by s.array t.items ≡ now = cc in
        let rank : length s.array.shape ≡ length now.shape = sym (rank_longer s.array.shape) ∙ ap (λ (x : ArrayValue). length x.shape) grown in
        k.meant ∙ ap (λ n. axis_at n fold.along) rank

    right : (old : Outcome) → (is_whole (Grown t) ≡ false → WasSummed fold (Ok now) (Grown t) (Some s) old) → Some (grown_sums s q.value.tail.items) ≡ summed_in fold (Ok now)
    right old was =
        let w = was refl in
        let k = kept_of fold old s w.keeps in
        let becomes : Ok (grown_by s.array t.items) ≡ Ok now = ap (applied (Grown t)) (sym k.is) ∙ w.becomes in
        let grown : grown_by s.array t.items ≡ now = cc in
        ap (λ (u : TailValue). Some (grown_sums s u.items)) is
        ∙ (ap (λ (x : ArrayValue). Some (at_axis s.function s.axis x)) grown ∙ ap (λ (f : Scalar2). Some (at_axis f s.axis now)) k.folded ∙ as_summed fold s.axis now (meant_now old w) keeps)

    fit : (old : Outcome) → (is_whole (Grown t) ≡ false → WasSummed fold (Ok now) (Grown t) (Some s) old) → FitBehind s q.value
    fit old was =
        let w = was refl in
        let k = kept_of fold old s w.keeps in
        record {
          function = by ∙ sym k.folded;
          axis = on_axis ∙ sym (meant_now old w);
          tail = subst (λ (u : TailValue). FitsTail s.array u) (sym is) (subst (λ (o : Outcome). FitsIn (Grown t) o) k.is w.fit);
        }

-- ---- an operand of a node

-- an input that is not new is its old value with its change, which fits it
record Follows (d : Delta) (old now : Outcome) : Type 0 where
  pub becomes : applied d old ≡ now
  pub fit : FitsIn d old

same_of : (d : Delta) → is_same d ≡ true → d ≡ Same
same_of Same h = refl
same_of (Patch p) h = absurd (false≢true h)
same_of (Grown t) h = absurd (false≢true h)
same_of (Whole r) h = absurd (false≢true h)

follows : (old now : Outcome) (d : Delta) (i : Input) → IsInput now d i → applied d old ≡ now → FitsIn d old → is_whole (delta_of i) ≡ false → Follows (delta_of i) old (shown i)
follows old now d (Good array delta) input is fit other = record {
  becomes = ap (λ (e : Delta). applied e old) input.delta ∙ (is ∙ sym input.is);
  fit = subst (λ (e : Delta). FitsIn e old) (sym input.delta) fit;
}
follows old now d (Bad f true) input is fit other = absurd (false≢true (sym other))
follows old now d (Bad f false) input is fit other = record {
  becomes = sym (ap (λ (e : Delta). applied e old) (same_of d (sym input.same))) ∙ (is ∙ sym input.is);
  fit = tt;
}

module _ (fold : Reduce) (c : NamesChange) (names : List (List ℕ)) (trees : List Tree) (s : Stage) (staged : IsStaged c names trees s) (o : Operand) (within : IsOperand (length s.inputs.now) (length s.changes.now) o)
    (i : Input) (ready : GivesItsTree s.is_new c (tree_of_operand names trees o) i) (kept : Option SummedValue) (holds : s.is_new ≡ false → kept ≡ summed_in fold (eval (tree_of_operand names trees o) c.old)) where
  pub was_summed : is_whole (delta_of i) ≡ false → WasSummed fold (shown i) (delta_of i) kept (eval (tree_of_operand names trees o) c.old)
  was_summed other = by s.is_new refl
    where
      t : Tree
      t = tree_of_operand names trees o

      by : (b : Bool) → s.is_new ≡ b → WasSummed fold (shown i) (delta_of i) kept (eval (tree_of_operand names trees o) c.old)
      by true is = absurd (false≢true (sym other ∙ ready.anew is))
      by false is =
          let changed = operand_changed c names trees s staged is o within in
          let now = follows (eval t c.old) (eval t c.new) (change c t) i (ready.is is) changed.right changed.fit other in
          record { becomes = now.becomes; fit = now.fit; keeps = holds is }

  pub now_shown : shown i ≡ eval (tree_of_operand names trees o) c.new
  now_shown = by s.is_new refl
    where
      by : (b : Bool) → s.is_new ≡ b → shown i ≡ eval (tree_of_operand names trees o) c.new
      by true is = ready.shows is
      by false is = (ready.is is).is

-- ---- a node

abbrev beside : Operand → Reduce → Reduce × Operand
beside o fold = (fold, o)

abbrev pub summed_by : (List ℕ → Outcome) → List (List ℕ) → List Tree → Option (Reduce × Operand) → Option SummedValue
summed_by shows names trees total = option_map_or (λ (t : Reduce × Operand). summed_in t.0 (eval (tree_of_operand names trees t.1) shows)) total None

total_summed : (names : List (List ℕ)) (trees : List Tree) (b : Operand) (shows : List ℕ → Outcome) (o : Option Reduce)
    → option_map_or (λ fold. summed_in fold (eval (tree_of_operand names trees b) shows)) o None ≡ summed_by shows names trees (option_map (beside b) o)
total_summed names trees b shows None = refl
total_summed names trees b shows (Some fold) = refl

pub totalled_summed : (names : List (List ℕ)) (trees : List Tree) (n : Node) (shows : List ℕ → Outcome) → summed_at shows (tree_of_node names trees n) ≡ summed_by shows names trees (totalled n)
totalled_summed names trees (node.Constant l) shows = refl
totalled_summed names trees (node.Name k) shows = refl
totalled_summed names trees (node.Monad f b) shows = summed_before shows f (tree_of_operand names trees b) ∙ total_summed names trees b shows (total_of f)
totalled_summed names trees (node.Dyad f a b) shows = summed_between shows f (tree_of_operand names trees a) (tree_of_operand names trees b)
totalled_summed names trees (node.Index a ps) shows = refl

operand_of_total : (b : Operand) (k : Option Reduce) (fold : Reduce) (o : Operand) → option_map (beside b) k ≡ Some (fold, o) → b ≡ o
operand_of_total b None fold o is = absurd (let no : ⊥ = cc in no)
operand_of_total b (Some k) fold o is = let same : (k, b) ≡ (fold, o) = cc in ap (λ (t : Reduce × Operand). t.1) same

pub totalled_within : (names place : ℕ) (n : Node) (fold : Reduce) (o : Operand) → IsNode names place n → totalled n ≡ Some (fold, o) → IsOperand names place o
totalled_within names place (node.Constant l) fold o h is = absurd (let no : ⊥ = cc in no)
totalled_within names place (node.Name k) fold o h is = absurd (let no : ⊥ = cc in no)
totalled_within names place (node.Monad f b) fold o h is = subst (λ (x : Operand). IsOperand names place x) (operand_of_total b (total_of f) fold o is) h
totalled_within names place (node.Dyad f a b) fold o h is = absurd (let no : ⊥ = cc in no)
totalled_within names place (node.Index a ps) fold o h is = absurd (let no : ⊥ = cc in no)

-- the step of the sums of a total
pub sums_step : (c : NamesChange) (names : List (List ℕ)) (trees : List Tree) (s : Stage) → IsStaged c names trees s → (n : Node) → IsNode (length s.inputs.now) (length s.changes.now) n → (fold : Reduce) (o : Operand) → totalled n ≡ Some (fold, o)
    → (i : Input) → GivesItsTree s.is_new c (tree_of_operand names trees o) i → (kept : Option SummedValue) → (s.is_new ≡ false → kept ≡ summed_at c.old (tree_of_node names trees n))
    → (d : SumsDelta) → IsSumsDelta fold (shown i) (delta_of i) kept d → IsSumsStep c (tree_of_node names trees n) kept d
sums_step c names trees s staged n within fold o is i ready kept holds d delta =
    let at : (shows : List ℕ → Outcome) → summed_at shows (tree_of_node names trees n) ≡ summed_in fold (eval (tree_of_operand names trees o) shows) =
    λ shows. totalled_summed names trees n shows ∙ ap (summed_by shows names trees) is in
    let inside = totalled_within (length s.inputs.now) (length s.changes.now) n fold o within is in
    let held : s.is_new ≡ false → kept ≡ summed_in fold (eval (tree_of_operand names trees o) c.old) = λ old. holds old ∙ at c.old in
    let was = was_summed fold c names trees s staged o inside i ready kept held in
    record {
      right = delta.right (eval (tree_of_operand names trees o) c.old) was ∙ (ap (summed_in fold) (now_shown fold c names trees s staged o inside i ready kept held) ∙ sym (at c.new));
      fit = delta.fit (eval (tree_of_operand names trees o) c.old) was;
    }

-- the kept sums of a total belong to its old argument
pub kept_for : (s : Stage) (f : _) (b : Operand) → IsOperand (length s.inputs.now) (length s.changes.now) b → (kept : Option SummedValue) → IsKeptBy s (node.Monad f b) kept → (i : Input)
    → ((c : NamesChange) → (names : List (List ℕ)) → (trees : List Tree) → IsStaged c names trees s → GivesItsTree s.is_new c (tree_of_operand names trees b) i)
    → (fold : Reduce) → total_of f ≡ Some fold → IsSummedFor fold (shown i) (delta_of i) kept
kept_for s f b within kept keeps i ready fold total = record {
  changed = λ p value patch some.
      let was = was_summed fold c names trees s staged b within i (ready c names trees staged) kept held (ap is_whole patch) in
      let k = kept_of fold old value (sym some ∙ was.keeps) in
      record {
        fit = subst (λ (o : Outcome). FitsIn (Patch p) o) k.is (subst (λ (d : Delta). FitsIn d old) patch was.fit);
        becomes = sym (ap (applied (Patch p)) (sym k.is) ∙ (ap (λ (d : Delta). applied d old) (sym patch) ∙ was.becomes));
        lines = sym (ap (λ (f : Scalar2). Some (at_axis f value.axis value.array)) k.folded ∙ as_summed fold value.axis value.array k.meant k.long);
      };
  grew = λ t value grown some.
      let was = was_summed fold c names trees s staged b within i (ready c names trees staged) kept held (ap is_whole grown) in
      let k = kept_of fold old value (sym some ∙ was.keeps) in
      record {
        fit = subst (λ (o : Outcome). FitsIn (Grown t) o) k.is (subst (λ (d : Delta). FitsIn d old) grown was.fit);
        becomes = sym (ap (applied (Grown t)) (sym k.is) ∙ (ap (λ (d : Delta). applied d old) (sym grown) ∙ was.becomes));
        lines = sym (ap (λ (f : Scalar2). Some (at_axis f value.axis value.array)) k.folded ∙ as_summed fold value.axis value.array k.meant k.long);
      };
}
  where
    c : NamesChange
    c = keeps.0

    names : List (List ℕ)
    names = keeps.1.0

    trees : List Tree
    trees = keeps.1.1.0

    staged : IsStaged c names trees s
    staged = keeps.1.1.1.0

    old : Outcome
    old = eval (tree_of_operand names trees b) c.old

    held : s.is_new ≡ false → kept ≡ summed_in fold old
    held was = keeps.1.1.1.1 was ∙ summed_before c.old f (tree_of_operand names trees b) ∙ ap (λ (k : Option Reduce). option_map_or (λ x. summed_in x old) k None) total

-- an input has the value of its tree
shows_tree : (is_new : Bool) (c : NamesChange) (t : Tree) (i : Input) → GivesItsTree is_new c t i → shown i ≡ eval t c.new
shows_tree true c t i ready = ready.shows refl
shows_tree false c t i ready = (ready.is refl).is

-- the rebuilt sums of a total belong to its new argument
pub made_for : (s : Stage) (f : _) (b : Operand) (made : SumsDelta) → IsMadeBy s (node.Monad f b) made → (i : Input)
    → ((c : NamesChange) → (names : List (List ℕ)) → (trees : List Tree) → IsStaged c names trees s → GivesItsTree s.is_new c (tree_of_operand names trees b) i)
    → (fold : Reduce) → total_of f ≡ Some fold → AreNewSums fold (shown i) made
made_for s f b made by i ready fold total = λ sums is.
    let c = by.0 in
    let names = by.1.0 in
    let trees = by.1.1.0 in
    let t = tree_of_operand names trees b in
    by.1.1.1.1 sums is ∙ summed_before c.new f t
    ∙ (ap (λ (k : Option Reduce). option_map_or (λ x. summed_in x (eval t c.new)) k None) total
    ∙ ap (summed_in fold) (sym (shows_tree s.is_new c t i (ready c names trees by.1.1.1.0))))

-- a property of a change, if memory was not refused
pub change_or : (P Q : SumsDelta → Type 0) (r : Result SumsDelta AllocError) → ((d : SumsDelta) → P d → Q d) → IfOk r P → IfOk r Q
change_or P Q (Ok d) step h = step d h
change_or P Q (Err e) step h = tt

-- the joins of a change that fits the sums were made with them
pub joined_for : (d : SumsDelta) (kept : Option SummedValue) → FitsInSums d kept → IsJoinedFrom kept d
joined_for d None fit = tt
joined_for sums.Same (Some s) fit = tt
joined_for (sums.Patch p) (Some s) fit = fit.1
joined_for (sums.Grown l) (Some s) fit = tt
joined_for (sums.Whole w) (Some s) fit = tt
