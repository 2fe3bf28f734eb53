-- The number of joins of the nodes so far.
use Rattle.std.{proofs.Common.{◌≡◌, ℕ, zero, suc, ◌+◌, ◌-◌, ◌*◌, ◌<◌, ◌≤◌, List, [], ◌∷◌, length, take, min, nat_lt, Bool, true, false, cond, Option, Some, None, Ok, Err, refl, sym, ap, ◌∙◌, subst, arith, inl, inr, if◌then◌else◌}, specs.List.{count_by, sum_by}, specs.Option.{option_map_or}}
use Rattle.std.{proofs.lemmas.Bool.{cases_Bool, cond-false, cond-true, false≢true}, proofs.lemmas.List.{take_all}, proofs.lemmas.List.Sums.{count_by_more_yes, sum_by-cons, sum_by-take-le, sum_by_more}}
use Rattle.{apl_expr.specs.Trees.{Tree, Const, Name, Monad, Dyad, Index, Scan, Outer, Inner, Numbers}, change_core.specs.Meters.{ticked}}
use Rattle.{change_rules.specs.Nodes.{is_error}, reduce_fns.specs.declared.reduce.Reduce.{Reduce}, index_region.specs.declared.delta.Delta.{Delta}}
use Rattle.sum_rules.{specs.LineSums.{length_along}, specs.Totals.{new_items}}
use Rattle.formula_core.{specs.declared.kept.NodeChange.{NodeChange}, specs.Changes.{NamesChange}, specs.Formulas.{FormulaValue, is_operation}, specs.Joins.{has_trees_for, least_joins, least_joins_of, most_joins, tree_joins, tree_least_joins}, specs.Meaning.{eval}, specs.Plans.{IsComputed, node_change, node_cost_at}}
use Rattle.formula_core.{specs.Progress.{IsAtOperation, operations_among}, specs.Sums.{total_of}, specs.Tables.{subtrees, tree_at}, proofs.Progressed.{front_more, longer}}
use Rattle.arrays_core.specs.Outcomes.{Outcome}
use Rattle.apl_expr.specs.Trees as tree
use Rattle.apl_expr.specs.declared.functions.Function1.TheVariants as function1

-- entries that are not counted add nothing
module _ {X : Type 0} (p : X → Bool) (g : X → ℕ) (plain : (x : X) → p x ≡ false → g x ≡ 0) where
  counted : (x : X) (xs : List X) → count_by p (x ∷ xs) ≡ cond (p x) 1 0 + count_by p xs
  counted x xs = sum_by-cons (λ y. cond (p y) 1 0) x xs

  first_plain : (x : X) (xs : List X) → count_by p (x ∷ xs) ≡ 0 → p x ≡ false
  first_plain x xs h = elim (cases_Bool (p x)) [
    | inl t ↦ let one : cond (p x) 1 0 ≡ 1 = ap {B = ℕ} (λ (b : Bool). cond b 1 0) t in absurd (omega (arith, h, counted x xs, one))
    | inr f ↦ f
  ]

  none_counted : (xs : List X) → count_by p xs ≡ 0 → sum_by g xs ≡ 0
  none_counted [] h = refl
  none_counted (x ∷ xs) h =
      let none = first_plain x xs h in
      let rest = none_counted xs (omega (arith, h, counted x xs)) in
      omega (arith, sum_by-cons g x xs, plain x none, rest)

  same_counted : (xs : List X) (k m : ℕ) → k ≤ m → count_by p (take m xs) ≡ count_by p (take k xs) → sum_by g (take m xs) ≡ sum_by g (take k xs)
  same_counted [] k m le h = ap (λ ys. sum_by g ys) (take_all m [] (omega arith) ∙ sym (take_all k [] (omega arith)))
  same_counted (x ∷ xs) zero m le h = none_counted (take m (x ∷ xs)) h
  same_counted (x ∷ xs) (suc k) zero le h = absurd (omega (arith, le))
  same_counted (x ∷ xs) (suc k) (suc m) le h =
      let rest = same_counted xs k m (omega (arith, le)) (omega (arith, h, counted x (take m xs), counted x (take k xs))) in
      omega (arith, rest, sum_by-cons g x (take m xs), sum_by-cons g x (take k xs))

-- a literal and a name join nothing
plain_joins : (is_new : Bool) (c : NamesChange) (t : Tree) → is_operation t ≡ false → least_joins is_new c t ≡ 0
plain_joins is_new c (Const l) plain = refl
plain_joins is_new c (Name x) plain = refl
plain_joins is_new c (Monad f b) plain = absurd (false≢true (sym plain))
plain_joins is_new c (Dyad f a b) plain = absurd (false≢true (sym plain))
plain_joins is_new c (Index a ps) plain = absurd (false≢true (sym plain))
plain_joins is_new c (tree.Reduce f k b) plain = absurd (false≢true (sym plain))
plain_joins is_new c (Scan f k b) plain = absurd (false≢true (sym plain))
plain_joins is_new c (Outer f a b) plain = absurd (false≢true (sym plain))
plain_joins is_new c (Inner f g a b) plain = absurd (false≢true (sym plain))

-- no totals take no joins
none_of : (fold : Reduce) (o : Outcome) (d : Delta) (held : Outcome) (n : ℕ) → n ≡ 0 → least_joins_of fold o d held n ≡ 0
none_of fold (Err e) d held n none = refl
none_of fold (Ok a) d held n none = by (has_trees_for fold a d held) refl
  where
    two : (b : Bool) → (if b then min n (new_items d) else 0) ≡ 0
    two true = omega (arith, none)
    two false = refl

    by : (b : Bool) → has_trees_for fold a d held ≡ b → least_joins_of fold (Ok a) d held n ≡ 0
    by true t = cond-true (has_trees_for fold a d held) _ _ t ∙ two (nat_lt 1 (length_along fold.along a.shape))
    by false f = let free : n * (length_along fold.along a.shape - 1) ≡ 0 = ap (λ k. k * (length_along fold.along a.shape - 1)) none ∙ omega arith in cond-false (has_trees_for fold a d held) _ _ f ∙ free

none_along : (o : Option Reduce) (right : Outcome) (d : Delta) (held : Outcome) (n : ℕ) → n ≡ 0 → option_map_or (λ fold. least_joins_of fold right d held n) o 0 ≡ 0
none_along None right d held n none = refl
none_along (Some fold) right d held n none = none_of fold right d held n none

costless : (is_new : Bool) (c : NamesChange) (t : Tree) → node_cost_at is_new c t ≡ 0 → least_joins is_new c t ≡ 0
costless is_new c (Const l) none = refl
costless is_new c (Name x) none = refl
costless is_new c (Monad f b) none = refl
costless is_new c (Dyad f a b) none = refl
costless is_new c (Index a ps) none = refl
costless is_new c (tree.Reduce f k b) none = none_along (total_of (function1.Reduce f k)) (eval b c.new) (node_change is_new c b) (eval (tree.Reduce f k b) c.old) (node_cost_at is_new c (tree.Reduce f k b)) none
costless is_new c (Scan f k b) none = refl
costless is_new c (Outer f a b) none = refl
costless is_new c (Inner f g a b) none = refl

-- a node joins at least its least number if no item fails
joined_by : (failed : Bool) (start least own after : ℕ) → (failed ≡ true → least ≡ 0) → (failed ≡ false → ticked 0 least ≤ own) → after ≡ ticked start own → ticked start least ≤ after
joined_by true start least own after free joins is = let none = free refl in omega (arith, none, is)
joined_by false start least own after free joins is = let all = joins refl in omega (arith, all, is)

pub joined_whole : (is_new : Bool) (c : NamesChange) (t : Tree) (d : Delta) (start none own after : ℕ) → d ≡ node_change is_new c t → IsComputed is_new c t → (is_error d ≡ false → ticked none (least_joins is_new c t) ≤ own) → none ≡ 0
    → after ≡ ticked start own → ticked start (least_joins is_new c t) ≤ after
joined_whole is_new c t d start none own after is computed joins zero_is counted =
    joined_by (is_error d) start (least_joins is_new c t) own after
    (λ failed. costless is_new c t (computed (ap is_error (sym is) ∙ failed)))
    (λ sound. let all = joins sound in omega (arith, all, zero_is)) counted

-- the joins of the nodes so far
module _ (is_new : Bool) (c : NamesChange) (t : Tree) where
  pub joins_more : (k m start before after : ℕ) → k < length (subtrees t) → k < m → before ≤ start + sum_by (most_joins is_new c) (take k (subtrees t)) → after ≤ before + most_joins is_new c (tree_at (subtrees t) k)
      → after ≤ start + sum_by (most_joins is_new c) (take m (subtrees t))
  joins_more k m start before after below more first next = omega (arith, first, next, front_more (most_joins is_new c) (subtrees t) (Const (Numbers [])) k m below more)

  pub joins_within : (k start now : ℕ) → now ≤ start + sum_by (most_joins is_new c) (take k (subtrees t)) → now ≤ start + tree_joins is_new c t
  joins_within k start now h = omega (arith, h, sum_by-take-le (most_joins is_new c) (subtrees t) k)

-- there are no joins before the first operation
pub none_joined : (f : FormulaValue) (c : NamesChange) (changes : List NodeChange) (start : ℕ) → operations_among f changes ≡ 0 → ticked start (sum_by (least_joins f.is_new c) (take (length changes) (subtrees f.tree))) ≤ start
none_joined f c changes start none =
    let free = none_counted is_operation (least_joins f.is_new c) (plain_joins f.is_new c) (take (length changes) (subtrees f.tree)) none in
    omega (arith, free)

-- one more operation
further : (start before after sum one more : ℕ) → ticked start sum ≤ before → ticked before one ≤ after → more ≡ sum + one → ticked start more ≤ after
further start before after sum one more first next is = omega (arith, first, next, is)

pub joined_on : (f : FormulaValue) (c : NamesChange) (changes new : List NodeChange) (start before after : ℕ) → IsAtOperation f changes → length changes < length f.nodes → length f.nodes ≡ length (subtrees f.tree)
    → operations_among f new ≡ operations_among f changes + 1 → ticked start (sum_by (least_joins f.is_new c) (take (length changes) (subtrees f.tree))) ≤ before
    → ticked before (least_joins f.is_new c (tree_at (subtrees f.tree) (length changes))) ≤ after → ticked start (sum_by (least_joins f.is_new c) (take (length new) (subtrees f.tree))) ≤ after
joined_on f c changes new start before after at under known one first next =
    let trees = subtrees f.tree in
    let k = length changes in
    let least = least_joins f.is_new c in
    let below : k < length trees = omega (arith, under, known) in
    let more : count_by is_operation (take (k + 1) trees) ≡ count_by is_operation (take k trees) + 1 = count_by_more_yes is_operation trees k (Const (Numbers [])) below (at under) in
    let step : sum_by least (take (k + 1) trees) ≡ sum_by least (take k trees) + least (tree_at trees k) = sum_by_more least trees k (Const (Numbers [])) below in
    let none : sum_by least (take (length new) trees) ≡ sum_by least (take (k + 1) trees) =
    same_counted is_operation least (plain_joins f.is_new c) trees (k + 1) (length new) (omega (arith, longer f changes new one)) (omega (arith, one, more)) in
    further start before after (sum_by least (take k trees)) (least (tree_at trees k)) (sum_by least (take (length new) trees)) first next (omega (arith, none, step))

-- all nodes
pub joined_all : (f : FormulaValue) (c : NamesChange) (changes : List NodeChange) (start now : ℕ) → length changes ≡ length (subtrees f.tree)
    → ticked start (sum_by (least_joins f.is_new c) (take (length changes) (subtrees f.tree))) ≤ now → ticked start (tree_least_joins f.is_new c f.tree) ≤ now
joined_all f c changes start now all h =
    let whole : take (length changes) (subtrees f.tree) ≡ subtrees f.tree = take_all (length changes) (subtrees f.tree) (omega (arith, all)) in
    subst (λ (ts : List Tree). ticked start (sum_by (least_joins f.is_new c) ts) ≤ now) whole h
