-- The progress of a plan.
use Rattle.std.{proofs.Common.{◌≡◌, ◌<◌, ◌+◌, ◌≤◌, ℕ, zero, suc, All, List, [], ◌∷◌, ◌++◌, Bool, true, false, cond, refl, sym, ap, ◌∙◌, subst, length, take, get_or, arith, ◌⊎◌, inl, inr}, specs.List.{count_by, sum_by}, proofs.lemmas.Bool.{false≢true, cases_lt}, proofs.lemmas.List.{length-append, take_all, take-take}}
use Rattle.std.{proofs.lemmas.List.Elements.{All-nil, All-append, All-push}, proofs.lemmas.List.Sums.{sum_by_more, sum_by_more_le, sum_by-take-le, count_by_more_yes, count_by_more_no}}
use Rattle.apl_expr.specs.Trees.{Tree, Const, Name, Monad, Dyad, Index, Reduce, Scan, Outer, Inner, Numbers, Positions, NoPositions, Empty, Filled}
use Rattle.{change_core.specs.Meters.{ticked, MeterValue}, change_rules.specs.Nodes.{is_error}, index_region.specs.declared.delta.Delta.{Delta}}
use Rattle.formula_core.{specs.declared.input.Input.{Input}, specs.declared.kept.NodeChange.{NodeChange}, specs.declared.table.Node.{Node}, specs.Changes.{NamesChange}, specs.Formulas.{FormulaValue, is_operation, operations}, specs.Plans.{PlanValue, node_change, node_cost_at, tree_cost, IsComputed, IsTold}}
use Rattle.formula_core.{specs.Progress.{operations_among, IsAtOperation, IsPlannedTo}, specs.Stages.{IsBegun, IsOneMore}, specs.Tables.{applies, inside, inside_positions, subtrees, tree_at, tree_of_node, tree_of_operand}, proofs.Applied.{operation_before, operation_between}, proofs.Planned.{begun_more}}
use Rattle.formula_core.proofs.Rooted.{before_root, root_last}
use Rattle.formula_core.specs.declared.table.Node.TheVariants as node

-- a node applies a function if and only if its tree does
pub applied_there : (names : List (List ℕ)) (trees : List Tree) (n : Node) → is_operation (tree_of_node names trees n) ≡ applies n
applied_there names trees (node.Constant literal) = refl
applied_there names trees (node.Name place) = refl
applied_there names trees (node.Monad f right) = operation_before f (tree_of_operand names trees right)
applied_there names trees (node.Dyad f left right) = operation_between f (tree_of_operand names trees left) (tree_of_operand names trees right)
applied_there names trees (node.Index array positions) = refl

-- the tree applies a function
abbrev Applies : Tree → Type 0
Applies t = is_operation t ≡ true

mutual
  -- all trees with a node inside a tree apply functions
  inside_apply : (t : Tree) → All Applies (inside t)
  inside_apply (Const l) = All-nil Applies
  inside_apply (Name x) = All-nil Applies
  inside_apply (Monad f b) = All-push Applies (inside b) (Monad f b) (inside_apply b) refl
  inside_apply (Dyad f a b) = All-append Applies (inside a) (inside b ++ Dyad f a b ∷ []) (inside_apply a) (All-push Applies (inside b) (Dyad f a b) (inside_apply b) refl)
  inside_apply (Index a ps) = All-append Applies (inside a) (inside_positions ps ++ Index a ps ∷ []) (inside_apply a) (All-push Applies (inside_positions ps) (Index a ps) (positions_apply ps) refl)
  inside_apply (Reduce f k b) = All-push Applies (inside b) (Reduce f k b) (inside_apply b) refl
  inside_apply (Scan f k b) = All-push Applies (inside b) (Scan f k b) (inside_apply b) refl
  inside_apply (Outer f a b) = All-append Applies (inside a) (inside b ++ Outer f a b ∷ []) (inside_apply a) (All-push Applies (inside b) (Outer f a b) (inside_apply b) refl)
  inside_apply (Inner f g a b) = All-append Applies (inside a) (inside b ++ Inner f g a b ∷ []) (inside_apply a) (All-push Applies (inside b) (Inner f g a b) (inside_apply b) refl)

  positions_apply : (ps : Positions) → All Applies (inside_positions ps)
  positions_apply NoPositions = All-nil Applies
  positions_apply (Empty ps) = positions_apply ps
  positions_apply (Filled e ps) = All-append Applies (inside e) (inside_positions ps) (inside_apply e) (positions_apply ps)

-- if one of the trees with a node applies a function, so does any other
pub applies_later : (t : Tree) (k m : ℕ) → k < length (subtrees t) → is_operation (tree_at (subtrees t) k) ≡ true → m < length (subtrees t) → is_operation (tree_at (subtrees t) m) ≡ true
applies_later (Const l) zero m below one under = absurd (false≢true one)
applies_later (Const l) (suc k) m below one under = absurd (omega (arith, below))
applies_later (Name x) zero m below one under = absurd (false≢true one)
applies_later (Name x) (suc k) m below one under = absurd (omega (arith, below))
applies_later (Monad f b) k m below one under = inside_apply (Monad f b) m (Const (Numbers [])) under
applies_later (Dyad f a b) k m below one under = inside_apply (Dyad f a b) m (Const (Numbers [])) under
applies_later (Index a ps) k m below one under = inside_apply (Index a ps) m (Const (Numbers [])) under
applies_later (Reduce f i b) k m below one under = inside_apply (Reduce f i b) m (Const (Numbers [])) under
applies_later (Scan f i b) k m below one under = inside_apply (Scan f i b) m (Const (Numbers [])) under
applies_later (Outer f a b) k m below one under = inside_apply (Outer f a b) m (Const (Numbers [])) under
applies_later (Inner f g a b) k m below one under = inside_apply (Inner f g a b) m (Const (Numbers [])) under

-- some tree has a node
pub some_node : (t : Tree) → 0 < length (subtrees t)
some_node t = omega (arith, ap (λ (ts : List Tree). length ts) (root_last t), length-append (before_root t) (t ∷ []))

-- a tree that is no operation has the only node
pub leaf_alone : (t : Tree) → is_operation (tree_at (subtrees t) 0) ≡ false → length (subtrees t) ≡ 1
leaf_alone (Const l) plain = refl
leaf_alone (Name x) plain = refl
leaf_alone (Monad f b) plain = absurd (false≢true (sym plain ∙ inside_apply (Monad f b) 0 (Const (Numbers [])) (some_node (Monad f b))))
leaf_alone (Dyad f a b) plain = absurd (false≢true (sym plain ∙ inside_apply (Dyad f a b) 0 (Const (Numbers [])) (some_node (Dyad f a b))))
leaf_alone (Index a ps) plain = absurd (false≢true (sym plain ∙ inside_apply (Index a ps) 0 (Const (Numbers [])) (some_node (Index a ps))))
leaf_alone (Reduce f k b) plain = absurd (false≢true (sym plain ∙ inside_apply (Reduce f k b) 0 (Const (Numbers [])) (some_node (Reduce f k b))))
leaf_alone (Scan f k b) plain = absurd (false≢true (sym plain ∙ inside_apply (Scan f k b) 0 (Const (Numbers [])) (some_node (Scan f k b))))
leaf_alone (Outer f a b) plain = absurd (false≢true (sym plain ∙ inside_apply (Outer f a b) 0 (Const (Numbers [])) (some_node (Outer f a b))))
leaf_alone (Inner f g a b) plain = absurd (false≢true (sym plain ∙ inside_apply (Inner f g a b) 0 (Const (Numbers [])) (some_node (Inner f g a b))))

-- a literal and a name cost nothing
pub free : (is_new : Bool) (c : NamesChange) (t : Tree) → is_operation t ≡ false → 0 ≡ node_cost_at is_new c t
free true c (Const l) plain = refl
free false c (Const l) plain = refl
free true c (Name x) plain = refl
free false c (Name x) plain = refl
free is_new c (Monad f b) plain = absurd (false≢true (sym plain))
free is_new c (Dyad f a b) plain = absurd (false≢true (sym plain))
free is_new c (Index a ps) plain = absurd (false≢true (sym plain))
free is_new c (Reduce f k b) plain = absurd (false≢true (sym plain))
free is_new c (Scan f k b) plain = absurd (false≢true (sym plain))
free is_new c (Outer f a b) plain = absurd (false≢true (sym plain))
free is_new c (Inner f g a b) plain = absurd (false≢true (sym plain))

-- sums over a longer front part
module _ {X : Type 0} (f : X → ℕ) (xs : List X) (d : X) where
  front_within : (i m : ℕ) → i ≤ m → sum_by f (take i xs) ≤ sum_by f (take m xs)
  front_within i m h = omega (arith, sum_by-take-le f (take m xs) i, ap (λ ys. sum_by f ys) (take-take i m xs h))

  pub front_more : (i m : ℕ) → i < length xs → i < m → sum_by f (take i xs) + f (get_or xs i d) ≤ sum_by f (take m xs)
  front_more i m below h = omega (arith, sum_by_more f xs i d below, front_within (i + 1) m (omega (arith, h)))

-- one more change
module _ (f : FormulaValue) (changes new : List NodeChange) (d : NodeChange) (is : new ≡ changes ++ d ∷ []) (below : length changes < length (subtrees f.tree)) where
  one_longer : length new ≡ length changes + 1
  one_longer = ap (λ (ds : List NodeChange). length ds) is ∙ length-append changes (d ∷ [])

  pub among_plain : is_operation (tree_at (subtrees f.tree) (length changes)) ≡ false → operations_among f new ≡ operations_among f changes
  among_plain plain = ap (λ k. count_by is_operation (take k (subtrees f.tree))) one_longer ∙ count_by_more_no is_operation (subtrees f.tree) (length changes) (Const (Numbers [])) below plain

  pub among_more : is_operation (tree_at (subtrees f.tree) (length changes)) ≡ true → operations_among f new ≡ operations_among f changes + 1
  among_more one = ap (λ k. count_by is_operation (take k (subtrees f.tree))) one_longer ∙ count_by_more_yes is_operation (subtrees f.tree) (length changes) (Const (Numbers [])) below one

-- if fewer operations are done than there are, a node is left
among_all : (f : FormulaValue) (changes : List NodeChange) → length (subtrees f.tree) ≤ length changes → operations_among f changes ≡ operations f.tree
among_all f changes long = ap (λ ts. count_by is_operation ts) (take_all (length changes) (subtrees f.tree) long)

pub node_left : (f : FormulaValue) (changes : List NodeChange) → operations_among f changes < operations f.tree → length f.nodes ≡ length (subtrees f.tree) → length changes < length f.nodes
node_left f changes few known = by (cases_lt (length changes) (length (subtrees f.tree)))
  where
    by : (length changes < length (subtrees f.tree)) ⊎ (length (subtrees f.tree) ≤ length changes) → length changes < length f.nodes
    by (inl under) = omega (arith, under, known)
    by (inr long) = absurd (omega (arith, few, among_all f changes long))

-- if an operation is left, fewer are done than there are
pub left_at : (f : FormulaValue) (changes : List NodeChange) → IsAtOperation f changes → length changes < length f.nodes → length f.nodes ≡ length (subtrees f.tree) → operations_among f changes < operations f.tree
left_at f changes at under known =
    let one = at under in
    omega (arith, sum_by_more_le (λ u. cond (is_operation u) 1 0) (subtrees f.tree) (length changes) (Const (Numbers [])) (omega (arith, under, known)), ap {B = ℕ} (λ b. cond b 1 0) one)

-- changes that are not one for each node are fewer
pub part_left : (f : FormulaValue) (changes : List NodeChange) → length changes ≤ length f.nodes → (length changes ≡ length f.nodes → ⊥) → length changes < length f.nodes
part_left f changes few part = by (cases_lt (length changes) (length f.nodes))
  where
    by : (length changes < length f.nodes) ⊎ (length f.nodes ≤ length changes) → length changes < length f.nodes
    by (inl less) = less
    by (inr more) = absurd (part (omega (arith, few, more)))

-- if each node has its change, all operations are done
pub all_among : (f : FormulaValue) (changes : List NodeChange) → length changes ≡ length f.nodes → length f.nodes ≡ length (subtrees f.tree) → operations_among f changes ≡ operations f.tree
all_among f changes whole known = among_all f changes (omega (arith, whole, known))

-- one more operation done means one more change
pub longer : (f : FormulaValue) (changes new : List NodeChange) → operations_among f new ≡ operations_among f changes + 1 → length changes < length new
longer f changes new one = by (cases_lt (length changes) (length new))
  where
    by : (length changes < length new) ⊎ (length new ≤ length changes) → length changes < length new
    by (inl under) = under
    by (inr back) = absurd (omega (arith, one, front_within (λ u. cond (is_operation u) 1 0) (subtrees f.tree) (Const (Numbers [])) (length new) (length changes) back))

-- the cost of the nodes so far
module _ (is_new : Bool) (c : NamesChange) (t : Tree) where
  pub cost_more : (k m start before after : ℕ) → k < length (subtrees t) → k < m → before ≤ start + sum_by (node_cost_at is_new c) (take k (subtrees t)) → after ≤ before + node_cost_at is_new c (tree_at (subtrees t) k)
      → after ≤ start + sum_by (node_cost_at is_new c) (take m (subtrees t))
  cost_more k m start before after below more first then = omega (arith, first, then, front_more (node_cost_at is_new c) (subtrees t) (Const (Numbers [])) k m below more)

  pub cost_within : (k start now : ℕ) → now ≤ start + sum_by (node_cost_at is_new c) (take k (subtrees t)) → now ≤ start + tree_cost is_new c t
  cost_within k start now h = omega (arith, h, sum_by-take-le (node_cost_at is_new c) (subtrees t) k)

-- the next node has its change
pub more_of : (f : FormulaValue) (c : NamesChange) (inputs : List Input) (old changes new : List NodeChange) (cost items : ℕ) (before after : MeterValue) → changes ≡ old
    → ((x : NamesChange) → IsTold f x inputs → (k : ℕ) → IsBegun f x changes k → IsOneMore f x changes new items before after)
    → IsTold f c inputs → IsBegun f c old cost → IsOneMore f c old new items before after
more_of f c inputs old changes new cost items before after is more told begun =
    subst (λ (ds : List NodeChange). IsOneMore f c ds new items before after) is (more c told cost (subst (λ (ds : List NodeChange). IsBegun f c ds cost) (sym is) begun))

module _ (f : FormulaValue) (c : NamesChange) (p : PlanValue) (new : List NodeChange) (items : ℕ) (before after : MeterValue)
    (left : operations_among f p.changes < operations f.tree) (planned : IsPlannedTo f c p) (more : IsOneMore f c p.changes new items before after) where
  below : length p.changes < length f.nodes
  below = node_left f p.changes left planned.begun.known

  under : length p.changes < length (subtrees f.tree)
  under = omega (arith, below, planned.begun.known)

  pub one_more : operations_among f new ≡ operations_among f p.changes + 1
  one_more = among_more f p.changes new more.change more.pushed under (planned.next below)

  pub planned_more : (cost : ℕ) → cost ≡ ticked p.cost items → IsPlannedTo f c (record { changes = new; cost = cost })
  planned_more cost is = record {
    begun = begun_more f c p.changes new more.change p.cost items cost planned.begun below more.pushed is more.step.cost more.step.done;
    next = λ rest. applies_later f.tree (length p.changes) (length new) under (planned.next below) (omega (arith, rest, planned.begun.known));
  }

-- the cost of a node is counted whole if no item fails
counted_by : (failed : Bool) (start cost own after : ℕ) → (failed ≡ true → cost ≡ 0) → (failed ≡ false → ticked 0 cost ≤ own) → own ≤ cost → after ≡ ticked start own → after ≡ ticked start cost
counted_by true start cost own after free least most is = let none = free refl in omega (arith, most, none, is)
counted_by false start cost own after free least most is = let all = least refl in omega (arith, most, all, is)

pub counted_whole : (is_new : Bool) (c : NamesChange) (t : Tree) (d : Delta) (start items none own after : ℕ) → d ≡ node_change is_new c t → IsComputed is_new c t → items ≡ node_cost_at is_new c t
    → own ≤ none + node_cost_at is_new c t → (is_error d ≡ false → ticked none items ≤ own) → none ≡ 0 → after ≡ ticked start own → after ≡ ticked start (node_cost_at is_new c t)
counted_whole is_new c t d start items none own after is computed costs most least zero_is counted =
    counted_by (is_error d) start (node_cost_at is_new c t) own after
    (λ failed. computed (ap is_error (sym is) ∙ failed))
    (λ sound. let all = least sound in omega (arith, all, costs, zero_is))
    (omega (arith, most, zero_is)) counted

-- the nodes so far are counted at their whole cost
pub counted_on : (start before after old new cost : ℕ) → ticked start old ≤ before → after ≡ ticked before cost → new ≡ ticked old cost → ticked start new ≤ after
counted_on start before after old new cost least is costs = omega (arith, least, is, costs)

pub counted_all : (start now planned cost : ℕ) → ticked start planned ≤ now → now ≤ start + cost → now < 18446744073709551616 → planned ≡ ticked 0 cost → now ≡ ticked start cost
counted_all start now planned cost least most small is = omega (arith, least, most, small, is)
