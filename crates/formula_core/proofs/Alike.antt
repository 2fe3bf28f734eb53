-- The value of a tree, its change and its cost depend only on the results of the names in it.
use Rattle.std.{proofs.Common.{◌≡◌, ℕ, ◌+◌, List, [], ◌∷◌, ◌++◌, true, false, Result, Ok, Err, refl, ap, ◌∙◌, subst, sym}, specs.List.{Contains, list_all, sum_by}, proofs.lemmas.Bool.{cond-true}, proofs.lemmas.List.Elements.{Contains-append_left, Contains-append_right, Contains-push}}
use Rattle.std.proofs.lemmas.List.Sums.{sum_by-append, sum_by_push}
use Rattle.apl_expr.{specs.Trees.{Tree, Const, Name, Monad, Dyad, Index, Reduce, Scan, Outer, Inner, Positions, NoPositions, Empty, Filled}, specs.declared.functions.Function1.{Function1}, specs.declared.functions.Function2.{Function2}}
use Rattle.arrays_core.{specs.Arrays.{ArrayValue}, specs.declared.fault.Fault.{Fault}, specs.Outcomes.{Outcome}}
use Rattle.{index_region.{specs.declared.delta.Delta.{Delta}, specs.declared.delta.Delta.TheVariants.{Same}}, change_core.specs.RuleModels.{RuleModel}}
use Rattle.{change_rules.specs.Nodes.{is_same}, selection_fns.specs.Index.{index_rule}}
use Rattle.formula_core.{specs.Meaning.{eval, eval_positions, applied1, applied2, indexed, in_front, empty_in_front, names_in, names_in_positions}, specs.Tables.{inside, inside_positions}, specs.Rules.{right_rule, both_rule}}
use Rattle.formula_core.{specs.Changes.{NamesChange, arguments, operation_delta, operation_cost, written, values_of, change, changes, cost_at}, specs.Plans.{tree_cost}}
use Rattle.apl_expr.specs.declared.functions.Function1.TheVariants as function1
use Rattle.apl_expr.specs.declared.functions.Function2.TheVariants as function2

-- a property of each name in an expression holds for each name in a part of it
in_left : (P : List ℕ → Type 0) (xs ys : List (List ℕ)) → ((x : List ℕ) → Contains (xs ++ ys) x → P x) → (x : List ℕ) → Contains xs x → P x
in_left P xs ys h x o = h x (Contains-append_left xs ys x o)

in_right : (P : List ℕ → Type 0) (xs ys : List (List ℕ)) → ((x : List ℕ) → Contains (xs ++ ys) x → P x) → (x : List ℕ) → Contains ys x → P x
in_right P xs ys h x o = h x (Contains-append_right xs ys x o)

both_alike : (f : Function2) {p q r s : Outcome} → p ≡ q → r ≡ s → applied2 f p r ≡ applied2 f q s
both_alike f right left = λ i. applied2 f (right i) (left i)

mutual
  -- a tree has the same value if the names in it have the same results
  pub eval_alike : (t : Tree) (a b : List ℕ → Outcome) → ((x : List ℕ) → Contains (names_in t) x → a x ≡ b x) → eval t a ≡ eval t b
  eval_alike (Const l) a b h = refl
  eval_alike (Name x) a b h = h x (Contains-push [] x)
  eval_alike (Monad f r) a b h = ap (applied1 (function1.Monad f)) (eval_alike r a b h)
  eval_alike (Dyad f l r) a b h = both_alike (function2.Dyad f) (eval_alike r a b (in_right _ (names_in l) (names_in r) h)) (eval_alike l a b (in_left _ (names_in l) (names_in r) h))
  eval_alike (Index l ps) a b h =
      let positions = positions_alike ps a b (in_right _ (names_in l) (names_in_positions ps) h) in
      let operand = eval_alike l a b (in_left _ (names_in l) (names_in_positions ps) h) in
      λ i. indexed (positions i) (operand i)
  eval_alike (Reduce f k r) a b h = ap (applied1 (function1.Reduce f k)) (eval_alike r a b h)
  eval_alike (Scan f k r) a b h = ap (applied1 (function1.Scan f k)) (eval_alike r a b h)
  eval_alike (Outer f l r) a b h = both_alike (function2.Outer f) (eval_alike r a b (in_right _ (names_in l) (names_in r) h)) (eval_alike l a b (in_left _ (names_in l) (names_in r) h))
  eval_alike (Inner f g l r) a b h = both_alike (function2.Inner f g) (eval_alike r a b (in_right _ (names_in l) (names_in r) h)) (eval_alike l a b (in_left _ (names_in l) (names_in r) h))

  pub positions_alike : (ps : Positions) (a b : List ℕ → Outcome) → ((x : List ℕ) → Contains (names_in_positions ps) x → a x ≡ b x) → eval_positions ps a ≡ eval_positions ps b
  positions_alike NoPositions a b h = refl
  positions_alike (Empty ps) a b h = ap empty_in_front (positions_alike ps a b h)
  positions_alike (Filled e ps) a b h =
      let first = eval_alike e a b (in_left _ (names_in e) (names_in_positions ps) h) in
      let others = positions_alike ps a b (in_right _ (names_in e) (names_in_positions ps) h) in
      λ i. in_front (first i) (others i)

-- the same for the written positions of an index
pub values_alike : (ps : Positions) (a b : List ℕ → Outcome) → ((x : List ℕ) → Contains (names_in_positions ps) x → a x ≡ b x) → values_of ps a ≡ values_of ps b
values_alike NoPositions a b h = refl
values_alike (Empty ps) a b h = values_alike ps a b h
values_alike (Filled e ps) a b h =
    let first = eval_alike e a b (in_left _ (names_in e) (names_in_positions ps) h) in
    let others = values_alike ps a b (in_right _ (names_in e) (names_in_positions ps) h) in
    λ i. first i ∷ others i

-- the name has the same old result, new result and change
pub record IsAlikeAt (c d : NamesChange) (x : List ℕ) : Type 0 where
  pub old : c.old x ≡ d.old x
  pub new : c.new x ≡ d.new x
  pub delta : c.delta x ≡ d.delta x

-- the change of an operation, or its cost
abbrev OfOperation : Type 0 → Type 0
OfOperation A = RuleModel → Result (List ArrayValue) Fault → List Delta → Outcome → A

-- it is the same if the arguments have the same old values, new values and changes
module _ {A : Type 0} (of_operation : OfOperation A) (c d : NamesChange) where
  monad_alike : (f : Function1) (r : Tree) → ((x : List ℕ) → Contains (names_in r) x → IsAlikeAt c d x) → change c r ≡ change d r
      → of_operation (right_rule f) (arguments (eval r c.new ∷ [])) (change c r ∷ []) (applied1 f (eval r c.old))
      ≡ of_operation (right_rule f) (arguments (eval r d.new ∷ [])) (change d r ∷ []) (applied1 f (eval r d.old))
  monad_alike f r h right =
      let now = eval_alike r c.new d.new (λ x o. (h x o).new) in
      let held = eval_alike r c.old d.old (λ x o. (h x o).old) in
      λ i. of_operation (right_rule f) (arguments (now i ∷ [])) (right i ∷ []) (applied1 f (held i))

  dyad_alike : (f : Function2) (l r : Tree) → ((x : List ℕ) → Contains (names_in l ++ names_in r) x → IsAlikeAt c d x) → change c l ≡ change d l → change c r ≡ change d r
      → of_operation (both_rule f) (arguments (eval l c.new ∷ eval r c.new ∷ [])) (change c l ∷ change c r ∷ []) (applied2 f (eval r c.old) (eval l c.old))
      ≡ of_operation (both_rule f) (arguments (eval l d.new ∷ eval r d.new ∷ [])) (change d l ∷ change d r ∷ []) (applied2 f (eval r d.old) (eval l d.old))
  dyad_alike f l r h left right =
      let now_l = eval_alike l c.new d.new (λ x o. (in_left _ (names_in l) (names_in r) h x o).new) in
      let now_r = eval_alike r c.new d.new (λ x o. (in_right _ (names_in l) (names_in r) h x o).new) in
      let held_l = eval_alike l c.old d.old (λ x o. (in_left _ (names_in l) (names_in r) h x o).old) in
      let held_r = eval_alike r c.old d.old (λ x o. (in_right _ (names_in l) (names_in r) h x o).old) in
      λ i. of_operation (both_rule f) (arguments (now_l i ∷ now_r i ∷ [])) (left i ∷ right i ∷ []) (applied2 f (held_r i) (held_l i))

  index_alike : (l : Tree) (ps : Positions) → ((x : List ℕ) → Contains (names_in (Index l ps)) x → IsAlikeAt c d x) → change c l ≡ change d l → changes c ps ≡ changes d ps
      → of_operation (index_rule (written ps)) (arguments (eval l c.new ∷ values_of ps c.new)) (change c l ∷ changes c ps) (eval (Index l ps) c.old)
      ≡ of_operation (index_rule (written ps)) (arguments (eval l d.new ∷ values_of ps d.new)) (change d l ∷ changes d ps) (eval (Index l ps) d.old)
  index_alike l ps h left positions =
      let now_l = eval_alike l c.new d.new (λ x o. (in_left _ (names_in l) (names_in_positions ps) h x o).new) in
      let now_ps = values_alike ps c.new d.new (λ x o. (in_right _ (names_in l) (names_in_positions ps) h x o).new) in
      let held = eval_alike (Index l ps) c.old d.old (λ x o. (h x o).old) in
      λ i. of_operation (index_rule (written ps)) (arguments (now_l i ∷ now_ps i)) (left i ∷ positions i) (held i)

mutual
  -- a tree has the same change if the names in it have the same results and changes
  pub change_alike : (t : Tree) (c d : NamesChange) → ((x : List ℕ) → Contains (names_in t) x → IsAlikeAt c d x) → change c t ≡ change d t
  change_alike (Const l) c d h = refl
  change_alike (Name x) c d h = (h x (Contains-push [] x)).delta
  change_alike (Monad f r) c d h = monad_alike operation_delta c d (function1.Monad f) r h (change_alike r c d h)
  change_alike (Dyad f l r) c d h =
      dyad_alike operation_delta c d (function2.Dyad f) l r h (change_alike l c d (in_left _ (names_in l) (names_in r) h)) (change_alike r c d (in_right _ (names_in l) (names_in r) h))
  change_alike (Index l ps) c d h =
      index_alike operation_delta c d l ps h (change_alike l c d (in_left _ (names_in l) (names_in_positions ps) h)) (changes_alike ps c d (in_right _ (names_in l) (names_in_positions ps) h))
  change_alike (Reduce f k r) c d h = monad_alike operation_delta c d (function1.Reduce f k) r h (change_alike r c d h)
  change_alike (Scan f k r) c d h = monad_alike operation_delta c d (function1.Scan f k) r h (change_alike r c d h)
  change_alike (Outer f l r) c d h =
      dyad_alike operation_delta c d (function2.Outer f) l r h (change_alike l c d (in_left _ (names_in l) (names_in r) h)) (change_alike r c d (in_right _ (names_in l) (names_in r) h))
  change_alike (Inner f g l r) c d h =
      dyad_alike operation_delta c d (function2.Inner f g) l r h (change_alike l c d (in_left _ (names_in l) (names_in r) h)) (change_alike r c d (in_right _ (names_in l) (names_in r) h))

  pub changes_alike : (ps : Positions) (c d : NamesChange) → ((x : List ℕ) → Contains (names_in_positions ps) x → IsAlikeAt c d x) → changes c ps ≡ changes d ps
  changes_alike NoPositions c d h = refl
  changes_alike (Empty ps) c d h = changes_alike ps c d h
  changes_alike (Filled e ps) c d h =
      let first = change_alike e c d (in_left _ (names_in e) (names_in_positions ps) h) in
      let others = changes_alike ps c d (in_right _ (names_in e) (names_in_positions ps) h) in
      λ i. first i ∷ others i

-- the sum over two lists and one more tree
sum_of_parts : (g : Tree → ℕ) (ts us : List Tree) (t : Tree) → sum_by g (ts ++ (us ++ t ∷ [])) ≡ sum_by g ts + (sum_by g us + g t)
sum_of_parts g ts us t = sum_by-append g ts (us ++ t ∷ []) ∙ ap (λ n. sum_by g ts + n) (sum_by_push g us t)

-- a number of each tree that depends only on the names in it
module _ (P : List ℕ → Type 0) (f g : Tree → ℕ) (same : (t : Tree) → ((x : List ℕ) → Contains (names_in t) x → P x) → f t ≡ g t) where
  -- with one more tree
  one_more : (ts : List Tree) (t : Tree) → sum_by f ts ≡ sum_by g ts → f t ≡ g t → sum_by f (ts ++ t ∷ []) ≡ sum_by g (ts ++ t ∷ [])
  one_more ts t below here = sum_by_push f ts t ∙ ((λ i. below i + here i) ∙ sym (sum_by_push g ts t))

  two_more : (ts us : List Tree) (t : Tree) → sum_by f ts ≡ sum_by g ts → sum_by f us ≡ sum_by g us → f t ≡ g t → sum_by f (ts ++ (us ++ t ∷ [])) ≡ sum_by g (ts ++ (us ++ t ∷ []))
  two_more ts us t left right here = sum_of_parts f ts us t ∙ ((λ i. left i + (right i + here i)) ∙ sym (sum_of_parts g ts us t))

  mutual
    -- it has the same sum over all nodes in a tree
    pub sums_alike : (t : Tree) → ((x : List ℕ) → Contains (names_in t) x → P x) → sum_by f (inside t) ≡ sum_by g (inside t)
    sums_alike (Const l) h = refl
    sums_alike (Name x) h = refl
    sums_alike (Monad k r) h = one_more (inside r) (Monad k r) (sums_alike r h) (same (Monad k r) h)
    sums_alike (Dyad k l r) h = two_more (inside l) (inside r) (Dyad k l r) (sums_alike l (in_left _ (names_in l) (names_in r) h)) (sums_alike r (in_right _ (names_in l) (names_in r) h)) (same (Dyad k l r) h)
    sums_alike (Index l ps) h =
        two_more (inside l) (inside_positions ps) (Index l ps) (sums_alike l (in_left _ (names_in l) (names_in_positions ps) h)) (position_sums_alike ps (in_right _ (names_in l) (names_in_positions ps) h)) (same (Index l ps) h)
    sums_alike (Reduce k j r) h = one_more (inside r) (Reduce k j r) (sums_alike r h) (same (Reduce k j r) h)
    sums_alike (Scan k j r) h = one_more (inside r) (Scan k j r) (sums_alike r h) (same (Scan k j r) h)
    sums_alike (Outer k l r) h = two_more (inside l) (inside r) (Outer k l r) (sums_alike l (in_left _ (names_in l) (names_in r) h)) (sums_alike r (in_right _ (names_in l) (names_in r) h)) (same (Outer k l r) h)
    sums_alike (Inner k j l r) h =
        two_more (inside l) (inside r) (Inner k j l r) (sums_alike l (in_left _ (names_in l) (names_in r) h)) (sums_alike r (in_right _ (names_in l) (names_in r) h)) (same (Inner k j l r) h)

    pub position_sums_alike : (ps : Positions) → ((x : List ℕ) → Contains (names_in_positions ps) x → P x) → sum_by f (inside_positions ps) ≡ sum_by g (inside_positions ps)
    position_sums_alike NoPositions h = refl
    position_sums_alike (Empty ps) h = position_sums_alike ps h
    position_sums_alike (Filled e ps) h =
        let first = sums_alike e (in_left _ (names_in e) (names_in_positions ps) h) in
        let others = position_sums_alike ps (in_right _ (names_in e) (names_in_positions ps) h) in
        sum_by-append f (inside e) (inside_positions ps) ∙ ((λ i. first i + others i) ∙ sym (sum_by-append g (inside e) (inside_positions ps)))

-- an operation with unchanged arguments does not change and costs nothing
pub operation_unchanged : (p : RuleModel) (r : Result (List ArrayValue) Fault) (ds : List Delta) (held : Outcome) → list_all is_same ds ≡ true
    → (operation_delta p r ds held ≡ Same) × (operation_cost p r ds held ≡ 0)
operation_unchanged p (Ok arrays) ds held h = (cond-true _ _ _ h, cond-true _ _ _ h)
operation_unchanged p (Err e) ds held h = (cond-true _ _ _ h, refl)

same_in_front : (d : Delta) (ds : List Delta) → d ≡ Same → list_all is_same ds ≡ true → list_all is_same (d ∷ ds) ≡ true
same_in_front d ds e h = subst (λ (x : Delta). list_all is_same (x ∷ ds) ≡ true) (sym e) h

-- the tree does not change, and no node in it costs anything
abbrev IsUnchanged : NamesChange → Tree → List Tree → Type 0
IsUnchanged c t ts = (change c t ≡ Same) × (sum_by (cost_at c) ts ≡ 0)

-- the same for a function of such trees
unchanged_before : (c : NamesChange) (f : Function1) (r t : Tree) → change c t ≡ operation_delta (right_rule f) (arguments (eval r c.new ∷ [])) (change c r ∷ []) (eval t c.old)
    → cost_at c t ≡ operation_cost (right_rule f) (arguments (eval r c.new ∷ [])) (change c r ∷ []) (eval t c.old) → IsUnchanged c r (inside r) → IsUnchanged c t (inside r ++ t ∷ [])
unchanged_before c f r t delta cost right =
    let here = operation_unchanged (right_rule f) (arguments (eval r c.new ∷ [])) (change c r ∷ []) (eval t c.old) (same_in_front (change c r) [] right.0 refl) in
    let free = cost ∙ here.1 in
    (delta ∙ here.0, sum_by_push (cost_at c) (inside r) t ∙ (λ i. right.1 i + free i))

unchanged_between : (c : NamesChange) (f : Function2) (l r t : Tree) → change c t ≡ operation_delta (both_rule f) (arguments (eval l c.new ∷ eval r c.new ∷ [])) (change c l ∷ change c r ∷ []) (eval t c.old)
    → cost_at c t ≡ operation_cost (both_rule f) (arguments (eval l c.new ∷ eval r c.new ∷ [])) (change c l ∷ change c r ∷ []) (eval t c.old) → IsUnchanged c l (inside l) → IsUnchanged c r (inside r)
    → IsUnchanged c t (inside l ++ (inside r ++ t ∷ []))
unchanged_between c f l r t delta cost left right =
    let here = operation_unchanged (both_rule f) (arguments (eval l c.new ∷ eval r c.new ∷ [])) (change c l ∷ change c r ∷ []) (eval t c.old)
    (same_in_front (change c l) (change c r ∷ []) left.0 (same_in_front (change c r) [] right.0 refl)) in
    let free = cost ∙ here.1 in
    (delta ∙ here.0, sum_of_parts (cost_at c) (inside l) (inside r) t ∙ (λ i. left.1 i + (right.1 i + free i)))

mutual
  -- if no name in a tree changed, the tree does not change and no node in it costs anything
  pub unchanged_costs_nothing : (t : Tree) (c : NamesChange) → ((x : List ℕ) → Contains (names_in t) x → c.delta x ≡ Same) → (change c t ≡ Same) × (sum_by (cost_at c) (inside t) ≡ 0)
  unchanged_costs_nothing (Const l) c h = (refl, refl)
  unchanged_costs_nothing (Name x) c h = (h x (Contains-push [] x), refl)
  unchanged_costs_nothing (Monad f r) c h = unchanged_before c (function1.Monad f) r (Monad f r) refl refl (unchanged_costs_nothing r c h)
  unchanged_costs_nothing (Dyad f l r) c h =
      unchanged_between c (function2.Dyad f) l r (Dyad f l r) refl refl (unchanged_costs_nothing l c (in_left _ (names_in l) (names_in r) h)) (unchanged_costs_nothing r c (in_right _ (names_in l) (names_in r) h))
  unchanged_costs_nothing (Index l ps) c h =
      let left = unchanged_costs_nothing l c (in_left _ (names_in l) (names_in_positions ps) h) in
      let positions = unchanged_positions_cost_nothing ps c (in_right _ (names_in l) (names_in_positions ps) h) in
      let here = operation_unchanged (index_rule (written ps)) (arguments (eval l c.new ∷ values_of ps c.new)) (change c l ∷ changes c ps) (eval (Index l ps) c.old)
      (same_in_front (change c l) (changes c ps) left.0 positions.0) in
      (here.0, sum_of_parts (cost_at c) (inside l) (inside_positions ps) (Index l ps) ∙ (λ i. left.1 i + (positions.1 i + here.1 i)))
  unchanged_costs_nothing (Reduce f k r) c h = unchanged_before c (function1.Reduce f k) r (Reduce f k r) refl refl (unchanged_costs_nothing r c h)
  unchanged_costs_nothing (Scan f k r) c h = unchanged_before c (function1.Scan f k) r (Scan f k r) refl refl (unchanged_costs_nothing r c h)
  unchanged_costs_nothing (Outer f l r) c h =
      unchanged_between c (function2.Outer f) l r (Outer f l r) refl refl (unchanged_costs_nothing l c (in_left _ (names_in l) (names_in r) h)) (unchanged_costs_nothing r c (in_right _ (names_in l) (names_in r) h))
  unchanged_costs_nothing (Inner f g l r) c h =
      unchanged_between c (function2.Inner f g) l r (Inner f g l r) refl refl (unchanged_costs_nothing l c (in_left _ (names_in l) (names_in r) h)) (unchanged_costs_nothing r c (in_right _ (names_in l) (names_in r) h))

  pub unchanged_positions_cost_nothing : (ps : Positions) (c : NamesChange) → ((x : List ℕ) → Contains (names_in_positions ps) x → c.delta x ≡ Same)
      → (list_all is_same (changes c ps) ≡ true) × (sum_by (cost_at c) (inside_positions ps) ≡ 0)
  unchanged_positions_cost_nothing NoPositions c h = (refl, refl)
  unchanged_positions_cost_nothing (Empty ps) c h = unchanged_positions_cost_nothing ps c h
  unchanged_positions_cost_nothing (Filled e ps) c h =
      let first = unchanged_costs_nothing e c (in_left _ (names_in e) (names_in_positions ps) h) in
      let others = unchanged_positions_cost_nothing ps c (in_right _ (names_in e) (names_in_positions ps) h) in
      (same_in_front (change c e) (changes c ps) first.0 others.0, sum_by-append (cost_at c) (inside e) (inside_positions ps) ∙ (λ i. first.1 i + others.1 i))

-- the same with the tree's own node
pub unchanged_tree_costs_nothing : (t : Tree) (c : NamesChange) → ((x : List ℕ) → Contains (names_in t) x → c.delta x ≡ Same) → tree_cost false c t ≡ 0
unchanged_tree_costs_nothing (Name x) c h = refl
unchanged_tree_costs_nothing (Const l) c h = refl
unchanged_tree_costs_nothing (Monad f r) c h = (unchanged_costs_nothing (Monad f r) c h).1
unchanged_tree_costs_nothing (Dyad f l r) c h = (unchanged_costs_nothing (Dyad f l r) c h).1
unchanged_tree_costs_nothing (Index l ps) c h = (unchanged_costs_nothing (Index l ps) c h).1
unchanged_tree_costs_nothing (Reduce f k r) c h = (unchanged_costs_nothing (Reduce f k r) c h).1
unchanged_tree_costs_nothing (Scan f k r) c h = (unchanged_costs_nothing (Scan f k r) c h).1
unchanged_tree_costs_nothing (Outer f l r) c h = (unchanged_costs_nothing (Outer f l r) c h).1
unchanged_tree_costs_nothing (Inner f g l r) c h = (unchanged_costs_nothing (Inner f g l r) c h).1
