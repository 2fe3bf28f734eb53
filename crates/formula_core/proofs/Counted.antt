-- The count of one evaluation of an expression is the cost of its functions.
use Rattle.std.{proofs.Common.{◌≡◌, ◌∙◌, ◌+◌, ◌<◌, ◌≤◌, ℕ, zero, suc, List, [], ◌∷◌, ◌++◌, length, map, drop, get_or, true, is_ok, Option, Some, None, Result, Ok, Err, IsOk, refl, sym, ap, subst, arith}, specs.List.{sum_by}, proofs.lemmas.Bool.{false≢true}, proofs.lemmas.List.{drop_more}}
use Rattle.std.proofs.lemmas.List.Sums.{sum_by-append, sum_by_push}
use Rattle.apl_expr.{specs.declared.expr.Expr.{Expr}, specs.declared.functions.Function1.{Function1}, specs.declared.functions.Function2.{Function2}}
use Rattle.apl_expr.specs.Trees.{Tree, Const, Name, Monad, Dyad, Index, Reduce, Scan, Outer, Inner, before_argument, between_arguments, Literal, Positions, tree_of, position_of, positions_of}
use Rattle.arrays_core.{specs.Arrays.{ArrayValue, with_items}, specs.Items.{and_then, all_or_first_error}, specs.Shapes.{size, indices}, specs.declared.fault.Fault.{Fault}, specs.declared.item.Item.{Item}, specs.declared.item.Kind.{Kind}, specs.Outcomes.{given, Outcome}}
use Rattle.{index_region.specs.Checks.{Form, whole}, change_core.{specs.Meters.{ticked}, specs.RuleModels.{RuleModel, form_size}}}
use Rattle.selection_fns.specs.Index.{Position, index_rule}
use Rattle.formula_core.{specs.declared.evaluation.Evaluated.{Evaluated}, specs.Changes.{at_rest, arguments, operation_size, result_of, tree_size, values_of, written}, specs.Counts.{cost_in, cost_in_positions, AreItemsCounted, ArePositionsCounted, IsCounted, IsTreeCounted}}
use Rattle.formula_core.{specs.Meaning.{applied2, eval, eval_positions, in_front, of_right, of_both}, specs.Evaluated.{array_in, outcome_of}, specs.Plans.{tree_cost}, specs.Rules.{right_rule, both_rule}, specs.Tables.{inside, inside_positions}}
use Rattle.formula_core.{proofs.Applied.{eval_before, eval_between, inside_before, inside_between, size_before, size_between}, proofs.Changed.{monad_meant, dyad_meant, indexing_meant}, proofs.Indexing.{error_stands, value_written}}

-- if two steps succeed, each of them does
first_given : {A B E : Type 0} (r : Result A E) (next : A → Result B E) → is_ok (and_then r next) ≡ true → is_ok r ≡ true
first_given (Ok x) next h = refl
first_given (Err e) next h = h

second_given : {A B C E : Type 0} (r : Result A E) (s : Result B E) (next : A → B → Result C E) → is_ok (and_then r (λ x. and_then s (next x))) ≡ true → is_ok s ≡ true
second_given (Ok x) s next h = first_given s (next x) h
second_given (Err e) s next h = absurd (false≢true h)

-- the number of items of an array; 0 for an error
items_in : Outcome → ℕ
items_in (Ok a) = size a.shape
items_in (Err e) = 0

-- an array by a rule has as many items as its checks say
collected_items : (f : Form) (r : Result (List Item) Kind) → is_ok (given (with_items f.item_type f.shape r)) ≡ true → items_in (given (with_items f.item_type f.shape r)) ≡ size f.shape
unfolding items_in
collected_items f (Ok items) h = refl
collected_items f (Err kind) h = absurd (false≢true h)

checked_items : (form : Result Form Kind) (item : List ℕ → Result Item Kind) → is_ok (given (whole form item)) ≡ true → items_in (given (whole form item)) ≡ form_size form
checked_items (Ok f) item h = collected_items f (all_or_first_error (map item (indices f.shape))) h
checked_items (Err kind) item h = absurd (false≢true h)

operation_items : (p : RuleModel) (r : Result (List ArrayValue) Fault) → is_ok (result_of p r) ≡ true → items_in (result_of p r) ≡ operation_size p r
operation_items p (Ok arrays) h = checked_items (p.form arrays) (p.item arrays) h
operation_items p (Err e) h = absurd (false≢true h)

-- an operation costs as many items as its result has
meant_items : (p : RuleModel) (r : Result (List ArrayValue) Fault) (o : Outcome) → result_of p r ≡ o → is_ok o ≡ true → items_in o ≡ operation_size p r
meant_items p r o is h = ap items_in (sym is) ∙ operation_items p r (ap is_ok is ∙ h)

-- the count of one function
most_items : (o : Outcome) (cost before after : ℕ) (gives : Result Evaluated Fault) → outcome_of gives ≡ o → (is_ok o ≡ true → items_in o ≡ cost) → AreItemsCounted gives before after → after ≤ before + cost
unfolding items_in
most_items o cost before after (Ok x) is sized items =
    let all = sized (ap is_ok (sym is)) in
    let own : size (array_in x).shape ≡ items_in o = ap items_in is in
    omega (arith, all, own, items)
most_items o cost before after (Err e) is sized same = omega (arith, same)

least_items : (o : Outcome) (cost before after : ℕ) (gives : Result Evaluated Fault) → outcome_of gives ≡ o → (is_ok o ≡ true → items_in o ≡ cost) → AreItemsCounted gives before after → is_ok o ≡ true → ticked before cost ≤ after
unfolding items_in
least_items o cost before after (Ok x) is sized items h =
    let all = sized h in
    let own : size (array_in x).shape ≡ items_in o = ap items_in is in
    omega (arith, all, own, items)
least_items o cost before after (Err e) is sized same h = absurd (false≢true (ap is_ok is ∙ h))

-- two counts in sequence
then : (before now after first second : ℕ) → ticked before first ≤ now → ticked now second ≤ after → ticked before (first + second) ≤ after
then before now after first second h more = omega (arith, h, more)

-- the counts of the arguments, and then of their function
record AreCounted (first second own before after : ℕ) (Given : Type 0) : Type 0 where
  pub most : after ≤ before + ((first + second) + own)
  pub least : Given → ticked before ((first + second) + own) ≤ after

two_counted : {A B : Type 0} (o : Outcome) (one two own before now then_now after : ℕ) (First Second : Type 0) (first : A) (second : B) (gives : Result Evaluated Fault) → IsCounted one First before now (Ok first) → IsCounted two Second now then_now (Ok second)
    → outcome_of gives ≡ o → (is_ok o ≡ true → items_in o ≡ own) → (is_ok o ≡ true → First) → (is_ok o ≡ true → Second) → AreItemsCounted gives then_now after → AreCounted one two own before after (IsOk o)
two_counted o one two own before now then_now after First Second first second gives h k is sized f s items = record {
  most = omega (arith, h.most, k.most, most_items o own then_now after gives is sized items);
  least = λ g. then before then_now after (one + two) own (then before now then_now one two (h.least (f g)) (k.least (s g))) (least_items o own then_now after gives is sized items g);
}

module _ (names : List ℕ → Outcome) where
  -- the cost of a tree is the cost of its arguments and its own
  pub monad_cost : (f : Function1) (b : Tree) → cost_in names (before_argument f b) ≡ cost_in names b + tree_size names (before_argument f b)
  monad_cost f b = ap (sum_by (tree_size names)) (inside_before f b) ∙ sum_by_push (tree_size names) (inside b) (before_argument f b)

  two_parts : (xs ys : List Tree) (t : Tree) → sum_by (tree_size names) (xs ++ (ys ++ t ∷ [])) ≡ (sum_by (tree_size names) ys + sum_by (tree_size names) xs) + tree_size names t
  two_parts xs ys t = omega (arith, sum_by-append (tree_size names) xs (ys ++ t ∷ []), sum_by_push (tree_size names) ys t)

  pub dyad_cost : (f : Function2) (a b : Tree) → cost_in names (between_arguments f a b) ≡ (cost_in names b + cost_in names a) + tree_size names (between_arguments f a b)
  dyad_cost f a b = ap (sum_by (tree_size names)) (inside_between f a b) ∙ two_parts (inside a) (inside b) (between_arguments f a b)

  pub index_cost : (a : Tree) (ps : Positions) → cost_in names (Index a ps) ≡ (cost_in_positions names ps + cost_in names a) + tree_size names (Index a ps)
  index_cost a ps = two_parts (inside a) (inside_positions ps) (Index a ps)

  -- a literal counts nothing
  pub literal_counted : (l : Literal) (before : ℕ) → IsTreeCounted {A = Unit {0}} names (Const l) before before (Ok tt)
  literal_counted l before = record { most = omega arith; least = λ g. omega arith }

  -- a function of one argument
  pub monad_counted : {A B : Type 0} (f : Function1) (b : Tree) (before now after : ℕ) (right : A) (gives : Result Evaluated Fault) (told : B) → IsTreeCounted names b before now (Ok right) → outcome_of gives ≡ eval (before_argument f b) names
      → AreItemsCounted gives now after → IsTreeCounted names (before_argument f b) before after (Ok told)
  monad_counted f b before now after right gives told first is items =
      let t = before_argument f b in
      let sized : is_ok (eval t names) ≡ true → items_in (eval t names) ≡ tree_size names t =
      λ g. meant_items (right_rule f) (arguments (eval b names ∷ [])) (eval t names) (monad_meant f (eval b names) ∙ sym (eval_before names f b)) g ∙ sym (size_before names f b) in
      let parts = monad_cost f b in
      record {
        most = omega (arith, first.most, most_items (eval t names) (tree_size names t) now after gives is sized items, parts);
        least = λ h. subst (λ n. ticked before n ≤ after) (sym parts)
            (then before now after (cost_in names b) (tree_size names t) (first.least (first_given (eval b names) (λ y. given (of_right f y)) (ap is_ok (sym (eval_before names f b)) ∙ h))) (least_items (eval t names) (tree_size names t) now after gives is sized items h));
      }

  pub dyad_counted : {A B D : Type 0} (f : Function2) (a b : Tree) (before now then_now after : ℕ) (right : A) (left : B) (gives : Result Evaluated Fault) (told : D) → IsTreeCounted names b before now (Ok right)
      → IsTreeCounted names a now then_now (Ok left) → outcome_of gives ≡ eval (between_arguments f a b) names → AreItemsCounted gives then_now after
      → IsTreeCounted names (between_arguments f a b) before after (Ok told)
  dyad_counted f a b before now then_now after right left gives told h k is items =
      let t = between_arguments f a b in
      let sized : is_ok (eval t names) ≡ true → items_in (eval t names) ≡ tree_size names t =
      λ g. meant_items (both_rule f) (arguments (eval a names ∷ eval b names ∷ [])) (eval t names) (dyad_meant f (eval a names) (eval b names) ∙ sym (eval_between names f a b)) g ∙ sym (size_between names f a b) in
      let gives_all : is_ok (eval t names) ≡ true → is_ok (applied2 f (eval b names) (eval a names)) ≡ true = λ g. ap is_ok (sym (eval_between names f a b)) ∙ g in
      let all = two_counted (eval t names) (cost_in names b) (cost_in names a) (tree_size names t) before now then_now after (IsOk (eval b names)) (IsOk (eval a names)) right left gives h k is sized
      (λ g. first_given (eval b names) (λ y. and_then (eval a names) (λ x. given (of_both f x y))) (gives_all g)) (λ g. second_given (eval b names) (eval a names) (λ y x. given (of_both f x y)) (gives_all g)) items in
      record { most = subst (λ n. after ≤ before + n) (sym (dyad_cost f a b)) all.most; least = λ g. subst (λ n. ticked before n ≤ after) (sym (dyad_cost f a b)) (all.least g) }

  pub index_counted : {A B D : Type 0} (a : Tree) (ps : Positions) (before now then_now after : ℕ) (positions : A) (operand : B) (gives : Result Evaluated Fault) (told : D) → ArePositionsCounted names ps before now (Ok positions)
      → IsTreeCounted names a now then_now (Ok operand) → outcome_of gives ≡ eval (Index a ps) names → AreItemsCounted gives then_now after
      → IsTreeCounted names (Index a ps) before after (Ok told)
  index_counted a ps before now then_now after positions operand gives told h k is items =
      let t = Index a ps in
      let sized = meant_items (index_rule (written ps)) (arguments (eval a names ∷ values_of ps names)) (eval t names) (indexing_meant a ps names) in
      let all = two_counted (eval t names) (cost_in_positions names ps) (cost_in names a) (tree_size names t) before now then_now after (IsOk (eval_positions ps names)) (IsOk (eval a names)) positions operand gives h k is sized
      (λ g. first_given (eval_positions ps names) _ g) (λ g. second_given (eval_positions ps names) (eval a names) _ g) items in
      record { most = subst (λ n. after ≤ before + n) (sym (index_cost a ps)) all.most; least = λ g. subst (λ n. ticked before n ≤ after) (sym (index_cost a ps)) (all.least g) }

  -- the cost of the positions from one on
  abbrev pub cost_from : List (Option Expr) → ℕ → ℕ
  cost_from ps k = cost_in_positions names (positions_of (map position_of (drop k ps)))

  pub cost_written : (ps : List (Option Expr)) (k : ℕ) (e : Expr) → k < length ps → get_or ps k None ≡ Some e → cost_from ps k ≡ cost_in names (tree_of e) + cost_from ps (k + 1)
  cost_written ps k e below is = rw (drop_more ps k None below, is) (sum_by-append (tree_size names) (inside (tree_of e)) (inside_positions (positions_of (map position_of (drop (k + 1) ps)))))

  pub cost_empty : (ps : List (Option Expr)) (k : ℕ) → k < length ps → get_or ps k None ≡ None → cost_from ps k ≡ cost_from ps (k + 1)
  cost_empty ps k below is = rw (drop_more ps k None below, is) refl

  pub cost_left : (ps : List (Option Expr)) (k : ℕ) → cost_from ps k ≤ cost_from ps 0
  cost_left ps zero = omega arith
  cost_left [] (suc k) = omega arith
  cost_left (None ∷ ps) (suc k) = cost_left ps k
  cost_left (Some e ∷ ps) (suc k) = omega (arith, cost_left ps k, sum_by-append (tree_size names) (inside (tree_of e)) (inside_positions (positions_of (map position_of ps))))

  -- the first failing position from the right has the error of all
  pub failed_at : (ps : List (Option Expr)) (k : ℕ) (e : Expr) (fault : Fault) (later : List Position) → k < length ps → get_or ps k None ≡ Some e → eval (tree_of e) names ≡ Err fault
      → Ok later ≡ eval_positions (positions_of (map position_of (drop (k + 1) ps))) names → eval_positions (positions_of (map position_of ps)) names ≡ Err fault
  failed_at ps k e fault later below is failed others =
      error_stands names ps k fault (value_written names ps k e below is ∙ ap (λ (rest : Result (List Position) Fault). in_front (eval (tree_of e) names) rest) (sym others) ∙ ap (λ (o : Outcome). in_front o (Ok later)) failed)

  -- the cost of a new formula of a tree is the same: a name costs nothing
  pub cost_anew : (t : Tree) → tree_cost true (at_rest names) t ≡ cost_in names t
  cost_anew (Const l) = refl
  cost_anew (Name x) = refl
  cost_anew (Monad f b) = refl
  cost_anew (Dyad f a b) = refl
  cost_anew (Index a ps) = refl
  cost_anew (Reduce f k b) = refl
  cost_anew (Scan f k b) = refl
  cost_anew (Outer f a b) = refl
  cost_anew (Inner f g a b) = refl
