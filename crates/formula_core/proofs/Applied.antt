-- A tree of a function of one or two arguments has the same properties in each case of a tree.
use Rattle.std.{proofs.Common.{◌≡◌, ℕ, List, [], ◌∷◌, ◌++◌, Bool, true, None, refl}, specs.Option.{option_map_or}}
use Rattle.apl_expr.{specs.Trees.{Tree, before_argument, between_arguments}, specs.declared.functions.Function1.{Function1}, specs.declared.functions.Function2.{Function2}}
use Rattle.arrays_core.specs.Outcomes.{Outcome}
use Rattle.formula_core.{specs.Changes.{NamesChange, arguments, change, cost_at, operation_cost, operation_delta, operation_size, tree_size}, specs.Formulas.{is_operation}, specs.Joins.{least_joins, least_joins_of, most_joins, most_joins_of}, specs.Meaning.{applied1, applied2, eval, names_in}}
use Rattle.formula_core.{specs.Plans.{node_change, node_cost_at}, specs.Rules.{both_rule, right_rule}, specs.Sums.{summed_at, summed_in, total_of}, specs.Tables.{inside}}
use Rattle.apl_expr.specs.declared.functions.Function1.TheVariants as function1
use Rattle.apl_expr.specs.declared.functions.Function2.TheVariants as function2

-- its value
pub eval_before : (names : List ℕ → Outcome) (f : Function1) (b : Tree) → eval (before_argument f b) names ≡ applied1 f (eval b names)
eval_before names (function1.Monad f) b = refl
eval_before names (function1.Reduce f k) b = refl
eval_before names (function1.Scan f k) b = refl

pub eval_between : (names : List ℕ → Outcome) (f : Function2) (a b : Tree) → eval (between_arguments f a b) names ≡ applied2 f (eval b names) (eval a names)
eval_between names (function2.Dyad f) a b = refl
eval_between names (function2.Outer f) a b = refl
eval_between names (function2.Inner f g) a b = refl

-- the names in it, and the trees with a node in it
pub names_before : (f : Function1) (b : Tree) → names_in (before_argument f b) ≡ names_in b
names_before (function1.Monad f) b = refl
names_before (function1.Reduce f k) b = refl
names_before (function1.Scan f k) b = refl

pub names_between : (f : Function2) (a b : Tree) → names_in (between_arguments f a b) ≡ names_in a ++ names_in b
names_between (function2.Dyad f) a b = refl
names_between (function2.Outer f) a b = refl
names_between (function2.Inner f g) a b = refl

pub inside_before : (f : Function1) (b : Tree) → inside (before_argument f b) ≡ inside b ++ before_argument f b ∷ []
inside_before (function1.Monad f) b = refl
inside_before (function1.Reduce f k) b = refl
inside_before (function1.Scan f k) b = refl

pub inside_between : (f : Function2) (a b : Tree) → inside (between_arguments f a b) ≡ inside a ++ (inside b ++ between_arguments f a b ∷ [])
inside_between (function2.Dyad f) a b = refl
inside_between (function2.Outer f) a b = refl
inside_between (function2.Inner f g) a b = refl

-- it is an operation
pub operation_before : (f : Function1) (b : Tree) → is_operation (before_argument f b) ≡ true
operation_before (function1.Monad f) b = refl
operation_before (function1.Reduce f k) b = refl
operation_before (function1.Scan f k) b = refl

pub operation_between : (f : Function2) (a b : Tree) → is_operation (between_arguments f a b) ≡ true
operation_between (function2.Dyad f) a b = refl
operation_between (function2.Outer f) a b = refl
operation_between (function2.Inner f g) a b = refl

-- its change, the cost of that, and the size of its result
pub change_before : (c : NamesChange) (f : Function1) (b : Tree) → change c (before_argument f b) ≡ operation_delta (right_rule f) (arguments (eval b c.new ∷ [])) (change c b ∷ []) (eval (before_argument f b) c.old)
change_before c (function1.Monad f) b = refl
change_before c (function1.Reduce f k) b = refl
change_before c (function1.Scan f k) b = refl

pub change_between : (c : NamesChange) (f : Function2) (a b : Tree) → change c (between_arguments f a b) ≡ operation_delta (both_rule f) (arguments (eval a c.new ∷ eval b c.new ∷ [])) (change c a ∷ change c b ∷ []) (eval (between_arguments f a b) c.old)
change_between c (function2.Dyad f) a b = refl
change_between c (function2.Outer f) a b = refl
change_between c (function2.Inner f g) a b = refl

pub cost_before : (c : NamesChange) (f : Function1) (b : Tree) → cost_at c (before_argument f b) ≡ operation_cost (right_rule f) (arguments (eval b c.new ∷ [])) (change c b ∷ []) (eval (before_argument f b) c.old)
cost_before c (function1.Monad f) b = refl
cost_before c (function1.Reduce f k) b = refl
cost_before c (function1.Scan f k) b = refl

pub cost_between : (c : NamesChange) (f : Function2) (a b : Tree) → cost_at c (between_arguments f a b) ≡ operation_cost (both_rule f) (arguments (eval a c.new ∷ eval b c.new ∷ [])) (change c a ∷ change c b ∷ []) (eval (between_arguments f a b) c.old)
cost_between c (function2.Dyad f) a b = refl
cost_between c (function2.Outer f) a b = refl
cost_between c (function2.Inner f g) a b = refl

pub size_before : (names : List ℕ → Outcome) (f : Function1) (b : Tree) → tree_size names (before_argument f b) ≡ operation_size (right_rule f) (arguments (eval b names ∷ []))
size_before names (function1.Monad f) b = refl
size_before names (function1.Reduce f k) b = refl
size_before names (function1.Scan f k) b = refl

pub size_between : (names : List ℕ → Outcome) (f : Function2) (a b : Tree) → tree_size names (between_arguments f a b) ≡ operation_size (both_rule f) (arguments (eval a names ∷ eval b names ∷ []))
size_between names (function2.Dyad f) a b = refl
size_between names (function2.Outer f) a b = refl
size_between names (function2.Inner f g) a b = refl

-- its kept sums, and the number of its joins
pub summed_before : (names : List ℕ → Outcome) (f : Function1) (b : Tree) → summed_at names (before_argument f b) ≡ option_map_or (λ fold. summed_in fold (eval b names)) (total_of f) None
summed_before names (function1.Monad f) b = refl
summed_before names (function1.Reduce f k) b = refl
summed_before names (function1.Scan f k) b = refl

pub summed_between : (names : List ℕ → Outcome) (f : Function2) (a b : Tree) → summed_at names (between_arguments f a b) ≡ None
summed_between names (function2.Dyad f) a b = refl
summed_between names (function2.Outer f) a b = refl
summed_between names (function2.Inner f g) a b = refl

pub most_before : (is_new : Bool) (c : NamesChange) (f : Function1) (b : Tree) → most_joins is_new c (before_argument f b) ≡ option_map_or (λ fold. most_joins_of fold (eval b c.new) (node_change is_new c b) (eval (before_argument f b) c.old) (node_cost_at is_new c (before_argument f b))) (total_of f) 0
most_before is_new c (function1.Monad f) b = refl
most_before is_new c (function1.Reduce f k) b = refl
most_before is_new c (function1.Scan f k) b = refl

pub most_between : (is_new : Bool) (c : NamesChange) (f : Function2) (a b : Tree) → most_joins is_new c (between_arguments f a b) ≡ 0
most_between is_new c (function2.Dyad f) a b = refl
most_between is_new c (function2.Outer f) a b = refl
most_between is_new c (function2.Inner f g) a b = refl

pub least_before : (is_new : Bool) (c : NamesChange) (f : Function1) (b : Tree) → least_joins is_new c (before_argument f b) ≡ option_map_or (λ fold. least_joins_of fold (eval b c.new) (node_change is_new c b) (eval (before_argument f b) c.old) (node_cost_at is_new c (before_argument f b))) (total_of f) 0
least_before is_new c (function1.Monad f) b = refl
least_before is_new c (function1.Reduce f k) b = refl
least_before is_new c (function1.Scan f k) b = refl

pub least_between : (is_new : Bool) (c : NamesChange) (f : Function2) (a b : Tree) → least_joins is_new c (between_arguments f a b) ≡ 0
least_between is_new c (function2.Dyad f) a b = refl
least_between is_new c (function2.Outer f) a b = refl
least_between is_new c (function2.Inner f g) a b = refl
