-- The change of each node's result that follows from a change of the names, in a formula that is not new.
use Rattle.std.{specs.Prelude.{◌≡◌, ◌<◌, ℕ, List, [], ◌∷◌, ◌&&◌, ◌||◌, not, Bool, true, false, length, map, drop, is_ok, Result, Ok, Err, if◌then◌else◌}, specs.List.{list_all, list_any}}
use Rattle.apl_expr.specs.Trees.{Tree, Const, Name, Monad, Dyad, Index, Reduce, Scan, Outer, Inner, Positions, NoPositions, Empty, Filled}
use Rattle.arrays_core.{specs.Arrays.{ArrayValue}, specs.Shapes.{size}, specs.declared.fault.Fault.{Fault}, specs.Outcomes.{Outcome}}
use Rattle.index_region.{specs.declared.delta.Delta.{Delta}, specs.declared.delta.Delta.TheVariants.{Same, Patch, Grown, Whole}, specs.Patches.{FitsPatch}, specs.Tails.{TailValue, FitsTail}}
use Rattle.change_core.specs.RuleModels.{RuleModel, form_size}
use Rattle.change_rules.{specs.Currency.{applied}, specs.Nodes.{is_same, is_whole, is_grown, is_grown_at_most, moved_by, grown_in, grown_size, reached_delta, reached_cost}, specs.Evaluation.{evaluation}}
use Rattle.selection_fns.specs.Index.{index_rule}
use Rattle.formula_core.{specs.Meaning.{eval}, specs.Rules.{right_rule, both_rule}}
use Rattle.apl_expr.specs.declared.functions.Function1.TheVariants as function1
use Rattle.apl_expr.specs.declared.functions.Function2.TheVariants as function2

-- the results of all names before and after, and the change of each
pub record NamesChange : Type 0 where
  pub old : List ℕ → Outcome
  pub new : List ℕ → Outcome
  pub delta : List ℕ → Delta

-- these results, unchanged
abbrev pub at_rest : (List ℕ → Outcome) → NamesChange
at_rest names = record { old = names; new = names; delta = λ x. Same }

-- the arguments with one more in front; an error of the others comes first
abbrev pub argument_in_front : Outcome → Result (List ArrayValue) Fault → Result (List ArrayValue) Fault
argument_in_front o (Err e) = Err e
argument_in_front (Err e) (Ok arrays) = Err e
argument_in_front (Ok a) (Ok arrays) = Ok (a ∷ arrays)

-- all arguments as arrays, or the error of the last that has one
abbrev pub arguments : List Outcome → Result (List ArrayValue) Fault
arguments [] = Ok []
arguments (o ∷ os) = argument_in_front o (arguments os)

-- the result of a function with this rule
abbrev pub result_of : RuleModel → Result (List ArrayValue) Fault → Outcome
result_of p (Ok arrays) = evaluation p arrays
result_of p (Err e) = Err e

-- the result grows: each argument is unchanged or grew, and the rule allows it
abbrev pub result_grows : RuleModel → List ArrayValue → List Delta → Bool
result_grows p arrays deltas = list_all is_grown_at_most deltas && p.grows arrays (map is_grown deltas)

-- the change of a function's result by its rule, from the new arrays, their changes and the last result
abbrev pub result_delta : RuleModel → List ArrayValue → List Delta → (held : Outcome) → Delta
result_delta p arrays deltas held =
    if list_all is_same deltas then Same
    else if list_any is_whole deltas || not (is_ok held) then Whole (evaluation p arrays)
    else if list_any is_grown deltas then (if result_grows p arrays deltas then grown_in (p.form arrays) (p.item arrays) else Whole (evaluation p arrays))
    else reached_delta p arrays (map moved_by deltas)

-- the greatest number of items that this change computes
abbrev pub result_cost : RuleModel → List ArrayValue → List Delta → (held : Outcome) → ℕ
result_cost p arrays deltas held =
    if list_all is_same deltas then 0
    else if list_any is_whole deltas || not (is_ok held) then form_size (p.form arrays)
    else if list_any is_grown deltas then (if result_grows p arrays deltas then grown_size (p.form arrays) else form_size (p.form arrays))
    else reached_cost p arrays (map moved_by deltas)

-- the change of an operation, from its new arguments, their changes and the last result
abbrev pub operation_delta : RuleModel → Result (List ArrayValue) Fault → List Delta → (held : Outcome) → Delta
operation_delta p (Ok arrays) deltas held = result_delta p arrays deltas held
operation_delta p (Err e) deltas held = if list_all is_same deltas then Same else Whole (Err e)

-- its cost; an error costs nothing
abbrev pub operation_cost : RuleModel → Result (List ArrayValue) Fault → List Delta → (held : Outcome) → ℕ
operation_cost p (Ok arrays) deltas held = result_cost p arrays deltas held
operation_cost p (Err e) deltas held = 0

-- for each position, whether it is written
abbrev pub written : Positions → List Bool
written NoPositions = []
written (Empty ps) = false ∷ written ps
written (Filled e ps) = true ∷ written ps

-- the values of the written positions
abbrev pub values_of : Positions → (List ℕ → Outcome) → List Outcome
values_of NoPositions names = []
values_of (Empty ps) names = values_of ps names
values_of (Filled e ps) names = eval e names ∷ values_of ps names

abbrev mutual
  -- the change of a tree's result
  pub change : NamesChange → Tree → Delta
  change c (Const l) = Same
  change c (Name x) = c.delta x
  change c (Monad f b) = operation_delta (right_rule (function1.Monad f)) (arguments (eval b c.new ∷ [])) (change c b ∷ []) (eval (Monad f b) c.old)
  change c (Dyad f a b) = operation_delta (both_rule (function2.Dyad f)) (arguments (eval a c.new ∷ eval b c.new ∷ [])) (change c a ∷ change c b ∷ []) (eval (Dyad f a b) c.old)
  change c (Index a ps) = operation_delta (index_rule (written ps)) (arguments (eval a c.new ∷ values_of ps c.new)) (change c a ∷ changes c ps) (eval (Index a ps) c.old)
  change c (Reduce f k b) = operation_delta (right_rule (function1.Reduce f k)) (arguments (eval b c.new ∷ [])) (change c b ∷ []) (eval (Reduce f k b) c.old)
  change c (Scan f k b) = operation_delta (right_rule (function1.Scan f k)) (arguments (eval b c.new ∷ [])) (change c b ∷ []) (eval (Scan f k b) c.old)
  change c (Outer f a b) = operation_delta (both_rule (function2.Outer f)) (arguments (eval a c.new ∷ eval b c.new ∷ [])) (change c a ∷ change c b ∷ []) (eval (Outer f a b) c.old)
  change c (Inner f g a b) = operation_delta (both_rule (function2.Inner f g)) (arguments (eval a c.new ∷ eval b c.new ∷ [])) (change c a ∷ change c b ∷ []) (eval (Inner f g a b) c.old)

  pub changes : NamesChange → Positions → List Delta
  changes c NoPositions = []
  changes c (Empty ps) = changes c ps
  changes c (Filled e ps) = change c e ∷ changes c ps

-- the cost of the change of a tree's node, without the nodes inside it
abbrev pub cost_at : NamesChange → Tree → ℕ
cost_at c (Const l) = 0
cost_at c (Name x) = 0
cost_at c (Monad f b) = operation_cost (right_rule (function1.Monad f)) (arguments (eval b c.new ∷ [])) (change c b ∷ []) (eval (Monad f b) c.old)
cost_at c (Dyad f a b) = operation_cost (both_rule (function2.Dyad f)) (arguments (eval a c.new ∷ eval b c.new ∷ [])) (change c a ∷ change c b ∷ []) (eval (Dyad f a b) c.old)
cost_at c (Index a ps) = operation_cost (index_rule (written ps)) (arguments (eval a c.new ∷ values_of ps c.new)) (change c a ∷ changes c ps) (eval (Index a ps) c.old)
cost_at c (Reduce f k b) = operation_cost (right_rule (function1.Reduce f k)) (arguments (eval b c.new ∷ [])) (change c b ∷ []) (eval (Reduce f k b) c.old)
cost_at c (Scan f k b) = operation_cost (right_rule (function1.Scan f k)) (arguments (eval b c.new ∷ [])) (change c b ∷ []) (eval (Scan f k b) c.old)
cost_at c (Outer f a b) = operation_cost (both_rule (function2.Outer f)) (arguments (eval a c.new ∷ eval b c.new ∷ [])) (change c a ∷ change c b ∷ []) (eval (Outer f a b) c.old)
cost_at c (Inner f g a b) = operation_cost (both_rule (function2.Inner f g)) (arguments (eval a c.new ∷ eval b c.new ∷ [])) (change c a ∷ change c b ∷ []) (eval (Inner f g a b) c.old)

-- the size of an operation's result; 0 with an error among the arguments or after a failed check
abbrev pub operation_size : RuleModel → Result (List ArrayValue) Fault → ℕ
operation_size p (Ok arrays) = form_size (p.form arrays)
operation_size p (Err e) = 0

-- the size of the result of a tree's node; 0 for a literal or name
abbrev pub tree_size : (List ℕ → Outcome) → Tree → ℕ
tree_size names (Const l) = 0
tree_size names (Name x) = 0
tree_size names (Monad f b) = operation_size (right_rule (function1.Monad f)) (arguments (eval b names ∷ []))
tree_size names (Dyad f a b) = operation_size (both_rule (function2.Dyad f)) (arguments (eval a names ∷ eval b names ∷ []))
tree_size names (Index a ps) = operation_size (index_rule (written ps)) (arguments (eval a names ∷ values_of ps names))
tree_size names (Reduce f k b) = operation_size (right_rule (function1.Reduce f k)) (arguments (eval b names ∷ []))
tree_size names (Scan f k b) = operation_size (right_rule (function1.Scan f k)) (arguments (eval b names ∷ []))
tree_size names (Outer f a b) = operation_size (both_rule (function2.Outer f)) (arguments (eval a names ∷ eval b names ∷ []))
tree_size names (Inner f g a b) = operation_size (both_rule (function2.Inner f g)) (arguments (eval a names ∷ eval b names ∷ []))

-- each entry with its change, from the first; entries beyond the last change stay
abbrev pub each_with : {C A : Type 0} → (C → A → A) → List C → List A → List A
each_with f [] xs = xs
each_with f (c ∷ changes) [] = []
each_with f (c ∷ changes) (x ∷ xs) = f c x ∷ each_with f changes xs

-- a patch fits into an array of its type that contains its box; a tail fits an array
abbrev pub FitsIn : Delta → Outcome → Type 0
FitsIn (Patch p) (Ok a) = FitsPatch a p
FitsIn (Patch p) (Err e) = ⊥
FitsIn (Grown t) (Ok a) = FitsTail a t
FitsIn (Grown t) (Err e) = ⊥
FitsIn _ _ = Unit {0}

-- an array that grew ends with this tail: the items of the last place of its first axis, of its type
pub record HasGrown (a : ArrayValue) (t : TailValue) : Type 0 where
  pub some_axis : 0 < length a.shape
  pub shaped : t.shape ≡ a.shape
  pub one_place : length t.items ≡ size (drop 1 a.shape)
  pub typed : t.item_type ≡ a.item_type

-- the changed value contains the box of the patch, or ends with the tail
abbrev pub FitsNow : Delta → Outcome → Type 0
FitsNow (Patch p) (Ok a) = FitsPatch a p
FitsNow (Patch p) (Err e) = ⊥
FitsNow (Grown t) (Ok a) = HasGrown a t
FitsNow (Grown t) (Err e) = ⊥
FitsNow _ _ = Unit {0}

-- the name's old result with its change is its new result
pub record IsNameChanged (c : NamesChange) (x : List ℕ) : Type 0 where
  pub right : applied (c.delta x) (c.old x) ≡ c.new x
  pub fit : FitsIn (c.delta x) (c.old x)
