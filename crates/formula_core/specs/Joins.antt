-- The number of joins of parts of lines that a change of the names takes.
use Rattle.std.{specs.Prelude.{ℕ, ◌-◌, ◌*◌, ◌^◌, min, nat_le, nat_lt, Bool, ◌&&◌, ◌||◌, is_ok, Ok, Err, length, if◌then◌else◌}, specs.List.{count_by, range_with_len, sum_by}, specs.Option.{option_map_or}}
use Rattle.apl_expr.specs.Trees.{Tree, Const, Name, Monad, Dyad, Index, Scan, Outer, Inner}
use Rattle.arrays_core.{specs.Arrays.{ArrayValue}, specs.Outcomes.{Outcome}}
use Rattle.index_region.{specs.Arguments.{is_of_numbers}, specs.declared.delta.Delta.{Delta}, specs.declared.delta.Delta.TheVariants.{Grown}}
use Rattle.function_names.specs.Axes.{axis_at}
use Rattle.reduce_fns.specs.declared.reduce.Reduce.{Reduce}
use Rattle.sum_rules.{specs.LineSums.{length_along, most_without_tree}, specs.Totals.{new_items, is_narrow}}
use Rattle.formula_core.{specs.Changes.{NamesChange}, specs.Meaning.{eval}, specs.Plans.{node_change, node_cost_at}, specs.Sums.{total_of}, specs.Tables.{subtrees}}
use Rattle.apl_expr.specs.Trees as tree
use Rattle.apl_expr.specs.declared.functions.Function1.TheVariants as function1

-- the number of binary digits of n: the count of powers 1, 2, 4 and so on that are at most n; 0 has none
abbrev pub binary_digits : ℕ → ℕ
binary_digits n = count_by (λ k. nat_le (2 ^ k) n) (range_with_len 0 n)

-- lines of this length had trees: before they grew, if they did. Shorter lines are folded one by one at the same speed, but all of them if the
-- totals held an error
abbrev pub had_trees : Delta → (held : Outcome) → (long : ℕ) → Bool
had_trees (Grown t) held long = nat_lt most_without_tree (long - 1)
had_trees _ held long = is_ok held || nat_lt most_without_tree long

-- trees serve the totals of an array of numbers: each changed line changed in one place, or each line grew by one place and had a tree
abbrev pub has_trees_for : Reduce → ArrayValue → Delta → (held : Outcome) → Bool
has_trees_for fold a d held = is_narrow (axis_at (length a.shape) fold.along) d && (is_of_numbers a.item_type && had_trees d held (length_along fold.along a.shape))

-- the greatest number of joins for this many totals. With trees: for each new number the binary digits of the line's length less one. Otherwise: for
-- each total the line's length less one. An error takes none
abbrev pub most_joins_of : Reduce → Outcome → Delta → (held : Outcome) → (totals : ℕ) → ℕ
most_joins_of fold (Ok a) d held totals = if has_trees_for fold a d held then new_items d * binary_digits (length_along fold.along a.shape - 1) else totals * (length_along fold.along a.shape - 1)
most_joins_of fold (Err e) d held totals = 0

-- the least number of joins if no total fails. With trees: one for each new total, if a line has two numbers. Otherwise: the greatest number
abbrev pub least_joins_of : Reduce → Outcome → Delta → (held : Outcome) → (totals : ℕ) → ℕ
least_joins_of fold (Ok a) d held totals = if has_trees_for fold a d held then (if nat_lt 1 (length_along fold.along a.shape) then min totals (new_items d) else 0) else totals * (length_along fold.along a.shape - 1)
least_joins_of fold (Err e) d held totals = 0

-- the greatest number of joins for the change of a tree's node; only totals join
abbrev pub most_joins : (is_new : Bool) → NamesChange → Tree → ℕ
most_joins is_new c (Const l) = 0
most_joins is_new c (Name x) = 0
most_joins is_new c (Monad f b) = 0
most_joins is_new c (Dyad f a b) = 0
most_joins is_new c (Index a ps) = 0
most_joins is_new c (tree.Reduce f k b) = option_map_or (λ fold. most_joins_of fold (eval b c.new) (node_change is_new c b) (eval (tree.Reduce f k b) c.old) (node_cost_at is_new c (tree.Reduce f k b))) (total_of (function1.Reduce f k)) 0
most_joins is_new c (Scan f k b) = 0
most_joins is_new c (Outer f a b) = 0
most_joins is_new c (Inner f g a b) = 0

-- the least number if no item of the node fails
abbrev pub least_joins : (is_new : Bool) → NamesChange → Tree → ℕ
least_joins is_new c (Const l) = 0
least_joins is_new c (Name x) = 0
least_joins is_new c (Monad f b) = 0
least_joins is_new c (Dyad f a b) = 0
least_joins is_new c (Index a ps) = 0
least_joins is_new c (tree.Reduce f k b) = option_map_or (λ fold. least_joins_of fold (eval b c.new) (node_change is_new c b) (eval (tree.Reduce f k b) c.old) (node_cost_at is_new c (tree.Reduce f k b))) (total_of (function1.Reduce f k)) 0
least_joins is_new c (Scan f k b) = 0
least_joins is_new c (Outer f a b) = 0
least_joins is_new c (Inner f g a b) = 0

-- the greatest number for the change of a tree with all its nodes
abbrev pub tree_joins : (is_new : Bool) → NamesChange → Tree → ℕ
tree_joins is_new c t = sum_by (most_joins is_new c) (subtrees t)

-- the least number if no item of any node fails
abbrev pub tree_least_joins : (is_new : Bool) → NamesChange → Tree → ℕ
tree_least_joins is_new c t = sum_by (least_joins is_new c) (subtrees t)
