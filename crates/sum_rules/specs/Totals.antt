-- The totals of the lines of an array whose sums are kept as trees.
use Rattle.std.{specs.Prelude.{◌≡◌, ℕ, ◌+◌, ◌-◌, ◌*◌, ◌<◌, ◌≤◌, ◌^◌, ℤ, nat_eq, Bool, true, false, List, [], ◌∷◌, length, get_or, remove, All}, specs.List.{flat_map}}
use Rattle.function_names.{specs.declared.scalar.Scalar2.{Scalar2}, specs.declared.scalar.Scalar2.TheVariants.{Plus}, specs.Axes.{is_axis, axis_at}, specs.declared.along.Along.{Along}, specs.declared.along.Along.TheVariants.{Last}}
use Rattle.arrays_core.{specs.Arrays.{ArrayValue}, specs.Growth.{grown_by}, specs.Outcomes.{Outcome}}
use Rattle.index_region.{specs.declared.delta.Delta.{Delta}, specs.declared.delta.Delta.TheVariants.{Patch, Grown}, specs.Boxes.{Interval, box_size}, specs.Patches.{PatchValue, FitsPatch, patched}, specs.Tails.{TailValue, FitsTail}}
use Rattle.change_core.{specs.RuleModels.{RuleModel}, specs.Meters.{ticked}}
use Rattle.change_rules.specs.Nodes.{Argument, node_cost}
use Rattle.reduce_fns.{specs.declared.reduce.Reduce.{Reduce}, specs.Reduce.{reduce_rule}}
use Rattle.fold_trees.specs.ArrayLines.{TreesValue}
use Rattle.sum_rules.specs.LineSums.{StandFor, length_along}

-- the totals of a reduction, such as +/B
abbrev pub total_rule : Reduce → RuleModel
total_rule fold = reduce_rule fold.function fold.along

-- the sums along the last axis
abbrev pub row_sums : Reduce
row_sums = record { function = Plus; along = Last }

-- the trees hold the lines of the array before the patch was applied
pub record StoodFor (along : Along) (t : TreesValue) (p : PatchValue) (now : ArrayValue) : Type 0 where
  pub before : ArrayValue
  pub on_axis : is_axis (length before.shape) along ≡ true
  pub lines : StandFor t (axis_at (length before.shape) along) before
  pub fit : FitsPatch before p
  pub is : now ≡ patched before p

-- the trees hold the lines of the array before it grew by these items
pub record StoodBefore (along : Along) (t : TreesValue) (tail : TailValue) (now : ArrayValue) : Type 0 where
  pub before : ArrayValue
  pub on_axis : is_axis (length before.shape) along ≡ true
  pub lines : StandFor t (axis_at (length before.shape) along) before
  pub fit : FitsTail before tail
  pub is : now ≡ grown_by before tail.items

-- if a box of the argument changed or it grew, the trees have the function of the fold and hold the old lines
pub record IsSummedUp (fold : Reduce) (arg : Argument) (function : Scalar2) (t : TreesValue) : Type 0 where
  pub changed : (p : PatchValue) → arg.1.now ≡ Patch p → (function ≡ fold.function) × StoodFor fold.along t p arg.0
  pub grew : (tail : TailValue) → arg.1.now ≡ Grown tail → (function ≡ fold.function) × StoodBefore fold.along t tail arg.0

-- lists that all have this length
abbrev pub AreAllAsLong : ℕ → List (List ℤ) → Type 0
AreAllAsLong count lines = All (λ line. length line ≡ count) lines

-- the trees of lines along the last axis, one list for each line
abbrev pub all_trees : ℕ → List (List ℤ) → TreesValue
all_trees count lines = record { count = count; step = 1; numbers = flat_map (λ line. line) lines }

-- if a box of the argument changed, or it is a non-empty vector that grew, these lists are its old lines along the last axis
pub record IsSummedByLines (arg : Argument) (lines : List (List ℤ)) : Type 0 where
  pub changed : (p : PatchValue) → arg.1.now ≡ Patch p → AreAllAsLong (length_along Last arg.0.shape) lines × StoodFor Last (all_trees (length_along Last arg.0.shape) lines) p arg.0
  pub grew : (tail : TailValue) → arg.1.now ≡ Grown tail → length arg.0.shape ≡ 1 → 1 < length_along Last arg.0.shape
      → AreAllAsLong (length_along Last arg.0.shape - 1) lines × StoodBefore Last (all_trees (length_along Last arg.0.shape - 1) lines) tail arg.0

-- the number of items that are new by a patch or a growth
abbrev pub new_items : Delta → ℕ
new_items (Patch p) = box_size p.region
new_items (Grown t) = length t.items
new_items _ = 0

-- for each new item, at most as many joins as the length of the line, less one, has binary digits
abbrev pub AreJoinsWithin : (items long old new : ℕ) → Type 0
AreJoinsWithin items long old new = (digits : ℕ) → long - 1 < 2 ^ digits → new ≤ old + items * digits

-- at least one join for each new item, if lines have two numbers or more
abbrev pub AreJoinsFrom : (items long old new : ℕ) → Type 0
AreJoinsFrom items long old new = 1 < long → ticked old items ≤ new

-- at most the joins that fold these lines
abbrev pub AreFoldsWithin : (lines long old new : ℕ) → Type 0
AreFoldsWithin lines long old new = new ≤ old + lines * (long - 1)

-- exactly the joins that fold these lines
abbrev pub AreFolds : (lines long old new : ℕ) → Type 0
AreFolds lines long old new = new ≡ ticked old (lines * (long - 1))

-- a box has one place on an axis
abbrev pub is_one_a_line : ℕ → List Interval → Bool
is_one_a_line axis region = let s = get_or region axis (1, 0) in nat_eq s.0 s.1

-- a box without an axis
abbrev pub box_of_lines : ℕ → List Interval → List Interval
box_of_lines axis region = remove region axis

-- the trees apply: the changed box has one place on each line, or each line got one more place
abbrev pub is_narrow : ℕ → Delta → Bool
is_narrow axis (Patch p) = is_one_a_line axis p.region
is_narrow axis (Grown t) = nat_eq axis 0
is_narrow axis _ = false

abbrev pub is_by_trees : Along → Argument → Bool
is_by_trees along arg = is_narrow (axis_at (length arg.0.shape) along) arg.1.now

-- the most joins for the change of the totals. By trees, each new item takes as many as the length of a line, less one, has binary digits. Otherwise
-- each folded line takes one less than it has numbers.
pub record HasJoins (fold : Reduce) (arg : Argument) (held : Outcome) (old new : ℕ) : Type 0 where
  pub trees : is_by_trees fold.along arg ≡ true → AreJoinsWithin (new_items arg.1.now) (length_along fold.along arg.0.shape) old new
  pub folds : is_by_trees fold.along arg ≡ false → AreFoldsWithin (node_cost (total_rule fold) (arg ∷ []) held) (length_along fold.along arg.0.shape) old new

-- the joins if no total fails. By trees, each new item of a line with two numbers or more takes at least one. Otherwise each folded line takes
-- exactly one less than it has numbers.
pub record HasAllJoins (fold : Reduce) (arg : Argument) (held : Outcome) (old new : ℕ) : Type 0 where
  pub trees : is_by_trees fold.along arg ≡ true → AreJoinsFrom (new_items arg.1.now) (length_along fold.along arg.0.shape) old new
  pub folds : is_by_trees fold.along arg ≡ false → AreFolds (node_cost (total_rule fold) (arg ∷ []) held) (length_along fold.along arg.0.shape) old new
