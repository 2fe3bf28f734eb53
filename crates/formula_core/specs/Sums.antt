-- The trees of lines that the totals of a formula keep.
use Rattle.std.{specs.Prelude.{◌≡◌, ℕ, List, true, false, Option, Some, None, is_some, Ok, Err, if◌then◌else◌}, specs.Option.{option_map, option_map_or}}
use Rattle.apl_expr.{specs.Trees.{Tree, Const, Name, Monad, Dyad, Index, Scan, Outer, Inner}, specs.declared.functions.Function1.{Function1}}
use Rattle.arrays_core.{specs.Arrays.{ArrayValue}, specs.Growth.{grown_by}, specs.Outcomes.{Outcome}}
use Rattle.reduce_fns.specs.declared.reduce.Reduce.{Reduce}
use Rattle.index_region.{specs.declared.delta.Delta.{Delta}, specs.declared.delta.Delta.TheVariants.{Patch as PatchDelta, Grown as GrownDelta}, specs.Patches.{PatchValue, FitsPatch, patched}, specs.Tails.{TailValue, FitsTail}}
use Rattle.change_rules.{specs.Currency.{applied}, specs.Nodes.{is_whole}}
use Rattle.sum_rules.{specs.LineSums.{SummedValue, keeps_sums, summed, patched_sums, grown_sums}, specs.JoinedPatches.{IsJoinedWith}, specs.NewLines.{FitsSums as FitBehind}}
use Rattle.formula_core.{specs.declared.sums.SumsDelta.{SumsDelta}, specs.declared.sums.SumsDelta.TheVariants.{Same, Patch, Grown, Whole}, specs.Changes.{FitsIn}, specs.declared.table.Node.{Node}, specs.declared.table.Operand.{Operand}, specs.Meaning.{eval}}
use Rattle.fold_trees.specs.FoldTrees.{has_trees}
use Rattle.apl_expr.specs.Trees as tree
use Rattle.apl_expr.specs.declared.functions.Function1.TheVariants as function1
use Rattle.formula_core.specs.declared.table.Node.TheVariants as node

-- the fold of a function whose lines keep trees, such as +/ and ⌈⌿
abbrev pub total_of : Function1 → Option Reduce
total_of (function1.Reduce f k) = if has_trees f then Some (record { function = f; along = k }) else None
total_of _ = None

-- an array with its fold, if its lines keep trees
abbrev pub summed_in : Reduce → Outcome → Option SummedValue
summed_in fold (Ok a) = summed fold a
summed_in fold (Err e) = None

-- the array whose lines a tree's node keeps as trees, with these names
abbrev pub summed_at : (List ℕ → Outcome) → Tree → Option SummedValue
summed_at names (Const l) = None
summed_at names (Name x) = None
summed_at names (Monad f b) = None
summed_at names (Dyad f a b) = None
summed_at names (Index a ps) = None
summed_at names (tree.Reduce f k b) = option_map_or (λ fold. summed_in fold (eval b names)) (total_of (function1.Reduce f k)) None
summed_at names (Scan f k b) = None
summed_at names (Outer f a b) = None
summed_at names (Inner f g a b) = None

-- the fold and the argument of a node whose lines keep trees
abbrev pub totalled : Node → Option (Reduce × Operand)
totalled (node.Constant literal) = None
totalled (node.Name place) = None
totalled (node.Monad f right) = option_map (λ fold. (fold, right)) (total_of f)
totalled (node.Dyad f left right) = None
totalled (node.Index array positions) = None

-- the sums of a node after their change
abbrev pub resummed : SumsDelta → Option SummedValue → Option SummedValue
resummed Same kept = kept
resummed (Patch p) (Some s) = Some (patched_sums s p.value.patch)
resummed (Patch p) None = None
resummed (Grown l) (Some s) = Some (grown_sums s l.value.tail.items)
resummed (Grown l) None = None
resummed (Whole s) kept = s

-- the joins of a patch were made with the kept sums
abbrev pub IsJoinedFrom : Option SummedValue → SumsDelta → Type 0
IsJoinedFrom (Some s) (Patch p) = IsJoinedWith s p.value
IsJoinedFrom _ _ = Unit {0}

-- the box of a patch lies in the array of the sums, and its joins were made with them; a tail fits that array
abbrev pub FitsInSums : SumsDelta → Option SummedValue → Type 0
FitsInSums (Patch p) (Some s) = FitsPatch s.array p.value.patch × IsJoinedWith s p.value
FitsInSums (Patch p) None = ⊥
FitsInSums (Grown l) (Some s) = FitBehind s l.value
FitsInSums (Grown l) None = ⊥
FitsInSums _ _ = Unit {0}

-- the argument is its old value with this change, and the kept sums belong to the old value
pub record WasSummed (fold : Reduce) (now : Outcome) (d : Delta) (kept : Option SummedValue) (old : Outcome) : Type 0 where
  pub becomes : applied d old ≡ now
  pub fit : FitsIn d old
  pub keeps : kept ≡ summed_in fold old

-- after this change the sums belong to the argument's lines, and the change fits them
pub record IsSumsDelta (fold : Reduce) (now : Outcome) (d : Delta) (kept : Option SummedValue) (s : SumsDelta) : Type 0 where
  pub right : (old : Outcome) → (is_whole d ≡ false → WasSummed fold now d kept old) → resummed s kept ≡ summed_in fold now
  pub fit : (old : Outcome) → (is_whole d ≡ false → WasSummed fold now d kept old) → FitsInSums s kept

-- rebuilt sums belong to the argument's lines
abbrev pub AreNewSums : Reduce → (now : Outcome) → SumsDelta → Type 0
AreNewSums fold now s = (sums : Option SummedValue) → s ≡ Whole sums → sums ≡ summed_in fold now

-- the kept sums belong to the array before this patch
pub record WasPatched (fold : Reduce) (now : Outcome) (p : PatchValue) (s : SummedValue) : Type 0 where
  pub fit : FitsPatch s.array p
  pub becomes : now ≡ Ok (patched s.array p)
  pub lines : summed fold s.array ≡ Some s

-- the kept sums belong to the array before it grew
pub record WasGrown (fold : Reduce) (now : Outcome) (t : TailValue) (s : SummedValue) : Type 0 where
  pub fit : FitsTail s.array t
  pub becomes : now ≡ Ok (grown_by s.array t.items)
  pub lines : summed fold s.array ≡ Some s

-- the sums kept for a patched or grown array are those of its old value
pub record IsSummedFor (fold : Reduce) (now : Outcome) (d : Delta) (kept : Option SummedValue) : Type 0 where
  pub changed : (p : PatchValue) (s : SummedValue) → d ≡ PatchDelta p → kept ≡ Some s → WasPatched fold now p s
  pub grew : (t : TailValue) (s : SummedValue) → d ≡ GrownDelta t → kept ≡ Some s → WasGrown fold now t s

-- the sums of an array before it grew are kept if its lines were long enough
pub record WereSumsKept (fold : Reduce) (now : ArrayValue) (t : TailValue) (kept : Option SummedValue) : Type 0 where
  pub before : ArrayValue
  pub fit : FitsTail before t
  pub becomes : now ≡ grown_by before t.items
  pub keeps : is_some kept ≡ keeps_sums fold before

-- a patched array keeps sums if its lines are long enough; a grown one if its old lines were
pub record AreSumsKept (fold : Reduce) (now : Outcome) (d : Delta) (kept : Option SummedValue) : Type 0 where
  pub folded : has_trees fold.function ≡ true
  pub changed : (p : PatchValue) (a : ArrayValue) → d ≡ PatchDelta p → now ≡ Ok a → is_some kept ≡ keeps_sums fold a
  pub grew : (t : TailValue) (a : ArrayValue) → d ≡ GrownDelta t → now ≡ Ok a → WereSumsKept fold a t kept
