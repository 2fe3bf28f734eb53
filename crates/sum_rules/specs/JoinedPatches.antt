-- Patches of an array whose lines have trees, with the parts joined for them.
use Rattle.std.specs.Prelude.{◌≡◌, ℕ, true, List, set}
use Rattle.index_region.specs.Patches.{PatchValue, patched}
use Rattle.fold_trees.{specs.ArrayLines.{TreesValue}, specs.FoldTrees.{FoldsValue}, specs.Joined.{IsJoinedFor}, specs.declared.joined.Joined.{Joined}}
use Rattle.sum_rules.{specs.LineSums.{SummedValue, StandFor, array_of_shape}, specs.declared.joined_patch.JoinedPatch.{JoinedPatch}}

-- the parts were joined in these trees for the one number of a patch of an array of this shape
pub record IsJoinedIn (shape : List ℕ) (t : FoldsValue) (p : PatchValue) (j : Joined) : Type 0 where
  pub trees : IsJoinedFor t j
  pub writes : array_of_shape shape (set t.lines.numbers j.place j.number) ≡ patched (array_of_shape shape t.lines.numbers) p

-- if parts were joined for a patch, they were joined in the trees of these sums
abbrev pub IsJoinedWith : SummedValue → JoinedPatch → Type 0
IsJoinedWith s p = (t : TreesValue) → StandFor t s.axis s.array → p.is_joined ≡ true → IsJoinedIn s.array.shape (record { function = s.function; lines = t }) p.patch p.joined
