-- The parts that were joined for another number at a place.
use Rattle.std.specs.Prelude.{ℕ, ◌-◌, ◌<◌, ℤ, length}
use Rattle.function_names.{specs.declared.scalar.Scalar2.{Scalar2}, specs.declared.scalar.Scalar2.TheVariants.{Plus, Times, Maximum, Minimum, And, Or}}
use Rattle.fold_trees.{specs.declared.joined.Joined.{Joined}, specs.declared.joined.JoinedParts.{JoinedParts}, specs.ArrayLines.{TreesValue, numbers_through, with_number}, specs.FoldTrees.{FoldsValue, IsReductionBy, IsWithinDigitsOf}, specs.Parts.{IsFold, IsTruthFold}, specs.Sums.{IsSumKept}, specs.Products.{IsKeptOf}}
use Rattle.fold_trees.specs.PartTrees.{AreJoinedFor}

-- the joined parts of the line of a place, with another number there, in the list of the function
abbrev pub ArePartsFor : Scalar2 → TreesValue → (place : ℕ) → ℤ → JoinedParts → Type 0
ArePartsFor Plus t place number p = AreJoinedFor (λ s xs. IsSumKept xs s) t place number p.sums.items
ArePartsFor Times t place number p = AreJoinedFor (λ s xs. IsKeptOf xs s) t place number p.products.items
ArePartsFor Maximum t place number p = AreJoinedFor (λ s. IsFold Maximum s.number) t place number p.greatest.items
ArePartsFor Minimum t place number p = AreJoinedFor (λ s. IsFold Minimum s.number) t place number p.least.items
ArePartsFor And t place number p = AreJoinedFor (λ s. IsTruthFold And s.truth) t place number p.all_true.items
ArePartsFor Or t place number p = AreJoinedFor (λ s. IsTruthFold Or s.truth) t place number p.any_true.items
ArePartsFor _ t place number p = ⊥

-- the fold of that line by these trees, the number of joins, and the joined parts
pub record IsJoinedFor (t : FoldsValue) (j : Joined) : Type 0 where
  pub inside : j.place < length t.lines.numbers
  pub total : IsReductionBy t.function (numbers_through (with_number t.lines j.place j.number) j.place) j.total
  pub most : IsWithinDigitsOf (t.lines.count - 1) j.joins
  pub least : 1 < t.lines.count → 0 < j.joins
  pub parts : ArePartsFor t.function t.lines j.place j.number j.parts
