-- The growth of an array, and the trees of its lines.
use Rattle.std.{proofs.Common.{◌≡◌, ◌∙◌, ◌++◌, ℕ, ℤ, List, map, refl, sym, subst}, proofs.lemmas.List.{map-append}}
use Rattle.arrays_core.{specs.declared.item.Item.TheVariants.{Num}, specs.declared.item.ItemType.TheVariants.{Nums}, specs.Growth.{grown_by, one_longer}}
use Rattle.fold_trees.specs.FoldTrees.{FoldsValue}
use Rattle.sum_rules.{specs.LineSums.{SummedValue, array_of_shape, StandFor}, specs.NewLines.{lines_behind, new_numbers, trees_grown, AreNewLinesOf, FitsSums, FitsTrees}, specs.declared.new_lines.Growth.{Growth}, specs.declared.new_lines.Growth.TheVariants.{Lines, Places}}
use Rattle.sum_rules.{proofs.MoreLines.{length_stays, old_lines, stand_grown, step_stays}, proofs.MorePlaces.{fit_next, stand_longer}}

-- the array of these numbers, whose lines along an axis are summed up
abbrev pub held : (axis : ℕ) → List ℕ → FoldsValue → SummedValue
held axis old t = record { function = t.function; axis = axis; array = array_of_shape old t.lines.numbers }

-- the trees can take the growth
pub fits_trees : (axis : ℕ) (old new : List ℕ) (t : FoldsValue) (g : Growth) → StandFor t.lines axis (array_of_shape old t.lines.numbers) → AreNewLinesOf axis new g → FitsSums (held axis old t) (lines_behind axis new g)
    → FitsTrees t g
fits_trees axis old new t (Lines m) stand made fits = record {
  function = fits.function;
  lines = record {
    count = made.new.1.0 ∙ length_stays axis old new t m stand made fits ∙ sym stand.counted;
    step = made.new.1.1.0 ∙ step_stays axis old new t m stand made fits ∙ sym stand.apart;
    old_lines = old_lines axis old new t m stand made fits;
  };
}
fits_trees axis old new t (Places m) stand made fits =
    let first = made.new.0 in
    record {
      function = fits.function;
      places = fit_next old new t m (subst (λ k. StandFor t.lines k (array_of_shape old t.lines.numbers)) first stand) (subst (λ k. AreNewLinesOf k new (Places m)) first made)
          (subst (λ k. FitsSums (held k old t) (lines_behind k new (Places m))) first fits);
    }

-- the trees hold the lines of the grown array
pub stands : (axis : ℕ) (old new : List ℕ) (t : FoldsValue) (g : Growth) → StandFor t.lines axis (array_of_shape old t.lines.numbers) → AreNewLinesOf axis new g → FitsSums (held axis old t) (lines_behind axis new g)
    → StandFor (trees_grown t g).lines axis (array_of_shape new (t.lines.numbers ++ new_numbers g))
stands axis old new t (Lines m) stand made fits = stand_grown axis old new t m stand made fits
stands axis old new t (Places m) stand made fits =
    let first = made.new.0 in
    subst (λ k. StandFor (trees_grown t (Places m)).lines k (array_of_shape new (t.lines.numbers ++ m.places.numbers))) (sym first)
    (stand_longer old new t m (subst (λ k. StandFor t.lines k (array_of_shape old t.lines.numbers)) first stand) (subst (λ k. AreNewLinesOf k new (Places m)) first made)
    (subst (λ k. FitsSums (held k old t) (lines_behind k new (Places m))) first fits))

-- the numbers after the growth are the old ones, then the new ones
pub numbers_grown : (t : FoldsValue) (g : Growth) → (trees_grown t g).lines.numbers ≡ t.lines.numbers ++ new_numbers g
numbers_grown t (Lines m) = refl
numbers_grown t (Places m) = refl

-- the function stays the same
pub function_stays : (t : FoldsValue) (g : Growth) → (trees_grown t g).function ≡ t.function
function_stays t (Lines m) = refl
function_stays t (Places m) = refl

-- the array of the old and the new numbers is the grown array
pub array_grown : (old new : List ℕ) (numbers more : List ℤ) → new ≡ one_longer old → array_of_shape new (numbers ++ more) ≡ grown_by (array_of_shape old numbers) (map (λ (z : ℤ). Num z) more)
array_grown old new numbers more shaped i = record { item_type = Nums; shape = shaped i; items = map-append (λ (z : ℤ). Num z) numbers more i }
