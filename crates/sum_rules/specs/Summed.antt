-- All totals of an array, from the trees of its lines.
use Rattle.std.{specs.Prelude.{◌≡◌, ℕ, ◌<◌, ℤ, pos, List, [], ◌∷◌, ◌++◌, length, get_or, if◌then◌else◌, Result, Ok}, specs.Borrow.{Bor}}
use Rattle.arrays_core.{specs.declared.item.ItemType.TheVariants.{Nums}, specs.declared.item.Kind.{Kind}, specs.Arrays.{ArrayValue, collect}, specs.Items.{fill}, specs.Shapes.{size, index_after, places_before}}
use Rattle.function_names.specs.declared.scalar.Scalar2.{Scalar2}
use Rattle.index_region.{specs.Arguments.{number_of}, specs.Boxes.{box_offset, is_within}, specs.Patches.{PatchValue}}
use Rattle.item_fns.{specs.Folds.{folded}, specs.Items.{number_item}, specs.Numbers.{dyadic_on_numbers}}
use Rattle.reduce_fns.{specs.declared.reduce.Reduce.{Reduce}, specs.Reduce.{reduce_whole}}
use Rattle.fold_trees.specs.ArrayLines.{TreesValue, line_count, numbers_of_line}
use Rattle.sum_rules.{specs.declared.summed.News.{News}, specs.declared.summed.News.TheVariants.{Nothing, Changed, Behind}}

-- the number that a patch has at an index list
abbrev pub number_in : PatchValue → List ℕ → ℤ
number_in p index = number_of (get_or p.items (box_offset p.region index) (fill p.item_type))

-- the total of the line at a place of the result, from the trees and the news
abbrev pub total_at : Scalar2 → TreesValue → News → (shape : List ℕ) → (place : ℕ) → Result ℤ Kind
total_at f t Nothing shape place = folded (dyadic_on_numbers f) (numbers_of_line t place)
total_at f t (Changed p) shape place =
    if is_within p.now.region (index_after shape place) then Ok (number_in p.now (index_after shape place)) else folded (dyadic_on_numbers f) (numbers_of_line t place)
total_at f t (Behind numbers) shape place = folded (dyadic_on_numbers f) (numbers_of_line t place ++ get_or numbers.now place (pos 0) ∷ [])

-- one more number at the end of each line is one for each line
abbrev pub IsNewsOf : (lines : ℕ) → News → Type 0
IsNewsOf lines news = (numbers : Bor (List ℤ)) → news ≡ Behind numbers → length numbers.now ≡ lines

-- the trees and the news give all totals of an array, in an array of this shape
pub record AreTotals (fold : Reduce) (f : Scalar2) (t : TreesValue) (news : News) (a : ArrayValue) (shape : List ℕ) : Type 0 where
  pub places : size shape ≡ line_count t
  pub some : 0 < t.count
  pub fit : IsNewsOf (size shape) news
  pub whole : reduce_whole fold.function fold.along a ≡ collect Nums shape (λ index. number_item (total_at f t news shape (places_before shape index)))
