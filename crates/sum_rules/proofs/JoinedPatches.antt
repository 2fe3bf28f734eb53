-- The parts joined for a patch of one place of an array whose lines have trees.
use Rattle.std.{proofs.Common.{◌≡◌, ◌∙◌, ℕ, ℤ, List, [], ◌∷◌, get_or, set, map, true, refl, sym, ap, subst, arith}, proofs.lemmas.List.{map-set}}
use Rattle.arrays_core.{specs.declared.item.Item.{Item}, specs.declared.item.Item.TheVariants.{Num}, specs.declared.item.ItemType.TheVariants.{Nums}, specs.Arrays.{ArrayValue, IsArray}, specs.Items.{fill}, specs.Shapes.{places_before}}
use Rattle.index_region.{specs.Arguments.{number_of}, specs.Boxes.{box_size, walk_at}, specs.Patches.{PatchValue, FitsPatch, patched}, proofs.Written.{IsWritten, written_none, written_more, written_all}}
use Rattle.fold_trees.{specs.ArrayLines.{TreesValue}, specs.FoldTrees.{FoldsValue}}
use Rattle.sum_rules.{specs.LineSums.{StandFor, array_of_shape}, specs.JoinedPatches.{IsJoinedIn, IsJoinedWith}, specs.declared.joined_patch.JoinedPatch.{JoinedPatch}}

-- a patch of one place sets one number
pub one_written : (shape : List ℕ) (numbers : List ℤ) (p : PatchValue) (number : ℤ) → IsArray (array_of_shape shape numbers) → FitsPatch (array_of_shape shape numbers) p → box_size p.region ≡ 1
    → get_or p.items 0 (fill p.item_type) ≡ Num number
    → array_of_shape shape (set numbers (places_before shape (walk_at p.region 0)) number) ≡ patched (array_of_shape shape numbers) p
one_written shape numbers p number sound fit one item =
    let a = array_of_shape shape numbers in
    let place = places_before shape (walk_at p.region 0) in
    let more = written_more a p 0 a fit (written_none a p sound) (omega (arith, one)) in
    let here = λ (xs : List Item). let b : ArrayValue = record { item_type = Nums; shape = shape; items = xs } in b in
    let items : map (λ (z : ℤ). Num z) (set numbers place number) ≡ set a.items place (get_or p.items 0 (fill p.item_type)) =
    map-set (λ z. Num z) numbers place number ∙ ap (set a.items place) (sym item) in
    ap here items ∙ written_all a p (here (set a.items place (get_or p.items 0 (fill p.item_type)))) (subst (λ (n : ℕ). IsWritten a p n (here (set a.items place (get_or p.items 0 (fill p.item_type))))) (sym one) more)

-- trees of the same array are the same
pub same_lines : (t u : TreesValue) (axis : ℕ) (a : ArrayValue) → StandFor t axis a → StandFor u axis a → t ≡ u
same_lines t u axis a of_t of_u = λ i. record { count = count i; step = step i; numbers = numbers i }
  where
    back : (xs : List ℤ) → map number_of (map (λ (z : ℤ). Num z) xs) ≡ xs
    back [] = refl
    back (x ∷ xs) = ap (λ (l : List ℤ). x ∷ l) (back xs)

    count : t.count ≡ u.count
    count = of_t.counted ∙ sym of_u.counted

    step : t.step ≡ u.step
    step = of_t.apart ∙ sym of_u.apart

    numbers : t.numbers ≡ u.numbers
    numbers = sym (back t.numbers) ∙ ap (λ (b : ArrayValue). map number_of b.items) (sym of_t.is ∙ of_u.is) ∙ back u.numbers

-- the parts joined in the trees of some sums
pub joined_with : (l : FoldsValue) (axis : ℕ) (shape : List ℕ) → StandFor l.lines axis (array_of_shape shape l.lines.numbers) → (p : JoinedPatch)
    → (p.is_joined ≡ true → IsJoinedIn shape l p.patch p.joined) → IsJoinedWith (record { function = l.function; axis = axis; array = array_of_shape shape l.lines.numbers }) p
joined_with l axis shape stands p joined t stand done =
    subst (λ (u : TreesValue). IsJoinedIn shape (record { function = l.function; lines = u }) p.patch p.joined) (same_lines l.lines t axis (array_of_shape shape l.lines.numbers) stands stand) (joined done)
