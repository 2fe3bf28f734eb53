-- New lines at the end of an array that grows.
use Rattle.std.{proofs.Common.{◌≡◌, ℕ, zero, suc, ◌+◌, ◌-◌, ◌*◌, ◌/◌, ◌%◌, ◌<◌, ℤ, List, [], ◌∷◌, ◌++◌, length, drop, refl, ap, sym, ◌∙◌, arith}, proofs.Math.Nat.{add-mul-div_right}, proofs.lemmas.List.{length-append, length-map}, proofs.lemmas.List.Elements.{All-map}, proofs.lemmas.Nat.{div-add-mod'}}
use Rattle.arrays_core.{specs.declared.item.Item.TheVariants.{Num}, specs.declared.item.ItemType.TheVariants.{Nums}, specs.Growth.{one_longer}, specs.Items.{type_of}, specs.Shapes.{size}, proofs.Growing.{size_longer}}
use Rattle.fold_trees.{specs.ArrayLines.{with_lines}, specs.FoldTrees.{FoldsValue, NewFoldsValue}}
use Rattle.sum_rules.{specs.LineSums.{line_length, line_step, array_of_shape, StandFor}, specs.NewLines.{lines_behind, AreNewLinesOf, FitsSums}, specs.declared.new_lines.Growth.TheVariants.{Lines}, proofs.Lines.{factor_divides, some_in_line, whole_lines}}

-- ---- only the first axis grows

later_length : (axis : ℕ) (shape : List ℕ) → 0 < axis → line_length axis (one_longer shape) ≡ line_length axis shape
later_length axis [] h = refl
later_length zero (n ∷ shape) h = absurd (omega arith)
later_length (suc axis) (n ∷ shape) h = refl

later_step : (axis : ℕ) (shape : List ℕ) → line_step axis (one_longer shape) ≡ line_step axis shape
later_step axis [] = refl
later_step axis (n ∷ shape) = refl

-- one place of the first axis holds whole lines
pub whole_below : (axis : ℕ) (shape : List ℕ) → 0 < axis → axis < length shape → size (drop 1 shape) % (line_length axis shape * line_step axis shape) ≡ 0
whole_below axis [] h there = absurd (omega arith)
whole_below zero (n ∷ shape) h there = absurd (omega arith)
whole_below (suc axis) (n ∷ shape) h there = whole_lines axis shape (omega (arith, there))

-- the number of old lines is the number of all lines less the new ones
pub lines_behind_others : (old more count : ℕ) → 0 < count → more % count ≡ 0 → (old + more) / count - more / count ≡ old / count
lines_behind_others old more count some whole =
    let parts : more ≡ more / count * count = omega (arith, div-add-mod' more count, whole) in
    omega (arith, ap (λ m. (old + m) / count) parts ∙ add-mul-div_right old (more / count) some)

-- ---- an array that grows by more lines

module _ (axis : ℕ) (old new : List ℕ) (t : FoldsValue) (more : NewFoldsValue) (stand : StandFor t.lines axis (array_of_shape old t.lines.numbers)) (made : AreNewLinesOf axis new (Lines more))
    (fits : FitsSums (record { function = t.function; axis = axis; array = array_of_shape old t.lines.numbers }) (lines_behind axis new (Lines more))) where
  n : ℕ
  n = line_length axis old

  pub length_stays : line_length axis new ≡ line_length axis old
  length_stays = ap (line_length axis) fits.tail.shaped ∙ later_length axis old made.new.0

  pub step_stays : line_step axis new ≡ line_step axis old
  step_stays = ap (line_step axis) fits.tail.shaped ∙ later_step axis old

  old_places : length t.lines.numbers ≡ size old
  old_places = sym (length-map t.lines.numbers (λ (z : ℤ). Num z)) ∙ stand.sound.one_item_a_place

  more_places : length more.lines.numbers ≡ size (drop 1 old)
  more_places = sym (length-map more.lines.numbers (λ (z : ℤ). Num z)) ∙ fits.tail.one_place

  places : size new ≡ length t.lines.numbers + length more.lines.numbers
  places = ap size fits.tail.shaped ∙ size_longer old fits.tail.some_axis ∙ (λ i. sym old_places i + sym more_places i)

  -- the number of lines before the new ones is the number of old lines
  pub old_lines : more.lines.old_lines ≡ length t.lines.numbers / t.lines.count
  old_lines =
      let below = whole_below axis old made.new.0 stand.there in
      let whole : length more.lines.numbers % line_length axis old ≡ 0 = ap (λ k. k % line_length axis old) more_places ∙ factor_divides (size (drop 1 old)) (line_length axis old) (line_step axis old) below in
      made.new.1.1.1
      ∙ (λ i. places i / length_stays i - length more.lines.numbers / length_stays i)
      ∙ lines_behind_others (length t.lines.numbers) (length more.lines.numbers) (line_length axis old) (some_in_line axis old stand.there stand.some) whole
      ∙ ap (λ k. length t.lines.numbers / k) (sym stand.counted)

  -- the trees hold the lines of the grown array
  pub stand_grown : StandFor (with_lines t.lines more.lines.numbers) axis (array_of_shape new (t.lines.numbers ++ more.lines.numbers))
  stand_grown = record {
    sound = record {
      within = made.within;
      one_item_a_place = length-map (t.lines.numbers ++ more.lines.numbers) (λ (z : ℤ). Num z) ∙ length-append t.lines.numbers more.lines.numbers ∙ sym places;
      one_type = All-map (λ x. type_of x ≡ Nums) (λ (z : ℤ). Num z) (t.lines.numbers ++ more.lines.numbers) (λ k d h. refl);
    };
    some = made.some;
    there = made.there;
    counted = stand.counted ∙ sym length_stays;
    apart = stand.apart ∙ sym step_stays;
    is = refl;
  }
