-- One more place of each line of an array that grows, for lines along the first axis.
use Rattle.std.{proofs.Common.{◌≡◌, ℕ, ◌+◌, ◌-◌, ◌*◌, ◌<◌, ◌≤◌, ℤ, max, List, [], ◌∷◌, ◌++◌, length, drop, refl, ap, sym, ◌∙◌, arith}, proofs.lemmas.List.{length-append, length-map}, proofs.lemmas.List.Elements.{All-map}, proofs.Math.Nat.{mul-le-mul_right}}
use Rattle.arrays_core.{specs.declared.item.Item.TheVariants.{Num}, specs.declared.item.ItemType.TheVariants.{Nums}, specs.Growth.{one_longer}, specs.Items.{type_of}, specs.Shapes.{size}, proofs.Growing.{size_longer}}
use Rattle.fold_trees.{specs.ArrayLines.{FitNext, with_places}, specs.FoldTrees.{FoldsValue, NextFoldsValue}}
use Rattle.sum_rules.{specs.LineSums.{line_length, line_step, array_of_shape, StandFor}, specs.NewLines.{lines_behind, AreNewLinesOf, FitsSums}, specs.declared.new_lines.Growth.TheVariants.{Places}, proofs.Lines.{some_in_line}}

pub longer : (shape : List ℕ) → 0 < length shape → line_length 0 (one_longer shape) ≡ line_length 0 shape + 1
longer [] h = absurd (omega arith)
longer (n ∷ shape) h = refl

pub same_step : (shape : List ℕ) → line_step 0 (one_longer shape) ≡ line_step 0 shape
same_step [] = refl
same_step (n ∷ shape) = refl

-- the lines along the first axis are interleaved
pub between : (shape : List ℕ) → 0 < length shape → size shape ≡ line_length 0 shape * line_step 0 shape
between [] h = absurd (omega arith)
between (n ∷ shape) h = refl

-- a bound on the items with one more place of each line
pub few_with_place : (shape : List ℕ) (old : ℕ) → 0 < length shape → 0 < size shape → size shape ≤ 1048576 → old ≡ max 1 (line_length 0 shape - 1) → (old + 1) * size (drop 1 shape) ≤ 2097152
few_with_place shape old there some few is =
    let n = line_length 0 shape in
    let s = size (drop 1 shape) in
    let long = some_in_line 0 shape there some in
    let most : (old + 1) * s ≤ (n + 1) * s = mul-le-mul_right s (omega (arith, is, long)) in
    let one : 1 * s ≤ n * s = mul-le-mul_right s (omega (arith, long)) in
    let sum : (n + 1) * s ≡ n * s + s = grind arith in
    let each : 1 * s ≡ s = omega arith in
    omega (arith, most, sum, between shape there, few, one, each)

module _ (old new : List ℕ) (t : FoldsValue) (more : NextFoldsValue) (stand : StandFor t.lines 0 (array_of_shape old t.lines.numbers)) (made : AreNewLinesOf 0 new (Places more))
    (fits : FitsSums (record { function = t.function; axis = 0; array = array_of_shape old t.lines.numbers }) (lines_behind 0 new (Places more))) where
  length_is : line_length 0 new ≡ line_length 0 old + 1
  length_is = ap (line_length 0) fits.tail.shaped ∙ longer old stand.there

  old_places : length t.lines.numbers ≡ size old
  old_places = sym (length-map t.lines.numbers (λ (z : ℤ). Num z)) ∙ stand.sound.one_item_a_place

  more_places : length more.places.numbers ≡ size (drop 1 old)
  more_places = sym (length-map more.places.numbers (λ (z : ℤ). Num z)) ∙ fits.tail.one_place

  -- the numbers belong to the next place of each line
  pub fit_next : FitNext t.lines more.places
  fit_next = record {
    count = made.new.1 ∙ (let some = some_in_line 0 old stand.there stand.some in omega (arith, length_is, some)) ∙ sym stand.counted;
    step = more_places ∙ sym stand.apart;
    between = old_places ∙ between old stand.there ∙ (λ i. sym stand.counted i * sym stand.apart i);
  }

  -- the trees hold the longer lines
  pub stand_longer : StandFor (with_places t.lines more.places.numbers) 0 (array_of_shape new (t.lines.numbers ++ more.places.numbers))
  stand_longer = record {
    sound = record {
      within = made.within;
      one_item_a_place = length-map (t.lines.numbers ++ more.places.numbers) (λ (z : ℤ). Num z) ∙ length-append t.lines.numbers more.places.numbers ∙ (λ i. old_places i + more_places i)
          ∙ sym (ap size fits.tail.shaped ∙ size_longer old fits.tail.some_axis);
      one_type = All-map (λ x. type_of x ≡ Nums) (λ (z : ℤ). Num z) (t.lines.numbers ++ more.places.numbers) (λ k d h. refl);
    };
    some = made.some;
    there = made.there;
    counted = ap (λ k. k + 1) stand.counted ∙ sym length_is;
    apart = stand.apart ∙ sym (ap (line_step 0) fits.tail.shaped ∙ same_step old);
    is = refl;
  }
