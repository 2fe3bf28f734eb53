-- The totals of lines with one more number each.
use Rattle.std.{proofs.Common.{◌≡◌, ◌∙◌, ℕ, zero, suc, ◌+◌, ◌-◌, ◌*◌, ◌/◌, ◌<◌, ◌≤◌, ℤ, pos, List, [], ◌∷◌, ◌++◌, length, drop, get_or, map, remove, refl, ap, sym, subst, arith, inl, inr, Ok}, specs.Borrow.{Bor}, proofs.lemmas.Bool.{cases_lt}}
use Rattle.std.{proofs.lemmas.List.{ext_get_or, length-append, length-map, map-append, get_or_append_left, get_or-append_right}, proofs.Math.Nat.{div-eq_of_lt, mod-eq_of_lt, mul-div_cancel, mul-le-mul_left}, proofs.lemmas.Nat.{mul-add-lt}}
use Rattle.arrays_core.{specs.declared.item.Item.{Item}, specs.declared.item.Item.TheVariants.{Num}, specs.declared.item.ItemType.{ItemType}, specs.declared.item.ItemType.TheVariants.{Nums}, specs.Arrays.{ArrayValue, collect}, specs.Growth.{one_longer}, specs.Shapes.{size, places_before}}
use Rattle.arrays_core.{proofs.Growing.{rank_longer, size_longer}, proofs.Shapes.{places_below}}
use Rattle.function_names.{specs.declared.scalar.Scalar2.{Scalar2}, specs.Axes.{axis_at, is_axis}}
use Rattle.item_fns.{specs.Folds.{strided, folded, line_start}, specs.Items.{number_item}, specs.Numbers.{dyadic_on_numbers}, proofs.RightFolds.{length-strided, get_or-strided}}
use Rattle.index_region.{specs.Checks.{form_of}, specs.Tails.{TailValue}}
use Rattle.reduce_fns.{specs.Reduce.{reduce_form}, specs.declared.reduce.Reduce.{Reduce}, proofs.Placewise.{collected_same}, specs.Laws.ReducedShapes.{reduce_facts}, proofs.Reduced.{reduced_whole}}
use Rattle.fold_trees.specs.ArrayLines.{TreesValue, line_count, numbers_of_line}
use Rattle.sum_rules.{specs.LineSums.{StandFor, length_along, line_length, line_step}, specs.Totals.{StoodBefore, AreJoinsWithin}, specs.Summed.{AreTotals, total_at}, specs.declared.summed.News.TheVariants.{Behind}, proofs.KeptSums.{along_axis}, proofs.Lines.{some_in_line, some_step}}
use Rattle.sum_rules.proofs.MorePlaces.{between, longer, same_step}

-- if the lines are interleaved, line n begins at place n
first_of_line : (step count line : ℕ) → line < step → line_start step count line ≡ line
first_of_line step count line below =
    (λ i. (div-eq_of_lt below) i * (count * step) + (mod-eq_of_lt below) i) ∙ omega arith

-- the numbers of a line, with the one after them
line_longer : (t : TreesValue) (numbers : List ℤ) (line : ℕ) → 0 < t.step → length t.numbers ≡ t.count * t.step → line < t.step
    → numbers_of_line t line ++ get_or numbers line (pos 0) ∷ [] ≡ strided (pos 0) (t.numbers ++ numbers) (line_start t.step (t.count + 1) line) t.step (t.count + 1)
line_longer t numbers line apart all below =
    ext_get_or (pos 0) (old ++ z ∷ []) new (length-append old (z ∷ []) ∙ ap (λ k. k + 1) old_long ∙ sym new_long) at
  where
    z : ℤ
    z = get_or numbers line (pos 0)

    old : List ℤ
    old = numbers_of_line t line

    new : List ℤ
    new = strided (pos 0) (t.numbers ++ numbers) (line_start t.step (t.count + 1) line) t.step (t.count + 1)

    old_long : length old ≡ t.count
    old_long = length-strided (pos 0) t.numbers (line_start t.step t.count line) t.step t.count

    new_long : length new ≡ t.count + 1
    new_long = length-strided (pos 0) (t.numbers ++ numbers) (line_start t.step (t.count + 1) line) t.step (t.count + 1)

    there : (i : ℕ) → i < t.count + 1 → get_or new i (pos 0) ≡ get_or (t.numbers ++ numbers) (line + i * t.step) (pos 0)
    there i h =
        get_or-strided (pos 0) (t.numbers ++ numbers) (line_start t.step (t.count + 1) line) t.step (t.count + 1) i (pos 0) h
        ∙ ap (λ k. get_or (t.numbers ++ numbers) (k + i * t.step) (pos 0)) (first_of_line t.step (t.count + 1) line below)

    at : (i : ℕ) → i < length (old ++ z ∷ []) → get_or (old ++ z ∷ []) i (pos 0) ≡ get_or new i (pos 0)
    at i h = elim (cases_lt i t.count) [
      | inl p ↦
          let inside : line + i * t.step < length t.numbers = omega (arith, mul-add-lt i t.step line t.count p below, all) in
          get_or_append_left old (z ∷ []) (pos 0) i (omega (arith, p, old_long))
          ∙ get_or-strided (pos 0) t.numbers (line_start t.step t.count line) t.step t.count i (pos 0) p
          ∙ ap (λ k. get_or t.numbers (k + i * t.step) (pos 0)) (first_of_line t.step t.count line below)
          ∙ sym (there i (omega (arith, p)) ∙ get_or_append_left t.numbers numbers (pos 0) (line + i * t.step) inside)
      | inr p ↦
          let last : i ≡ t.count = omega (arith, p, h, length-append old (z ∷ []), old_long) in
          let one : t.count - t.count ≡ 0 = omega arith in
          let past : line + t.count * t.step - t.count * t.step ≡ line = omega arith in
          ap (λ k. get_or (old ++ z ∷ []) k (pos 0)) last
          ∙ get_or-append_right old (z ∷ []) t.count t.count (pos 0) old_long (omega arith)
          ∙ ap (λ k. get_or (z ∷ []) k (pos 0)) one
          ∙ sym (ap (λ k. get_or new k (pos 0)) last
          ∙ there t.count (omega arith)
          ∙ get_or-append_right t.numbers numbers (t.count * t.step) (line + t.count * t.step) (pos 0) all (omega arith)
          ∙ ap (λ k. get_or numbers k (pos 0)) past)
    ]

module _ (fold : Reduce) (t : TreesValue) (tail : TailValue) (now : ArrayValue) (stood : StoodBefore fold.along t tail now) (first : axis_at (length now.shape) fold.along ≡ 0) where
  abbrev b : ArrayValue
  b = stood.before

  shape_now : now.shape ≡ one_longer b.shape
  shape_now = ap (λ (a : ArrayValue). a.shape) stood.is

  rank : length now.shape ≡ length b.shape
  rank = ap (λ (s : List ℕ). length s) shape_now ∙ rank_longer b.shape

  axis_before : axis_at (length b.shape) fold.along ≡ 0
  axis_before = ap (λ n. axis_at n fold.along) (sym rank) ∙ first

  stand : StandFor t 0 b
  stand = subst (λ k. StandFor t k b) axis_before stood.lines

  counted : t.count ≡ line_length 0 b.shape
  counted = stand.counted

  apart : t.step ≡ size (drop 1 b.shape)
  apart = stand.apart

  some_count : 0 < t.count
  some_count = let h = some_in_line 0 b.shape stand.there stand.some in omega (arith, h, counted)

  some_apart : 0 < t.step
  some_apart = let h = some_step 0 b.shape stand.some in omega (arith, h, stand.apart)

  old_places : length t.numbers ≡ t.count * t.step
  old_places =
      sym (length-map t.numbers (λ (z : ℤ). Num z)) ∙ sym (ap (λ (a : ArrayValue). length a.items) stand.is) ∙ stand.sound.one_item_a_place
      ∙ between b.shape stand.there ∙ (λ i. sym stand.counted i * sym stand.apart i)

  -- the tail has one item for each line
  items_are : length tail.items ≡ t.step
  items_are = stood.fit.one_place ∙ sym apart

  pub lines_are : line_count t ≡ length tail.items
  lines_are =
      ap (λ k. k / t.count) (old_places ∙ (grind arith)) ∙ mul-div_cancel t.step some_count ∙ sym items_are

  -- the number of new numbers is the number of lines
  pub as_many_numbers : (numbers : List ℤ) → tail.items ≡ map (λ (z : ℤ). Num z) numbers → length numbers ≡ length tail.items
  as_many_numbers numbers are = sym (ap (λ (l : List Item). length l) are ∙ length-map numbers (λ (z : ℤ). Num z))

  now_longer : line_length 0 now.shape ≡ t.count + 1
  now_longer = ap (line_length 0) shape_now ∙ longer b.shape stand.there ∙ ap (λ k. k + 1) (sym counted)

  -- each line has at least two numbers
  pub long_now : 1 < length_along fold.along now.shape
  long_now =
      omega (arith, along_axis fold.along now.shape (ap (λ n. is_axis n fold.along) rank ∙ stood.on_axis), ap (λ k. line_length k now.shape) first, now_longer, some_count)

  -- one join for each total is at most the binary digits of the length
  pub joins_within : (old new : ℕ) → new ≤ old + length tail.items → AreJoinsWithin (length tail.items) (length_along fold.along now.shape) old new
  joins_within old new h zero few = let no : ⊥ = omega (arith, few, long_now) in absurd no
  joins_within old new h (suc digits) few = let more : length tail.items * 1 ≤ length tail.items * suc digits = mul-le-mul_left (length tail.items) (omega arith) in omega (arith, h, more)

  module _ (shape : List ℕ) (type : ItemType) (form : reduce_form fold.along now ≡ Ok (form_of shape type)) where
    without_first : (s : List ℕ) → 0 < length s → remove (one_longer s) 0 ≡ drop 1 s
    without_first [] h = absurd (omega arith)
    without_first (n ∷ s) h = refl

    shaped : shape ≡ drop 1 b.shape
    shaped = (reduce_facts fold.along now shape type form).shaped ∙ (λ i. remove (shape_now i) (first i)) ∙ without_first b.shape stand.there

    -- the result has one place for each line
    pub places_are : size shape ≡ length tail.items
    places_are = ap size shaped ∙ sym apart ∙ sym items_are

    -- the result has these totals
    pub told_longer : (f : Scalar2) → f ≡ fold.function → (numbers : Bor (List ℤ)) → tail.items ≡ map (λ (z : ℤ). Num z) numbers.now → AreTotals fold f t (Behind numbers) now shape
    told_longer f same numbers are =
        let xs = t.numbers ++ numbers.now in
        let n = t.count + 1 in
        let s = t.step in
        let given = λ (g : Scalar2) (place : ℕ). number_item (folded (dyadic_on_numbers g) (strided (pos 0) xs (line_start s n place) s n)) in
        let items : now.items ≡ map (λ (z : ℤ). Num z) xs =
        ap (λ (a : ArrayValue). a.items) stood.is ∙ (λ i. (stand.is i).items ++ are i) ∙ sym (map-append (λ (z : ℤ). Num z) t.numbers numbers.now) in
        let typed : now.item_type ≡ Nums = ap (λ (a : ArrayValue). a.item_type) stood.is ∙ ap (λ (a : ArrayValue). a.item_type) stand.is in
        let there : 0 < length now.shape = omega (arith, rank, stand.there) in
        let step_is : s ≡ size (drop 1 now.shape) = stand.apart ∙ sym (ap (line_step 0) shape_now ∙ same_step b.shape) in
        let some : 0 < size now.shape = omega (arith, ap size shape_now, size_longer b.shape stand.there, stand.some) in
        record {
          places = places_are ∙ sym lines_are;
          some = some_count;
          fit = λ more is. ap (λ (l : List ℤ). length l) (let same : more.now ≡ numbers.now = cc in same) ∙ as_many_numbers numbers.now are ∙ sym places_are;
          whole = reduced_whole fold.function now xs items typed fold.along shape type 0 n s form (sym first) there (sym now_longer) step_is some
              ∙ ap (λ (g : Scalar2). collect Nums shape (λ index. given g (places_before shape index))) (sym same)
              ∙ collected_same Nums shape (λ index. given f (places_before shape index)) (λ index. number_item (total_at f t (Behind numbers) shape (places_before shape index))) (λ index inside.
              ap (λ (l : List ℤ). number_item (folded (dyadic_on_numbers f) l))
              (sym (line_longer t numbers.now (places_before shape index) some_apart old_places (omega (arith, places_below shape index inside, places_are, items_are)))));
        }
