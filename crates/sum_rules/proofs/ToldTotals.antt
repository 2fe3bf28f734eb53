-- All totals of an array, from the trees of its lines and the totals of changed lines.
use Rattle.std.{proofs.Common.{◌≡◌, ◌∙◌, ℕ, ◌*◌, ◌%◌, ◌+◌, ◌<◌, ◌≤◌, ◌∷◌, if◌then◌else◌, nat_eq, ℤ, pos, Bool, true, false, List, [], length, get_or, remove, refl, ap, sym, subst, arith, inl, inr, Result, Ok, Err, Some}, specs.Borrow.{Bor}, proofs.lemmas.Bool.{cases_Bool}}
use Rattle.arrays_core.{specs.declared.item.Item.{Item}, specs.declared.item.Item.TheVariants.{Num}, specs.declared.item.ItemType.{ItemType}, specs.declared.item.ItemType.TheVariants.{Nums}, specs.declared.item.Kind.{Kind}, specs.Arrays.{ArrayValue, IsArray, collect}, specs.Items.{and_then, fill}}
use Rattle.arrays_core.{specs.Outcomes.{fault, given}, specs.Shapes.{size, index_after, is_index_of, places_before}, proofs.Order.{index_after-places_before, index_after-within, places_before-index_after}, proofs.Shapes.{places_below}}
use Rattle.function_names.{specs.declared.scalar.Scalar2.{Scalar2}, specs.Axes.{axis_at}}
use Rattle.item_fns.{specs.Folds.{folded, line_start}, specs.Items.{number_item}, specs.Numbers.{dyadic_on_numbers}, proofs.RightFolds.{length-strided}, proofs.ItemFolds.{number_items_folded}}
use Rattle.index_region.{specs.Boxes.{Interval, box_offset, box_size, fits, is_within, walk_at}, specs.Axes.{places_along}, specs.Checks.{Form, form_of}, specs.Patches.{PatchValue, IsPatch}, specs.declared.delta.Delta.{Delta}, specs.declared.delta.Delta.TheVariants.{Patch, Whole}, proofs.Patched.{fits_within}}
use Rattle.index_region.proofs.Walks.{offset_below, walk_of_offset, walk_within}
use Rattle.reduce_fns.{specs.Reduce.{reduce_form, reduce_item, reduce_whole}, specs.declared.reduce.Reduce.{Reduce}, proofs.Placewise.{collected_same}, specs.Laws.ReducedShapes.{reduce_facts}, proofs.Reduced.{lines_whole, reduced_whole}}
use Rattle.change_core.{specs.Parts.{items_in}, proofs.Collected.{items_are}}
use Rattle.change_rules.{specs.Evaluation.{evaluation}, specs.Nodes.{patch_delta}, proofs.PatchRight.{collected_in, first_error}}
use Rattle.fold_trees.{specs.FoldTrees.{IsReductionBy, has_trees}, specs.ArrayLines.{TreesValue, line_count, numbers_of_line}}
use Rattle.sum_rules.{specs.LineSums.{StandFor, SummedValue, summed}, specs.Totals.{StoodFor, is_one_a_line, box_of_lines, total_rule}, specs.Summed.{AreTotals, number_in, total_at}, specs.declared.summed.News.TheVariants.{Nothing, Changed}, proofs.ChangedLines.{fits_axes, number_item_is}}
use Rattle.sum_rules.{proofs.Failures.{one_decides}, proofs.Folded.{folded_line}, proofs.KeptLines.{kept_total, lines_counted}, proofs.KeptSums.{summed_is}}

-- ---- the trees hold the lines of the array
module _ (fold : Reduce) (a : ArrayValue) (s : SummedValue) (t : TreesValue) (is : Some s ≡ summed fold a) (stands : StandFor t s.axis s.array)
    (shape : List ℕ) (type : ItemType) (form : reduce_form fold.along a ≡ Ok (form_of shape type)) where
  abbrev along_a : ℕ
  along_a = axis_at (length a.shape) fold.along

  kept : s ≡ record { function = fold.function; axis = along_a; array = a }
  kept = (summed_is fold a s (sym is)).1

  stand : StandFor t along_a a
  stand = subst (λ (v : SummedValue). StandFor t v.axis v.array) kept stands

  pub told_anew : (f : Scalar2) → f ≡ s.function → AreTotals fold f t Nothing a shape
  told_anew f same =
      let shaped = (reduce_facts fold.along a shape type form).shaped in
      let parts = lines_whole along_a a.shape shape t.count t.step stand.there shaped stand.counted stand.apart stand.some in
      record {
        places = ap size shaped ∙ sym (lines_counted along_a t a stand);
        some = omega (arith, parts.0);
        fit = λ numbers is. absurd cc;
        whole = reduced_whole fold.function a t.numbers (ap (λ (b : ArrayValue). b.items) stand.is) (ap (λ (b : ArrayValue). b.item_type) stand.is) fold.along shape type along_a t.count t.step form refl stand.there stand.counted stand.apart stand.some
            ∙ ap (λ (g : Scalar2). collect Nums shape (λ index. number_item (total_at g t Nothing shape (places_before shape index)))) (sym (same ∙ ap (λ (v : SummedValue). v.function) kept));
      }

-- ---- a patch of changed totals
-- the parts of such a patch
pub patch_parts : (region : List Interval) (r : Result (List Item) Kind) (p : PatchValue) → Patch p ≡ patch_delta Nums region r → (r ≡ Ok p.items) × ((p.region ≡ region) × (p.item_type ≡ Nums))
patch_parts region (Ok items) p made =
    let same : p ≡ record { region = region; item_type = Nums; items = items } = cc in
    (ap (λ (q : PatchValue). Ok q.items) (sym same), (ap (λ (q : PatchValue). q.region) same, ap (λ (q : PatchValue). q.item_type) same))
patch_parts region (Err kind) p made = absurd cc

-- otherwise it is an error
pub error_parts : (region : List Interval) (r : Result (List Item) Kind) (d : Delta) → ((p : PatchValue) → d ≡ Patch p → ⊥) → d ≡ patch_delta Nums region r → (kind : Kind) × ((r ≡ Err kind) × (d ≡ Whole (Err (fault kind))))
error_parts region (Ok items) d none made = absurd (none _ made)
error_parts region (Err kind) d none made = (kind, (refl, made))

same_type : (b : Bool) (t : ItemType) → t ≡ Nums → (if b then t else Nums) ≡ Nums
same_type true t h = h
same_type false t h = refl

module _ (fold : Reduce) (t : TreesValue) (p : PatchValue) (now : ArrayValue) (stood : StoodFor fold.along t p now) (one : is_one_a_line (axis_at (length now.shape) fold.along) p.region ≡ true)
    (shape : List ℕ) (type : ItemType) (form : reduce_form fold.along now ≡ Ok (form_of shape type))
    (box : List Interval) (boxed : box ≡ box_of_lines (axis_at (length now.shape) fold.along) p.region) where
  abbrev axis : ℕ
  axis = axis_at (length stood.before.shape) fold.along

  axis_is : axis_at (length now.shape) fold.along ≡ axis
  axis_is = ap (λ (a : ArrayValue). axis_at (length a.shape) fold.along) stood.is

  shaped : shape ≡ remove stood.before.shape axis
  shaped = (reduce_facts fold.along now shape type form).shaped ∙ ap (λ (a : ArrayValue). remove a.shape (axis_at (length a.shape) fold.along)) stood.is

  abbrev total : List ℕ → Result Item Kind
  total = reduce_item fold.function fold.along now

  parts : (1 ≤ t.count) × (size shape * t.count ≡ size stood.before.shape) × (size shape % t.step ≡ 0)
  parts = lines_whole axis stood.before.shape shape t.count t.step stood.lines.there shaped stood.lines.counted stood.lines.apart stood.lines.some

  numbers : now.item_type ≡ Nums
  numbers = ap (λ (a : ArrayValue). a.item_type) stood.is ∙ ap (λ (a : ArrayValue). a.item_type) stood.lines.is

  -- the result is an array of totals
  whole_is : reduce_whole fold.function fold.along now ≡ collect Nums shape total
  whole_is =
      ap (λ (r : Result Form Kind). and_then r (λ g. collect g.item_type g.shape total)) form
      ∙ ap (λ (u : ItemType). collect u shape total)
      ((reduce_facts fold.along now shape type form).typed ∙ same_type (nat_eq (places_along now.shape (axis_at (length now.shape) fold.along)) 1) now.item_type numbers)

  -- a place for each line
  pub places_are : size shape ≡ line_count t
  places_are = ap size shaped ∙ sym (lines_counted axis t stood.before stood.lines)

  pub some_numbers : 0 < t.count
  some_numbers = omega (arith, parts.0)

  fit : fits box shape ≡ true
  fit = (λ i. fits ((boxed ∙ ap (λ k. box_of_lines k p.region) axis_is) i) (shaped i))
      ∙ (fits_axes axis t stood.before p stood.lines stood.fit (subst (λ k. is_one_a_line k p.region ≡ true) axis_is one)).rest

  -- the total of a line that did not change
  kept_at : (f : Scalar2) → f ≡ fold.function → (index : List ℕ) → is_index_of shape index ≡ true → is_within box index ≡ false
      → total index ≡ number_item (folded (dyadic_on_numbers f) (numbers_of_line t (places_before shape index)))
  kept_at f same index on away =
      let which = places_before (remove stood.before.shape axis) index in
      ap (λ (a : ArrayValue). reduce_item fold.function fold.along a index) stood.is
      ∙ kept_total axis t stood.before p stood.lines stood.fit index (ap (λ (s : List ℕ). is_index_of s index) (sym shaped) ∙ on)
      (ap (λ (r : List Interval). is_within r index) (sym (boxed ∙ ap (λ k. box_of_lines k p.region) axis_is)) ∙ away) fold.function f same
      ∙ number_items_folded f (numbers_of_line t which) (omega (arith, length-strided (pos 0) t.numbers (line_start t.step t.count which) t.step t.count, parts.0))
      ∙ ap (λ (s : List ℕ). number_item (folded (dyadic_on_numbers f) (numbers_of_line t (places_before s index)))) (sym shaped)

  -- the totals of the changed lines are known
  module _ (b : Bor PatchValue) (sound : IsPatch b.now) (made : Patch b.now ≡ patch_delta Nums box (items_in total box)) where
    abbrev q : PatchValue
    q = b.now

    told_parts : (items_in total box ≡ Ok q.items) × ((q.region ≡ box) × (q.item_type ≡ Nums))
    told_parts = patch_parts box (items_in total box) q made

    -- the total of a changed line
    changed_at : (index : List ℕ) → is_within q.region index ≡ true → total index ≡ Ok (Num (number_in q index))
    changed_at index within =
        let inside : is_within box index ≡ true = ap (λ (r : List Interval). is_within r index) (sym told_parts.1.0) ∙ within in
        let x = get_or q.items (box_offset q.region index) (fill q.item_type) in
        let below : box_offset q.region index < length q.items = omega (arith, offset_below q.region index within, sound.one_item_a_place) in
        ap total (sym (walk_of_offset box index inside))
        ∙ collected_in (fill q.item_type) (λ k. total (walk_at box k)) (box_size box) q.items (items_are total box ∙ told_parts.0) (box_offset box index) (offset_below box index inside)
        ∙ ap (λ (r : List Interval). Ok (get_or q.items (box_offset r index) (fill q.item_type))) (sym told_parts.1.0)
        ∙ ap Ok (number_item_is x (sound.one_type (box_offset q.region index) (fill q.item_type) below ∙ told_parts.1.1))

    total_is : (f : Scalar2) → f ≡ fold.function → (index : List ℕ) → is_index_of shape index ≡ true → total index ≡ number_item (total_at f t (Changed b) shape (places_before shape index))
    total_is f same index on =
        let kept_number = folded (dyadic_on_numbers f) (numbers_of_line t (places_before shape index)) in
        let told = λ (r : Bool) (j : List ℕ). number_item (if r then Ok (number_in q j) else kept_number) in
        let back : index_after shape (places_before shape index) ≡ index = index_after-places_before shape index on in
        let at : told (is_within q.region (index_after shape (places_before shape index))) (index_after shape (places_before shape index)) ≡ told (is_within q.region index) index =
        λ i. told (is_within q.region (back i)) (back i) in
        elim (cases_Bool (is_within q.region index)) [
          | inl w ↦ changed_at index w ∙ sym (at ∙ ap (λ r. told r index) w)
          | inr o ↦ kept_at f same index on (ap (λ (r : List Interval). is_within r index) (sym told_parts.1.0) ∙ o) ∙ sym (at ∙ ap (λ r. told r index) o)
        ]

    pub told_changed : (f : Scalar2) → f ≡ fold.function → AreTotals fold f t (Changed b) now shape
    told_changed f same = record {
      places = places_are;
      some = some_numbers;
      fit = λ numbers is. absurd cc;
      whole = whole_is ∙ collected_same Nums shape total (λ index. number_item (total_at f t (Changed b) shape (places_before shape index))) (total_is f same);
    }

  -- an error of changed lines is the error of all
  pub told_error : (kind : Kind) → has_trees fold.function ≡ true → IsArray now → items_in total box ≡ Err kind → evaluation (total_rule fold) (now ∷ []) ≡ Err (fault kind)
  told_error kind trees sound failed =
      let first = first_error (λ k. total (walk_at box k)) (box_size box) 0 kind (items_are total box ∙ failed) in
      let index = walk_at box (0 + first.place) in
      let on = fits_within box shape index fit (walk_within box (0 + first.place) (let below = first.below in omega arith)) in
      ap given (whole_is
      ∙ one_decides fold.function fold.along now shape (places_before shape index) kind trees sound numbers (places_below shape index on) (ap total (index_after-places_before shape index on) ∙ first.fails))

  -- and so is the error of a line that did not change
  pub told_failure : (f : Scalar2) → f ≡ fold.function → has_trees f ≡ true → IsArray now → (line : ℕ) → line < size shape → is_within box (index_after shape line) ≡ false → (r : Result ℤ Kind) (kind : Kind)
      → IsReductionBy f (numbers_of_line t line) r → r ≡ Err kind → evaluation (total_rule fold) (now ∷ []) ≡ Err (fault kind)
  told_failure f same trees sound line below away r kind is failed =
      let total_is = kept_at f same (index_after shape line) (index_after-within shape line below) away
      ∙ ap (λ k. number_item (folded (dyadic_on_numbers f) (numbers_of_line t k))) (places_before-index_after shape line below)
      ∙ ap number_item (sym (folded_line f t line some_numbers r is) ∙ failed) in
      ap given (whole_is ∙ one_decides fold.function fold.along now shape line kind (ap has_trees (sym same) ∙ trees) sound numbers below total_is)
