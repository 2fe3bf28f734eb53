-- The arrays whose lines keep trees.
use Rattle.std.{proofs.Common.{◌≡◌, ℕ, ◌<◌, true, List, length, refl, subst, inl, inr, arith, Some, None, sym, ◌∙◌}, proofs.lemmas.Bool.{and_parts, cases_Bool, cond-true, cond-false, false≢true, ltb-true}}
use Rattle.arrays_core.{specs.Arrays.{ArrayValue}, specs.Shapes.{size}, specs.declared.item.ItemType.{ItemType}, specs.declared.item.ItemType.TheVariants.{Nums, Chars}}
use Rattle.index_region.{specs.Arguments.{is_of_numbers}, specs.Patches.{PatchValue, FitsPatch, patched}}
use Rattle.function_names.{specs.Axes.{is_axis, axis_at}, specs.declared.along.Along.{Along}}
use Rattle.sum_rules.{proofs.Lines.{has_axis}, specs.LineSums.{SummedValue, StandFor, keeps_sums, length_along, line_length, most_without_tree, summed}, specs.Totals.{StoodFor}}
use Rattle.{reduce_fns.specs.declared.reduce.Reduce.{Reduce}, fold_trees.specs.ArrayLines.{TreesValue}}

-- facts about an array that keeps trees: non-empty, of numbers, with an axis and long lines
pub record HasLongLines (along : Along) (a : ArrayValue) : Type 0 where
  pub numbers : a.item_type ≡ Nums
  pub some : 0 < size a.shape
  pub on_axis : is_axis (length a.shape) along ≡ true
  pub there : axis_at (length a.shape) along < length a.shape
  pub long : most_without_tree < line_length (axis_at (length a.shape) along) a.shape

of_numbers : (t : ItemType) → is_of_numbers t ≡ true → t ≡ Nums
of_numbers Nums h = refl
of_numbers Chars h = absurd (false≢true h)

-- the length of lines along an axis of the array
pub along_axis : (along : Along) (shape : List ℕ) → is_axis (length shape) along ≡ true → length_along along shape ≡ line_length (axis_at (length shape) along) shape
along_axis along shape on = cond-true (is_axis (length shape) along) (line_length (axis_at (length shape) along) shape) 0 on

long_lines : (along : Along) (shape : List ℕ) → most_without_tree < length_along along shape → is_axis (length shape) along ≡ true
long_lines along shape long = elim (cases_Bool (is_axis (length shape) along)) [
  | inl w ↦ w
  | inr f ↦ absurd (let none = cond-false (is_axis (length shape) along) (line_length (axis_at (length shape) along) shape) 0 f in omega (arith, long, none))
]

pub kept_parts : (fold : Reduce) (a : ArrayValue) → keeps_sums fold a ≡ true → HasLongLines fold.along a
kept_parts fold a keeps =
    let along = fold.along in
    let one = and_parts _ _ (and_parts _ _ keeps).1 in
    let two = and_parts _ _ one.1 in
    let long : most_without_tree < length_along along a.shape = ltb-true most_without_tree (length_along along a.shape) two.1 in
    let on = long_lines along a.shape long in
    let lines : most_without_tree < line_length (axis_at (length a.shape) along) a.shape = subst (λ n. most_without_tree < n) (along_axis along a.shape on) long in
    record {
      numbers = of_numbers a.item_type one.0;
      some = ltb-true 0 (size a.shape) two.0;
      on_axis = on;
      there = has_axis (axis_at (length a.shape) along) a.shape (omega (arith, lines));
      long = lines;
    }

-- the array and the axis of kept sums
pub summed_is : (fold : Reduce) (a : ArrayValue) (s : SummedValue) → summed fold a ≡ Some s → (keeps_sums fold a ≡ true) × (s ≡ record { function = fold.function; axis = axis_at (length a.shape) fold.along; array = a })
summed_is fold a s h = elim (cases_Bool (keeps_sums fold a)) [
  | inl w ↦ (w, (let same = sym (cond-true (keeps_sums fold a) (Some (record { function = fold.function; axis = axis_at (length a.shape) fold.along; array = a })) None w) ∙ h in cc))
  | inr f ↦ absurd (let none = sym (cond-false (keeps_sums fold a) (Some (record { function = fold.function; axis = axis_at (length a.shape) fold.along; array = a })) None f) ∙ h in cc)
]

-- trees of an array hold its old lines after a patch is applied
pub stood_for : (fold : Reduce) (a : ArrayValue) (s : SummedValue) (t : TreesValue) (p : PatchValue) → summed fold a ≡ Some s → StandFor t s.axis s.array → FitsPatch a p → StoodFor fold.along t p (patched a p)
stood_for fold a s t p h stand fit =
    let both = summed_is fold a s h in
    record {
      before = a;
      on_axis = (kept_parts fold a both.0).on_axis;
      lines = subst (λ (v : SummedValue). StandFor t v.axis v.array) both.1 stand;
      fit = fit;
      is = refl;
    }
