-- The numbers of a line, and their fold.
use Rattle.std.{proofs.Common.{◌≡◌, ◌∙◌, ℕ, ◌/◌, ◌%◌, ◌<◌, ℤ, pos, List, length, get_or, set, sym, ap, subst, arith, inl, inr, to_z, of_z, w64, Result}, proofs.lemmas.Bool.{cases_eq}, proofs.lemmas.List.{get_or-set_same, get_or-set_other}}
use Rattle.{arrays_core.specs.declared.item.Kind.{Kind}, function_names.specs.declared.scalar.Scalar2.{Scalar2}}
use Rattle.item_fns.{specs.Folds.{folded}, specs.Items.{number_item}, specs.Numbers.{dyadic_on_numbers}, proofs.ItemFolds.{number_items_folded}}
use Rattle.fold_trees.{specs.declared.line.Line.{Line}, specs.ArrayLines.{TreesValue, line_through, numbers_through, with_number}, specs.PartTrees.{AreLines}, proofs.LineParts.{replaced_here, replaced_other}, proofs.LinePlaces.{place_spot, spot_place}, specs.LineTrees.{slot_at, slot_of, replaced, segment}}
use Rattle.fold_trees.{specs.FoldTrees.{IsReductionBy}, proofs.Segments.{segment_same, listed_segment, long_segment}, specs.LineBlocks.{line_at}}

-- the fold of numbers is their reduction
pub reduction_of : (f : Scalar2) (zs : List ℤ) (r : Result ℤ Kind) → 0 < length zs → r ≡ folded (dyadic_on_numbers f) zs → IsReductionBy f zs r
reduction_of f zs r some is = ap number_item is ∙ sym (number_items_folded f zs some)

-- the numbers of the line of a place, with another number there
pub line_with : (count step : ℕ) (numbers : List ℤ) (place : ℕ) (z : ℤ) → AreLines count step (length numbers) → place < length numbers
    → numbers_through (with_number (record { count = count; step = step; numbers = numbers }) place z) place
    ≡ segment (replaced (slot_of (line_at count step (line_through count step place)) numbers) (place / step % count) z) 0 count
line_with count step numbers place z are inside = sym (listed_segment y 0 count) ∙ segment_same y (replaced x at z) 0 count (λ i low high. same i (omega (arith, high)))
  where
    line : ℕ
    line = line_through count step place

    at : ℕ
    at = place / step % count

    x : ℕ → ℤ
    x = slot_of (line_at count step line) numbers

    y : ℕ → ℤ
    y i = get_or (set numbers place z) (slot_at (line_at count step line) i) (pos 0)

    same : (i : ℕ) → i < count → y i ≡ replaced x at z i
    same i p = elim (cases_eq i at) [
      | inl e ↦
          ap y e
          ∙ ap (λ k. get_or (set numbers place z) k (pos 0)) (place_spot count step are.some are.apart place)
          ∙ get_or-set_same numbers place z (pos 0) inside
          ∙ sym (replaced_here x at z) ∙ sym (ap (replaced x at z) e)
      | inr other ↦
          get_or-set_other numbers place (slot_at (line_at count step line) i) z (pos 0)
          (λ e. other (sym (spot_place count step are.some are.apart line i p) ∙ ap (λ k. k / step % count) e))
          ∙ sym (replaced_other x at z i other)
    ]

-- the fold of a part of the line of a place with another number is the reduction of this line
pub reduction_with : {P : Type 0} (tells : P → List ℤ → Type 0) (f : Scalar2) (t : TreesValue) (place : ℕ) (z : ℤ) (tree : Line) (numbers : List ℤ) (s : P) (r : Result ℤ Kind)
    → AreLines t.count t.step (length t.numbers) → place < length t.numbers → 1 < t.count → tree ≡ line_at t.count t.step (line_through t.count t.step place) → numbers ≡ t.numbers
    → to_z w64 (of_z w64 z) ≡ z → tells s (segment (replaced (slot_of tree numbers) (place / t.step % t.count) (to_z w64 (of_z w64 z))) 0 tree.count)
    → ((xs : List ℤ) → tells s xs → 1 < length xs → r ≡ folded (dyadic_on_numbers f) xs) → IsReductionBy f (numbers_through (with_number t place z) place) r
reduction_with tells f t place z tree numbers s r lines inside several at read number told fold =
    let spot = place / t.step % t.count in
    let x = slot_of (line_at t.count t.step (line_through t.count t.step place)) t.numbers in
    let xs = segment (replaced x spot z) 0 t.count in
    let two : 1 < length xs = omega (arith, long_segment (replaced x spot z) 0 t.count, several) in
    let all : tells s xs = subst (λ (l : Line). tells s (segment (replaced (slot_of l t.numbers) spot z) 0 l.count)) at
    (subst (λ (l : List ℤ). tells s (segment (replaced (slot_of tree l) spot z) 0 tree.count)) read
    (subst (λ (y : ℤ). tells s (segment (replaced (slot_of tree numbers) spot y) 0 tree.count)) number told)) in
    subst (λ (l : List ℤ). IsReductionBy f l r) (sym (line_with t.count t.step t.numbers place z lines inside)) (reduction_of f xs r (omega (arith, two)) (fold xs all two))
