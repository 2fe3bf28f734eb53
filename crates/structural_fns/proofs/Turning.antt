-- Lines along an axis, and places counted cyclically.
use Rattle.std.{proofs.Common.{◌≡◌, ℕ, zero, suc, ◌/◌, ◌<◌, ℤ, pos, negsuc, false, ◌||◌, nat_eq, length, remove, bytes_eq, ap, arith}, specs.Int.{int_rem_euclid}, specs.Ordering.{int_eq}, proofs.lemmas.Int.{ints}, proofs.lemmas.Bool.{false_from_ne_true}, proofs.lemmas.Bool.Decides.{Decides-int_eq}}
use Rattle.arrays_core.{specs.declared.item.Item.{Item}, specs.declared.item.Kind.TheVariants.{Axis as AxisKind, Rank, Length, Domain}, specs.Items.{type_of}, specs.Arrays.{ArrayValue}}
use Rattle.item_fns.{specs.Numbers.{residue}, proofs.Residues.{both_positive}}
use Rattle.function_names.{specs.declared.along.Along.{Along}, specs.Axes.{is_axis, axis_at}}
use Rattle.index_region.{specs.Checks.{check, limited}, specs.Arguments.{has_one_item, counts_as_numbers}, specs.Answers.{HasTypeOf}, proofs.Passing.{typed_check, typed_limited}}
use Rattle.structural_fns.specs.Rotate.{rotate_form}
use lib.IntN.{nat_abs, pos-*ℤ-negsuc}

not_zero : (a : ℕ) → int_eq (pos (suc a)) (pos 0) ≡ false
not_zero a = false_from_ne_true _ (λ t. let e : suc a ≡ 0 = ap nat_abs ((Decides-int_eq (pos (suc a)) (pos 0)).0 t) in absurd (omega arith))

-- the residue by a positive number is the remainder of the quotient rounded down
pub residue_euclid : (n : ℕ) (z : ℤ) → 0 < n → residue (pos n) z ≡ int_rem_euclid z (pos n)
residue_euclid zero z h = absurd (omega arith)
residue_euclid (suc a) (pos b) h = rw (not_zero a) (both_positive b a)
residue_euclid (suc a) (negsuc b) h = rw (not_zero a, pos-*ℤ-negsuc (suc a) (b / suc a)) (omega (arith, ints))

pub rotation_typed : (along : Along) (a b : ArrayValue) (item : Item) → type_of item ≡ b.item_type → HasTypeOf (rotate_form along a b) item
rotation_typed along a b item h =
    let axis = axis_at (length b.shape) along in
    let last = limited b.shape b.item_type in
    let numbers = check (counts_as_numbers a) Domain last in
    let shapes = check (has_one_item a || bytes_eq a.shape (remove b.shape axis)) Length numbers in
    typed_check (is_axis (length b.shape) along) AxisKind (check (has_one_item a || nat_eq (suc (length a.shape)) (length b.shape)) Rank shapes) item
    (typed_check (has_one_item a || nat_eq (suc (length a.shape)) (length b.shape)) Rank shapes item
    (typed_check (has_one_item a || bytes_eq a.shape (remove b.shape axis)) Length numbers item
    (typed_check (counts_as_numbers a) Domain last item
    (typed_limited b.shape b.item_type item h))))
