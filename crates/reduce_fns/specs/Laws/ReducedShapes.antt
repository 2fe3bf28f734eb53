-- The facts that follow when the checks of reduction pass.
use Rattle.std.proofs.Common.{◌≡◌, ℕ, true, List, length, ap, remove, Ok}
use Rattle.arrays_core.{specs.declared.item.ItemType.{ItemType}, specs.Arrays.{ArrayValue}}
use Rattle.function_names.{specs.declared.along.Along.{Along}, specs.Axes.{is_axis, axis_at}}
use Rattle.index_region.{specs.Checks.{form_of, Form, limited}, proofs.Passing.{gives, limited_gives}}
use Rattle.reduce_fns.specs.Reduce.{reduce_type, reduce_form}

-- the shape and the type of the result
pub record ReduceFacts (along : Along) (b : ArrayValue) (shape : List ℕ) (t : ItemType) : Type 0 where
  pub on_axis : is_axis (length b.shape) along ≡ true
  pub shaped : shape ≡ remove b.shape (axis_at (length b.shape) along)
  pub typed : t ≡ reduce_type b (axis_at (length b.shape) along)

pub reduce_facts : (along : Along) (b : ArrayValue) (shape : List ℕ) (t : ItemType) → reduce_form along b ≡ Ok (form_of shape t) → ReduceFacts along b shape t
reduce_facts along b shape t h =
    let axis = axis_at (length b.shape) along in
    let checked = gives (is_axis (length b.shape) along) _ (limited (remove b.shape axis) (reduce_type b axis)) (form_of shape t) h in
    let same = limited_gives (remove b.shape axis) (reduce_type b axis) (form_of shape t) checked.is in
    record { on_axis = checked.test; shaped = ap (λ (f : Form). f.shape) same; typed = ap (λ (f : Form). f.item_type) same }
