-- The facts that follow when the checks of scan pass, and index lists of the result.
use Rattle.std.{proofs.Common.{◌≡◌, ℕ, zero, suc, ◌<◌, ◌≤◌, true, ◌||◌, nat_lt, nat_le, ◌&&◌, List, [], ◌∷◌, length, get_or, ap, arith, remove, Ok}, proofs.lemmas.Bool.{and_parts, and_from}}
use Rattle.arrays_core.{specs.declared.item.ItemType.{ItemType}, specs.Shapes.{is_index_of}, specs.Arrays.{ArrayValue}, proofs.Shapes.{head_of}}
use Rattle.function_names.{specs.declared.along.Along.{Along}, specs.Axes.{is_axis, axis_at}}
use Rattle.index_region.{specs.Checks.{form_of, Form, limited}, specs.Arguments.{counts_as_numbers}, specs.Axes.{places_along}, proofs.Passing.{gives, limited_gives}}
use Rattle.scan_fns.specs.Scan.{scan_type, scan_form}

-- the index along an axis, and the indices of the other axes
pub record AtAxis (shape index : List ℕ) (k : ℕ) : Type 0 where
  pub low : 1 ≤ get_or index k 1
  pub high : get_or index k 1 ≤ get_or shape k 0
  pub others : is_index_of (remove shape k) (remove index k) ≡ true

pub at_axis : (shape index : List ℕ) (k : ℕ) → k < length shape → is_index_of shape index ≡ true → AtAxis shape index k
at_axis [] index k h inside = absurd (omega arith)
at_axis (n ∷ shape) [] k h inside = let no : ⊥ = cc in absurd no
at_axis (n ∷ shape) (i ∷ index) zero h inside =
    let head = head_of n i shape index inside in record { low = head.low; high = head.high; others = head.rest }
at_axis (n ∷ shape) (i ∷ index) (suc k) h inside =
    let parts = and_parts (nat_le 1 i && nat_le i n) (is_index_of shape index) inside in
    let rest = at_axis shape index k (omega arith) parts.1 in
    record { low = rest.low; high = rest.high; others = and_from _ _ parts.0 rest.others }

-- the shape and the item type of the result
pub record ScanFacts (along : Along) (b : ArrayValue) (shape : List ℕ) (t : ItemType) : Type 0 where
  pub on_axis : is_axis (length b.shape) along ≡ true
  pub shaped : shape ≡ b.shape
  pub typed : t ≡ scan_type b (axis_at (length b.shape) along)

pub scan_facts : (along : Along) (b : ArrayValue) (shape : List ℕ) (t : ItemType) → scan_form along b ≡ Ok (form_of shape t) → ScanFacts along b shape t
scan_facts along b shape t h =
    let axis = axis_at (length b.shape) along in
    let axis_checked = gives (is_axis (length b.shape) along) _ _ (form_of shape t) h in
    let checked = gives (nat_lt (places_along b.shape axis) 2 || counts_as_numbers b) _ (limited b.shape (scan_type b axis)) (form_of shape t) axis_checked.is in
    let same = limited_gives b.shape (scan_type b axis) (form_of shape t) checked.is in
    record { on_axis = axis_checked.test; shaped = ap (λ (f : Form). f.shape) same; typed = ap (λ (f : Form). f.item_type) same }
