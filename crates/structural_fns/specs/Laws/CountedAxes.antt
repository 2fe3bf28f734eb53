-- Consequences of the checks of take and drop, and the axes that the counts apply to.
use Rattle.std.{proofs.Common.{◌≡◌, ◌≤◌, ℕ, zero, suc, Bool, true, false, if◌then◌else◌, nat_eq, List, [], length, replicate, refl, ap, ◌∙◌, Ok}, proofs.lemmas.Bool.{and_parts, eqb-true, leb-true}, proofs.lemmas.List.{length-map}}
use Rattle.arrays_core.{specs.Arrays.{ArrayValue}, specs.Limits.{most_axes}, specs.Shapes.{is_index_of}}
use Rattle.change_core.proofs.UsedWays.{within-whole}
use Rattle.index_region.{specs.Arguments.{is_scalar, is_list, counts_as_numbers, number_of, numbers}, specs.Boxes.{Interval, fits, is_within, whole_of}, specs.Checks.{Form, is_within_limits}, proofs.Passing.{gives, limited_gives}}
use Rattle.structural_fns.specs.AxisCounts.{counted_shape, counted_form, uncounted, counted_box}

-- the facts that the checks establish
pub record CountedFacts (asked : List ℕ) (a b : ArrayValue) (f : Form) : Type 0 where
  pub shaped : f.shape ≡ asked
  pub many : length (numbers a) ≡ length (counted_shape a b)
  pub items : length a.items ≡ length (counted_shape a b)
  pub rank : length asked ≤ most_axes

pub counted_facts : (asked : List ℕ) (a b : ArrayValue) (f : Form) → counted_form asked a b ≡ Ok f → CountedFacts asked a b f
counted_facts asked a b f e =
    let ranks = gives (is_list a) _ _ f e in
    let counts = gives (nat_eq (length a.items) (length (counted_shape a b))) _ _ f ranks.is in
    let typed = gives (counts_as_numbers a) _ _ f counts.is in
    let limits = gives (is_within_limits asked) _ _ f typed.is in
    let items = eqb-true _ _ counts.test in
    record {
      shaped = ap (λ (g : Form). g.shape) (limited_gives asked b.item_type f typed.is);
      many = length-map a.items number_of ∙ items;
      items = items;
      rank = leb-true _ _ (and_parts _ _ (and_parts _ _ limits.test).0).0;
    }

fits_ones : (n : ℕ) → fits (whole_of (replicate n 1)) (replicate n 1) ≡ true
fits_ones zero = refl
fits_ones (suc n) = fits_ones n

-- the box lies on the axes that the counts apply to
pub counted_fits : (a b : ArrayValue) (region : List Interval) → fits region b.shape ≡ true → fits (counted_box a b region) (counted_shape a b) ≡ true
counted_fits a b region h = decide (is_scalar b)
  where
    decide : (scalar : Bool) → fits (if scalar then whole_of (if scalar then replicate (length a.items) 1 else b.shape) else region) (if scalar then replicate (length a.items) 1 else b.shape) ≡ true
    decide true = fits_ones (length a.items)
    decide false = h

-- an index list on these axes lies in the box there if the one of the array lies in the box
pub counted_within : (a b : ArrayValue) (region : List Interval) (at : List ℕ) → is_index_of (counted_shape a b) at ≡ true → is_within region (uncounted b at) ≡ true → is_within (counted_box a b region) at ≡ true
counted_within a b region at = decide (is_scalar b)
  where
    decide : (scalar : Bool) → is_index_of (if scalar then replicate (length a.items) 1 else b.shape) at ≡ true → is_within region (if scalar then [] else at) ≡ true
        → is_within (if scalar then whole_of (if scalar then replicate (length a.items) 1 else b.shape) else region) at ≡ true
    decide true t h = within-whole (replicate (length a.items) 1) at ∙ t
    decide false t h = h
