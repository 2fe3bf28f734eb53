-- The law of change for ravel.
use Rattle.std.{proofs.Common.{◌≡◌, ◌≤◌, ◌+◌, ◌-◌, ℕ, List, [], ◌∷◌, get_or, refl, ap, subst, arith, true, ◌&&◌, nat_le, Ok}, proofs.lemmas.Bool.{and_parts, and_from, leb-true, le-leb, false≢true}}
use Rattle.arrays_core.{specs.Arrays.{ArrayValue}, specs.Shapes.{size, places_before, index_after, is_index_of}, proofs.Order.{places_before-index_after}}
use Rattle.index_region.{specs.Boxes.{Interval, is_within}, specs.Checks.{Form}, proofs.Passing.{limited_gives}}
use Rattle.change_core.{specs.Tightness.{IsTight, Covered}, specs.Places.{first_of_box, last_of_box}, specs.Sourced.{left_used}, proofs.Sourced.{one_sourced-tight}, proofs.UsedPlaces.{offset_between}}
use Rattle.structural_fns.specs.Ravel.{ravel_form, ravel_source, ravel_box, ravel_rule}

abbrev ravelled : ArrayValue → List Interval → List Interval
ravelled b region = (places_before b.shape (first_of_box region) + 1, places_before b.shape (last_of_box region) + 1) ∷ []

ravel_within : (b : ArrayValue) (region : List Interval) (index : List ℕ) → is_index_of (size b.shape ∷ []) index ≡ true
    → is_within region (index_after b.shape (get_or index 0 0 - 1)) ≡ true → is_within (ravelled b region) index ≡ true
ravel_within b region [] place h = absurd (false≢true place)
ravel_within b region (i ∷ j ∷ rest) place h = absurd (false≢true (and_parts (nat_le 1 i && nat_le i (size b.shape)) _ place).1)
ravel_within b region (i ∷ []) place h =
    let on_axis = and_parts (nat_le 1 i) (nat_le i (size b.shape)) (and_parts (nat_le 1 i && nat_le i (size b.shape)) _ place).0 in
    let low : 1 ≤ i = leb-true 1 i on_axis.0 in
    let high : i ≤ size b.shape = leb-true i (size b.shape) on_axis.1 in
    let between = offset_between b.shape region (index_after b.shape (i - 1)) h in
    let first : places_before b.shape (first_of_box region) ≤ places_before b.shape (index_after b.shape (i - 1)) = between.0 in
    let last : places_before b.shape (index_after b.shape (i - 1)) ≤ places_before b.shape (last_of_box region) = between.1 in
    let back : places_before b.shape (index_after b.shape (i - 1)) ≡ i - 1 = places_before-index_after b.shape (i - 1) (omega arith) in
    and_from _ _ (and_from _ _ (le-leb (places_before b.shape (first_of_box region) + 1) i (omega arith)) (le-leb i (places_before b.shape (last_of_box region) + 1) (omega arith))) refl

ravel_covered : (b : ArrayValue) (f : Form) → ravel_form b ≡ Ok f → Covered b.shape f.shape (left_used (ravel_source b) (ravel_box f.shape b))
ravel_covered b f e region index fit place =
    let shaped : f.shape ≡ size b.shape ∷ [] = ap (λ (g : Form). g.shape) (limited_gives (size b.shape ∷ []) b.item_type f e) in
    (ravel_within b region index (subst (λ (s : List ℕ). is_index_of s index ≡ true) shaped place), tt)

pub ravel_tight : IsTight ravel_rule
ravel_tight = one_sourced-tight ravel_form ravel_source ravel_box (λ d xs n. refl) (λ d xs index n. refl) (λ b index. refl) ravel_covered
