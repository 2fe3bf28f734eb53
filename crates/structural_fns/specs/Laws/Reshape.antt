-- The law of change for reshape.
use Rattle.std.proofs.Common.{◌≡◌, ◌%◌, List, ℕ, refl, ap, subst, true, ◌&&◌, Ok}
use Rattle.arrays_core.{specs.Arrays.{ArrayValue}, specs.Shapes.{size, places_before, index_after}}
use Rattle.index_region.{specs.Arguments.{is_list, has_items, counts_as_numbers, numbers, none_negative}, specs.Boxes.{is_within}, specs.Checks.{Form}, proofs.Passing.{gives, limited_gives}}
use Rattle.change_core.{specs.Tightness.{IsTight, Covered}, specs.Reaches.{is_moved}, specs.Sourced.{right_used}, proofs.Sourced.{selected_sourced-tight}, proofs.UsedPlaces.{by_place-covered}}
use Rattle.structural_fns.{specs.Reshape.{magnitudes, reshape_form, reshape_source, reshape_box, reshape_rule}, specs.Laws.PlacesOrFill.{none_left, where_there}}

reshape_shaped : (a b : ArrayValue) (f : Form) → reshape_form a b ≡ Ok f → f.shape ≡ magnitudes a
reshape_shaped a b f e =
    let ranks = gives (is_list a) _ _ f e in
    let counts = gives (counts_as_numbers a && none_negative (numbers a)) _ _ f ranks.is in
    ap (λ (g : Form). g.shape) (limited_gives (magnitudes a) b.item_type f counts.is)

reshape_covered : (a b : ArrayValue) (f : Form) → reshape_form a b ≡ Ok f → Covered b.shape f.shape (right_used (reshape_source (magnitudes a) b) (reshape_box f.shape a b))
reshape_covered a b f e region index fit place =
    let inside = (by_place-covered b.shape f.shape region index fit place).0 in
    where_there (λ (p : List ℕ). is_within region p ≡ true → is_moved (reshape_box f.shape a b region) index ≡ true) (has_items b) (index_after b.shape (places_before (magnitudes a) index % size b.shape))
    (λ t. subst (λ (s : List ℕ). is_within region (index_after b.shape (places_before s index % size b.shape)) ≡ true → is_moved (reshape_box f.shape a b region) index ≡ true) (reshape_shaped a b f e) inside)

pub reshape_tight : IsTight reshape_rule
reshape_tight = selected_sourced-tight reshape_form (λ a b. b.item_type) (λ a b. reshape_source (magnitudes a) b) reshape_box
    (λ a d ys n. refl) (λ a d ys n. refl) (λ a d ys index n. rw n refl)
    (λ a b index. none_left (has_items b) (index_after b.shape (places_before (magnitudes a) index % size b.shape)))
    reshape_covered
