-- The law of change for A⍉B.
use Rattle.std.proofs.Common.{◌≡◌, ℕ, ◌-◌, List, [], ◌∷◌, map, get_or, refl, ap, subst, true}
use Rattle.index_region.specs.Boxes.{is_within}
use Rattle.change_core.{specs.Tightness.{Each, IsTight}, specs.Reaches.{is_moved}, proofs.Sourced.{selected_sourced-tight}, proofs.UsedWays.{permuted-covered}}
use Rattle.structural_fns.specs.DyadicTranspose.{axes_to, gathered, transpose_by_form, transpose_by_source, axes_from_zero, transpose_by_box, transpose_by_rule}

-- the index of each axis, by axes counted from 1 and from 0
from_zero : (axes index : List ℕ) → map (λ to. get_or index to 0) (map (λ j. j - 1) axes) ≡ gathered axes index
from_zero [] index = refl
from_zero (j ∷ axes) index = ap (λ (rest : List ℕ). get_or index (j - 1) 0 ∷ rest) (from_zero axes index)

pub transpose_by_tight : IsTight transpose_by_rule
transpose_by_tight =
    selected_sourced-tight transpose_by_form (λ a b. b.item_type) transpose_by_source (λ shape a b. transpose_by_box shape a)
    (λ a d ys n. refl) (λ a d ys n. refl) (λ a d ys index n. refl) (λ a b index. refl)
    (λ a b f e region index fit place.
    subst (λ (at : List ℕ). Each (λ (p : List ℕ). is_within region p ≡ true → is_moved (transpose_by_box f.shape a region) index ≡ true) (at ∷ [])) (from_zero (axes_to a) index)
    (permuted-covered b.shape (axes_from_zero a) f.shape region index fit place))
