-- The law of change for ⍉B.
use Rattle.std.{proofs.Common.{◌≡◌, ℕ, List, [], ◌∷◌, reverse, refl, ap, sym, ◌∙◌, true}, proofs.lemmas.Bool.{and_parts, and_from, false≢true}, proofs.lemmas.List.{reverse-reverse}}
use Rattle.index_region.specs.Boxes.{Interval, is_within}
use Rattle.change_core.{specs.Tightness.{IsTight}, proofs.Sourced.{one_sourced-tight}}
use Rattle.structural_fns.specs.Transpose.{transpose_form, transpose_source, transpose_box, transpose_rule}
use mathlib.Core.List.{reverse_aux}

within-aux : (region others : List Interval) (index rest : List ℕ) → is_within region index ≡ true → is_within others rest ≡ true
    → is_within (reverse_aux region others) (reverse_aux index rest) ≡ true
within-aux [] others [] rest h k = k
within-aux [] others (i ∷ index) rest h k = absurd (false≢true h)
within-aux (s ∷ region) others [] rest h k = absurd (false≢true h)
within-aux (s ∷ region) others (i ∷ index) rest h k =
    let parts = and_parts _ _ h in
    within-aux region (s ∷ others) index (i ∷ rest) parts.1 (and_from _ _ parts.0 k)

-- the reversed index list lies in the box if the index list lies in the reversed box
within-reverse : (region : List Interval) (index : List ℕ) → is_within region (reverse index) ≡ true → is_within (reverse region) index ≡ true
within-reverse region index h =
    ap (λ (at : List ℕ). is_within (reverse region) at) (sym (reverse-reverse index)) ∙ within-aux region [] (reverse index) [] h refl

pub transpose_tight : IsTight transpose_rule
transpose_tight =
    one_sourced-tight transpose_form transpose_source (λ shape b. transpose_box) (λ d xs n. refl) (λ d xs index n. refl) (λ b index. refl)
    (λ b f e region index fit place. (within-reverse region index, tt))
