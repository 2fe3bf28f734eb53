-- The number of axes of the result that positions give.
use Rattle.std.specs.Prelude.{ℕ, suc, zero, ◌+◌, List, [], ◌∷◌, length, Some, None}
use Rattle.selection_fns.specs.Index.{Position}

-- the axes of all positions
abbrev pub count_axes : List Position → ℕ
count_axes [] = 0
count_axes (None ∷ positions) = suc (count_axes positions)
count_axes (Some p ∷ positions) = length p.shape + count_axes positions

-- the axes before those of a written position, counted from 0
abbrev pub axes_before : List Position → ℕ → ℕ
axes_before [] which = 0
axes_before (None ∷ positions) which = suc (axes_before positions which)
axes_before (Some p ∷ positions) zero = 0
axes_before (Some p ∷ positions) (suc which) = length p.shape + axes_before positions which
