-- The growth of indexed reference.
use Rattle.std.{specs.Prelude.{◌&&◌, not, nat_le, Bool, true, false, List, [], ◌∷◌, length}, specs.List.{list_all}}
use Rattle.change_core.specs.RuleModels.{Growth}

-- the first argument alone is marked
abbrev pub first_alone : List Bool → Bool
first_alone (true ∷ marks) = list_all (λ m. not m) marks
first_alone _ = false

-- the first position is empty
abbrev pub first_empty : List Bool → Bool
first_empty (false ∷ written) = true
first_empty _ = false

-- only the indexed array grew, it has at least two axes, and its first position is empty
abbrev pub index_grows : List Bool → Growth
index_grows written (a ∷ args) marks = first_alone marks && (first_empty written && nat_le 2 (length a.shape))
index_grows written [] marks = false
