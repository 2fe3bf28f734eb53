-- The index lists of a row, with another index on one axis.
use Rattle.std.{proofs.Common.{◌≡◌, ℕ, ◌<◌, pos, negsuc, true, List, [], ◌∷◌, ◌++◌, length, get_or, set, remove, refl, ap, arith}, proofs.lemmas.Bool.{and_parts, leb-true, false≢true}, proofs.lemmas.List.{set-append_left, get_or_append_left, get_or_push}, proofs.Math.Seq.{set-append_seam}}
use Rattle.function_names.{specs.Axes.{is_axis, axis_at}, specs.declared.along.Along.{Along}, specs.declared.along.Along.TheVariants.{First, Last, Axis}}

-- an axis before the last
pub set_before : (row : List ℕ) (i k v : ℕ) → k < length row → set (row ++ i ∷ []) k v ≡ set row k v ++ i ∷ []
set_before row i k v h = set-append_left row (i ∷ []) k v h

pub get_before : (row : List ℕ) (i k d : ℕ) → k < length row → get_or (row ++ i ∷ []) k d ≡ get_or row k d
get_before row i k d h = get_or_append_left row (i ∷ []) d k h

-- the last axis
pub set_last : (row : List ℕ) (i v : ℕ) → set (row ++ i ∷ []) (length row) v ≡ row ++ v ∷ []
set_last row i v = set-append_seam row i [] v

pub get_last : (row : List ℕ) (i d : ℕ) → get_or (row ++ i ∷ []) (length row) d ≡ i
get_last row i d = get_or_push row i d (length row) refl

pub remove_last : (row : List ℕ) (i : ℕ) → remove (row ++ i ∷ []) (length row) ≡ row
remove_last [] i = refl
remove_last (j ∷ row) i = ap (λ xs. j ∷ xs) (remove_last row i)

-- the chosen axis is one of the axes of the array
pub axis_below : (rank : ℕ) (along : Along) → is_axis rank along ≡ true → 0 < rank → axis_at rank along < rank
axis_below rank First h some = some
axis_below rank Last h some = omega arith
axis_below rank (Axis (pos n)) h some =
    let parts = and_parts _ _ h in
    let low = leb-true 1 n parts.0 in
    let high = leb-true n rank parts.1 in
    omega arith
axis_below rank (Axis (negsuc n)) h some = absurd (false≢true h)
