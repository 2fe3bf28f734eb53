-- Items that are selected by their places.
use Rattle.std.proofs.Common.{◌≡◌, ℕ, zero, suc, List, [], ◌∷◌, map, get_or, refl, ap, ◌∙◌}

get_or-mapped : {X Y : Type 0} (f : X → Y) (xs : List X) (k : ℕ) (d : X) → f (get_or xs k d) ≡ get_or (map f xs) k (f d)
get_or-mapped f [] k d = refl
get_or-mapped f (x ∷ xs) zero d = refl
get_or-mapped f (x ∷ xs) (suc k) d = get_or-mapped f xs k d

pub picked_map : {X Y : Type 0} (f : X → Y) (xs : List X) (d : X) (ks : List ℕ) → map f (map (λ k. get_or xs k d) ks) ≡ map (λ k. get_or (map f xs) k (f d)) ks
picked_map f xs d [] = refl
picked_map f xs d (k ∷ ks) = ap (λ y. y ∷ map f (map (λ j. get_or xs j d) ks)) (get_or-mapped f xs k d) ∙ ap (λ ys. get_or (map f xs) k (f d) ∷ ys) (picked_map f xs d ks)
