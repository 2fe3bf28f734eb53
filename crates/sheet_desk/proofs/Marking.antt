-- A list whose entries are replaced one after another.
use Rattle.std.{proofs.Common.{◌≡◌, ℕ, ◌+◌, ◌<◌, List, [], ◌∷◌, ◌++◌, map, length, get_or, set, take, drop, sym, ap, ◌∙◌, append_assoc, length-take, arith}, proofs.lemmas.List.{length-map, drop_more, take_more, map-append, set_at, get_or_at}}

module _ {X : Type 0} (f : X → X) (xs : List X) (i : ℕ) (d : X) (below : i < length xs) where
  front : length (map f (take i xs)) ≡ i
  front = simp (length-map, length-take) (omega arith)

  -- the next entry is still the old one
  pub next_as_it_was : get_or (map f (take i xs) ++ drop i xs) i d ≡ get_or xs i d
  next_as_it_was = ap (λ (rest : List X). get_or (map f (take i xs) ++ rest) i d) (drop_more xs i d below)
      ∙ get_or_at (map f (take i xs)) (get_or xs i d) (drop (i + 1) xs) d i front

  -- the next entry is replaced
  pub next_replaced : set (map f (take i xs) ++ drop i xs) i (f (get_or xs i d)) ≡ map f (take (i + 1) xs) ++ drop (i + 1) xs
  next_replaced =
      ap (λ (rest : List X). set (map f (take i xs) ++ rest) i (f (get_or xs i d))) (drop_more xs i d below)
      ∙ set_at (map f (take i xs)) (get_or xs i d) (drop (i + 1) xs) (f (get_or xs i d)) i front
      ∙ sym (append_assoc (map f (take i xs)) (f (get_or xs i d) ∷ []) (drop (i + 1) xs))
      ∙ ap (λ (ys : List X). ys ++ drop (i + 1) xs) (sym (ap (map f) (take_more xs i d below) ∙ map-append f (take i xs) (get_or xs i d ∷ [])))

  -- one more entry is replaced
  pub one_more : (now new : List X) (item : X) → now ≡ map f (take i xs) ++ drop i xs → get_or now i d ≡ item → new ≡ set now i (f item) →
      new ≡ map f (take (i + 1) xs) ++ drop (i + 1) xs
  one_more now new item so_far is replaced =
      let same : item ≡ get_or xs i d = sym is ∙ ap (λ (ys : List X). get_or ys i d) so_far ∙ next_as_it_was in
      replaced ∙ ap (λ (ys : List X). set ys i (f item)) so_far ∙ ap (λ (x : X). set (map f (take i xs) ++ drop i xs) i (f x)) same ∙ next_replaced
