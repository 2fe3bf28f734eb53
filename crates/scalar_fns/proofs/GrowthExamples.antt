-- Which scalar functions grow, by examples.
use Rattle.std.proofs.Common.{◌≡◌, ℕ, List, [], ◌∷◌, true, false, refl}
use Rattle.arrays_core.{specs.declared.item.ItemType.TheVariants.{Nums}, specs.Arrays.{ArrayValue}, proofs.CaseWords.{◌⇒◌, AllSame}}
use Rattle.scalar_fns.specs.Growth.{each_dyadic_grows, each_monadic_grows}

abbrev of_shape : List ℕ → ArrayValue
of_shape shape = record { item_type = Nums; shape = shape; items = [] }

worked_cases : AllSame (
    -- V+10, 10+V, V+V
    each_dyadic_grows (of_shape (3 ∷ []) ∷ of_shape [] ∷ []) (true ∷ false ∷ []) ⇒ true ∷
    each_dyadic_grows (of_shape [] ∷ of_shape (3 ∷ []) ∷ []) (false ∷ true ∷ []) ⇒ true ∷  -- number before
    each_dyadic_grows (of_shape (3 ∷ []) ∷ of_shape (3 ∷ []) ∷ []) (true ∷ true ∷ []) ⇒ true ∷  -- both alike
    -- V+1 2 3, V+1 1⍴5
    each_dyadic_grows (of_shape (2 ∷ []) ∷ of_shape (3 ∷ []) ∷ []) (true ∷ false ∷ []) ⇒ false ∷
    each_dyadic_grows (of_shape (2 ∷ []) ∷ of_shape (1 ∷ 1 ∷ []) ∷ []) (true ∷ false ∷ []) ⇒ false ∷  -- greater rank
    [])
worked_cases = refl

-- a scalar of one argument that is marked, and one that is not
one_marked : each_monadic_grows (of_shape (2 ∷ []) ∷ []) (true ∷ []) ≡ true
one_marked = refl

none_marked : each_monadic_grows (of_shape (2 ∷ []) ∷ []) (false ∷ []) ≡ false
none_marked = refl
