-- Orders in which names can be evaluated.
use Rattle.std.{specs.Prelude.{ℕ, List, IsSome}, specs.List.{Contains}}
use Rattle.dep_order.specs.Follows.{Follows, IsOnce}
use Rattle.sheet_recalc.specs.Names.{Names, binding, Refers}

-- exactly the present names, each once and after all present names that it refers to
pub record IsKeptOrder (names : Names) (order : List (List ℕ)) : Type 0 where
  pub all : (a : List ℕ) → IsSome (binding names a) → Contains order a
  pub present : (a : List ℕ) → Contains order a → IsSome (binding names a)
  pub once : IsOnce order
  pub follows : Follows (λ a b. Refers names a b × IsSome (binding names b)) (λ x. ⊥) order

-- there is such an order
abbrev pub HasOrder : Names → Type 0
HasOrder names = (order : List (List ℕ)) × IsKeptOrder names order
