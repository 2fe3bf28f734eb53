-- The climb from a node to the nodes that refer to it.
use Rattle.std.{proofs.Common.{◌≡◌, ℕ, ◌-◌, ◌<◌, ◌⊎◌, inl, inr, Bool, List, [], ◌∷◌, ◌++◌, sym, subst, arith}, proofs.lemmas.List.{length-append}, specs.Prelude.{Vec}}
use Rattle.dep_order.{specs.Reachability.{Chain, Reaches}, specs.Users.{Uses, IsWithin}}

pub chain_join : {A : Type 0} (Refers : A → A → Type 0) (a : A) (xs : List A) (b : A) (ys : List A) (c : A) → Chain Refers a xs b → Chain Refers b ys c → Chain Refers a (xs ++ b ∷ ys) c
chain_join Refers a [] b ys c p q = (p, q)
chain_join Refers a (x ∷ xs) b ys c p q = (p.0, chain_join Refers x xs b ys c p.1 q)

module _ {N S : Type 0} (eq : N → N → Bool) (table : List (N × Vec N S)) where
  pub within_first : (height : ℕ) (node user : N) → IsWithin eq table height node → Uses eq table user node → 0 < height
  within_first height node user within u = within user [] u

  pub within_user : (height : ℕ) (node user : N) → IsWithin eq table height node → Uses eq table user node → IsWithin eq table (height - 1) user
  within_user height node user within u a via c =
      omega (arith, within a (via ++ user ∷ []) (chain_join (Uses eq table) a via user [] node c u), length-append via (user ∷ []))

  -- a node that reaches a user reaches the node
  pub reaches_on : (node user a : N) → Uses eq table user node → (a ≡ user) ⊎ Reaches (Uses eq table) a user → Reaches (Uses eq table) a node
  reaches_on node user a u (inl e) = ([], subst (λ y. Uses eq table y node) (sym e) u)
  reaches_on node user a u (inr r) = (r.0 ++ user ∷ [], chain_join (Uses eq table) a r.0 user [] node r.1 u)
