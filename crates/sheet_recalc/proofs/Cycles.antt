-- A cycle made by a new binding passes through the bound name, and can be walked.
use Rattle.std.{proofs.Common.{◌≡◌, ◌≢◌, ℕ, ◌<◌, ◌≤◌, ◌⊎◌, Bool, true, false, not, List, [], ◌∷◌, length, Option, Some, refl, sym, ap, ◌∙◌, subst, arith, ⊎_elim}, specs.Str.{bytes_eq}, specs.List.{Contains, position_or_len}, specs.Option.{option_map_or}, proofs.lemmas.Bool.{false≢true}}
use Rattle.std.proofs.lemmas.List.Sums.{prefix_len-le-length}
use Rattle.dep_order.{specs.Reachability.{Chain, IsAcyclic}, specs.Follows.{Follows}, proofs.Following.{contains_none, contains_cases, follows_has}}
use Rattle.sheet_recalc.{specs.Names.{Names, Binding, Formula, binding, rebound, Refers, referred}, specs.ProposedSheet.{IsReaching}, proofs.NameEquality.{equal-true, equal-same}, proofs.Binding.{rebound_same, rebound_own}, proofs.Keeping.{cases_name}}

-- the references of one of these stand before it
pub stands_before : (Needs : List ℕ → List ℕ → Type 0) (Done : List ℕ → Type 0) (found : List (List ℕ)) (x y : List ℕ) → Follows Needs Done found → Contains found y → Needs y x → (Done x → ⊥)
    → position_or_len (bytes_eq x) found < position_or_len (bytes_eq y) found
stands_before Needs Done [] x y follows c needs none = absurd (contains_none y c)
stands_before Needs Done (z ∷ zs) x y follows c needs none = by (bytes_eq y z) (bytes_eq x z) refl refl (stands_before Needs (λ w. Done w ⊎ (w ≡ z)) zs x y follows.1)
  where
    by : (s t : Bool) → bytes_eq y z ≡ s → bytes_eq x z ≡ t
        → (Contains zs y → Needs y x → ((Done x ⊎ (x ≡ z)) → ⊥) → position_or_len (bytes_eq x) zs < position_or_len (bytes_eq y) zs)
        → position_or_len (bytes_eq x) (z ∷ zs) < position_or_len (bytes_eq y) (z ∷ zs)
    by true t is at rest = absurd (none (follows.0 x (subst (λ w. Needs w x) (equal-true y z is) needs)))
    by false true is at rest = rw (is, at) (omega arith)
    by false false is at rest =
        let there : Contains zs y = ⊎_elim (λ e. absurd (false≢true (sym is ∙ equal-same y z e))) (λ h. h) (contains_cases z zs y c) in
        let less = rest there needs (λ d. ⊎_elim none (λ e. false≢true (sym at ∙ equal-same x z e)) d) in
        rw (is, at) (omega (arith, less))

pub number_within : (found : List (List ℕ)) (x : List ℕ) → position_or_len (bytes_eq x) found ≤ length found
number_within found x = prefix_len-le-length (λ y. not (bytes_eq x y)) found

-- from each that is found and is not the name, one of its references leads on to the name, and stands further behind
module _ (names : Names) (name : List ℕ) (found : List (List ℕ)) (reaching : IsReaching names name found) where
  found_before : (a b : List ℕ) → Contains found b → Refers names a b → a ≢ name → Contains found a
  found_before a b c r apart = ⊎_elim (λ l. absurd l) (λ d. d) (follows_has (λ a b. Refers names b a × (b ≡ name → ⊥)) (λ x. ⊥) found b a reaching.follows c (r, apart))

  on_the_way : (a : List ℕ) (via : List (List ℕ)) → Chain (Refers names) a via name → Contains found a
  on_the_way a [] chain = cases_name (Contains found a) name a (λ e. subst (λ y. Contains found y) (sym e) reaching.named) (λ apart. found_before a name reaching.named chain apart)
  on_the_way a (x ∷ xs) chain =
      let next = on_the_way x xs chain.1 in
      cases_name (Contains found a) name a (λ e. subst (λ y. Contains found y) (sym e) reaching.named) (λ apart. found_before a x next chain.0 apart)

  pub goes_on : (x : List ℕ) → Contains found x → x ≢ name → (y : List ℕ) × Refers names x y × Contains found y
  goes_on x c apart = ⊎_elim (λ e. absurd (apart e)) (λ r. by r.0 r.1) (reaching.leads x c)
    where
      by : (via : List (List ℕ)) → Chain (Refers names) x via name → (y : List ℕ) × Refers names x y × Contains found y
      by [] chain = (name, chain, reaching.named)
      by (y ∷ ys) chain = (y, chain.0, on_the_way y ys chain.1)

  pub goes_down : (x y : List ℕ) → x ≢ name → Refers names x y → Contains found y → position_or_len (bytes_eq x) found < position_or_len (bytes_eq y) found
  goes_down x y apart r c = stands_before (λ a b. Refers names b a × (b ≡ name → ⊥)) (λ z. ⊥) found x y reaching.follows c (r, apart) (λ d. d)

-- a binding in which no name stands, or none, makes no cycle
pub no_cycle_anew : (names : Names) (name : List ℕ) (b : Option Binding) → option_map_or referred b [] ≡ [] → IsAcyclic (Refers names) → IsAcyclic (Refers (rebound names name b))
no_cycle_anew names name b none acyclic x r = acyclic x (r.0, before x r.0 x r.1)
  where
    refers : (x y : List ℕ) → Refers (rebound names name b) x y → Refers names x y
    refers x y r = cases_name (Refers names x y) name x
        (λ e.
        let own : b ≡ Some (Formula r.0) = sym (rebound_own names name b) ∙ (ap (binding (rebound names name b)) (sym e) ∙ r.1) in
        absurd (contains_none y (subst (λ ns. Contains ns y) (ap (λ o. option_map_or referred o []) (sym own) ∙ none) r.2)))
        (λ apart. (r.0, sym (rebound_same names name b x apart) ∙ r.1, r.2))

    before : (x : List ℕ) (via : List (List ℕ)) (y : List ℕ) → Chain (Refers (rebound names name b)) x via y → Chain (Refers names) x via y
    before x [] y r = refers x y r
    before x (z ∷ zs) y r = (refers x z r.0, before z zs y r.1)
