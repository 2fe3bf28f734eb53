-- A list applies its changes one after another, from the last to the first.
use Rattle.std.{proofs.Common.{◌≡◌, ◌≢◌, ℕ, ◌<◌, ◌≤◌, List, [], ◌∷◌, ◌++◌, None, Err, length, set, get_or, refl, sym, ap, ◌∙◌, subst, arith}, proofs.lemmas.List.{length-append, length-set, get_or-set_other, get_or_append_left, get_or_default}, proofs.Math.Seq.{get_or-append_seam}}
use Rattle.arrays_core.{specs.declared.item.Kind.TheVariants.{Value}, specs.Outcomes.{fault}}
use Rattle.formula_core.{specs.declared.kept.Kept.{Kept}, specs.declared.kept.NodeChange.{NodeChange}, specs.declared.table.Node.{Node}, specs.Changes.{each_with}, specs.Holdings.{Holding, holding, holdings_of, nodes_of, no_change, taking, node_taking, adopted}}
use Rattle.formula_core.specs.declared.table.Node.TheVariants as node

-- the changes of entries, their effect, their fit, and the fallbacks
module _ (C A : Type 0) (f : C → A → A) (Fits : C → A → Type 0) (no_change : C) (none : A) where
  -- the last change first
  last_first : (changes : List C) (d : C) (xs : List A) (e : A) → length changes < length xs
      → each_with f changes (set xs (length changes) (f d (get_or xs (length changes) e))) ≡ each_with f (changes ++ d ∷ []) xs
  last_first changes d [] e below = absurd (omega (arith, below))
  last_first [] d (o ∷ xs) e below = refl
  last_first (x ∷ changes) d (o ∷ xs) e below = ap (λ rest. f x o ∷ rest) (last_first changes d xs e (omega (arith, below)))

  pub record IsLeft (changes : List C) (xs : List A) (whole : List A) : Type 0 where
    pub few : length changes ≤ length xs
    pub fit : (k : ℕ) → k < length changes → Fits (get_or changes k no_change) (get_or xs k none)
    pub same : each_with f changes xs ≡ whole

  one_left : (changes : List C) (d : C) (xs : List A) (whole : List A) → IsLeft (changes ++ d ∷ []) xs whole → IsLeft changes (set xs (length changes) (f d (get_or xs (length changes) none))) whole
  one_left changes d xs whole h =
      let below : length changes < length xs = omega (arith, h.few, length-append changes (d ∷ [])) in
      let new = f d (get_or xs (length changes) none) in
      record {
        few = omega (arith, below, length-set xs (length changes) new);
        fit = λ k under.
            let apart : k ≢ length changes = λ e. omega (arith, under, e) in
            subst (λ (o : A). Fits (get_or changes k no_change) o) (sym (get_or-set_other xs (length changes) k new none apart))
            (subst (λ (x : C). Fits x (get_or xs k none)) (get_or_append_left changes (d ∷ []) no_change k under)
            (h.fit k (omega (arith, under, length-append changes (d ∷ [])))));
        same = last_first changes d xs none below ∙ h.same;
      }

  -- the last change fits its entry
  pub last_fits : (all changes : List C) (d : C) (xs : List A) (n : ℕ) (held : A) (whole : List A) → IsLeft all xs whole → all ≡ changes ++ d ∷ [] → n ≡ length changes → held ≡ get_or xs n held → Fits d held
  last_fits all changes d xs n held whole h taken at is =
      let before : IsLeft (changes ++ d ∷ []) xs whole = subst (λ (ds : List C). IsLeft ds xs whole) taken h in
      let below : n < length xs = omega (arith, at, before.few, length-append changes (d ∷ [])) in
      let there : get_or xs (length changes) none ≡ held = ap (λ k. get_or xs k none) (sym at) ∙ (sym (get_or_default xs n held none below) ∙ sym is) in
      subst (λ (o : A). Fits d o) there
      (subst (λ (x : C). Fits x (get_or xs (length changes) none)) (get_or-append_seam changes d [] no_change) (before.fit (length changes) (omega (arith, length-append changes (d ∷ [])))))

  -- the rest, once a change is removed and its entry written
  pub left_after : (all changes : List C) (d : C) (xs : List A) (n : ℕ) (held new : A) (whole : List A) → IsLeft all xs whole → all ≡ changes ++ d ∷ [] → n ≡ length changes → held ≡ get_or xs n held
      → new ≡ f d held → IsLeft changes (set xs n new) whole
  left_after all changes d xs n held new whole h taken at is made =
      let before : IsLeft (changes ++ d ∷ []) xs whole = subst (λ (ds : List C). IsLeft ds xs whole) taken h in
      let below : n < length xs = omega (arith, at, before.few, length-append changes (d ∷ [])) in
      let value : new ≡ f d (get_or xs (length changes) none) = made ∙ ap (f d) (is ∙ (get_or_default xs n held none below ∙ ap (λ k. get_or xs k none) at)) in
      subst (λ (rs : List A). IsLeft changes rs whole) (sym (ap (λ k. set xs k new) at ∙ ap (λ o. set xs (length changes) o) value)) (one_left changes d xs whole before)

-- a node of no formula
abbrev pub no_node : Kept
no_node = record { node = node.Name 0; result = Err (fault Value); sums = None }

-- the nodes after their changes have the same functions, and the holdings with their changes
pub nodes_taken : (changes : List NodeChange) (nodes : List Kept) → length changes ≤ length nodes → nodes_of (each_with node_taking changes nodes) ≡ nodes_of nodes
nodes_taken [] nodes h = refl
nodes_taken (d ∷ changes) [] h = absurd (omega (arith, h))
nodes_taken (d ∷ changes) (k ∷ nodes) h = ap (λ (ns : List Node). k.node ∷ ns) (nodes_taken changes nodes (omega (arith, h)))

pub held_taken : (changes : List NodeChange) (nodes : List Kept) → holdings_of (each_with node_taking changes nodes) ≡ adopted changes (holdings_of nodes)
held_taken [] nodes = refl
held_taken (d ∷ changes) [] = refl
held_taken (d ∷ changes) (k ∷ nodes) = ap (λ (hs : List Holding). taking d (holding k) ∷ hs) (held_taken changes nodes)
