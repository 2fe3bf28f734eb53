-- The error of a tree has no origin yet, or a name in the tree shows it: so each error leads back to its origin.
use Rattle.std.{proofs.Common.{◌≡◌, ℕ, ◌⊎◌, inl, inr, List, [], ◌∷◌, ◌++◌, Option, Some, None, Result, Ok, Err, refl, sym, ap, ◌∙◌, subst, ⊎_elim}, specs.List.{Contains}, proofs.lemmas.List.Elements.{Contains-append_left, Contains-append_right}}
use Rattle.dep_order.proofs.Following.{contains_here}
use Rattle.apl_expr.{specs.Trees.{Tree, Const, Name, Monad, Dyad, Index, Reduce, Scan, Outer, Inner, Positions, NoPositions, Empty, Filled}, specs.declared.functions.Function1.{Function1}, specs.declared.functions.Function2.{Function2}}
use Rattle.arrays_core.{specs.Arrays.{ArrayValue}, specs.Items.{and_then}, specs.declared.fault.Fault.{Fault}, specs.declared.item.Kind.{Kind}, specs.declared.item.Kind.TheVariants.{Value}, specs.Outcomes.{Outcome, fault, given}}
use Rattle.formula_core.{specs.Meaning.{eval, eval_positions, names_in, names_in_positions, array_of, of_right, of_both, applied1, applied2}, specs.Outcomes.{arisen_in}}
use Rattle.sheet_recalc.{specs.Names.{Names, Binding, Data, Formula, binding, Refers}, specs.Meaning.{val, with_origin, shown_beside}, specs.Locality.{ArisesAt, ErrorsAriseWhereReached}, proofs.Solution.{by_references, acyclic_settled}}
use Rattle.apl_expr.specs.declared.functions.Function1.TheVariants as function1
use Rattle.apl_expr.specs.declared.functions.Function2.TheVariants as function2

-- an error that some function gave has no origin yet
given_fresh : (r : Result ArrayValue Kind) (e : Fault) → given r ≡ Err e → e.origin ≡ None
given_fresh (Ok a) e h = absurd cc
given_fresh (Err kind) e h = let this : fault kind ≡ e = cc in ap (λ (f : Fault). f.origin) (sym this)

-- the next part fails, or one before it did
and_then_fails : {A B : Type 0} (r : Result A Fault) (next : A → Result B Fault) (e : Fault) → and_then r next ≡ Err e → (r ≡ Err e) ⊎ ((a : A) × (next a ≡ Err e))
and_then_fails (Ok a) next e h = inr (a, h)
and_then_fails (Err d) next e h = let this : d ≡ e = cc in inl (ap Err this)

-- the positions fail, or the array does, or the index itself, whose error is new
indexed_fails : {P A : Type 0} (others : Result P Fault) (operand : Result A Fault) (index : A → P → Result ArrayValue Kind) (e : Fault)
    → and_then others (λ positions. and_then operand (λ a. given (index a positions))) ≡ Err e → (others ≡ Err e) ⊎ ((operand ≡ Err e) ⊎ (e.origin ≡ None))
indexed_fails others operand index e h =
    ⊎_elim (λ r. inl r) (λ n. inr (⊎_elim (λ l. inl l) (λ m. inr (given_fresh (index m.0 n.0) e m.1)) (and_then_fails operand (λ a. given (index a n.0)) e n.1)))
    (and_then_fails others (λ positions. and_then operand (λ a. given (index a positions))) e h)

-- the error is new, or one of these names shows it
abbrev IsFrom : (List ℕ → Outcome) → List (List ℕ) → Fault → Type 0
IsFrom f names e = (e.origin ≡ None) ⊎ ((x : List ℕ) × Contains names x × (f x ≡ Err e))

from_left : (f : List ℕ → Outcome) (xs ys : List (List ℕ)) (e : Fault) → IsFrom f xs e → IsFrom f (xs ++ ys) e
from_left f xs ys e h = ⊎_elim (λ l. inl l) (λ r. inr (r.0, Contains-append_left xs ys r.0 r.1, r.2)) h

from_right : (f : List ℕ → Outcome) (xs ys : List (List ℕ)) (e : Fault) → IsFrom f ys e → IsFrom f (xs ++ ys) e
from_right f xs ys e h = ⊎_elim (λ l. inl l) (λ r. inr (r.0, Contains-append_right xs ys r.0 r.1, r.2)) h

module _ (f : List ℕ → Outcome) (e : Fault) where
  of_one : (g : Function1) (b : Tree) → (eval b f ≡ Err e → IsFrom f (names_in b) e) → applied1 g (eval b f) ≡ Err e → IsFrom f (names_in b) e
  of_one g b right h = ⊎_elim right (λ n. inl (given_fresh (of_right g n.0) e n.1)) (and_then_fails (eval b f) (λ x. given (of_right g x)) e h)

  of_two : (g : Function2) (a b : Tree) → (eval a f ≡ Err e → IsFrom f (names_in a) e) → (eval b f ≡ Err e → IsFrom f (names_in b) e)
      → applied2 g (eval b f) (eval a f) ≡ Err e → IsFrom f (names_in a ++ names_in b) e
  of_two g a b left right h =
      ⊎_elim (λ r. from_right f (names_in a) (names_in b) e (right r))
      (λ n. ⊎_elim (λ l. from_left f (names_in a) (names_in b) e (left l)) (λ m. inl (given_fresh (of_both g m.0 n.0) e m.1))
      (and_then_fails (eval a f) (λ x. given (of_both g x n.0)) e n.1))
      (and_then_fails (eval b f) (λ y. and_then (eval a f) (λ x. given (of_both g x y))) e h)

  mutual
    pub error_from : (t : Tree) → eval t f ≡ Err e → IsFrom f (names_in t) e
    error_from (Const l) h = inl (given_fresh (array_of l) e h)
    error_from (Name x) h = inr (x, contains_here x [], h)
    error_from (Monad g b) h = of_one (function1.Monad g) b (error_from b) h
    error_from (Dyad g a b) h = of_two (function2.Dyad g) a b (error_from a) (error_from b) h
    error_from (Index a ps) h =
        ⊎_elim (λ r. from_right f (names_in a) (names_in_positions ps) e (positions_error_from ps r))
        (λ n. ⊎_elim (λ l. from_left f (names_in a) (names_in_positions ps) e (error_from a l)) (λ m. inl m) n)
        (indexed_fails (eval_positions ps f) (eval a f) _ e h)
    error_from (Reduce g k b) h = of_one (function1.Reduce g k) b (error_from b) h
    error_from (Scan g k b) h = of_one (function1.Scan g k) b (error_from b) h
    error_from (Outer g a b) h = of_two (function2.Outer g) a b (error_from a) (error_from b) h
    error_from (Inner g k a b) h = of_two (function2.Inner g k) a b (error_from a) (error_from b) h

    positions_error_from : (ps : Positions) → eval_positions ps f ≡ Err e → IsFrom f (names_in_positions ps) e
    positions_error_from NoPositions h = absurd cc
    positions_error_from (Empty ps) h =
        ⊎_elim (λ r. positions_error_from ps r)
        (λ n. let never : Ok (None ∷ n.0) ≡ Err e = n.1 in absurd cc)
        (and_then_fails (eval_positions ps f) (λ positions. Ok (None ∷ positions)) e h)
    positions_error_from (Filled p ps) h =
        ⊎_elim (λ r. from_right f (names_in p) (names_in_positions ps) e (positions_error_from ps r))
        (λ n. ⊎_elim (λ l. from_left f (names_in p) (names_in_positions ps) e (error_from p l)) (λ m. let never : Ok (Some m.0 ∷ n.0) ≡ Err e = m.1 in absurd cc)
        (and_then_fails (eval p f) (λ x. Ok (Some x ∷ n.0)) e n.1))
        (and_then_fails (eval_positions ps f) (λ positions. and_then (eval p f) (λ x. Ok (Some x ∷ positions))) e h)

module _ (names : Names) where
  -- the error of a name arises where it should
  abbrev Arises : List ℕ → Type 0
  Arises q = (e : Fault) → val names q ≡ Err e → ArisesAt names q e.kind e.origin

  -- an error that some name passes on arises where that does
  passed_on : (q x : List ℕ) → Refers names q x → (kind : Kind) (origin : Option (List ℕ)) (o : List ℕ) → origin ≡ Some o → ArisesAt names x kind origin → ArisesAt names q kind (Some o)
  passed_on q x r kind origin o is there =
      let at : ArisesAt names x kind (Some o) = subst (λ s. ArisesAt names x kind s) is there in
      (⊎_elim (λ same. inr ([], subst (λ y. Refers names q y) same r)) (λ w. inr (x ∷ w.0, (r, w.1))) at.0, at.1)

  in_formula : (q : List ℕ) (t : Tree) → binding names q ≡ Some (Formula t) → ((x : List ℕ) → Refers names q x → Arises x)
      → (kind : Kind) (origin : Option (List ℕ)) → eval t (val names) ≡ Err (record { kind = kind; origin = origin })
      → ArisesAt names q (arisen_in q (record { kind = kind; origin = origin })).kind (arisen_in q (record { kind = kind; origin = origin })).origin
  in_formula q t is rest kind None fails = (inl refl, (t, is, fails))
  in_formula q t is rest kind (Some o) fails =
      ⊎_elim (λ none. let never : Some o ≡ None = none in absurd cc)
      (λ s. passed_on q s.0 (t, is, s.1) kind (Some o) o refl (rest s.0 (t, is, s.1) (record { kind = kind; origin = Some o }) s.2))
      (error_from (val names) (record { kind = kind; origin = Some o }) t fails)

  module _ (q : List ℕ) (rest : (x : List ℕ) → Refers names q x → Arises x) where
    in_binding : (b : Option Binding) → binding names q ≡ b → (e : Fault) → shown_beside q b (val names) ≡ Err e → ArisesAt names q e.kind e.origin
    in_binding None is e h =
        let this : fault Value ≡ e = cc in
        subst (λ (d : Fault). ArisesAt names q d.kind d.origin) this (is, refl)
    in_binding (Some (Data a)) is e h = absurd cc
    in_binding (Some (Formula t)) is e h = by (eval t (val names)) refl h
      where
        by : (o : Outcome) → eval t (val names) ≡ o → with_origin q o ≡ Err e → ArisesAt names q e.kind e.origin
        by (Ok a) gives h = absurd cc
        by (Err d) gives h =
            let this : arisen_in q d ≡ e = cc in
            subst (λ (g : Fault). ArisesAt names q g.kind g.origin) this (in_formula q t is rest d.kind d.origin gives)

pub errors_arise : ErrorsAriseWhereReached
errors_arise names sheet = by_references names sheet.acyclic (λ q. (e : Fault) → val names q ≡ Err e → ArisesAt names q e.kind e.origin)
    (λ q rest e h. in_binding names q rest (binding names q) refl e (sym (acyclic_settled names sheet.acyclic q) ∙ h))
