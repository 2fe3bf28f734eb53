-- Scalar functions of arrays return the whole result of their checks and items.
use Rattle.std.proofs.Common.{◌≡◌, ℕ, ◌≤◌, Bool, true, false, cond, eqb, List, [], ◌∷◌, length, get_or, refl, ap, sym, subst, ◌∙◌, ◌⊎◌, inl, inr, arith, Result, Ok, Err, bytes_eq, nat_lt}
use Rattle.arrays_core.{specs.declared.item.Kind.{Kind}, specs.declared.item.ItemType.TheVariants.{Nums}, specs.declared.fault.ApplyFault.{ApplyFault}, specs.Shapes.{size}, specs.Arrays.{ArrayValue, IsArray, IsAnswerTo, collect}}
use Rattle.function_names.{specs.declared.scalar.Scalar1.{Scalar1}, specs.declared.scalar.Scalar2.{Scalar2}}
use Rattle.scalar_fns.{specs.ScalarExtension.{common, for_shape, monadic_on_array, dyadic_on_arrays}, specs.EachMonadic.{each_monadic_form, each_monadic_item}, specs.EachDyadic.{each_dyadic_form, each_dyadic_item}}
use Rattle.index_region.{specs.ArgumentLists.{of_one_argument, of_two_arguments}, specs.Checks.{form_of, whole}, proofs.Passing.{two_arguments}}
use Rattle.change_core.specs.RuleModels.{HasShape}

-- the result for the only argument
pub each_monadic_answer : (f : Scalar1) (args : List ArrayValue) (a l : ArrayValue) (x : Result ArrayValue ApplyFault) → length args ≡ 1 → a ≡ get_or args 0 a → l ≡ a
    → IsAnswerTo (monadic_on_array f l) x → IsAnswerTo (whole (of_one_argument each_monadic_form args) (λ index. of_one_argument (λ b. each_monadic_item f b index) args)) x
each_monadic_answer f [] a l x n p s h = absurd (omega arith)
each_monadic_answer f (b ∷ []) a l x n p s h = subst (λ (c : ArrayValue). IsAnswerTo (monadic_on_array f c) x) (s ∙ p) h
each_monadic_answer f (b ∷ c ∷ rest) a l x n p s h = absurd (omega arith)

whole_of_each : (f : Scalar2) (a b : ArrayValue) → dyadic_on_arrays f a b ≡ whole (each_dyadic_form a b) (each_dyadic_item f a b)
whole_of_each f a b = by (common a.shape b.shape)
  where
    by : (r : Result (List ℕ) Kind) → for_shape r (λ shape. collect Nums shape (each_dyadic_item f a b)) ≡ whole (for_shape r (λ shape. Ok (form_of shape Nums))) (each_dyadic_item f a b)
    by (Ok shape) = refl
    by (Err k) = refl

-- the result for the two arguments
pub each_dyadic_answer : (f : Scalar2) (args : List ArrayValue) (a b l r : ArrayValue) (x : Result ArrayValue ApplyFault) → length args ≡ 2 → a ≡ get_or args 0 a → b ≡ get_or args 1 b → l ≡ a → r ≡ b
    → IsAnswerTo (dyadic_on_arrays f l r) x → IsAnswerTo (whole (of_two_arguments each_dyadic_form args) (λ index. of_two_arguments (λ c d. each_dyadic_item f c d index) args)) x
each_dyadic_answer f args a b l r x n p q s t h =
    let both : args ≡ a ∷ b ∷ [] = two_arguments args a b n p q in
    subst (λ (v : List ArrayValue). IsAnswerTo (whole (of_two_arguments each_dyadic_form v) (λ index. of_two_arguments (λ c d. each_dyadic_item f c d index) v)) x) (sym both)
    (subst (λ (w : Result ArrayValue Kind). IsAnswerTo w x) ((λ i. dyadic_on_arrays f (s i) (t i)) ∙ whole_of_each f a b) h)

one_of_both : (a b shape : List ℕ) (one_a one_b less long same : Bool) (e f : Kind) → cond one_a (Ok (cond one_b (cond less b a) b)) (cond one_b (Ok a) (cond long (cond same (Ok a) (Err e)) (Err f))) ≡ Ok shape
    → (a ≡ shape) ⊎ (b ≡ shape)
one_of_both a b shape true true true long same e f h = inr (cc)
one_of_both a b shape true true false long same e f h = inl (cc)
one_of_both a b shape true false less long same e f h = inr (cc)
one_of_both a b shape false true less long same e f h = inl (cc)
one_of_both a b shape false false less true true e f h = inl (cc)
one_of_both a b shape false false less true false e f h = absurd (let no : ⊥ = cc in no)
one_of_both a b shape false false less false same e f h = absurd (let no : ⊥ = cc in no)

common_rank : (a b shape : List ℕ) → common a b ≡ Ok shape → length a ≤ 4 → length b ≤ 4 → length shape ≤ 4
common_rank a b shape h few_a few_b = elim (one_of_both a b shape (eqb (size a) 1) (eqb (size b) 1) (nat_lt (length a) (length b)) (eqb (length a) (length b)) (bytes_eq a b) _ _ h) [
  | inl e ↦ subst (λ (s : List ℕ). length s ≤ 4) e few_a
  | inr e ↦ subst (λ (s : List ℕ). length s ≤ 4) e few_b
]

checked_common : (r : Result (List ℕ) Kind) (shape : List ℕ) → HasShape (for_shape r (λ s. Ok (form_of s Nums))) shape → r ≡ Ok shape
checked_common (Ok s) shape h = ap (λ (t : List ℕ). Ok t) h
checked_common (Err k) shape h = absurd h

-- the result of two arrays has at most as many axes as an array may have
pub checked_rank : (args : List ArrayValue) (a b : ArrayValue) (shape : List ℕ) → length args ≡ 2 → a ≡ get_or args 0 a → b ≡ get_or args 1 b → IsArray a → IsArray b
    → HasShape (of_two_arguments each_dyadic_form args) shape → length shape ≤ 4
checked_rank args a b shape n p q in_a in_b h =
    let both : args ≡ a ∷ b ∷ [] = two_arguments args a b n p q in
    let here : HasShape (each_dyadic_form a b) shape = subst (λ (v : List ArrayValue). HasShape (of_two_arguments each_dyadic_form v) shape) both h in
    common_rank a.shape b.shape shape (checked_common (common a.shape b.shape) shape here) in_a.within.rank in_b.within.rank
