-- Copies of arguments.
use Rattle.std.{proofs.Common.{◌≡◌, ℕ, zero, suc, ◌+◌, ◌<◌, List, [], ◌∷◌, ◌++◌, length, take, get_or, ap, sym, subst, ◌∙◌, Option, Some, None, IfSome, arith, true, nat_lt}, proofs.lemmas.Bool.{ltb-true}, proofs.lemmas.List.{get_or_default, take_more}}
use Rattle.{arrays_core.specs.Arrays.{ArrayValue}, change_rules.specs.Copies.{AreCopies}}

-- one more copy
pub push_copy : (k : ℕ) (args : List ArrayValue) (copies : List (Option ArrayValue)) (x : Option ArrayValue) → k < length args → AreCopies (take k args) copies → IfSome x (λ b. b ≡ get_or args k b)
    → AreCopies (take (suc k) args) (copies ++ x ∷ [])
push_copy zero (a ∷ args) [] x l h e = (e, tt)
push_copy zero (a ∷ args) (c ∷ copies) x l h e = absurd h
push_copy (suc k) (a ∷ args) [] x l h e = absurd h
push_copy (suc k) (a ∷ args) (c ∷ copies) x l h e = (h.0, push_copy k args copies x (omega arith) h.1 e)
push_copy k [] copies x l h e = absurd (omega arith)

-- a copy of an argument equals the argument
pub copy_at : (k : ℕ) (args : List ArrayValue) (copies : List (Option ArrayValue)) (b : ArrayValue) → AreCopies args copies → get_or copies k None ≡ Some b → b ≡ get_or args k b
copy_at k [] [] b h e = absurd (let no : ⊥ = cc in no)
copy_at zero (a ∷ args) (Some c ∷ copies) b h e = let same : c ≡ b = cc in let is : c ≡ a = h.0 in cc
copy_at zero (a ∷ args) (None ∷ copies) b h e = absurd (let no : ⊥ = cc in no)
copy_at (suc k) (a ∷ args) (c ∷ copies) b h e = copy_at k args copies b h.1 e
copy_at k [] (c ∷ copies) b h e = absurd h
copy_at k (a ∷ args) [] b h e = absurd h

pub push_arg : (k : ℕ) (args : List ArrayValue) (copies items : List (Option ArrayValue)) (x : Option ArrayValue) (arg : ArrayValue) → k < length args → AreCopies (take k args) copies → items ≡ copies ++ x ∷ []
    → IfSome x (λ b. b ≡ arg) → arg ≡ get_or args k arg → AreCopies (take (k + 1) args) items
push_arg k args copies items x arg below h e same is =
    let next : suc k ≡ k + 1 = omega arith in
    subst (AreCopies (take (k + 1) args)) (sym e) (subst (λ (m : ℕ). AreCopies (take m args) (copies ++ x ∷ [])) next (push_copy k args copies x below h (there x same)))
  where
    there : (x : Option ArrayValue) → IfSome x (λ b. b ≡ arg) → IfSome x (λ b. b ≡ get_or args k b)
    there None same = tt
    there (Some b) same = same ∙ is ∙ ap (get_or args k) (sym same)

-- a view of a copy equals the argument
pub view_is : (k : ℕ) (args : List ArrayValue) (copies : List (Option ArrayValue)) (b arg : ArrayValue) → AreCopies args copies → get_or copies k None ≡ Some b → k < length args → arg ≡ get_or args k arg → b ≡ arg
view_is k args copies b arg h e below is = copy_at k args copies b h e ∙ get_or_default args k b arg below ∙ sym is

pub view_in : (k : ℕ) (args : List ArrayValue) (copies : List (Option ArrayValue)) (copy : Option ArrayValue) (b arg : ArrayValue) → AreCopies args copies → true ≡ nat_lt k (length copies) → copy ≡ get_or copies k copy → copy ≡ Some b
    → k < length args → arg ≡ get_or args k arg → b ≡ arg
view_in k args copies copy b arg h there at e below is = view_is k args copies b arg h (get_or_default copies k None copy (ltb-true _ _ (sym there)) ∙ sym at ∙ e) below is

-- one more view
pub one_more_view : (k : ℕ) (args views items : List ArrayValue) (view arg : ArrayValue) → k < length args → views ≡ take k args → items ≡ views ++ view ∷ [] → view ≡ arg → arg ≡ get_or args k arg → items ≡ take (k + 1) args
one_more_view k args views items view arg below h e same is = e ∙ (λ i. h i ++ same i ∷ []) ∙ (λ i. take k args ++ is i ∷ []) ∙ sym (take_more args k arg below)
