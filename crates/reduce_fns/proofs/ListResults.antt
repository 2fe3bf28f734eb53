-- The numbers of a list of results, or its first error.
use Rattle.std.proofs.Common.{◌≡◌, suc, List, [], ◌∷◌, ◌++◌, length, ℤ, Result, Ok, Err, refl, ap, sym, ◌∙◌}
use Rattle.arrays_core.{specs.declared.item.Kind.{Kind}, specs.Items.{all_or_first_error, after, and_then}}

-- ---- results after others

again : (r : Result (List ℤ) Kind) → r ≡ and_then r (λ zs. Ok ([] ++ zs))
again (Ok zs) = refl
again (Err e) = refl

pub after_parts : (x : ℤ) (r : Result (List ℤ) Kind) (all : List ℤ) (B : Type 0) → after x r ≡ Ok all → ((rest : List ℤ) → r ≡ Ok rest → all ≡ x ∷ rest → B) → B
after_parts x (Ok rest) all B h then = then rest refl (let e : x ∷ rest ≡ all = cc in sym e)
after_parts x (Err e) all B h then = let none : ⊥ = cc in absurd none

after_more : (x : ℤ) (rest : List ℤ) (r : Result (List ℤ) Kind) → after x (and_then r (λ zs. Ok (rest ++ zs))) ≡ and_then r (λ zs. Ok (x ∷ (rest ++ zs)))
after_more x rest (Ok zs) = refl
after_more x rest (Err e) = refl

pub all_then : (front rs : List (Result ℤ Kind)) (zs : List ℤ) → all_or_first_error front ≡ Ok zs → all_or_first_error (front ++ rs) ≡ and_then (all_or_first_error rs) (λ more. Ok (zs ++ more))
all_then [] rs zs h = let e : zs ≡ [] = cc in rw e (again (all_or_first_error rs))
all_then (Err e ∷ front) rs zs h = cc
all_then (Ok x ∷ front) rs zs h =
    after_parts x (all_or_first_error front) zs (all_or_first_error (Ok x ∷ front ++ rs) ≡ and_then (all_or_first_error rs) (λ more. Ok (zs ++ more))) h (λ rest made is.
    ap (after x) (all_then front rs rest made)
    ∙ after_more x rest (all_or_first_error rs)
    ∙ sym (ap (λ ys. and_then (all_or_first_error rs) (λ more. Ok (ys ++ more))) is))

pub error_in_front : (front rs : List (Result ℤ Kind)) (e : Kind) → all_or_first_error front ≡ Err e → all_or_first_error (front ++ rs) ≡ Err e
error_in_front [] rs e h = cc
error_in_front (Err k ∷ front) rs e h = h
error_in_front (Ok x ∷ front) rs e h = ap (after x) (error_in_front front rs e (failed (all_or_first_error front) h)) ∙ refl
  where
    failed : (r : Result (List ℤ) Kind) → after x r ≡ Err e → r ≡ Err e
    failed (Ok zs) g = cc
    failed (Err k) g = g

-- as many numbers as results
pub as_many_as : (rs : List (Result ℤ Kind)) (zs : List ℤ) → all_or_first_error rs ≡ Ok zs → length zs ≡ length rs
as_many_as [] zs h = let e : zs ≡ [] = cc in rw e refl
as_many_as (Err e ∷ rs) zs h = cc
as_many_as (Ok x ∷ rs) zs h =
    after_parts x (all_or_first_error rs) zs (length zs ≡ length (Ok x ∷ rs)) h (λ rest made is. ap length is ∙ ap suc (as_many_as rs rest made))
