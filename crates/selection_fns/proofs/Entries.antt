-- Lists of results without errors, entry by entry.
use Rattle.std.proofs.Common.{◌≡◌, ℕ, zero, suc, ◌<◌, List, [], ◌∷◌, length, get_or, Result, Ok, Err, refl, ap, sym, ◌∙◌, arith}
use Rattle.arrays_core.specs.Items.{all_or_first_error, after}

-- a list of results without errors, entry by entry
pub entry_of : {A E : Type 0} (rs : List (Result A E)) (xs : List A) (k : ℕ) (r : Result A E) (d : A) → all_or_first_error rs ≡ Ok xs → k < length rs → get_or rs k r ≡ Ok (get_or xs k d)
entry_of [] xs k r d h below = absurd (omega arith)
entry_of (Err e ∷ rs) xs k r d h below = cc
entry_of {A} {E} (Ok x ∷ rs) xs k r d h below = decide (all_or_first_error rs) refl h k below (λ rest made j inside. entry_of rs rest j r d made inside)
  where
    decide : (all : Result (List A) E) → all_or_first_error rs ≡ all → after x all ≡ Ok xs → (k : ℕ) → k < length (Ok x ∷ rs)
        → ((rest : List A) → all_or_first_error rs ≡ Ok rest → (j : ℕ) → j < length rs → get_or rs j r ≡ Ok (get_or rest j d)) → get_or (Ok x ∷ rs) k r ≡ Ok (get_or xs k d)
    decide (Err e) made h k below later = cc
    decide (Ok rest) made h zero below later = let is : x ∷ rest ≡ xs = cc in ap (λ ys. Ok (get_or ys 0 d)) is
    decide (Ok rest) made h (suc k) below later = let is : x ∷ rest ≡ xs = cc in later rest made k (omega arith) ∙ ap (λ ys. Ok (get_or ys (suc k) d)) is

-- entries without errors are such a list
pub from_entries : {A E : Type 0} (rs : List (Result A E)) (xs : List A) (r : Result A E) (d : A) → length rs ≡ length xs → ((k : ℕ) → k < length xs → get_or rs k r ≡ Ok (get_or xs k d)) → all_or_first_error rs ≡ Ok xs
from_entries [] [] r d long each = refl
from_entries [] (x ∷ xs) r d long each = absurd (omega arith)
from_entries (e ∷ rs) [] r d long each = absurd (omega arith)
from_entries (e ∷ rs) (x ∷ xs) r d long each = rw (each 0 (omega arith), from_entries rs xs r d (omega arith) (λ k below. each (suc k) (omega arith))) refl

pub long_entries : {A E : Type 0} (rs : List (Result A E)) (xs : List A) → all_or_first_error rs ≡ Ok xs → length xs ≡ length rs
long_entries [] xs h = let none : xs ≡ [] = cc in rw none refl
long_entries (Err e ∷ rs) xs h = cc
long_entries {A} {E} (Ok x ∷ rs) xs h = decide (all_or_first_error rs) refl h (λ rest made. long_entries rs rest made)
  where
    decide : (all : Result (List A) E) → all_or_first_error rs ≡ all → after x all ≡ Ok xs → ((rest : List A) → all_or_first_error rs ≡ Ok rest → length rest ≡ length rs) → length xs ≡ suc (length rs)
    decide (Err e) made h later = cc
    decide (Ok rest) made h later = let is : x ∷ rest ≡ xs = cc in ap length (sym is) ∙ ap suc (later rest made)
