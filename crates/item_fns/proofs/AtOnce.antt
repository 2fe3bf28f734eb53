-- Right folds from the first number on.
use Rattle.std.{proofs.Common.{◌≡◌, ℕ, suc, ◌+◌, ◌≤◌, ◌<◌, List, [], ◌∷◌, length, refl, ap, sym, ◌∙◌, subst, arith, ℤ, pos, get_or, drop, ◌++◌, Result, Ok}, specs.List.{All, fold}, proofs.lemmas.List.Elements.{All-append}, proofs.lemmas.List.{length-append}, proofs.lemmas.List.Sums.{fold-append}}
use Rattle.arrays_core.{specs.declared.item.Kind.{Kind}, specs.Items.{and_then}, specs.Limits.{most_places}}
use Rattle.item_fns.specs.{Folds.{folded}, AtOnce.{IsAtOnce}}

same : (a b : ℤ) → ◌≡◌ {A = Result ℤ Kind} (Ok a) (Ok b) → a ≡ b
same a b h = cc

module _ (f : ℤ → ℤ → Result ℤ Kind) (plain : ℤ → ℤ → ℤ) (near : ℕ → ℤ → Type 0) (law : IsAtOnce f plain near) where
  -- the right fold of near numbers, and the left fold from a fold of m earlier ones
  record Joined (xs : List ℤ) : Type 0 where
    fold_of : ℤ
    is : folded f xs ≡ Ok fold_of
    near_it : near (length xs) fold_of
    left : (m : ℕ) (a : ℤ) → m + length xs ≤ most_places → near m a → fold plain a xs ≡ plain a fold_of

  joined : (x : ℤ) (rest : List ℤ) → length rest + 1 ≤ most_places → All (near 1) (x ∷ rest) → Joined (x ∷ rest)
  joined x [] few h = record { fold_of = x; is = refl; near_it = h 0 x (omega arith); left = λ m a low k. refl }
  joined x (y ∷ rest) few h =
      let later = joined y rest (omega arith) (λ k d below. h (suc k) d (omega arith)) in
      let here = h 0 x (omega arith) in
      let n = length (y ∷ rest) in
      record {
        fold_of = plain x later.fold_of;
        is = ap (λ r. and_then r (f x)) later.is ∙ law.gives 1 n x later.fold_of (omega arith) here later.near_it;
        near_it = subst (λ k. near k (plain x later.fold_of)) (omega arith) (law.keeps 1 n x later.fold_of (omega arith) here later.near_it);
        left = λ m a low k.
            later.left (m + 1) (plain a x) (omega arith) (law.keeps m 1 a x (omega arith) k here)
            ∙ law.joins m 1 n a x later.fold_of (omega arith) k here later.near_it;
      }

  fold_is : (x : ℤ) (rest : List ℤ) → length rest + 1 ≤ most_places → All (near 1) (x ∷ rest) → folded f (x ∷ rest) ≡ Ok (fold plain x rest)
  fold_is x [] few h = refl
  fold_is x (y ∷ rest) few h =
      let later = joined y rest (omega arith) (λ k d below. h (suc k) d (omega arith)) in
      let here = h 0 x (omega arith) in
      ap (λ r. and_then r (f x)) later.is
      ∙ law.gives 1 (length (y ∷ rest)) x later.fold_of (omega arith) here later.near_it
      ∙ ap Ok (sym (later.left 1 x (omega arith) here))

  -- the fold of a list is the one of the folds of two parts of it
  pub halves : (xs ys : List ℤ) → 0 < length xs → 0 < length ys → length (xs ++ ys) ≤ most_places → All (near 1) xs → All (near 1) ys → folded f (xs ++ ys) ≡ Ok (plain (fold plain (get_or xs 0 (pos 0)) (drop 1 xs)) (fold plain (get_or ys 0 (pos 0)) (drop 1 ys)))
  halves [] ys some more few h k = absurd (omega arith)
  halves (x ∷ rest) [] some more few h k = absurd (omega arith)
  halves (x ∷ rest) (y ∷ later) some more few h k =
      let long : length (rest ++ y ∷ later) ≡ length rest + length (y ∷ later) = length-append rest (y ∷ later) in
      let first = joined x rest (omega arith) h in
      let second = joined y later (omega arith) k in
      let left = same _ _ (sym (fold_is x rest (omega arith) h) ∙ first.is) in
      let right = same _ _ (sym (fold_is y later (omega arith) k) ∙ second.is) in
      fold_is x (rest ++ y ∷ later) (omega arith) (All-append (near 1) (x ∷ rest) (y ∷ later) h k)
      ∙ ap Ok
      (fold-append plain x rest (y ∷ later)
      ∙ ap (λ a. fold plain a (y ∷ later)) left
      ∙ second.left (length (x ∷ rest)) first.fold_of (omega arith) first.near_it
      ∙ ap (plain first.fold_of) (sym right)
      ∙ ap (λ a. plain a (fold plain y later)) (sym left))
