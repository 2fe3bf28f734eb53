-- The places that replicate copies, in order.
use Rattle.std.{proofs.Common.{◌≡◌, ℕ, suc, ◌+◌, ◌-◌, ◌<◌, ◌≤◌, Bool, true, false, nat_le, if◌then◌else◌, List, [], ◌∷◌, ◌++◌, get_or, replicate, refl, ap, sym, ◌∙◌, arith}, specs.Prelude.{sum}, proofs.lemmas.Bool.Decides.{nat_tests}}
use Rattle.std.{proofs.lemmas.List.{map-id, length-replicate, get_or-replicate, get_or_append_left, get_or-append_right}, proofs.lemmas.List.Sums.{sum-map, sum_by-cons}}
use Rattle.selection_fns.specs.Replicate.{places_repeated, maker}

pub sum_front : (x : ℕ) (xs : List ℕ) → sum (x ∷ xs) ≡ x + sum xs
sum_front x xs =
    let all = sum-map (λ n. n) (x ∷ xs) in
    let rest = sum-map (λ n. n) xs in
    sym (ap sum (map-id (x ∷ xs))) ∙ all ∙ sum_by-cons (λ n. n) x xs ∙ ap (λ n. x + n) (sym rest ∙ ap sum (map-id xs))

-- the place of copy i, by a walk over the counts
abbrev pub walk : List ℕ → ℕ → ℕ
walk [] i = 1
walk (count ∷ counts) i = if nat_le i count then 1 else suc (walk counts (i - count))

entry_is : (counts : List ℕ) (k i d : ℕ) → 1 ≤ i → i ≤ sum counts → get_or (places_repeated k counts) (i - 1) d + 1 ≡ k + walk counts i
entry_is [] k i d low high = absurd (omega arith)
entry_is (count ∷ counts) k i d low high = decide (λ j. entry_is counts (suc k) j d) (nat_le i count) refl
  where
    decide : ((j : ℕ) → 1 ≤ j → j ≤ sum counts → get_or (places_repeated (suc k) counts) (j - 1) d + 1 ≡ suc k + walk counts j)
        → (b : Bool) → nat_le i count ≡ b → get_or (replicate count k ++ places_repeated (suc k) counts) (i - 1) d + 1 ≡ k + (if b then 1 else suc (walk counts (i - count)))
    decide later true h =
        let below : i ≤ count = grind (arith, nat_tests) in
        let long = length-replicate count k in
        let first = get_or_append_left (replicate count k) (places_repeated (suc k) counts) d (i - 1) (omega arith) in
        let is = get_or-replicate count (i - 1) k d (omega arith) in
        omega arith
    decide later false h =
        let above : count < i = grind (arith, nat_tests) in
        let rest = get_or-append_right (replicate count k) (places_repeated (suc k) counts) count (i - 1) d (length-replicate count k) (omega arith) in
        let order : i - 1 - count ≡ i - count - 1 = omega arith in
        let front = sum_front count counts in
        let more = later (i - count) (omega arith) (omega arith) in
        ap (λ n. n + 1) (rest ∙ ap (λ j. get_or (places_repeated (suc k) counts) j d) order) ∙ more ∙ next (walk counts (i - count))
      where
        next : (m : ℕ) → suc k + m ≡ k + suc m
        next m = omega arith

pub maker_is_walk : (counts : List ℕ) (i : ℕ) → 1 ≤ i → i ≤ sum counts → maker counts i ≡ walk counts i
maker_is_walk counts i low high = let entry = entry_is counts 1 i 1 low high in omega arith
