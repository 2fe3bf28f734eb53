-- A count of numbers from a place on.
use Rattle.std.{proofs.Common.{◌≡◌, ◌∙◌, ℕ, zero, suc, ◌+◌, ◌<◌, ◌≤◌, ℤ, List, ◌∷◌, ◌++◌, map, length, refl, sym, ap, arith}, specs.List.{range_with_len}}
use Rattle.fold_trees.specs.LineTrees.{segment}

-- the numbers of two segments
pub segment_split : (x : ℕ → ℤ) (from a b : ℕ) → segment x from (a + b) ≡ segment x from a ++ segment x (from + a) b
segment_split x from zero b =
    let here : from + zero ≡ from = omega arith in
    let all : zero + b ≡ b = omega arith in
    ap (segment x from) all ∙ sym (ap (λ k. segment x k b) here)
segment_split x from (suc a) b =
    let all : suc a + b ≡ suc (a + b) = omega arith in
    let next : from + 1 + a ≡ from + suc a = omega arith in
    ap (segment x from) all
    ∙ ap (λ xs. x from ∷ xs) (segment_split x (from + 1) a b ∙ ap (λ k. segment x (from + 1) a ++ segment x k b) next)

-- they are the same where each is
pub segment_same : (x y : ℕ → ℤ) (from count : ℕ) → ((i : ℕ) → from ≤ i → i < from + count → x i ≡ y i) → segment x from count ≡ segment y from count
segment_same x y from zero same = refl
segment_same x y from (suc count) same =
    λ i. (same from (omega arith) (omega arith)) i ∷ (segment_same x y (from + 1) count (λ i low high. same i (omega (arith, low)) (omega (arith, high)))) i

-- the segment as a list by its places
pub listed_segment : (x : ℕ → ℤ) (from count : ℕ) → segment x from count ≡ map x (range_with_len from count)
listed_segment x from zero = refl
listed_segment x from (suc count) = ap (λ (l : List ℤ). x from ∷ l) (listed_segment x (from + 1) count)

-- its length
pub long_segment : (x : ℕ → ℤ) (from count : ℕ) → length (segment x from count) ≡ count
long_segment x from zero = refl
long_segment x from (suc count) = ap (λ n. suc n) (long_segment x (from + 1) count)
