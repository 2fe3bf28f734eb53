-- The places of an axis, each as many times as its count, and the same by a walk over the counts.
use Rattle.std.{proofs.Common.{◌≡◌, ℕ, zero, suc, ◌+◌, ◌-◌, ◌*◌, ◌<◌, ◌≤◌, if◌then◌else◌, List, [], ◌∷◌, ◌++◌, length, take, get_or, map, replicate, pos, unsigned_abs, refl, ap, sym, ◌∙◌, arith}, specs.Prelude.{nat_eq, sum}, proofs.lemmas.List.{get_or-map}}
use Rattle.arrays_core.{specs.Items.{fill}, specs.Shapes.{places_before}, specs.Arrays.{ArrayValue, item_of}}
use Rattle.index_region.specs.Arguments.{numbers, number_of}
use Rattle.selection_fns.{specs.Replicate.{times, places_repeated, maker}, specs.Laws.RepeatedPlaces.{sum_front}}

pub sum_same : (n count : ℕ) → sum (replicate n count) ≡ n * count
sum_same zero count = let none : 0 * count ≡ 0 = omega arith in sym none
sum_same (suc n) count = let rest = sum_same n count in let front = sum_front count (replicate n count) in omega arith

-- a count and the earlier ones sum to at most the whole sum
pub sum_within : (xs : List ℕ) (k : ℕ) → k < length xs → sum (take k xs) + get_or xs k 0 ≤ sum xs
sum_within [] k below = absurd (omega arith)
sum_within (x ∷ xs) zero below = let front = sum_front x xs in omega arith
sum_within (x ∷ xs) (suc k) below = omega (arith, sum_front x xs, sum_front x (take k xs), sum_within xs k (omega arith))

-- repeated places are at least the first of them
entries_least : (counts : List ℕ) (k j : ℕ) → 1 ≤ k → 1 ≤ get_or (places_repeated k counts) j 1
entries_least [] k j low = omega arith
entries_least (count ∷ counts) k j low = run count j (λ i. entries_least counts (suc k) i (omega arith))
  where
    run : (c j : ℕ) → ((i : ℕ) → 1 ≤ get_or (places_repeated (suc k) counts) i 1) → 1 ≤ get_or (replicate c k ++ places_repeated (suc k) counts) j 1
    run zero j rest = rest j
    run (suc c) zero rest = low
    run (suc c) (suc j) rest = run c j rest

-- repeated places are at most the last of them
entries_most : (counts : List ℕ) (k j m : ℕ) → k + length counts ≤ m → 1 ≤ m → get_or (places_repeated k counts) j 1 ≤ m
entries_most [] k j m high some = omega arith
entries_most (count ∷ counts) k j m high some = run count j (λ i. entries_most counts (suc k) i m (omega arith) some)
  where
    run : (c j : ℕ) → ((i : ℕ) → get_or (places_repeated (suc k) counts) i 1 ≤ m) → get_or (replicate c k ++ places_repeated (suc k) counts) j 1 ≤ m
    run zero j rest = rest j
    run (suc c) zero rest = omega arith
    run (suc c) (suc j) rest = run c j rest

pub maker_positive : (counts : List ℕ) (i : ℕ) → 1 ≤ maker counts i
maker_positive counts i = entries_least counts 1 (i - 1) (omega arith)

pub maker_most : (counts : List ℕ) (i : ℕ) → maker counts i ≤ length counts + 1
maker_most counts i = entries_most counts 1 (i - 1) (length counts + 1) (omega arith) (omega arith)

-- the count of each place, for a single count
pub times_of_one : (a : ArrayValue) (n : ℕ) → length a.items ≡ 1 → times a n ≡ replicate n (unsigned_abs (get_or (numbers a) 0 (pos 0)))
times_of_one a n one =
    ap (λ k. if nat_eq k 1 then replicate n (unsigned_abs (number_of (item_of a []))) else map unsigned_abs (numbers a)) one
    ∙ ap (λ j. replicate n (unsigned_abs (number_of (get_or a.items j (fill a.item_type))))) (none_before a.shape)
    ∙ ap (λ z. replicate n (unsigned_abs z)) (sym (get_or-map number_of a.items 0 (fill a.item_type) (pos 0) (omega arith)))
  where
    none_before : (shape : List ℕ) → places_before shape [] ≡ 0
    none_before [] = refl
    none_before (n ∷ shape) = refl
