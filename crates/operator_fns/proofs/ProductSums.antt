-- Sums of products of small numbers: the fold is the sum.
use Rattle.std.{proofs.Common.{◌≡◌, ℕ, suc, ◌+◌, ◌-◌, ◌*◌, ◌^◌, ◌<◌, ◌≤◌, List, [], ◌∷◌, ◌++◌, length, get_or, take, drop, map, ap, subst, sym, ◌∙◌, arith, ℤ, pos, negsuc, ◌+ℤ◌, ◌*ℤ◌, unsigned_abs, FitsSigned, Ok, Bool}, specs.Int.{w64}, specs.List.{All, range_with_len}}
use Rattle.std.{proofs.lemmas.Int.{ints, unsigned_abs-mul, fits_signed_from_abs}, proofs.lemmas.List.FromFn.{length-map-range_with_len, get_or-map-range_with_len, map-range_with_len_more}, proofs.Math.Nat.{mul-le-mul, mul-le-mul_left, mul-le-mul_right}}
use Rattle.std.{proofs.lemmas.List.{get_or-take, get_or-drop}}
use Rattle.{arrays_core.specs.Items.{and_then}, function_names.{specs.declared.scalar.Scalar2.{Scalar2}, specs.declared.scalar.Scalar2.TheVariants.{Plus, Times}}}
use Rattle.item_fns.{specs.Numbers.{dyadic_on_numbers, number_or_limit}, specs.Folds.{folded}, proofs.Within.{held_within, within_of}}
use Rattle.reduce_fns.{specs.Sum.{IsWithinBound, sum_of}, proofs.Firsts.{same_rules}}
use Rattle.operator_fns.{proofs.Meetings.{all_fine}, specs.RowByColumn.{all_met, folded_all}, specs.SmallProducts.{sum_of_products, IsNoFurther, AddUp, BoundsFactors, EndsInSums}, specs.RowFolds.{EndsInFolds}}

abs_add : (a b : ℤ) → unsigned_abs (a +ℤ b) ≤ unsigned_abs a + unsigned_abs b
abs_add a b = omega (arith, ints)

-- a number of small magnitude fits 64 bits
pub near_fits : (z : ℤ) (most : ℕ) → unsigned_abs z ≤ most → most < 2 ^ 63 → FitsSigned w64 z
near_fits z most near few = fits_signed_from_abs w64 z (omega arith)

near_held : (z : ℤ) (most : ℕ) → unsigned_abs z ≤ most → most < 2 ^ 63 → number_or_limit z ≡ Ok z
near_held z most near few = held_within z (within_of z (near_fits z most near few))

-- ---- sums of numbers of small magnitude

sum_more : (xs : List ℤ) (z : ℤ) → sum_of (xs ++ z ∷ []) ≡ sum_of xs +ℤ z
sum_more [] z = omega (arith, ints)
sum_more (x ∷ xs) z = ap (λ s. x +ℤ s) (sum_more xs z) ∙ omega (arith, ints)

pub sum_near : (most : ℕ) (xs : List ℤ) → All (IsNoFurther most) xs → unsigned_abs (sum_of xs) ≤ most * length xs
sum_near most [] h = omega arith
sum_near most (x ∷ xs) h =
    let here = (h 0 x (omega arith)).near in
    let rest = sum_near most xs (λ k d below. h (suc k) d (omega arith)) in
    let both = abs_add x (sum_of xs) in
    omega arith

near_folded : (most : ℕ) (xs : List ℤ) → 0 < length xs → most * length xs < 2 ^ 63 → All (IsNoFurther most) xs → folded (dyadic_on_numbers Plus) xs ≡ Ok (sum_of xs)
near_folded most [] some few h = absurd (omega arith)
near_folded most (x ∷ []) some few h = ap Ok (omega (arith, ints))
near_folded most (x ∷ y ∷ rest) some few h =
    let later : All (IsNoFurther most) (y ∷ rest) = λ k d below. h (suc k) d (omega arith) in
    ap (λ r. and_then r (dyadic_on_numbers Plus x)) (near_folded most (y ∷ rest) (omega arith) (omega arith) later)
    ∙ near_held (x +ℤ sum_of (y ∷ rest)) (most * length (x ∷ y ∷ rest)) (sum_near most (x ∷ y ∷ rest) h) few

-- ---- the products

pub next_sum : (row column : ℕ → ℤ) (k : ℕ) → sum_of_products row column (k + 1) ≡ sum_of_products row column k +ℤ row k *ℤ column k
next_sum row column k =
    ap sum_of (map-range_with_len_more (λ k. row k *ℤ column k) 0 k k (omega arith)) ∙ sum_more (map (λ k. row k *ℤ column k) (range_with_len 0 k)) (row k *ℤ column k)

-- the first entries of a row and of a column have small magnitudes
pub record AreSmall (row column : ℕ → ℤ) (n : ℕ) : Type 0 where
  pub most_x : ℕ
  pub most_y : ℕ
  pub near_x : (k : ℕ) → k < n → unsigned_abs (row k) ≤ most_x
  pub near_y : (k : ℕ) → k < n → unsigned_abs (column k) ≤ most_y
  pub few : most_x * most_y * n < 2 ^ 63

-- entries of two lists with small magnitudes
pub small_entries : (xs ys : List ℤ) (n : ℕ) (row column : ℕ → ℕ) → AddUp n xs ys → ((k : ℕ) → k < n → row k < length xs) → ((k : ℕ) → k < n → column k < length ys)
    → AreSmall (λ k. get_or xs (row k) (pos 0)) (λ k. get_or ys (column k) (pos 0)) n
small_entries xs ys n row column small rows columns =
    record {
      most_x = small.most_x;
      most_y = small.most_y;
      near_x = λ k below. (small.near_x (row k) (pos 0) (rows k below)).near;
      near_y = λ k below. (small.near_y (column k) (pos 0) (columns k below)).near;
      few = small.few;
    }

module _ (row column : ℕ → ℤ) (n : ℕ) (small : AreSmall row column n) where
  abbrev most : ℕ
  most = small.most_x * small.most_y

  abbrev products : ℕ → List ℤ
  products k = map (λ k. row k *ℤ column k) (range_with_len 0 k)

  near_products : (k : ℕ) → k ≤ n → All (IsNoFurther most) (products k)
  near_products k high i d below =
      let long = length-map-range_with_len (λ k. row k *ℤ column k) 0 k in
      let here : get_or (products k) i d ≡ row i *ℤ column i = get_or-map-range_with_len (λ k. row k *ℤ column k) 0 k i i d (omega arith) (omega arith) in
      record { near = rw (here, unsigned_abs-mul) (mul-le-mul (small.near_x i (omega arith)) (small.near_y i (omega arith))) }

  part_near : (k : ℕ) → k ≤ n → unsigned_abs (sum_of_products row column k) ≤ most * n
  part_near k high =
      let long = length-map-range_with_len (λ k. row k *ℤ column k) 0 k in
      let part = subst (λ m. unsigned_abs (sum_of_products row column k) ≤ most * m) long (sum_near most (products k) (near_products k high)) in
      let more : most * k ≤ most * n = mul-le-mul_left most high in
      omega arith

  pub part_fits : (k : ℕ) → k ≤ n → FitsSigned w64 (sum_of_products row column k)
  part_fits k high = near_fits (sum_of_products row column k) (most * n) (part_near k high) small.few

  pub product_fits : (k : ℕ) → k < n → FitsSigned w64 (row k *ℤ column k)
  product_fits k below =
      let one : unsigned_abs (row k *ℤ column k) ≤ most = rw unsigned_abs-mul (mul-le-mul (small.near_x k below) (small.near_y k below)) in
      let more : most * 1 ≤ most * n = mul-le-mul_left most (omega arith) in
      near_fits (row k *ℤ column k) (most * n) (omega arith) small.few

  pub next_fits : (k : ℕ) → k < n → FitsSigned w64 (sum_of_products row column k +ℤ row k *ℤ column k)
  next_fits k below = subst (FitsSigned w64) (next_sum row column k) (part_fits (k + 1) (omega arith))

  -- the fold of the paired products is their sum
  pub products_folded : 1 ≤ n → folded_all (dyadic_on_numbers Plus) (all_met (dyadic_on_numbers Times) row column n) ≡ Ok (sum_of_products row column n)
  products_folded some =
      let long = length-map-range_with_len (λ k. row k *ℤ column k) 0 n in
      let fine : all_met (dyadic_on_numbers Times) row column n ≡ map (λ k. Ok (row k *ℤ column k)) (range_with_len 0 n) =
      same_rules (λ k. dyadic_on_numbers Times (row k) (column k)) (λ k. Ok (row k *ℤ column k)) n
      (λ k below. held_within (row k *ℤ column k) (within_of (row k *ℤ column k) (product_fits k below))) in
      ap (folded_all (dyadic_on_numbers Plus)) fine
      ∙ ap (λ r. and_then r (folded (dyadic_on_numbers Plus))) (all_fine (λ k. row k *ℤ column k) (range_with_len 0 n))
      ∙ near_folded most (products n) (omega arith) (subst (λ m. most * m < 2 ^ 63) (sym long) small.few) (near_products n (omega arith))

-- ---- places in consecutive rows

pub row_high : (row count rows : ℕ) → row < rows → row * count + count ≤ rows * count
row_high row count rows inside =
    let most : (row + 1) * count ≤ rows * count = mul-le-mul_right count (omega arith) in
    let more : (row + 1) * count ≡ row * count + count = one_more row count in
    omega arith
  where
    one_more : (r m : ℕ) → (r + 1) * m ≡ r * m + m
    one_more r m = omega arith

pub in_rows : (column columns row rows : ℕ) → column < columns → row < rows → column + row * columns < rows * columns
in_rows column columns row rows below inside = omega (arith, row_high row columns rows inside)

pub row_entry : {X : Type 0} → (rows : List X) (d : X) (columns row column : ℕ) → column < columns
    → get_or (take (row * columns + columns - row * columns) (drop (row * columns) rows)) column d ≡ get_or rows (column + row * columns) d
row_entry rows d columns row column below =
    get_or-take (row * columns + columns - row * columns) (drop (row * columns) rows) column d (omega arith)
    ∙ get_or-drop (row * columns) rows column d
    ∙ ap (λ p. get_or rows p d) (omega arith)

-- sums of small products are their folds
pub sums_are_folds : (f g : Scalar2) (row rows : List ℤ) (columns : ℕ) (before all : List ℤ) → f ≡ Plus → g ≡ Times → 1 ≤ length row → length rows ≡ length row * columns
    → AddUp (length row) row rows → EndsInSums row rows columns before all → EndsInFolds (dyadic_on_numbers f) (dyadic_on_numbers g) row rows columns before all
sums_are_folds f g row rows columns before all plus times some whole small ends =
    rw (plus, times) (record {
      folds = ends.sums;
      long = ends.long;
      is = ends.is;
      folded = record {
        each = λ column below.
            let near = small_entries row rows (length row) (λ k. k) (λ k. column + k * columns) small (λ k low. low) (λ k low. omega (arith, in_rows column columns k (length row) below low)) in
            products_folded (λ k. get_or row k (pos 0)) (λ k. get_or rows (column + k * columns) (pos 0)) (length row) near some ∙ ap Ok (sym (ends.summed.each column below));
      };
    })

-- ---- factors within a bound

within_further : (bound most : ℕ) (z : ℤ) → bound ≤ most → IsWithinBound bound z → IsNoFurther most z
within_further bound most (pos n) less within = let high = within.high in record { near = omega (arith, ints) }
within_further bound most (negsuc n) less within = let low = within.low in record { near = omega (arith, ints) }

pub no_further : (bound most : ℕ) (xs : List ℤ) → bound ≤ most → All (IsWithinBound bound) xs → All (IsNoFurther most) xs
no_further bound most xs less within = λ k d below. within_further bound most _ less (within k d below)

pub factors_add_up : (xs ys : List ℤ) (most : ℕ) (are_short : Bool) → BoundsFactors (length xs) ys most are_short → All (IsNoFurther most) xs → AddUp (length xs) xs ys
factors_add_up xs ys most are_short bounds near = record { most_x = most; most_y = bounds.most; near_x = near; near_y = bounds.near; few = bounds.few }
