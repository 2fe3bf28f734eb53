-- The lines of one fold all fail alike, so one line that fails decides the error of all totals.
use Rattle.std.{proofs.Common.{◌≡◌, ◌∙◌, ℕ, zero, suc, ◌<◌, ℤ, pos, ◌+ℤ◌, ◌*ℤ◌, Bool, true, false, ◌&&◌, ◌||◌, List, [], ◌∷◌, length, map, get_or, insert, Result, Ok, Err, if◌then◌else◌, nat_lt, refl, ap, sym, arith, inl, inr}, specs.List.{range_with_len}, specs.Ordering.{int_eq}}
use Rattle.std.{proofs.lemmas.Bool.{cases_Bool, false≢true, ltb-false, ltb-true}, proofs.lemmas.List.{get_or_past, length-map}, proofs.Math.ListN.{get_or-map}}
use Rattle.arrays_core.{specs.declared.item.Item.{Item}, specs.declared.item.Item.TheVariants.{Num, Char}, specs.declared.item.ItemType.TheVariants.{Nums, Chars}, specs.declared.item.Kind.{Kind}, specs.declared.item.Kind.TheVariants.{Domain, Limit}, specs.Arrays.{ArrayValue, IsArray, collect, item_of, with_items}}
use Rattle.arrays_core.{specs.Items.{after, all_or_first_error, and_then, fill, type_of}, specs.Shapes.{indices, index_after, size, places_before}, proofs.Order.{get_or-indices, length-indices}}
use Rattle.function_names.{specs.Axes.{axis_at}, specs.declared.along.Along.{Along}, specs.declared.scalar.Scalar2.{Scalar2}, specs.declared.scalar.Scalar2.TheVariants.{Plus, Times, Maximum, Minimum, And, Or}}
use Rattle.item_fns.{specs.Identities.{identity_of}, specs.Items.{dyadic_on_items, number_item}, specs.Numbers.{as_truth, dyadic_on_numbers, is_number, number_or_limit, on_truths}, specs.RightFold.{fold_right, identity_item}}
use Rattle.{index_region.specs.Axes.{places_along}, reduce_fns.specs.Reduce.{reduce_item}, fold_trees.specs.FoldTrees.{has_trees}}

-- ---- one fold has one error
-- a result that is not an error, or is this error
abbrev FailsSo : {A : Type 0} → Kind → Result A Kind → Type 0
FailsSo failure (Ok x) = Unit {0}
FailsSo failure (Err k) = k ≡ failure

abbrev IsNumberOr : Kind → Result Item Kind → Type 0
IsNumberOr failure (Ok (Num z)) = Unit {0}
IsNumberOr failure (Ok (Char c)) = ⊥
IsNumberOr failure (Err k) = k ≡ failure

-- the error of a fold that keeps trees
abbrev failure_of : Scalar2 → Kind
failure_of And = Domain
failure_of Or = Domain
failure_of _ = Limit

limited : (z : ℤ) → FailsSo Limit (number_or_limit z)
limited z = by (is_number z)
  where
    by : (b : Bool) → FailsSo Limit (if b then Ok z else Err Limit)
    by true = tt
    by false = refl

as_truths : (a : ℤ) → FailsSo Domain (as_truth a)
as_truths a = by (int_eq a (pos 0)) (int_eq a (pos 1))
  where
    by : (b c : Bool) → FailsSo Domain (if b then Ok false else (if c then Ok true else Err Domain))
    by true c = tt
    by false true = tt
    by false false = refl

on_both : (h : Bool → Bool → Bool) (p q : Result Bool Kind) → FailsSo Domain p → FailsSo Domain q → FailsSo Domain (on_truths h p q)
on_both h (Ok p) (Ok q) a b = tt
on_both h (Ok p) (Err k) a b = b
on_both h (Err k) q a b = a

step_fails : (f : Scalar2) → has_trees f ≡ true → (a b : ℤ) → FailsSo (failure_of f) (dyadic_on_numbers f a b)
step_fails Plus h a b = limited (a +ℤ b)
step_fails Times h a b = limited (a *ℤ b)
step_fails Maximum h a b = tt
step_fails Minimum h a b = tt
step_fails And h a b = on_both (λ p q. p && q) (as_truth a) (as_truth b) (as_truths a) (as_truths b)
step_fails Or h a b = on_both (λ p q. p || q) (as_truth a) (as_truth b) (as_truths a) (as_truths b)
step_fails f h a b = absurd (false≢true h)

identity_fails : (f : Scalar2) → has_trees f ≡ true → IsNumberOr (failure_of f) (identity_item (identity_of f))
identity_fails Plus h = tt
identity_fails Times h = tt
identity_fails Maximum h = tt
identity_fails Minimum h = tt
identity_fails And h = tt
identity_fails Or h = tt
identity_fails f h = absurd (false≢true h)

as_item : (failure : Kind) (r : Result ℤ Kind) → FailsSo failure r → IsNumberOr failure (number_item r)
as_item failure (Ok z) h = tt
as_item failure (Err k) h = h

no_number : Chars ≡ Nums → ⊥
no_number h = cc

one_item : (failure : Kind) (x : Item) → type_of x ≡ Nums → IsNumberOr failure (Ok x)
one_item failure (Num z) h = tt
one_item failure (Char c) h = no_number h

next_item : (f : Scalar2) (failure : Kind) → ((a b : ℤ) → FailsSo failure (dyadic_on_numbers f a b)) → (x : Item) → type_of x ≡ Nums → (r : Result Item Kind) → IsNumberOr failure r
    → IsNumberOr failure (and_then r (dyadic_on_items f x))
next_item f failure step (Char c) h r g = absurd (no_number h)
next_item f failure step (Num a) h (Ok (Num b)) g = as_item failure (dyadic_on_numbers f a b) (step a b)
next_item f failure step (Num a) h (Ok (Char b)) g = absurd g
next_item f failure step (Num a) h (Err k) g = g

fold_fails : (f : Scalar2) → has_trees f ≡ true → (item : ℕ → Item) → ((j : ℕ) → type_of (item j) ≡ Nums) → (js : List ℕ) → IsNumberOr (failure_of f) (fold_right f (map item js))
fold_fails f h item typed [] = identity_fails f h
fold_fails f h item typed (j ∷ []) = one_item (failure_of f) (item j) (typed j)
fold_fails f h item typed (j ∷ i ∷ js) = next_item f (failure_of f) (step_fails f h) (item j) (typed j) (fold_right f (map item (i ∷ js))) (fold_fails f h item typed (i ∷ js))

this_error : (failure : Kind) (r : Result Item Kind) (k : Kind) → IsNumberOr failure r → r ≡ Err k → k ≡ failure
this_error failure (Ok x) k h e = absurd cc
this_error failure (Err j) k h e = let same : j ≡ k = cc in sym same ∙ h

-- ---- one failing line decides
decided : (rs : List (Result Item Kind)) (n : ℕ) (k : Kind) (d : Result Item Kind) → n < length rs → get_or rs n d ≡ Err k
    → ((m : ℕ) (j : Kind) → m < length rs → get_or rs m d ≡ Err j → j ≡ k) → all_or_first_error rs ≡ Err k
decided [] n k d below here alike = absurd (omega arith)
decided (Err e ∷ rs) n k d below here alike = ap Err (alike 0 e (omega arith) refl)
decided (Ok x ∷ rs) zero k d below here alike = absurd cc
decided (Ok x ∷ rs) (suc n) k d below here alike = ap (after x) (decided rs n k d (omega arith) here (λ m j h e. alike (suc m) j (omega arith) e))

-- an item of an array of numbers is a number
number_at : (a : ArrayValue) → IsArray a → a.item_type ≡ Nums → (index : List ℕ) → type_of (item_of a index) ≡ Nums
number_at a sound numbers index =
    let place = places_before a.shape index in
    elim (cases_Bool (nat_lt place (length a.items))) [
      | inl b ↦ sound.one_type place (fill a.item_type) (ltb-true _ _ b) ∙ numbers
      | inr o ↦ ap type_of (get_or_past a.items place (fill a.item_type) (ltb-false _ _ o)) ∙ ap (λ t. type_of (fill t)) numbers
    ]

-- the totals of an array of numbers when one line fails
pub one_decides : (f : Scalar2) (along : Along) (a : ArrayValue) (shape : List ℕ) (line : ℕ) (k : Kind) → has_trees f ≡ true → IsArray a → a.item_type ≡ Nums → line < size shape
    → reduce_item f along a (index_after shape line) ≡ Err k → collect Nums shape (reduce_item f along a) ≡ Err k
one_decides f along a shape line k h sound numbers below failed =
    let total = reduce_item f along a in
    let typed = number_at a sound numbers in
    let told = λ (index : List ℕ). fold_fails f h (λ (j : ℕ). item_of a (insert index (axis_at (length a.shape) along) j)) (λ j. typed (insert index (axis_at (length a.shape) along) j))
    (range_with_len 1 (places_along a.shape (axis_at (length a.shape) along))) in
    let many = length-map (indices shape) total ∙ length-indices shape in
    let at : get_or (map total (indices shape)) line (total []) ≡ Err k = get_or-map total (indices shape) line [] ∙ ap total (get_or-indices shape line below) ∙ failed in
    ap (with_items Nums shape) (decided (map total (indices shape)) line k (total []) (omega (arith, below, many)) at (λ m j l e.
    let there : total (get_or (indices shape) m []) ≡ Err j = sym (get_or-map total (indices shape) m []) ∙ e in
    this_error (failure_of f) _ j (told (get_or (indices shape) m [])) there ∙ sym (this_error (failure_of f) _ k (told (index_after shape line)) failed)))
