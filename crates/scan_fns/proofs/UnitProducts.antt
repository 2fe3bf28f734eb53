-- The products of numbers that are 0, 1 or ¯1, from the left and from the right.
use Rattle.std.{proofs.Common.{◌≡◌, ℕ, zero, suc, ◌<◌, ◌≤◌, List, [], ◌∷◌, length, refl, ap, sym, ◌∙◌, arith, pos, negsuc, ℤ, ◌*ℤ◌, Ok}, specs.List.{All}}
use Rattle.{arrays_core.specs.Items.{all_or_first_error, and_then}, function_names.specs.declared.scalar.Scalar2.TheVariants.{Times}}
use Rattle.item_fns.{specs.Numbers.{dyadic_on_numbers}, specs.Folds.{folded}, proofs.Products.{times_assoc}}
use Rattle.scan_fns.{specs.LinearScan.{scanned}, specs.Prefixes.{IsUnit}, proofs.RunningSums.{run_each}}
use Rattle.reduce_fns.{specs.LeftFolds.{fold_on, folded_left}, proofs.Firsts.{same_rules}}

unit_case : (P : ℤ → Type 0) → P (pos 0) → P (pos 1) → P (negsuc 0) → (z : ℤ) → IsUnit z → P z
unit_case P a b c (pos zero) u = a
unit_case P a b c (pos (suc zero)) u = b
unit_case P a b c (pos (suc (suc n))) u = absurd (let h = u.near in omega arith)
unit_case P a b c (negsuc zero) u = c
unit_case P a b c (negsuc (suc n)) u = absurd (let h = u.near in omega arith)

-- a product of two
record IsProduct (a b : ℤ) : Type 0 where
  is : dyadic_on_numbers Times a b ≡ Ok (a *ℤ b)
  unit : IsUnit (a *ℤ b)

product_of_two : (a b : ℤ) → IsUnit a → IsUnit b → IsProduct a b
product_of_two a b u v =
    unit_case (λ x. IsProduct x b)
    (unit_case (λ y. IsProduct (pos 0) y) (record { is = refl; unit = nothing }) (record { is = refl; unit = nothing }) (record { is = refl; unit = nothing }) b v)
    (unit_case (λ y. IsProduct (pos 1) y) (record { is = refl; unit = nothing }) (record { is = refl; unit = one }) (record { is = refl; unit = less }) b v)
    (unit_case (λ y. IsProduct (negsuc 0) y) (record { is = refl; unit = nothing }) (record { is = refl; unit = less }) (record { is = refl; unit = one }) b v)
    a u
  where
    nothing : IsUnit (pos 0)
    nothing = record { near = omega arith }

    one : IsUnit (pos 1)
    one = record { near = omega arith }

    less : IsUnit (negsuc 0)
    less = record { near = omega arith }

-- the product of a list, from its last number
abbrev product_on : ℤ → List ℤ → ℤ
product_on x [] = x
product_on x (y ∷ rest) = x *ℤ product_on y rest

record IsProductOn (x : ℤ) (rest : List ℤ) : Type 0 where
  is : folded (dyadic_on_numbers Times) (x ∷ rest) ≡ Ok (product_on x rest)
  unit : IsUnit (product_on x rest)

from_right : (x : ℤ) (rest : List ℤ) → IsUnit x → All IsUnit rest → IsProductOn x rest
from_right x [] u all = record { is = refl; unit = u }
from_right x (y ∷ rest) u all =
    let later = from_right y rest (all 0 y (omega arith)) (λ k d below. all (suc k) d (omega arith)) in
    let next = product_of_two x (product_on y rest) u later.unit in
    record { is = ap (λ r. and_then r (dyadic_on_numbers Times x)) later.is ∙ next.is; unit = next.unit }

grouped : (x y : ℤ) (rest : List ℤ) → product_on (x *ℤ y) rest ≡ product_on x (y ∷ rest)
grouped x y [] = refl
grouped x y (z ∷ rest) = times_assoc x y (product_on z rest)

from_left : (x : ℤ) (rest : List ℤ) → IsUnit x → All IsUnit rest → fold_on (dyadic_on_numbers Times) x rest ≡ Ok (product_on x rest)
from_left x [] u all = refl
from_left x (y ∷ rest) u all =
    let next = product_of_two x y u (all 0 y (omega arith)) in
    ap (λ r. and_then r (λ z. fold_on (dyadic_on_numbers Times) z rest)) next.is
    ∙ from_left (x *ℤ y) rest next.unit (λ k d below. all (suc k) d (omega arith))
    ∙ ap Ok (grouped x y rest)

either_way : (xs : List ℤ) → All IsUnit xs → folded_left (dyadic_on_numbers Times) xs ≡ folded (dyadic_on_numbers Times) xs
either_way [] all = refl
either_way (x ∷ rest) all =
    let u = all 0 x (omega arith) in
    let later = λ (k : ℕ) (d : ℤ) (below : k < length rest). all (suc k) d (omega arith) in
    from_left x rest u later ∙ sym (from_right x rest u later).is

pub unit_products : (zs : List ℤ) (stride count : ℕ) → 0 < stride → 1 ≤ count → All IsUnit zs
    → scanned (folded_left (dyadic_on_numbers Times)) zs stride count ≡ scanned (folded (dyadic_on_numbers Times)) zs stride count
unit_products zs stride count apart some units =
    ap all_or_first_error (same_rules _ _ (length zs) (λ q below.
    either_way _ (run_each zs stride count apart some IsUnit (length zs) (λ k inside. units k (pos 0) inside) q below)))
