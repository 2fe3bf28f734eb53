-- Each error of an item of decode is LIMIT, so the error of the whole result is LIMIT.
use Rattle.std.{proofs.Common.{◌≡◌, ℕ, zero, suc, ◌<◌, Bool, true, false, List, [], ◌∷◌, length, get_or, map, ℤ, pos, ◌+ℤ◌, ◌*ℤ◌, Result, Ok, Err, refl, subst, arith}, specs.List.{range_with_len}}
use Rattle.arrays_core.{specs.declared.item.Kind.{Kind}, specs.declared.item.Kind.TheVariants.{Limit}, specs.Items.{all_or_first_error, and_then}, specs.Arrays.{ArrayValue}}
use Rattle.{item_fns.{specs.Numbers.{is_number, number_or_limit}, specs.Items.{number_item}}, index_region.specs.Checks.{check}}
use Rattle.search_fns.{specs.Decode.{worth, decoded, decode_item, digit_count}, specs.DecodedRows.{with_one_more}, proofs.Worths.{digit_pair}}

-- an error is LIMIT
abbrev pub IsLimited : {A : Type 0} → Result A Kind → Type 0
IsLimited (Ok x) = Unit {0}
IsLimited (Err e) = e ≡ Limit

pub limit_of : {A : Type 0} (r : Result A Kind) (e : Kind) → IsLimited r → r ≡ Err e → e ≡ Limit
limit_of {A = A} r e h is = subst (λ (t : Result A Kind). IsLimited t) is h

number_limited : (z : ℤ) → IsLimited (number_or_limit z)
number_limited z = decide (is_number z)
  where
    decide : (w : Bool) → IsLimited (check w Limit (Ok z))
    decide true = tt
    decide false = refl

then_limited : {A B : Type 0} (r : Result A Kind) (f : A → Result B Kind) → IsLimited r → ((x : A) → IsLimited (f x)) → IsLimited (and_then r f)
then_limited (Ok x) f h g = g x
then_limited (Err e) f h g = h

pub one_more_limited : (number radix digit : ℤ) → IsLimited (with_one_more number radix digit)
one_more_limited number radix digit = then_limited (number_or_limit (number *ℤ radix)) (λ product. number_or_limit (product +ℤ digit)) (number_limited (number *ℤ radix)) (λ product. number_limited (product +ℤ digit))

worth_limited : (value : ℤ) (digits : List (ℤ × ℤ)) → IsLimited (worth value digits)
worth_limited value [] = tt
worth_limited value ((radix, digit) ∷ rest) =
    then_limited (number_or_limit (value *ℤ radix)) (λ product. and_then (number_or_limit (product +ℤ digit)) (λ next. worth next rest)) (number_limited (value *ℤ radix))
    (λ product. then_limited (number_or_limit (product +ℤ digit)) (λ next. worth next rest) (number_limited (product +ℤ digit)) (λ next. worth_limited next rest))

item_limited : (r : Result ℤ Kind) → IsLimited r → IsLimited (number_item r)
item_limited (Ok z) h = tt
item_limited (Err e) h = h

pub decode_limited : (a b : ArrayValue) (index : List ℕ) → IsLimited (decode_item a b index)
decode_limited a b index =
    let digits = map (digit_pair a b index) (range_with_len 1 (digit_count a b)) in
    item_limited (decoded digits) (worth_limited (pos 0) digits)

-- where each error is LIMIT, an error makes the whole list LIMIT
pub limit_of_list : {A B : Type 0} (rule : A → Result B Kind) (xs : List A) (d : A) (k : ℕ) → ((x : A) → IsLimited (rule x)) → k < length xs → rule (get_or xs k d) ≡ Err Limit
    → all_or_first_error (map rule xs) ≡ Err Limit
limit_of_list rule [] d k h below is = absurd (omega arith)
limit_of_list rule (x ∷ xs) d zero h below is = rw is refl
limit_of_list {B = B} rule (x ∷ xs) d (suc k) h below is = first (rule x) (h x) (limit_of_list rule xs d k h (omega arith) is)
  where
    first : (r : Result B Kind) → IsLimited r → all_or_first_error (map rule xs) ≡ Err Limit → all_or_first_error (r ∷ map rule xs) ≡ Err Limit
    first (Ok y) limited later = rw later refl
    first (Err e) limited later = rw limited refl
