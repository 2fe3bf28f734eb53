-- Decode, A⊥B: numbers from their digits by radices.
use Rattle.std.{specs.Prelude.{ℕ, nat_eq, ℤ, pos, ◌+ℤ◌, ◌*ℤ◌, ◌&&◌, ◌||◌, if◌then◌else◌, List, [], ◌∷◌, map, length, drop, Result, Ok, false, Some}, specs.List.{range_with_len}}
use Rattle.arrays_core.{specs.declared.item.Item.{Item}, specs.declared.item.ItemType.TheVariants.{Nums}, specs.declared.item.Kind.{Kind}, specs.declared.item.Kind.TheVariants.{Rank, Length, Domain}, specs.Items.{and_then}, specs.Arrays.{ArrayValue, item_of}, specs.Shapes.{indices}}
use Rattle.index_region.{specs.Checks.{Form, check, limited, whole}, specs.Arguments.{is_scalar, is_list, has_one_item, counts_as_numbers, number_of}, specs.Axes.{places_along}}
use Rattle.change_core.{specs.RuleModels.{Use, RuleModel}, specs.Sourced.{two_rule}, specs.Ways.{everywhere}}
use Rattle.scalar_fns.specs.ScalarExtension.{extended}
use Rattle.item_fns.{specs.Numbers.{number_or_limit}, specs.Items.{number_item}}

-- RANK, LENGTH and DOMAIN in this order; then numbers along all axes of b but the first
abbrev pub decode_form : ArrayValue → ArrayValue → Result Form Kind
decode_form a b =
    let n = places_along b.shape 0 in
    check (is_list a) Rank
    (check (has_one_item a || (nat_eq n 1 || nat_eq (length a.items) n)) Length
    (check (counts_as_numbers a && counts_as_numbers b) Domain
    (limited (drop 1 b.shape) Nums)))

-- the number of digits: a single radix extends to the digits, else a first axis of length 1 extends to the radices
abbrev pub digit_count : ArrayValue → ArrayValue → ℕ
digit_count a b = if has_one_item a then places_along b.shape 0 else length a.items

-- the radix of digit k; a single item of a is the radix of every digit
abbrev pub radix_at : ArrayValue → ℕ → ℤ
radix_at a k = number_of (extended a (k ∷ []))

-- digit k at an index list of the other axes; on a first axis of length 1 all digits are the same
abbrev pub digit_at : ArrayValue → List ℕ → ℕ → ℤ
digit_at b index k = number_of (item_of b (if is_scalar b then [] else ((if nat_eq (places_along b.shape 0) 1 then 1 else k) ∷ index)))

-- the value after further digits: for each, times its radix, plus the digit
abbrev pub worth : ℤ → List (ℤ × ℤ) → Result ℤ Kind
worth value [] = Ok value
worth value ((radix, digit) ∷ rest) = and_then (number_or_limit (value *ℤ radix)) (λ product. and_then (number_or_limit (product +ℤ digit)) (λ next. worth next rest))

-- a number begins at 0, so the radix of its first digit has no effect
abbrev pub decoded : List (ℤ × ℤ) → Result ℤ Kind
decoded digits = worth (pos 0) digits

-- the number of the digits at an index list
abbrev pub decode_item : ArrayValue → ArrayValue → List ℕ → Result Item Kind
decode_item a b index = number_item (decoded (map (λ k. (radix_at a k, digit_at b index k)) (range_with_len 1 (digit_count a b))))

-- the checks, and then the items
abbrev pub decode_whole : ArrayValue → ArrayValue → Result ArrayValue Kind
decode_whole a b = whole (decode_form a b) (decode_item a b)

-- The change rule of decode, A⊥B.

-- a number reads its digits along the first axis, and changes with them
abbrev pub digits_use : ArrayValue → Use
digits_use b = record {
  reads = λ index. if is_scalar b then [] ∷ [] else map (λ k. k ∷ index) (range_with_len 1 (places_along b.shape 0));
  box = λ region. Some (drop 1 region);
}

-- each number reads all radices
abbrev pub decode_rule : RuleModel
decode_rule = two_rule false decode_form decode_item (λ shape a b. everywhere shape (λ _. indices a.shape)) (λ shape a b. digits_use b)
