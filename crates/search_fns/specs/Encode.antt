-- Encode, A⊤B: the digits of numbers by radices.
use Rattle.std.{specs.Prelude.{ℕ, ◌-◌, ℤ, pos, ◌&&◌, if◌then◌else◌, List, [], ◌∷◌, ◌++◌, length, get_or, drop, Result, Ok, ◌+◌, false, map, Some}, specs.Ordering.{int_eq}, specs.List.{range_with_len}}
use Rattle.arrays_core.{specs.declared.item.Item.{Item}, specs.declared.item.ItemType.TheVariants.{Nums}, specs.declared.item.Kind.{Kind}, specs.declared.item.Kind.TheVariants.{Rank, Domain}, specs.Items.{and_then}, specs.Arrays.{ArrayValue, item_of}}
use Rattle.index_region.{specs.Checks.{Form, check, limited, whole}, specs.Arguments.{is_scalar, is_list, counts_as_numbers, number_of, numbers}, specs.Boxes.{whole_of}}
use Rattle.change_core.{specs.RuleModels.{RuleModel}, specs.Sourced.{Spread, two_rule}, specs.Ways.{back}}
use Rattle.item_fns.{specs.Numbers.{residue, floor_div, number_or_limit}, specs.Items.{number_item}}

-- RANK and DOMAIN in this order; then numbers along the axes of a, and then those of b
abbrev pub encode_form : ArrayValue → ArrayValue → Result Form Kind
encode_form a b =
    check (is_list a) Rank
    (check (counts_as_numbers a && counts_as_numbers b) Domain
    (limited (a.shape ++ b.shape) Nums))

-- the rest that a radix leaves to the radices before it
abbrev pub carried : ℤ → ℤ → Result ℤ Kind
carried radix z = if int_eq radix (pos 0) then Ok (pos 0) else number_or_limit (floor_div z radix)

-- the rest that several radices leave, with the last of them applied first
abbrev pub carried_through : List ℤ → ℤ → Result ℤ Kind
carried_through [] z = Ok z
carried_through (radix ∷ radices) z = and_then (carried_through radices z) (carried radix)

-- the digit of z by radix k, counted from 1, of the rest that the later radices leave
abbrev pub digit : List ℤ → ℕ → ℤ → Result ℤ Kind
digit radices k z = and_then (carried_through (drop k radices) z) (λ rest. Ok (residue (get_or radices (k - 1) (pos 0)) rest))

-- the radix of a digit: its index on the axis of a; a scalar a has one radix, and no axis
abbrev pub radix_place : ArrayValue → List ℕ → ℕ
radix_place a index = if is_scalar a then 1 else get_or index 0 1

-- the digit at an index list
abbrev pub encode_item : ArrayValue → ArrayValue → List ℕ → Result Item Kind
encode_item a b index = number_item (digit (numbers a) (radix_place a index) (number_of (item_of b (drop (length a.shape) index))))

-- the checks, and then the items
abbrev pub encode_whole : ArrayValue → ArrayValue → Result ArrayValue Kind
encode_whole a b = whole (encode_form a b) (encode_item a b)

-- The change rule of encode, A⊤B.

-- the places of the radices that a digit reads: its own radix and the later ones
abbrev pub radices_read : ArrayValue → List ℕ → List (List ℕ)
radices_read a index = if is_scalar a then [] ∷ [] else map (λ k. k ∷ []) (range_with_len (get_or index 0 1) (get_or a.shape 0 0 + 1 - get_or index 0 1))

-- the digits up to the last changed radix, of each number of b; all digits where a is a scalar
abbrev pub radices_box : List ℕ → ArrayValue → ArrayValue → Spread
radices_box shape a b region = Some (if is_scalar a then whole_of shape else ((1, (get_or region 0 (1, 0)).1) ∷ whole_of b.shape))

abbrev pub encode_rule : RuleModel
encode_rule = two_rule false encode_form encode_item
    (λ shape a b. record { reads = radices_read a; box = radices_box shape a b })
    (λ shape a b. back a.shape)
