-- Worked boxes, computed: the places of a result that a box of an argument changes.
use Rattle.std.proofs.Common.{[], ◌∷◌, refl, None}
use Rattle.arrays_core.{specs.Arrays.{ArrayValue}, proofs.CaseWords.{◌⇒◌, AllSame, nums, scalar, no_numbers, no_text}}
use Rattle.change_core.{specs.declared.reach.Reach.TheVariants.{Anew, Inside, Unmoved}, specs.Reaches.{reach_of}}
use Rattle.selection_fns.proofs.BoxCases.{table, three, place, places, block, one, two}
use Rattle.search_fns.{specs.IndexOf.{index_of_rule}, specs.Member.{member_rule}, specs.Encode.{encode_rule}, specs.Decode.{decode_rule}}

-- 1 2 3 4, and a table of 3 rows and 5 columns
abbrev four : ArrayValue
four = nums (4 ∷ []) (1 ∷ 2 ∷ 3 ∷ 4 ∷ [])

abbrev wide : ArrayValue
wide = nums (3 ∷ 5 ∷ []) (0 ∷ 0 ∷ 0 ∷ 0 ∷ 0 ∷ 0 ∷ 0 ∷ 0 ∷ 0 ∷ 0 ∷ 0 ∷ 0 ∷ 0 ∷ 0 ∷ 0 ∷ [])

-- ---- index of

index_of_cases : AllSame (
    reach_of index_of_rule (three ∷ four ∷ []) (None ∷ places 2 3 ∷ []) ⇒ one 2 3 ∷  -- index of by right
    reach_of index_of_rule (three ∷ four ∷ []) (places 3 3 ∷ None ∷ []) ⇒ one 1 4 ∷  -- index of by left
    reach_of index_of_rule (three ∷ table ∷ []) (places 3 3 ∷ block 2 2 1 1 ∷ []) ⇒ two 1 2 1 3 ∷  -- index of by both
    reach_of index_of_rule (three ∷ scalar 8 ∷ []) (places 1 1 ∷ None ∷ []) ⇒ Inside [] ∷  -- index of scalar by left
    reach_of index_of_rule (three ∷ scalar 8 ∷ []) (None ∷ place ∷ []) ⇒ Inside [] ∷  -- index of scalar by right
    -- a result without items
    reach_of index_of_rule (three ∷ no_numbers ∷ []) (places 1 2 ∷ None ∷ []) ⇒ Unmoved ∷
    -- where the checks fail
    reach_of index_of_rule (table ∷ four ∷ []) (None ∷ places 1 1 ∷ []) ⇒ Anew ∷
    [])
index_of_cases = refl

-- ---- membership

membership_cases : AllSame (
    reach_of member_rule (table ∷ three ∷ []) (block 1 2 2 2 ∷ None ∷ []) ⇒ two 1 2 2 2 ∷  -- member by left
    reach_of member_rule (table ∷ three ∷ []) (None ∷ places 1 1 ∷ []) ⇒ two 1 2 1 3 ∷  -- member by right
    reach_of member_rule (four ∷ scalar 3 ∷ []) (places 2 2 ∷ place ∷ []) ⇒ one 1 4 ∷  -- member by both
    reach_of member_rule (no_text ∷ three ∷ []) (None ∷ places 1 1 ∷ []) ⇒ Unmoved ∷  -- member none
    [])
membership_cases = refl

-- ---- encode: 24 60 60⊤B

abbrev clock : ArrayValue
clock = nums (3 ∷ []) (24 ∷ 60 ∷ 60 ∷ [])

encode_24_60_60_b_cases : AllSame (
    reach_of encode_rule (clock ∷ four ∷ []) (places 2 2 ∷ None ∷ []) ⇒ two 1 2 1 4 ∷  -- encode by second
    reach_of encode_rule (clock ∷ four ∷ []) (places 1 1 ∷ None ∷ []) ⇒ two 1 1 1 4 ∷  -- encode by first
    reach_of encode_rule (clock ∷ four ∷ []) (None ∷ places 3 4 ∷ []) ⇒ two 1 3 3 4 ∷  -- encode by right
    reach_of encode_rule (clock ∷ four ∷ []) (places 1 2 ∷ places 3 3 ∷ []) ⇒ two 1 3 1 4 ∷  -- encode by both
    reach_of encode_rule (scalar 2 ∷ four ∷ []) (place ∷ None ∷ []) ⇒ one 1 4 ∷  -- encode by scalar
    reach_of encode_rule (clock ∷ scalar 99 ∷ []) (places 2 2 ∷ None ∷ []) ⇒ one 1 2 ∷  -- encode of scalar by radices
    reach_of encode_rule (clock ∷ scalar 99 ∷ []) (None ∷ place ∷ []) ⇒ one 1 3 ∷  -- encode of scalar
    reach_of encode_rule (scalar 2 ∷ scalar 99 ∷ []) (place ∷ None ∷ []) ⇒ Inside [] ∷  -- encode two scalars
    reach_of encode_rule (clock ∷ no_numbers ∷ []) (places 2 2 ∷ None ∷ []) ⇒ Unmoved ∷  -- encode of none
    reach_of encode_rule (no_numbers ∷ four ∷ []) (None ∷ places 2 2 ∷ []) ⇒ Unmoved ∷  -- encode by none
    [])
encode_24_60_60_b_cases = refl

-- ---- decode: 24 60 60⊥B

decode_24_60_60_b_cases : AllSame (
    reach_of decode_rule (clock ∷ wide ∷ []) (None ∷ block 2 2 4 4 ∷ []) ⇒ one 4 4 ∷  -- decode block
    reach_of decode_rule (clock ∷ wide ∷ []) (places 3 3 ∷ None ∷ []) ⇒ one 1 5 ∷  -- decode by left
    reach_of decode_rule (clock ∷ wide ∷ []) (places 3 3 ∷ block 1 3 2 3 ∷ []) ⇒ one 1 5 ∷  -- decode by both
    reach_of decode_rule (scalar 2 ∷ four ∷ []) (None ∷ places 2 3 ∷ []) ⇒ Inside [] ∷  -- decode vector
    reach_of decode_rule (clock ∷ scalar 1 ∷ []) (None ∷ place ∷ []) ⇒ Inside [] ∷  -- decode scalar
    reach_of decode_rule (clock ∷ scalar 1 ∷ []) (places 1 1 ∷ None ∷ []) ⇒ Inside [] ∷  -- decode scalar by left
    reach_of decode_rule (scalar 2 ∷ nums (3 ∷ 0 ∷ []) [] ∷ []) (place ∷ None ∷ []) ⇒ Unmoved ∷  -- decode no columns
    [])
decode_24_60_60_b_cases = refl
