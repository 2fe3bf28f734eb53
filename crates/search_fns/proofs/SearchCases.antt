-- Worked cases of index of and of membership, computed.
use Rattle.std.proofs.Common.{refl, pos, [], ◌∷◌}
use Rattle.arrays_core.{specs.declared.item.Kind.TheVariants.{Rank}, proofs.CaseWords.{◌⇒◌, AllSame, nums, ints, chars, is, fails, scalar, integer, no_text, no_numbers, minus, greatest, least}}
use Rattle.search_fns.{specs.IndexOf.{index_of_whole}, specs.Member.{member_whole}}

-- ---- index of

index_of_cases : AllSame (
    -- 3 1 3⍳1 2 3: the first place of 3 is 1, and 2 is absent
    index_of_whole (nums (3 ∷ []) (3 ∷ 1 ∷ 3 ∷ [])) (nums (3 ∷ []) (1 ∷ 2 ∷ 3 ∷ [])) ⇒ is (nums (3 ∷ []) (2 ∷ 4 ∷ 1 ∷ [])) ∷
    -- 'abca'⍳'ca '
    index_of_whole (chars (4 ∷ []) (97 ∷ 98 ∷ 99 ∷ 97 ∷ [])) (chars (3 ∷ []) (99 ∷ 97 ∷ 32 ∷ [])) ⇒ is (nums (3 ∷ []) (3 ∷ 1 ∷ 5 ∷ [])) ∷
    -- 'ab'⍳97 98: a number never equals a character; and 97 98⍳'ab'
    index_of_whole (chars (2 ∷ []) (97 ∷ 98 ∷ [])) (nums (2 ∷ []) (97 ∷ 98 ∷ [])) ⇒ is (nums (2 ∷ []) (3 ∷ 3 ∷ [])) ∷
    index_of_whole (nums (2 ∷ []) (97 ∷ 98 ∷ [])) (chars (2 ∷ []) (97 ∷ 98 ∷ [])) ⇒ is (nums (2 ∷ []) (3 ∷ 3 ∷ [])) ∷  -- index of letters in codes
    -- a vector without items has no item
    index_of_whole no_numbers (nums (2 ∷ []) (1 ∷ 2 ∷ [])) ⇒ is (nums (2 ∷ []) (1 ∷ 1 ∷ [])) ∷
    index_of_whole no_text (chars [] (97 ∷ [])) ⇒ is (scalar 1) ∷  -- index of in no text
    -- of nothing: numbers, in its shape
    index_of_whole (nums (1 ∷ []) (1 ∷ [])) no_text ⇒ is no_numbers ∷
    index_of_whole no_text (nums (2 ∷ 0 ∷ 3 ∷ []) []) ⇒ is (nums (2 ∷ 0 ∷ 3 ∷ []) []) ∷  -- index of no numbers
    -- the shape of B, of each rank
    index_of_whole (nums (2 ∷ []) (5 ∷ 6 ∷ [])) (scalar 6) ⇒ is (scalar 2) ∷
    index_of_whole (nums (1 ∷ []) (6 ∷ [])) (nums (1 ∷ []) (6 ∷ [])) ⇒ is (nums (1 ∷ []) (1 ∷ [])) ∷  -- index of one
    index_of_whole (nums (2 ∷ []) (5 ∷ 6 ∷ [])) (nums (2 ∷ 2 ∷ []) (6 ∷ 5 ∷ 7 ∷ 6 ∷ [])) ⇒ is (nums (2 ∷ 2 ∷ []) (2 ∷ 1 ∷ 3 ∷ 2 ∷ [])) ∷  -- index of matrix
    index_of_whole (nums (2 ∷ []) (5 ∷ 6 ∷ [])) (nums (1 ∷ 2 ∷ 1 ∷ []) (6 ∷ 7 ∷ [])) ⇒ is (nums (1 ∷ 2 ∷ 1 ∷ []) (2 ∷ 3 ∷ [])) ∷  -- index of rank 3
    index_of_whole (nums (2 ∷ []) (5 ∷ 6 ∷ [])) (nums (1 ∷ 1 ∷ 1 ∷ 2 ∷ []) (6 ∷ 7 ∷ [])) ⇒ is (nums (1 ∷ 1 ∷ 1 ∷ 2 ∷ []) (2 ∷ 3 ∷ [])) ∷  -- index of rank 4
    -- numbers below 0 and the ends of 64 bits
    index_of_whole (ints (4 ∷ []) (minus 1 ∷ least ∷ greatest ∷ pos 1 ∷ [])) (ints (4 ∷ []) (greatest ∷ pos 1 ∷ minus 1 ∷ least ∷ [])) ⇒ is (nums (4 ∷ []) (3 ∷ 4 ∷ 1 ∷ 2 ∷ [])) ∷
    -- A is a vector: a scalar and a matrix are not
    index_of_whole (scalar 5) (scalar 5) ⇒ fails Rank ∷
    index_of_whole (nums (1 ∷ 1 ∷ []) (5 ∷ [])) no_text ⇒ fails Rank ∷  -- index of in matrix
    index_of_whole (chars (1 ∷ 1 ∷ 1 ∷ 1 ∷ []) (97 ∷ [])) (scalar 5) ⇒ fails Rank ∷  -- index of in rank 4
    [])
index_of_cases = refl

-- ---- membership

membership_cases : AllSame (
    -- 1 2 3∊3 1 3
    member_whole (nums (3 ∷ []) (1 ∷ 2 ∷ 3 ∷ [])) (nums (3 ∷ []) (3 ∷ 1 ∷ 3 ∷ [])) ⇒ is (nums (3 ∷ []) (1 ∷ 0 ∷ 1 ∷ [])) ∷
    -- 'ca '∊'abc'
    member_whole (chars (3 ∷ []) (99 ∷ 97 ∷ 32 ∷ [])) (chars (3 ∷ []) (97 ∷ 98 ∷ 99 ∷ [])) ⇒ is (nums (3 ∷ []) (1 ∷ 1 ∷ 0 ∷ [])) ∷
    -- 97∊'a' and 'a'∊97
    member_whole (scalar 97) (chars (1 ∷ []) (97 ∷ [])) ⇒ is (scalar 0) ∷
    member_whole (chars [] (97 ∷ [])) (nums (1 ∷ []) (97 ∷ [])) ⇒ is (scalar 0) ∷  -- member letter of codes
    -- of nothing, and nothing
    member_whole (nums (2 ∷ []) (0 ∷ 1 ∷ [])) no_numbers ⇒ is (nums (2 ∷ []) (0 ∷ 0 ∷ [])) ∷
    member_whole (chars [] (32 ∷ [])) no_text ⇒ is (scalar 0) ∷  -- member of no text
    member_whole no_text (scalar 5) ⇒ is no_numbers ∷  -- member no text
    member_whole (nums (0 ∷ 2 ∷ []) []) no_text ⇒ is (nums (0 ∷ 2 ∷ []) []) ∷  -- member no numbers
    -- A and B of each rank; the shape of A
    member_whole (nums (2 ∷ 2 ∷ []) (1 ∷ 2 ∷ 3 ∷ 1 ∷ [])) (scalar 1) ⇒ is (nums (2 ∷ 2 ∷ []) (1 ∷ 0 ∷ 0 ∷ 1 ∷ [])) ∷
    member_whole (scalar 4) (nums (2 ∷ 2 ∷ []) (1 ∷ 2 ∷ 3 ∷ 4 ∷ [])) ⇒ is (scalar 1) ∷  -- member of matrix
    member_whole (nums (1 ∷ []) (4 ∷ [])) (nums (1 ∷ 2 ∷ 1 ∷ []) (3 ∷ 4 ∷ [])) ⇒ is (nums (1 ∷ []) (1 ∷ [])) ∷  -- member of rank 3
    member_whole (nums (2 ∷ 1 ∷ 1 ∷ []) (4 ∷ 5 ∷ [])) (nums (1 ∷ []) (5 ∷ [])) ⇒ is (nums (2 ∷ 1 ∷ 1 ∷ []) (0 ∷ 1 ∷ [])) ∷  -- member rank 3
    member_whole (chars (1 ∷ 1 ∷ 1 ∷ 1 ∷ []) (97 ∷ [])) (chars (1 ∷ 1 ∷ 1 ∷ 2 ∷ []) (98 ∷ 97 ∷ [])) ⇒ is (nums (1 ∷ 1 ∷ 1 ∷ 1 ∷ []) (1 ∷ [])) ∷  -- member rank 4
    -- numbers below 0 and the ends of 64 bits
    member_whole (ints (3 ∷ []) (least ∷ minus 1 ∷ greatest ∷ [])) (ints (2 ∷ []) (greatest ∷ least ∷ [])) ⇒ is (nums (3 ∷ []) (1 ∷ 0 ∷ 1 ∷ [])) ∷
    member_whole (integer (minus 1)) (scalar 1) ⇒ is (scalar 0) ∷  -- member of the other sign
    [])
membership_cases = refl
