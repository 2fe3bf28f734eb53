-- Worked cases of encode and of decode, computed.
use Rattle.std.{proofs.Common.{refl, pos, [], ◌∷◌}, specs.Prelude.{◌-◌, ◌^◌}}
use Rattle.arrays_core.{specs.declared.item.Kind.TheVariants.{Rank, Length, Domain, Limit}, proofs.CaseWords.{◌⇒◌, AllSame, nums, ints, chars, is, fails, scalar, integer, no_text, no_numbers, minus, greatest, least}}
use Rattle.search_fns.{specs.Encode.{encode_whole}, specs.Decode.{decode_whole}}

-- ---- encode

encode_cases : AllSame (
    -- 24 60 60⊤3723: 1 hour, 2 minutes, 3 seconds; 10 10⊤345 keeps the last two digits
    encode_whole (nums (3 ∷ []) (24 ∷ 60 ∷ 60 ∷ [])) (scalar 3723) ⇒ is (nums (3 ∷ []) (1 ∷ 2 ∷ 3 ∷ [])) ∷
    encode_whole (nums (2 ∷ []) (10 ∷ 10 ∷ [])) (scalar 345) ⇒ is (nums (2 ∷ []) (4 ∷ 5 ∷ [])) ∷  -- encode last digits
    -- 0 10⊤345: a radix 0 takes the whole rest; 10 0⊤345: it leaves 0
    encode_whole (nums (2 ∷ []) (0 ∷ 10 ∷ [])) (scalar 345) ⇒ is (nums (2 ∷ []) (34 ∷ 5 ∷ [])) ∷
    encode_whole (nums (2 ∷ []) (10 ∷ 0 ∷ [])) (scalar 345) ⇒ is (nums (2 ∷ []) (0 ∷ 345 ∷ [])) ∷  -- encode none left
    -- 10 10⊤¯1: the rest is rounded down; 0 10⊤¯15
    encode_whole (nums (2 ∷ []) (10 ∷ 10 ∷ [])) (integer (minus 1)) ⇒ is (nums (2 ∷ []) (9 ∷ 9 ∷ [])) ∷
    encode_whole (nums (2 ∷ []) (0 ∷ 10 ∷ [])) (integer (minus 15)) ⇒ is (ints (2 ∷ []) (minus 2 ∷ pos 5 ∷ [])) ∷  -- encode below 0 whole
    -- 0 ¯10⊤15 and 0 ¯10⊤¯15
    encode_whole (ints (2 ∷ []) (pos 0 ∷ minus 10 ∷ [])) (scalar 15) ⇒ is (ints (2 ∷ []) (minus 2 ∷ minus 5 ∷ [])) ∷
    encode_whole (ints (2 ∷ []) (pos 0 ∷ minus 10 ∷ [])) (integer (minus 15)) ⇒ is (ints (2 ∷ []) (pos 1 ∷ minus 5 ∷ [])) ∷  -- encode negative by negative
    -- a scalar A has no axis: 10⊤345 12, and (,10)⊤345 12
    encode_whole (scalar 10) (nums (2 ∷ []) (345 ∷ 12 ∷ [])) ⇒ is (nums (2 ∷ []) (5 ∷ 2 ∷ [])) ∷
    encode_whole (nums (1 ∷ []) (10 ∷ [])) (nums (2 ∷ []) (345 ∷ 12 ∷ [])) ⇒ is (nums (1 ∷ 2 ∷ []) (5 ∷ 2 ∷ [])) ∷  -- encode by one
    -- the digits of each number stand along the first axis
    encode_whole (nums (2 ∷ []) (10 ∷ 10 ∷ [])) (nums (3 ∷ []) (12 ∷ 34 ∷ 5 ∷ [])) ⇒ is (nums (2 ∷ 3 ∷ []) (1 ∷ 3 ∷ 0 ∷ 2 ∷ 4 ∷ 5 ∷ [])) ∷
    encode_whole (nums (2 ∷ []) (10 ∷ 10 ∷ [])) (nums (1 ∷ 2 ∷ []) (12 ∷ 34 ∷ [])) ⇒ is (nums (2 ∷ 1 ∷ 2 ∷ []) (1 ∷ 3 ∷ 2 ∷ 4 ∷ [])) ∷  -- encode matrix
    encode_whole (nums (2 ∷ []) (10 ∷ 10 ∷ [])) (nums (1 ∷ 1 ∷ 1 ∷ []) (12 ∷ [])) ⇒ is (nums (2 ∷ 1 ∷ 1 ∷ 1 ∷ []) (1 ∷ 2 ∷ [])) ∷  -- encode rank 3
    encode_whole (scalar 10) (nums (1 ∷ 1 ∷ 1 ∷ 1 ∷ []) (12 ∷ [])) ⇒ is (nums (1 ∷ 1 ∷ 1 ∷ 1 ∷ []) (2 ∷ [])) ∷  -- encode rank 4 by scalar
    -- a vector A before rank 4 is of rank 5, also where there are no items
    encode_whole (nums (2 ∷ []) (10 ∷ 10 ∷ [])) (nums (1 ∷ 1 ∷ 1 ∷ 1 ∷ []) (12 ∷ [])) ⇒ fails Limit ∷
    encode_whole no_numbers (nums (0 ∷ 1 ∷ 1 ∷ 1 ∷ []) []) ⇒ fails Limit ∷  -- encode rank 4 without items
    -- without items, of either type
    encode_whole (nums (2 ∷ []) (10 ∷ 10 ∷ [])) no_text ⇒ is (nums (2 ∷ 0 ∷ []) []) ∷
    encode_whole no_text (nums (3 ∷ []) (1 ∷ 2 ∷ 3 ∷ [])) ⇒ is (nums (0 ∷ 3 ∷ []) []) ∷  -- encode by no text
    encode_whole no_numbers (scalar 5) ⇒ is no_numbers ∷  -- encode none by none
    -- the ends of 64 bits; a quotient beyond them is LIMIT where a radix in front needs it
    encode_whole (nums (2 ∷ []) (0 ∷ 2 ^ 32 ∷ [])) (integer greatest) ⇒ is (nums (2 ∷ []) ((2 ^ 31 - 1) ∷ (2 ^ 32 - 1) ∷ [])) ∷
    encode_whole (nums (2 ∷ []) (0 ∷ 2 ^ 32 ∷ [])) (integer least) ⇒ is (ints (2 ∷ []) (minus (2 ^ 31) ∷ pos 0 ∷ [])) ∷  -- encode least
    encode_whole (ints (2 ∷ []) (pos 0 ∷ least ∷ [])) (scalar 1) ⇒ is (ints (2 ∷ []) (minus 1 ∷ minus (2 ^ 63 - 1) ∷ [])) ∷  -- encode by least
    encode_whole (ints (2 ∷ []) (pos 0 ∷ minus 1 ∷ [])) (integer least) ⇒ fails Limit ∷  -- encode beyond
    encode_whole (ints (3 ∷ []) (pos 7 ∷ pos 0 ∷ minus 1 ∷ [])) (integer least) ⇒ fails Limit ∷  -- encode beyond before 0
    encode_whole (ints (1 ∷ []) (minus 1 ∷ [])) (integer least) ⇒ is (nums (1 ∷ []) (0 ∷ [])) ∷  -- encode within at last
    encode_whole (integer (minus 1)) (integer least) ⇒ is (scalar 0) ∷  -- encode by scalar least
    -- RANK goes before DOMAIN, DOMAIN before LIMIT
    encode_whole (chars (1 ∷ 1 ∷ []) (97 ∷ [])) (chars (1 ∷ []) (97 ∷ [])) ⇒ fails Rank ∷
    encode_whole (nums (1 ∷ []) (10 ∷ [])) (chars (1 ∷ 1 ∷ 1 ∷ 1 ∷ []) (97 ∷ [])) ⇒ fails Domain ∷  -- encode domain
    encode_whole (chars [] (97 ∷ [])) (scalar 5) ⇒ fails Domain ∷  -- encode domain of radices
    [])
encode_cases = refl

-- ---- decode

decode_cases : AllSame (
    -- 24 60 60⊥1 2 3; 10⊥3 4 5; 2⊥1 0 1
    decode_whole (nums (3 ∷ []) (24 ∷ 60 ∷ 60 ∷ [])) (nums (3 ∷ []) (1 ∷ 2 ∷ 3 ∷ [])) ⇒ is (scalar 3723) ∷
    decode_whole (scalar 10) (nums (3 ∷ []) (3 ∷ 4 ∷ 5 ∷ [])) ⇒ is (scalar 345) ∷  -- decode by scalar
    decode_whole (nums (1 ∷ []) (2 ∷ [])) (nums (3 ∷ []) (1 ∷ 0 ∷ 1 ∷ [])) ⇒ is (scalar 5) ∷  -- decode by one
    -- the first radix is before the first digit: 0 10⊥3 4; a digit may be above its radix
    decode_whole (nums (2 ∷ []) (0 ∷ 10 ∷ [])) (nums (2 ∷ []) (3 ∷ 4 ∷ [])) ⇒ is (scalar 34) ∷
    decode_whole (scalar 10) (nums (2 ∷ []) (12 ∷ 34 ∷ [])) ⇒ is (scalar 154) ∷  -- decode great digits
    -- radix 0 and radices below 0: 10 0⊥3 4, ¯10⊥1 2 3, 10⊥¯1 5
    decode_whole (nums (2 ∷ []) (10 ∷ 0 ∷ [])) (nums (2 ∷ []) (3 ∷ 4 ∷ [])) ⇒ is (scalar 4) ∷
    decode_whole (integer (minus 10)) (nums (3 ∷ []) (1 ∷ 2 ∷ 3 ∷ [])) ⇒ is (scalar 83) ∷  -- decode by negative
    decode_whole (scalar 10) (ints (2 ∷ []) (minus 1 ∷ pos 5 ∷ [])) ⇒ is (integer (minus 5)) ∷  -- decode negative digits
    -- a scalar B, and a first axis of length 1, is the digit at each radix: 10 10 10⊥1
    decode_whole (nums (3 ∷ []) (10 ∷ 10 ∷ 10 ∷ [])) (scalar 1) ⇒ is (scalar 111) ∷
    decode_whole (nums (3 ∷ []) (10 ∷ 10 ∷ 10 ∷ [])) (nums (1 ∷ []) (2 ∷ [])) ⇒ is (scalar 222) ∷  -- decode one
    decode_whole (nums (2 ∷ []) (10 ∷ 10 ∷ [])) (nums (1 ∷ 3 ∷ []) (1 ∷ 2 ∷ 3 ∷ [])) ⇒ is (nums (3 ∷ []) (11 ∷ 22 ∷ 33 ∷ [])) ∷  -- decode one row
    decode_whole (scalar 10) (scalar 7) ⇒ is (scalar 7) ∷  -- decode both single
    -- the digits stand along the first axis
    decode_whole (scalar 10) (nums (2 ∷ 3 ∷ []) (1 ∷ 3 ∷ 0 ∷ 2 ∷ 4 ∷ 5 ∷ [])) ⇒ is (nums (3 ∷ []) (12 ∷ 34 ∷ 5 ∷ [])) ∷
    decode_whole (nums (2 ∷ []) (10 ∷ 10 ∷ [])) (nums (2 ∷ 1 ∷ 2 ∷ []) (1 ∷ 3 ∷ 2 ∷ 4 ∷ [])) ⇒ is (nums (1 ∷ 2 ∷ []) (12 ∷ 34 ∷ [])) ∷  -- decode rank 3
    decode_whole (nums (2 ∷ []) (10 ∷ 10 ∷ [])) (nums (2 ∷ 1 ∷ 1 ∷ 1 ∷ []) (1 ∷ 2 ∷ [])) ⇒ is (nums (1 ∷ 1 ∷ 1 ∷ []) (12 ∷ [])) ∷  -- decode rank 4
    -- no digit is 0: ''⊥5, ''⊥1 3⍴5, 10⊥⍳0, 10⊥0 2⍴'', ''⊥''
    decode_whole no_text (scalar 5) ⇒ is (scalar 0) ∷
    decode_whole no_numbers (nums (1 ∷ 3 ∷ []) (5 ∷ 5 ∷ 5 ∷ [])) ⇒ is (nums (3 ∷ []) (0 ∷ 0 ∷ 0 ∷ [])) ∷  -- decode row by none
    decode_whole (scalar 10) no_numbers ⇒ is (scalar 0) ∷  -- decode no numbers
    decode_whole (scalar 10) (chars (0 ∷ 2 ∷ []) []) ⇒ is (nums (2 ∷ []) (0 ∷ 0 ∷ [])) ∷  -- decode no rows
    decode_whole no_text no_text ⇒ is (scalar 0) ∷  -- decode none by none
    decode_whole (nums (2 ∷ []) (10 ∷ 10 ∷ [])) (nums (2 ∷ 0 ∷ []) []) ⇒ is no_numbers ∷  -- decode no columns
    -- the ends of 64 bits; each product and each sum is held to them
    decode_whole (nums (2 ∷ []) (0 ∷ 2 ^ 32 ∷ [])) (nums (2 ∷ []) ((2 ^ 31 - 1) ∷ (2 ^ 32 - 1) ∷ [])) ⇒ is (integer greatest) ∷
    decode_whole (nums (2 ∷ []) (0 ∷ 2 ^ 32 ∷ [])) (ints (2 ∷ []) (minus (2 ^ 31) ∷ pos 0 ∷ [])) ⇒ is (integer least) ∷  -- decode least
    decode_whole (scalar 2) (ints (1 ∷ []) (greatest ∷ [])) ⇒ is (integer greatest) ∷  -- decode first digit greatest
    decode_whole (scalar 2) (ints (2 ∷ []) (pos (2 ^ 62) ∷ minus 1 ∷ [])) ⇒ fails Limit ∷  -- decode product beyond
    decode_whole (scalar 1) (ints (2 ∷ []) (greatest ∷ pos 1 ∷ [])) ⇒ fails Limit ∷  -- decode sum beyond
    decode_whole (scalar 1) (ints (2 ∷ []) (least ∷ minus 1 ∷ [])) ⇒ fails Limit ∷  -- decode sum below
    decode_whole (scalar 1) (ints (3 ∷ []) (greatest ∷ pos 1 ∷ minus 1 ∷ [])) ⇒ fails Limit ∷  -- decode beyond and back
    -- RANK goes before LENGTH, LENGTH before DOMAIN, DOMAIN before LIMIT
    decode_whole (chars (2 ∷ 1 ∷ []) (97 ∷ 98 ∷ [])) (nums (3 ∷ []) (1 ∷ 2 ∷ 3 ∷ [])) ⇒ fails Rank ∷
    decode_whole (nums (1 ∷ 1 ∷ []) (10 ∷ [])) (scalar 5) ⇒ fails Rank ∷  -- decode rank of one
    decode_whole (chars (2 ∷ []) (97 ∷ 98 ∷ [])) (nums (3 ∷ []) (1 ∷ 2 ∷ 3 ∷ [])) ⇒ fails Length ∷  -- decode length
    decode_whole (nums (2 ∷ []) (10 ∷ 10 ∷ [])) no_numbers ⇒ fails Length ∷  -- decode length of none
    decode_whole no_numbers (nums (2 ∷ []) (1 ∷ 2 ∷ [])) ⇒ fails Length ∷  -- decode none of some
    decode_whole (scalar 10) (chars (2 ∷ []) (97 ∷ 98 ∷ [])) ⇒ fails Domain ∷  -- decode domain
    decode_whole (chars [] (97 ∷ [])) (ints (2 ∷ []) (greatest ∷ greatest ∷ [])) ⇒ fails Domain ∷  -- decode domain of radices
    [])
decode_cases = refl
