-- Decode, a row of digits at a time.
use Rattle.std.{proofs.Common.{◌≡◌, ℕ, ◌+◌, ◌-◌, ◌*◌, ◌<◌, ◌≤◌, false, List, [], ◌∷◌, length, get_or, map, take, drop, ℤ, pos, Ok, Err, refl, ap, sym, ◌∙◌, arith, Result}, specs.Prelude.{nat_eq, if◌then◌else◌}, specs.List.{range_with_len}, proofs.lemmas.Bool.Decides.{nat_tests}}
use Rattle.std.{proofs.lemmas.List.{length-map, length-take, length-drop, get_or-take, get_or-drop}, proofs.Math.ListN.{get_or-map}, proofs.Math.Nat.{mul-le-mul_right}}
use Rattle.arrays_core.{specs.declared.item.Item.TheVariants.{Num}, specs.declared.item.ItemType.TheVariants.{Nums}, specs.declared.item.Item.{Item}, specs.declared.item.Kind.{Kind}, specs.declared.item.Kind.TheVariants.{Limit}, specs.Items.{fill, and_then}, specs.Shapes.{size, indices, places_before, index_after}}
use Rattle.arrays_core.{specs.Arrays.{ArrayValue, collect, with_items}, proofs.Order.{given_in_order, places_before-index_after, length-indices, get_or-indices}}
use Rattle.{item_fns.specs.Items.{number_item}, index_region.{specs.Arguments.{number_of}, specs.Axes.{places_along}}}
use Rattle.search_fns.{specs.Decode.{decode_item, digit_count, radix_at, digit_at, worth, decoded}, specs.DecodedRows.{with_one_more, HaveOneMore, LeavesNumbers, AreDecoded, HasLimit}, proofs.Worths.{digits_after, digit_pair, one_more_digit, number_there}, proofs.DecodeErrors.{limit_of_list, decode_limited}}

-- ---- a partial number: the remaining digits make it the number of all digits

pub record IsOnTheWay (a b : ArrayValue) (index : List ℕ) (count before : ℕ) (value : ℤ) : Type 0 where
  pub is : worth value (digits_after a b index count before) ≡ decoded (map (digit_pair a b index) (range_with_len 1 count))

module _ (a b : ArrayValue) (index : List ℕ) (count : ℕ) where
  abbrev next_of : ℕ → ℤ → Result ℤ Kind
  next_of before value = with_one_more value (radix_at a (before + 1)) (digit_at b index (before + 1))

  pub one_further : (before : ℕ) (value next : ℤ) → before < count → next_of before value ≡ Ok next → IsOnTheWay a b index count before value → IsOnTheWay a b index count (before + 1) next
  one_further before value next h gave so_far =
      record { is = ap (λ r. and_then r (λ z. worth z (digits_after a b index count (before + 1)))) (sym gave) ∙ sym (one_more_digit a b index count before value h) ∙ so_far.is }

  pub no_further : (before : ℕ) (value : ℤ) (e : Kind) → before < count → next_of before value ≡ Err e → IsOnTheWay a b index count before value
      → decoded (map (digit_pair a b index) (range_with_len 1 count)) ≡ Err e
  no_further before value e h failed so_far =
      sym so_far.is ∙ one_more_digit a b index count before value h ∙ ap (λ r. and_then r (λ z. worth z (digits_after a b index count (before + 1)))) failed

-- ---- the places of the digits of a row

-- the row of a digit, counted from 1
abbrev pub row_of : List ℕ → ℕ → ℕ
row_of shape k = if nat_eq (places_along shape 0) 1 then 1 else k

rows_make : (shape : List ℕ) → size shape ≡ places_along shape 0 * size (drop 1 shape)
rows_make [] = refl
rows_make (n ∷ shape) = refl

-- a row ends within all of them
row_within : (shape : List ℕ) (r : ℕ) → 1 ≤ r → r ≤ places_along shape 0 → (r - 1) * size (drop 1 shape) + size (drop 1 shape) ≤ size shape
row_within shape r low high =
    let s = size (drop 1 shape) in
    let next : r ≡ r - 1 + 1 = omega arith in
    let inside : r * s ≤ places_along shape 0 * s = mul-le-mul_right s high in
    let there = ap (λ m. m * s) next ∙ (one_row_more (r - 1) s) in
    omega (arith, rows_make shape)
  where
    one_row_more : (m s : ℕ) → (m + 1) * s ≡ m * s + s
    one_row_more m s = omega arith

pub row_ends : (b : ArrayValue) (digits : List ℤ) (r w : ℕ) → b.items ≡ map (λ z. Num z) digits → length b.items ≡ size b.shape → w ≡ size (drop 1 b.shape)
    → 1 ≤ r → r ≤ places_along b.shape 0 → (r - 1) * w + w ≤ length digits
row_ends b digits r w items sized wide low high =
    let long : length digits ≡ size b.shape = sym (length-map digits (λ z. Num z)) ∙ ap length (sym items) ∙ sized in
    rw (wide, long) (row_within b.shape r low high)

place_there : (shape index : List ℕ) (k : ℕ)
    → places_before shape (if nat_eq (length shape) 0 then [] else (row_of shape k ∷ index)) ≡ (row_of shape k - 1) * size (drop 1 shape) + places_before (drop 1 shape) index
place_there [] index k = refl
place_there (n ∷ shape) index k =
    let some : nat_eq (length (n ∷ shape)) 0 ≡ false = grind (arith, nat_tests) in
    rw some refl

numbers_of_numbers : (zs : List ℤ) → map number_of (map (λ z. Num z) zs) ≡ zs
numbers_of_numbers [] = refl
numbers_of_numbers (z ∷ zs) = ap (λ rest. z ∷ rest) (numbers_of_numbers zs)

pub digit_there : (b : ArrayValue) (zs : List ℤ) → b.items ≡ map (λ z. Num z) zs → (k place : ℕ) → place < size (drop 1 b.shape)
    → get_or zs ((row_of b.shape k - 1) * size (drop 1 b.shape) + place) (pos 0) ≡ digit_at b (index_after (drop 1 b.shape) place) k
digit_there b zs items k place h =
    let first = (row_of b.shape k - 1) * size (drop 1 b.shape) in
    let there = place_there b.shape (index_after (drop 1 b.shape) place) k ∙ ap (λ p. first + p) (places_before-index_after (drop 1 b.shape) place h) in
    ap (λ xs. get_or xs (first + place) (pos 0)) (sym (ap (map number_of) items ∙ numbers_of_numbers zs))
    ∙ number_there b (first + place)
    ∙ ap (λ p. number_of (get_or b.items p (fill b.item_type))) (sym there)

-- ---- a row of digits, and the numbers with it

module _ (a b : ArrayValue) (before : ℕ) where
  abbrev index_at : ℕ → List ℕ
  index_at place = index_after (drop 1 b.shape) place

  pub record HasRow (radix : ℤ) (row : List ℤ) : Type 0 where
    pub radix_is : radix ≡ radix_at a (before + 1)
    pub long : length row ≡ size (drop 1 b.shape)
    pub digit : (place : ℕ) → place < size (drop 1 b.shape) → get_or row place (pos 0) ≡ digit_at b (index_at place) (before + 1)

  pub has_row : (digits : List ℤ) (r w : ℕ) (radix : ℤ) → b.items ≡ map (λ z. Num z) digits → w ≡ size (drop 1 b.shape) → r ≡ row_of b.shape (before + 1) → radix ≡ radix_at a (before + 1)
      → (r - 1) * w + w ≤ length digits → HasRow radix (take ((r - 1) * w + w - (r - 1) * w) (drop ((r - 1) * w) digits))
  has_row digits r w radix items wide row_is radix_is inside =
      let first = (r - 1) * w in
      let width : first + w - first ≡ w = omega arith in
      let there = length-drop first digits in
      record {
        radix_is = radix_is;
        long = length-take (first + w - first) (drop first digits) ∙ omega arith;
        digit = λ place below.
            let here : get_or digits (first + place) (pos 0) ≡ digit_at b (index_at place) (before + 1) = rw (row_is, wide) (digit_there b digits items (before + 1) place below) in
            get_or-take (first + w - first) (drop first digits) place (pos 0) (omega arith) ∙ get_or-drop first digits place (pos 0) ∙ here;
      }

  module _ (count : ℕ) (radix : ℤ) (row old : List ℤ) (has : HasRow radix row) (h : before < count)
      (so_far : (place : ℕ) → place < size (drop 1 b.shape) → IsOnTheWay a b (index_at place) count before (get_or old place (pos 0))) where
    step : (place : ℕ) (r : Result ℤ Kind) → place < size (drop 1 b.shape) → with_one_more (get_or old place (pos 0)) radix (get_or row place (pos 0)) ≡ r
        → with_one_more (get_or old place (pos 0)) (radix_at a (before + 1)) (digit_at b (index_at place) (before + 1)) ≡ r
    step place r below is =
        ap (λ m. with_one_more (get_or old place (pos 0)) m (digit_at b (index_at place) (before + 1))) (sym has.radix_is)
        ∙ ap (λ d. with_one_more (get_or old place (pos 0)) radix d) (sym (has.digit place below))
        ∙ is

    pub row_further : (new : List ℤ) → HaveOneMore radix row old new → (place : ℕ) → place < size (drop 1 b.shape)
        → IsOnTheWay a b (index_at place) count (before + 1) (get_or new place (pos 0))
    row_further new more place below =
        one_further a b (index_at place) count before (get_or old place (pos 0)) (get_or new place (pos 0)) h
        (step place (Ok (get_or new place (pos 0))) below (more.each place (rw has.long below))) (so_far place below)

    pub row_fails : count ≡ digit_count a b → LeavesNumbers radix row old → HasLimit a b
    row_fails counted fails =
        let place = fails.place in
        let below : place < size (drop 1 b.shape) = rw has.long at fails.below in
        let failed = no_further a b (index_at place) count before (get_or old place (pos 0)) Limit h (step place (Err Limit) below fails.is) (so_far place below) in
        record {
          place = place;
          below = below;
          is = ap (λ n. number_item (decoded (map (digit_pair a b (index_at place)) (range_with_len 1 n)))) (sym counted) ∙ ap number_item failed;
        }

-- ---- whole results

module _ (a b : ArrayValue) where
  abbrev rest : List ℕ
  rest = drop 1 b.shape

  pub rows_collected : (zs : List ℤ) → length zs ≡ size rest → AreDecoded a b zs
      → collect Nums rest (decode_item a b) ≡ Ok (record { item_type = Nums; shape = rest; items = map (λ z. Num z) zs })
  rows_collected zs long made =
      ap (with_items Nums rest) (given_in_order rest (decode_item a b) (map (λ z. Num z) zs) (Num (pos 0)) (length-map zs (λ z. Num z) ∙ long)
      (λ k h. made.each k (rw long h) ∙ ap (λ (x : Item). Ok x) (sym (get_or-map (λ z. Num z) zs k (pos 0)))))

  pub limit_collected : HasLimit a b → collect Nums rest (decode_item a b) ≡ Err Limit
  limit_collected h =
      let below : h.place < length (indices rest) = rw (length-indices rest) h.below in
      ap (with_items Nums rest) (limit_of_list (decode_item a b) (indices rest) [] h.place (decode_limited a b) below (ap (decode_item a b) (get_or-indices rest h.place h.below) ∙ h.is))
