-- Copies of the places of an axis.
use Rattle.std.proofs.Common.{◌≡◌, ℕ, zero, suc, ◌+◌, ◌-◌, ◌*◌, ◌/◌, ◌<◌, ◌≤◌, Bool, true, false, nat_le, if◌then◌else◌, ◌&&◌, ◌||◌, nat_eq, All, Result, Ok, Err, List, [], ◌∷◌, length, ◌++◌, map, take, drop, pos, negsuc, unsigned_abs, get_or, set, replicate, insert, remove, refl, ap, sym, subst, ◌∙◌, append-nil, ℤ, arith}
use Rattle.std.{specs.Option.{is_some}, specs.Prelude.{max, sum, Option, Some, None, IfSome}, specs.List.{list_all}, proofs.lemmas.Bool.{and_parts, and_from, leb-true}, proofs.lemmas.Bool.Decides.{nat_tests}}
use Rattle.std.{proofs.lemmas.List.{drop_more, get_or-map, get_or_default, length-append, length-map, length-replicate, get_or-replicate, take_all, take-set, take_more_set}, proofs.Math.Nat.{div-eq-sub-div, div-eq_of_lt}}
use Rattle.arrays_core.{specs.declared.item.Item.{Item}, specs.declared.item.ItemType.{ItemType}, specs.declared.item.Kind.{Kind}, specs.declared.item.Kind.TheVariants.{Axis, Length, Domain, Limit}, specs.Items.{type_of}, specs.Arrays.{ArrayValue, item_of}, specs.Shapes.{size, is_index_of}}
use Rattle.function_names.{specs.declared.along.Along.{Along}, specs.Axes.{is_axis, axis_at}}
use Rattle.index_region.{specs.Checks.{form_of, Form, check, limited}, specs.Sources.{Place, Source}, specs.Axes.{places_along}, specs.Arguments.{is_list, has_one_item, counts_as_numbers, none_negative, numbers, number_of}, specs.Answers.{IsPlaceOf, HasTypeOf}}
use Rattle.index_region.{proofs.Passing.{passed, place_inside, typed_check, typed_limited}, proofs.RowIndices.{axis_below}}
use Rattle.selection_fns.{specs.Laws.RepeatedPlaces.{sum_front, walk, maker_is_walk}, proofs.Repeated.{sum_same, sum_within, maker_most}, specs.Replicate.{is_bit, IsMask, times, maker, counts_checked, copied_place, replicated_shape, replicate_form, replicate_source}}
use Rattle.selection_fns.specs.Laws.CopiedPlaces.{IsCopied, is_copied, replicate_gives}

-- the place of a copy where all counts are the same
each_walk : (n count i : ℕ) → 1 ≤ i → i ≤ n * count → (i - 1) / count + 1 ≡ walk (replicate n count) i
each_walk zero count i low high = absurd (omega arith)
each_walk (suc n) count i low high = decide (λ j. each_walk n count j) (nat_le i count) refl
  where
    positive : 0 < count
    positive = some count high
      where
        some : (c : ℕ) → i ≤ suc n * c → 0 < c
        some zero h = absurd (let none : suc n * 0 ≡ 0 = omega arith in omega arith)
        some (suc c) h = omega arith

    step : (b : Bool) → nat_le i count ≡ b → walk (replicate (suc n) count) i ≡ (if b then 1 else suc (walk (replicate n count) (i - count)))
    step b h = ap (λ (w : Bool). if w then 1 else suc (walk (replicate n count) (i - count))) h

    decide : ((j : ℕ) → 1 ≤ j → j ≤ n * count → (j - 1) / count + 1 ≡ walk (replicate n count) j) → (b : Bool) → nat_le i count ≡ b → (i - 1) / count + 1 ≡ walk (replicate (suc n) count) i
    decide before true h =
        let below : i ≤ count = grind (arith, nat_tests) in
        ap (λ k. k + 1) (div-eq_of_lt (omega arith)) ∙ sym (step true h)
    decide before false h =
        let above : count < i = grind (arith, nat_tests) in
        let less : (i - 1) / count ≡ (i - 1 - count) / count + 1 = div-eq-sub-div positive (omega arith) in
        ap (λ k. k + 1) (less ∙ ap (λ m. m / count + 1) (omega arith)) ∙ plus_one _ _ (before (i - count) (omega arith) (omega arith)) ∙ sym (step false h)
      where
        plus_one : (a b : ℕ) → a + 1 ≡ b → a + 1 + 1 ≡ suc b
        plus_one a b h = omega arith

pub each_maker : (n count i : ℕ) → 1 ≤ i → i ≤ n * count → (i - 1) / count + 1 ≡ maker (replicate n count) i
each_maker n count i low high =
    let all = sum_same n count in
    each_walk n count i low high ∙ sym (maker_is_walk (replicate n count) i low (omega arith))

-- a shape with an axis that is too long
pub beyond_limits : (axes : List ℕ) (k places : ℕ) (item_type : ItemType) → 1048576 < places → k ≤ length axes
    → limited (insert axes k places) item_type ≡ Err Limit
beyond_limits axes k places item_type long h =
    let test = no_axis_within axes k h in
    ap (λ (w : Bool). check ((nat_le (length (insert axes k places)) 4 && w) && nat_le (size (insert axes k places)) 1048576) Limit (Ok (form_of (insert axes k places) item_type))) test
    ∙ ap (λ (w : Bool). check w Limit (Ok (form_of (insert axes k places) item_type))) (never (nat_le (length (insert axes k places)) 4) (nat_le (size (insert axes k places)) 1048576))
  where
    never : (a b : Bool) → ((a && false) && b) ≡ false
    never true b = refl
    never false b = refl

    too_long : nat_le places 1048576 ≡ false
    too_long = grind (arith, nat_tests)

    no_axis_within : (axes : List ℕ) (k : ℕ) → k ≤ length axes → list_all (λ n. nat_le n 1048576) (insert axes k places) ≡ false
    no_axis_within axes zero h = ap (λ (w : Bool). w && list_all (λ n. nat_le n 1048576) axes) too_long
    no_axis_within [] (suc k) h = absurd (omega arith)
    no_axis_within (n ∷ axes) (suc k) h = ap (λ (w : Bool). nat_le n 1048576 && w) (no_axis_within axes k (omega arith)) ∙ and_false (nat_le n 1048576)
      where
        and_false : (a : Bool) → (a && false) ≡ false
        and_false true = refl
        and_false false = refl

-- the consequences of the checks of replicate, for an index list of the result
pub replicated_inside : (along : Along) (a b : ArrayValue) (index : List ℕ) → IsPlaceOf (replicate_form along a b) index
    → is_index_of (replicated_shape a b.shape (axis_at (max 1 (length b.shape)) along)) index ≡ true
replicated_inside along a b index h =
    let rank = max 1 (length b.shape) in
    let axis = axis_at rank along in
    let n = places_along b.shape axis in
    let ranks = passed (is_list a) _ _ index (passed (is_axis rank along) _ _ index h).place in
    let lengths = passed (has_one_item a || (nat_eq n 1 || nat_eq (length a.items) n)) _ _ index ranks.place in
    place_inside (replicated_shape a b.shape axis) b.item_type index (passed (counts_as_numbers a && none_negative (numbers a)) _ _ index lengths.place).place

pub on_axis : (along : Along) (a b : ArrayValue) (index : List ℕ) → IsPlaceOf (replicate_form along a b) index → is_axis (max 1 (length b.shape)) along ≡ true
on_axis along a b index h = (passed (is_axis (max 1 (length b.shape)) along) _ _ index h).test

pub replicate_typed : (along : Along) (a b : ArrayValue) (item : Item) → type_of item ≡ b.item_type → HasTypeOf (replicate_form along a b) item
replicate_typed along a b item h =
    let rank = max 1 (length b.shape) in
    let axis = axis_at rank along in
    let n = places_along b.shape axis in
    let last = limited (replicated_shape a b.shape axis) b.item_type in
    let counted = check (counts_as_numbers a && none_negative (numbers a)) Domain last in
    typed_check (is_axis rank along) _ _ item
    (typed_check (is_list a) _ (check (has_one_item a || (nat_eq n 1 || nat_eq (length a.items) n)) Length counted) item
    (typed_check (has_one_item a || (nat_eq n 1 || nat_eq (length a.items) n)) _ counted item
    (typed_check (counts_as_numbers a && none_negative (numbers a)) _ last item
    (typed_limited (replicated_shape a b.shape axis) b.item_type item h))))

-- the limits, after the other checks of replicate
pub replicate_limited : (along : Along) (a b : ArrayValue) → is_axis (max 1 (length b.shape)) along ≡ true
    → ((rest : Result Form Kind) → counts_checked a (places_along b.shape (axis_at (max 1 (length b.shape)) along)) rest ≡ rest)
    → replicate_form along a b ≡ limited (replicated_shape a b.shape (axis_at (max 1 (length b.shape)) along)) b.item_type
replicate_limited along a b on pass =
    let axis = axis_at (max 1 (length b.shape)) along in
    let last = limited (replicated_shape a b.shape axis) b.item_type in
    ap (λ (w : Bool). check w Axis (counts_checked a (places_along b.shape axis) last)) on ∙ pass last

pub replicate_beyond : (along : Along) (a b : ArrayValue) → is_axis (max 1 (length b.shape)) along ≡ true
    → ((rest : Result Form Kind) → counts_checked a (places_along b.shape (axis_at (max 1 (length b.shape)) along)) rest ≡ rest)
    → axis_at (max 1 (length b.shape)) along < max 1 (length b.shape)
    → 1048576 < sum (times a (places_along b.shape (axis_at (max 1 (length b.shape)) along)))
    → replicate_form along a b ≡ Err Limit
replicate_beyond along a b on pass below long =
    let axis = axis_at (max 1 (length b.shape)) along in
    replicate_limited along a b on pass ∙ beyond_limits (remove b.shape axis) axis (sum (times a (places_along b.shape axis))) b.item_type long (fits b.shape axis below)
  where
    fits : (axes : List ℕ) (k : ℕ) → k < max 1 (length axes) → k ≤ length (remove axes k)
    fits [] k h = omega arith
    fits (n ∷ axes) zero h = omega arith
    fits (n ∷ []) (suc k) h = absurd (omega arith)
    fits (n ∷ m ∷ axes) (suc k) h = let rest = fits (m ∷ axes) k (omega arith) in omega arith

-- the copies of one place follow those of the earlier places
walk_run : (counts : List ℕ) (k i : ℕ) → k < length counts → sum (take k counts) < i → i ≤ sum (take k counts) + get_or counts k 0 → walk counts i ≡ k + 1
walk_run [] k i below low high = absurd (omega arith)
walk_run (count ∷ counts) zero i below low high =
    ap (λ (w : Bool). if w then 1 else suc (walk counts (i - count))) (at_most i count high)
  where
    at_most : (i count : ℕ) → i ≤ 0 + count → nat_le i count ≡ true
    at_most i count h = grind (arith, nat_tests)
walk_run (count ∷ counts) (suc k) i below low high =
    let least : count + sum (take k counts) < i = subst (λ n. n < i) (sum_front count (take k counts)) low in
    let most : i ≤ count + sum (take k counts) + get_or counts k 0 = subst (λ n. i ≤ n + get_or counts k 0) (sum_front count (take k counts)) high in
    let later : nat_le i count ≡ false = above i count (omega arith) in
    ap (λ (w : Bool). if w then 1 else suc (walk counts (i - count))) later ∙ next _ (walk_run counts k (i - count) (omega arith) (omega arith) (omega arith))
  where
    above : (i count : ℕ) → count < i → nat_le i count ≡ false
    above i count h = grind (arith, nat_tests)

    next : (m : ℕ) → m ≡ k + 1 → suc m ≡ suc k + 1
    next m h = omega arith

pub maker_run : (counts : List ℕ) (k i : ℕ) → k < length counts → sum (take k counts) < i → i ≤ sum (take k counts) + get_or counts k 0 → maker counts i ≡ k + 1
maker_run counts k i below low high =
    let within = sum_within counts k below in
    maker_is_walk counts i (omega arith) (omega arith) ∙ walk_run counts k i below low high

-- a property of all items of a list also holds with copies of a number after them
pub holds_with_run : (xs : List ℕ) (count x : ℕ) (f : ℕ → ℕ) → ((i : ℕ) → i < length xs → get_or xs i 0 + 1 ≡ f i) → ((j : ℕ) → j < count → x + 1 ≡ f (length xs + j))
    → (i : ℕ) → i < length xs + count → get_or (xs ++ replicate count x) i 0 + 1 ≡ f i
holds_with_run [] zero x f before run i h = absurd (omega arith)
holds_with_run [] (suc count) x f before run zero h = run 0 (omega arith)
holds_with_run [] (suc count) x f before run (suc i) h = holds_with_run [] count x (λ j. f (suc j)) (λ j k. absurd (omega arith)) (λ j k. run (suc j) (omega arith) ∙ ap f (let next : 0 + suc j ≡ suc (0 + j) = omega arith in next)) i (omega arith)
holds_with_run (y ∷ xs) count x f before run zero h = before 0 (omega arith)
holds_with_run (y ∷ xs) count x f before run (suc i) h =
    holds_with_run xs count x (λ j. f (suc j)) (λ j k. before (suc j) (omega arith)) (λ j k. run j k ∙ ap f (let next : suc (length xs) + j ≡ suc (length xs + j) = omega arith in next)) i (omega arith)

-- the sum with one more count
sum_taken : (xs : List ℕ) (k : ℕ) → k < length xs → sum (take (suc k) xs) ≡ sum (take k xs) + get_or xs k 0
sum_taken [] k h = absurd (omega arith)
sum_taken (x ∷ xs) zero h = refl
sum_taken (x ∷ xs) (suc k) h =
    let rest = sum_taken xs k (omega arith) in
    sum_front x (take (suc k) xs) ∙ (omega arith) ∙ ap (λ n. n + get_or xs k 0) (sym (sum_front x (take k xs)))

-- one more of the counts of an array
pub record CountStep (a : ArrayValue) (k : ℕ) : Type 0 where
  pub below : k < length (map unsigned_abs (numbers a))
  pub at : get_or (map unsigned_abs (numbers a)) k 0 ≡ unsigned_abs (get_or (numbers a) k (pos 0))
  pub rest : sum (drop k (map unsigned_abs (numbers a))) ≡ get_or (map unsigned_abs (numbers a)) k 0 + sum (drop (k + 1) (map unsigned_abs (numbers a)))
  pub taken : sum (take (k + 1) (map unsigned_abs (numbers a))) ≡ sum (take k (map unsigned_abs (numbers a))) + get_or (map unsigned_abs (numbers a)) k 0

pub count_step : (a : ArrayValue) (k : ℕ) → k < length a.items → CountStep a k
count_step a k h =
    let counts = map unsigned_abs (numbers a) in
    let long : length counts ≡ length a.items = length-map (numbers a) unsigned_abs ∙ length-map a.items number_of in
    let whole : length (numbers a) ≡ length a.items = length-map a.items number_of in
    let next : k + 1 ≡ suc k = omega arith in
    record {
      below = omega arith;
      at = get_or-map unsigned_abs (numbers a) k (pos 0) 0 (omega arith);
      rest = ap sum (drop_more counts k 0 (omega arith)) ∙ sum_front (get_or counts k 0) (drop (k + 1) counts);
      taken = rw next (sum_taken counts k (omega arith));
    }

-- the places, counted from 0, of the copies of the first k places
pub record AreBefore (counts : List ℕ) (k : ℕ) (before : List ℕ) : Type 0 where
  pub first : length before ≡ sum (take k counts)
  pub is : (i : ℕ) → i < length before → get_or before i 0 + 1 ≡ maker counts (i + 1)

pub copies_fit : (counts : List ℕ) (k : ℕ) (before : List ℕ) → AreBefore counts k before → k < length counts → length before + get_or counts k 0 ≤ sum counts
copies_fit counts k before made h = omega (arith, sum_within counts k h)

pub one_place_more : (counts : List ℕ) (k count : ℕ) (before new : List ℕ) → k < length counts → count ≡ get_or counts k 0 → new ≡ before ++ replicate count k → AreBefore counts k before
    → AreBefore counts (k + 1) new
one_place_more counts k count before new below same put made =
    let taken : sum (take (k + 1) counts) ≡ sum (take k counts) + get_or counts k 0 = let next : k + 1 ≡ suc k = omega arith in rw next (sum_taken counts k below) in
    let long : length new ≡ length before + count = rw put (simp (length-append, length-replicate) (omega arith)) in
    let told = holds_with_run before count k (λ i. maker counts (i + 1)) made.is
    (λ j h. sym (maker_run counts k (length before + j + 1) below (omega arith) (omega arith))) in
    record { first = omega arith; is = λ i h. subst (λ xs. get_or xs i 0 + 1 ≡ maker counts (i + 1)) (sym put) (told i (omega arith)) }

pub all_copies : (counts : List ℕ) (k : ℕ) (before : List ℕ) → length counts ≤ k → AreBefore counts k before → length before ≡ sum counts
all_copies counts k before h made = made.first ∙ ap sum (take_all k counts h)

-- places of one count: the next one fits, and all of them make the total
pub one_count_fits : (n count total k : ℕ) (before : List ℕ) → total ≡ n * count → total ≤ 1048576 → k < n → AreBefore (replicate n count) k before → length before + count ≤ 1048576
one_count_fits n count total k before all within below made =
    let fit = copies_fit (replicate n count) k before made (rw (length-replicate n count) below) in
    let same = sum_same n count in
    let here : get_or (replicate n count) k 0 ≡ count = get_or-replicate n k count 0 below in
    omega arith

pub one_count_ends : (n count total k : ℕ) (before : List ℕ) → total ≡ n * count → n ≤ k → AreBefore (replicate n count) k before → length before ≡ total
one_count_ends n count total k before all past made = all_copies (replicate n count) k before (rw (length-replicate n count) past) made ∙ (sum_same n count ∙ sym all)

-- ---- counts of 0 and 1
pub bit_small : (z : ℤ) → is_bit z ≡ true → unsigned_abs z ≤ 1
bit_small (pos k) h = leb-true k 1 (and_parts _ _ h).1
bit_small (negsuc k) h = let no : ⊥ = cc in absurd no

pub mask_count : (zs : List ℤ) (k : ℕ) → list_all is_bit zs ≡ true → k < length zs → unsigned_abs (get_or zs k (pos 0)) ≤ 1
mask_count [] k h below = absurd (omega arith)
mask_count (z ∷ zs) zero h below = bit_small z (and_parts _ _ h).0
mask_count (z ∷ zs) (suc k) h below = mask_count zs k (and_parts _ _ h).1 (omega arith)

pub mask_bits : (m : Option ℕ) (zs : List ℤ) → IfSome m (IsMask zs) → is_some m ≡ true → list_all is_bit zs ≡ true
mask_bits None zs h e = let no : ⊥ = cc in absurd no
mask_bits (Some total) zs h e = h.bits

pub mask_from_0 : (zs : List ℤ) → list_all is_bit zs ≡ true → none_negative zs ≡ true
mask_from_0 [] h = refl
mask_from_0 (z ∷ zs) h = let parts = and_parts (is_bit z) _ h in and_from _ _ (and_parts _ _ parts.0).0 (mask_from_0 zs parts.1)

-- the number of the first counts that are 1, while each is 0 or 1
pub record IsMaskSoFar (zs : List ℤ) (k : ℕ) (are_bits : Bool) (ones : ℕ) : Type 0 where
  pub bits : are_bits ≡ list_all is_bit (take k zs)
  pub few : ones ≤ k
  pub copies : are_bits ≡ true → ones ≡ sum (map unsigned_abs (take k zs))

-- one more place is written after the copies so far, and stays where its count is 1
pub record IsMaskStep (counts : List ℕ) (k copies : ℕ) (new : List ℕ) : Type 0 where
  pub counted : length (take copies new) ≡ copies
  pub made : AreBefore counts k (take copies new)

pub mask_step : (counts : List ℕ) (k copies count : ℕ) (before : List ℕ) → k < length counts → count ≡ get_or counts k 0 → count ≤ 1 → copies < length before
    → length (take copies before) ≡ copies → AreBefore counts k (take copies before) → IsMaskStep counts (k + 1) (copies + count) (set before copies k)
mask_step counts k copies count before below same low room counted made =
    let put = stays count low in
    let long : length (take (copies + count) (set before copies k)) ≡ copies + count = ap length put ∙ simp (length-append, length-replicate) (omega arith) in
    record { counted = long; made = one_place_more counts k count (take copies before) (take (copies + count) (set before copies k)) below same put made }
  where
    stays : (n : ℕ) → n ≤ 1 → take (copies + n) (set before copies k) ≡ take copies before ++ replicate n k
    stays zero h = ap (λ m. take m (set before copies k)) (let none : copies + zero ≡ copies = omega arith in none) ∙ take-set before copies k ∙ sym (append-nil (take copies before))
    stays (suc zero) h = ap (λ m. take m (set before copies k)) (let one : copies + suc zero ≡ copies + 1 = omega arith in one) ∙ take_more_set before copies k room
    stays (suc (suc n)) h = absurd (omega arith)

-- the facts of an index list of the copies, where the array has axes
pub record CopyFacts (along : Along) (a b : ArrayValue) (index : List ℕ) (k : ℕ) : Type 0 where
  pub axis : k ≡ axis_at (max 1 (length b.shape)) along
  pub below : k < length b.shape
  pub copied : IsCopied b.shape k (sum (times a (places_along b.shape k))) index

pub copy_facts : (along : Along) (a b : ArrayValue) (shape : List ℕ) (item_type : ItemType) (index : List ℕ) (k : ℕ) → 0 < length b.shape
    → replicate_form along a b ≡ Ok (form_of shape item_type) → is_index_of shape index ≡ true → k ≡ axis_at (length b.shape) along → CopyFacts along a b index k
copy_facts along a b shape item_type index k some form inside is =
    let known = replicate_gives along a b shape item_type form in
    let rank : max 1 (length b.shape) ≡ length b.shape = greatest (length b.shape) some in
    let axis : k ≡ axis_at (max 1 (length b.shape)) along = is ∙ ap (λ n. axis_at n along) (sym rank) in
    let below : k < length b.shape = subst (λ m. m < length b.shape) (sym is) (axis_below (length b.shape) along (subst (λ n. is_axis n along ≡ true) rank known.axis) some) in
    record {
      axis = axis;
      below = below;
      copied = is_copied b.shape k _ index below (subst (λ m. is_index_of (replicated_shape a b.shape m) index ≡ true) (sym axis) (subst (λ s. is_index_of s index ≡ true) known.shaped inside));
    }
  where
    greatest : (n : ℕ) → 0 < n → max 1 n ≡ n
    greatest n h = omega arith

-- the source of a copy
pub copy_source : (along : Along) (a b : ArrayValue) (index before : List ℕ) (k : ℕ) → 0 < length b.shape → CopyFacts along a b index k
    → length before ≡ sum (times a (places_along b.shape k))
    → ((i : ℕ) → i < length before → get_or before i 0 + 1 ≡ copied_place a (places_along b.shape k) (i + 1))
    → Place 1 (set index k (get_or before (get_or index k 0 - 1) 0 + 1)) ≡ replicate_source along a b index
copy_source along a b index before k some facts long is =
    let i = get_or index k 0 - 1 in
    let place : get_or before i 0 + 1 ≡ copied_place a (places_along b.shape k) (get_or index k 1) =
    is i (omega arith) ∙ ap (λ j. copied_place a (places_along b.shape k) j) ((omega arith) ∙ (get_or_default index k 0 1 (omega arith))) in
    ap (λ p. Place 1 (set index k p)) place
    ∙ ap (λ m. Place 1 (set index m (copied_place a (places_along b.shape m) (get_or index m 1)))) facts.axis
    ∙ sym (ap (λ (w : Bool). source_of w) (positive (length b.shape) some))
  where
    source_of : Bool → Source
    source_of w =
        let axis = axis_at (max 1 (length b.shape)) along in
        Place 1 (if w then [] else set index axis (copied_place a (places_along b.shape axis) (get_or index axis 1)))

    positive : (n : ℕ) → 0 < n → nat_eq n 0 ≡ false
    positive n h = grind (arith, nat_tests)

-- no place of a copy is beyond the limits of arrays
pub copies_within : (a : ArrayValue) (n total : ℕ) (before : List ℕ) → n ≤ 1048576 → length a.items ≤ 1048576 → length before ≡ total
    → ((i : ℕ) → i < total → get_or before i 0 + 1 ≡ copied_place a n (i + 1)) → All (λ m. m ≤ 1048576) before
copies_within a n total before places counts long is =
    λ k d h.
    omega (arith, get_or_default before k d 0 h, is k (omega (arith, long, h)), copied_most (nat_eq n 1) (has_one_item a) (k + 1))
  where
    copied_most : (v w : Bool) (i : ℕ) → (if v then 1 else maker (if w then replicate n (unsigned_abs (number_of (item_of a []))) else map unsigned_abs (numbers a)) i) ≤ 1048577
    copied_most true w i = omega arith
    copied_most false true i = let most = maker_most (replicate n (unsigned_abs (number_of (item_of a [])))) i in let long = length-replicate n (unsigned_abs (number_of (item_of a []))) in omega arith
    copied_most false false i =
        let most = maker_most (map unsigned_abs (numbers a)) i in
        let long : length (map unsigned_abs (numbers a)) ≡ length a.items = length-map (numbers a) unsigned_abs ∙ length-map a.items number_of in
        omega arith
