-- The digits in a box, from its numbers and from the radices that begin with its first one.
use Rattle.std.{proofs.Common.{◌≡◌, ℕ, ◌+◌, ◌-◌, ◌*◌, ◌/◌, ◌%◌, ◌<◌, ◌≤◌, IsTrue, ℤ, pos, List, [], ◌∷◌, ◌++◌, length, get_or, slice_index_or, map, take, drop, Result, Ok, Err, refl, ap, sym, ◌∙◌, arith}, specs.List.{range_with_len}, proofs.lemmas.Bool.{and_parts, leb-true, false≢true}}
use Rattle.std.{proofs.lemmas.List.{length-map, length-take, length-drop, get_or-take, get_or-drop, drop-drop, drop-map, get_or-map as get_or-map_inside, take_all}, proofs.lemmas.List.FromFn.{length-map-range_with_len, get_or-map-range_with_len}, proofs.lemmas.Nat.{div-mul-add, mod_below}}
use Rattle.std.proofs.Math.Nat.{mul-le-mul_right}
use Rattle.arrays_core.{specs.declared.item.Item.{Item}, specs.declared.item.Item.TheVariants.{Num}, specs.declared.item.ItemType.TheVariants.{Nums}, specs.declared.item.Kind.{Kind}, specs.declared.item.Kind.TheVariants.{Domain}, specs.Items.{all_or_first_error, and_then, fill}}
use Rattle.arrays_core.{specs.Shapes.{size, indices, index_after, places_before}, specs.Arrays.{ArrayValue, collect, with_items, item_of}, proofs.Order.{length-indices, get_or-indices}}
use Rattle.item_fns.{specs.Items.{number_item}, specs.Numbers.{residue}}
use Rattle.index_region.{specs.Arguments.{number_of, numbers}, specs.Boxes.{Interval, interval_length, box_size, walk_at, fits}, specs.Checks.{Form}, proofs.Walks.{some_place}}
use Rattle.change_core.specs.Parts.{items_in}
use Rattle.search_fns.{specs.Encode.{carried_through, digit, encode_form, encode_item, encode_whole}, specs.Digits.{AreColumns}, specs.Laws.Encode.{encode_facts}}
use Rattle.selection_fns.proofs.Entries.{entry_of, from_entries, long_entries}

-- ---- the box

-- a box of the digits of a vector of radices; `read` begins at the first radix of the box
pub record DigitBox (radices rest : List ℕ) (items : ℕ) (read region : List Interval) : Type 0 where
  pub first : Interval
  pub later : List Interval
  pub count : ℕ
  pub is : region ≡ first ∷ later
  pub read_is : slice_index_or read 0 (0, 0) ≡ first
  pub shaped : radices ≡ count ∷ []
  pub many : items ≡ count
  pub low : 1 ≤ first.0
  pub order : first.0 ≤ first.1
  pub high : first.1 ≤ count
  pub some : 0 < box_size later

pub digit_box : (radices rest : List ℕ) (items : ℕ) (read region : List Interval) → length radices ≡ 1 → items ≡ size radices → IsTrue (fits region (radices ++ rest))
    → read ≡ region → DigitBox radices rest items read region
digit_box [] rest items read region vector many fit same = absurd (omega arith)
digit_box (n ∷ m ∷ more) rest items read region vector many fit same = absurd (omega arith)
digit_box (n ∷ []) rest items read [] vector many fit same = absurd (false≢true fit)
digit_box (n ∷ []) rest items read (s ∷ region) vector many fit same =
    let parts = and_parts _ _ fit in
    let here = and_parts _ _ parts.0 in
    let bounds = and_parts _ _ here.0 in
    record {
      first = s;
      later = region;
      count = n;
      is = refl;
      read_is = ap (λ (r : List Interval). slice_index_or r 0 (0, 0)) same;
      shaped = refl;
      many = omega (arith, many);
      low = leb-true 1 s.0 bounds.0;
      order = leb-true s.0 s.1 bounds.1;
      high = leb-true s.1 n here.1;
      some = some_place region rest parts.1;
    }

-- the number of columns is the number of places in a row
pub columns_in : (s : Interval) (region : List Interval) → s.0 ≤ s.1 → 0 < box_size region → box_size (s ∷ region) / (s.1 + 1 - s.0) ≡ box_size region
columns_in s region order some = ap (λ n. n / (s.1 + 1 - s.0)) (omega arith) ∙ div-mul-add (box_size region) (s.1 + 1 - s.0) 0 (omega arith)

-- ---- the digits

-- dropping earlier radices changes no digit by a later one
shifted : (zs : List ℤ) (q k : ℕ) (z : ℤ) → 1 ≤ k → digit (drop q zs) k z ≡ digit zs (q + k) z
shifted zs q k z low =
    let place : q + (k - 1) ≡ q + k - 1 = omega arith in
    λ i. and_then (carried_through ((drop-drop k q zs) i) z) (λ r. Ok (residue ((get_or-drop q zs (k - 1) (pos 0) ∙ ap (λ m. get_or zs m (pos 0)) place) i) r))

-- the consequences of the checks and the items of a whole result
record Digits (a v digits : ArrayValue) : Type 0 where
  typed : digits.item_type ≡ Nums
  each : (k : ℕ) → k < size (a.shape ++ v.shape) → encode_item a v (index_after (a.shape ++ v.shape) k) ≡ Ok (get_or digits.items k (Num (pos 0)))
  long : length digits.items ≡ size (a.shape ++ v.shape)

digits_of : (a v digits : ArrayValue) → encode_whole a v ≡ Ok digits → Digits a v digits
digits_of a v digits made = decide (encode_form a v) refl made
  where
    items : (g : Form) (r : Result (List Item) Kind) → all_or_first_error (map (encode_item a v) (indices (a.shape ++ v.shape))) ≡ r → with_items {E = Kind} g.item_type (a.shape ++ v.shape) r ≡ Ok digits → g.item_type ≡ Nums → Digits a v digits
    items g (Err k) is h typed = cc
    items g (Ok xs) is h typed =
        let same : record { item_type = g.item_type; shape = a.shape ++ v.shape; items = xs } ≡ digits = cc in
        let listed : all_or_first_error (map (encode_item a v) (indices (a.shape ++ v.shape))) ≡ Ok digits.items = is ∙ ap (λ (d : ArrayValue). Ok d.items) same in
        let many = length-map (indices (a.shape ++ v.shape)) (encode_item a v) in
        let all = length-indices (a.shape ++ v.shape) in
        record {
          typed = sym (ap (λ (d : ArrayValue). d.item_type) same) ∙ typed;
          each = λ k below.
              sym (get_or-map_inside (encode_item a v) (indices (a.shape ++ v.shape)) k [] (Err Domain) (omega (arith, below, all)) ∙ ap (encode_item a v) (get_or-indices (a.shape ++ v.shape) k below))
              ∙ entry_of (map (encode_item a v) (indices (a.shape ++ v.shape))) digits.items k (Err Domain) (Num (pos 0)) listed (omega (arith, below, many, all));
          long = long_entries _ digits.items listed ∙ many ∙ all;
        }

    decide : (form : Result Form Kind) → encode_form a v ≡ form → and_then form (λ g. collect {E = Kind} g.item_type g.shape (encode_item a v)) ≡ Ok digits → Digits a v digits
    decide (Err k) is h = cc
    decide (Ok g) is h =
        let facts = encode_facts a v g is in
        items g _ refl (ap (λ shape. with_items {E = Kind} g.item_type shape (all_or_first_error (map (encode_item a v) (indices shape)))) (sym facts.shaped) ∙ h) facts.typed

by_vector : (a b : ArrayValue) (n : ℕ) (s : Interval) (region : List Interval) (p : ℕ) → a.shape ≡ n ∷ []
    → encode_item a b (walk_at (s ∷ region) p) ≡ number_item (digit (numbers a) (s.0 + p / box_size region) (number_of (item_of b (walk_at region (p % box_size region)))))
by_vector a b n s region p shaped = rw shaped refl

-- the digits of the numbers in such a box, by the radices that begin with its first one
pub record AreDigits (a b left v digits : ArrayValue) (read all : List Interval) (whole : DigitBox a.shape b.shape (length a.items) read all) : Type 0 where
  pub left_shape : left.shape ≡ (whole.count + 1 - whole.first.0) ∷ []
  pub left_items : left.items ≡ take (whole.count + 1 - whole.first.0) (drop (whole.first.0 - 1) a.items)
  pub columns : AreColumns b whole.later v
  pub made : encode_whole left v ≡ Ok digits

module _ (a b left v digits : ArrayValue) (read all : List Interval) (whole : DigitBox a.shape b.shape (length a.items) read all)
    (are : AreDigits a b left v digits read all whole) where
  abbrev places : List Interval
  places = whole.first ∷ whole.later

  abbrev m : ℕ
  m = box_size whole.later

  found : Digits left v digits
  found = digits_of left v digits are.made

  shapes : left.shape ++ v.shape ≡ (whole.count + 1 - whole.first.0) ∷ m ∷ []
  shapes = rw (are.left_shape, are.columns.shaped) refl

  radices_left : numbers left ≡ drop (whole.first.0 - 1) (numbers a)
  radices_left =
      ap (map number_of) (are.left_items ∙ take_all (whole.count + 1 - whole.first.0) (drop (whole.first.0 - 1) a.items)
      (omega (arith, length-drop (whole.first.0 - 1) a.items, whole.many, whole.low, whole.order, whole.high)))
      ∙ sym (drop-map number_of (whole.first.0 - 1) a.items)

  rows_fit : (e f w : ℕ) → e ≤ f → e * w ≤ f * (w * 1)
  rows_fit e f w h = let more : e * w ≤ f * w = mul-le-mul_right w h in let same : f * (w * 1) ≡ f * w = ap (λ x. f * x) (let one : w * 1 ≡ w = omega arith in one) in omega (arith, more, same)

  enough : box_size places ≤ size (left.shape ++ v.shape)
  enough = let rows = rows_fit (interval_length whole.first) (whole.count + 1 - whole.first.0) m (omega (arith, whole.high, whole.order)) in let same = ap size shapes in omega
      (arith, rows, same)

  number_there : (j : ℕ) → j < m → number_of (item_of v ((j / 1 + 1) ∷ [])) ≡ number_of (item_of b (walk_at whole.later j))
  number_there j below =
      ap (λ shape. number_of (get_or v.items (places_before shape ((j / 1 + 1) ∷ [])) (fill v.item_type))) are.columns.shaped
      ∙ ap (λ k. number_of (get_or v.items k (fill v.item_type))) (omega arith)
      ∙ ap (λ t. number_of (get_or v.items j (fill t))) are.columns.typed
      ∙ ap number_of (are.columns.each j below)

  item_here : (p : ℕ) → p < box_size places → encode_item a b (walk_at places p) ≡ Ok (get_or digits.items p (Num (pos 0)))
  item_here p below =
      let z = number_of (item_of b (walk_at whole.later (p % m))) in
      let theirs : encode_item left v ((p / (m * 1) + 1) ∷ (p % (m * 1) / 1 + 1) ∷ []) ≡ number_item (digit (numbers left) (p / (m * 1) + 1) (number_of (item_of v ((p % (m * 1) / 1 + 1) ∷ [])))) = rw are.left_shape refl in
      let same : encode_item left v (index_after (left.shape ++ v.shape) p) ≡ encode_item a b (walk_at places p) =
      ap (λ shape. encode_item left v (index_after shape p)) shapes
      ∙ theirs
      ∙ ap (λ w. number_item (digit (numbers left) (p / w + 1) (number_of (item_of v ((p % w / 1 + 1) ∷ []))))) (omega arith)
      ∙ ap (λ x. number_item (digit (numbers left) (p / m + 1) x)) (number_there (p % m) (mod_below p m whole.some))
      ∙ ap (λ zs. number_item (digit zs (p / m + 1) z)) radices_left
      ∙ ap number_item (shifted (numbers a) (whole.first.0 - 1) (p / m + 1) z (omega arith))
      ∙ ap (λ k. number_item (digit (numbers a) k z)) (omega (arith, whole.low))
      ∙ sym (by_vector a b whole.count whole.first whole.later p whole.shaped) in
      sym same ∙ found.each p (omega (arith, below, enough))

  pub digits_hold : (items : List Item) → items ≡ take (box_size places) digits.items → items_in (encode_item a b) places ≡ Ok items
  digits_hold items is =
      let g : ℕ → Result Item Kind = λ p. encode_item a b (walk_at places p) in
      let count = box_size places in
      let listed : length items ≡ count = omega (arith, ap length is, length-take count digits.items, enough, found.long) in
      from_entries (map g (range_with_len 0 count)) items (Err Domain) (Num (pos 0)) ((length-map-range_with_len g 0 count) ∙ sym listed) (λ k below.
      let inside : k < count = omega (arith, below, listed) in
      get_or-map-range_with_len g 0 count k k (Err Domain) inside (omega arith)
      ∙ item_here k inside
      ∙ ap (λ x. Ok x) (sym (ap (λ xs. get_or xs k (Num (pos 0))) is ∙ get_or-take count digits.items k (Num (pos 0)) inside)))

  pub digits_long : box_size places ≤ length digits.items
  digits_long = omega (arith, enough, found.long)

  pub digits_typed : digits.item_type ≡ Nums
  digits_typed = found.typed
