-- The law of encode.
use Rattle.std.{proofs.Common.{◌≡◌, ℕ, ◌+◌, ◌-◌, ◌<◌, ◌≤◌, ℤ, pos, List, [], ◌∷◌, ◌++◌, length, get_or, drop, map, refl, ap, ◌∙◌, sym, subst, arith, true, false, ◌&&◌, Ok, length-drop, get_or-drop}, specs.List.{range_with_len}, proofs.lemmas.Bool.{and_parts, and_from, false≢true, le-leb, leb-true}}
use Rattle.std.proofs.lemmas.List.{ext_get_or, get_or-map, length-map}
use Rattle.arrays_core.{specs.declared.item.Item.{Item}, specs.declared.item.ItemType.{ItemType}, specs.declared.item.ItemType.TheVariants.{Nums}, specs.Arrays.{ArrayValue, item_if_there, item_of}, specs.Items.{fill, and_then}, specs.Shapes.{is_index_of, size}}
use Rattle.item_fns.{specs.Items.{number_item}, specs.Numbers.{residue}}
use Rattle.index_region.{specs.Arguments.{counts_as_numbers, is_list, number_of, numbers}, specs.Checks.{Form}, proofs.Passing.{gives, limited_gives}}
use Rattle.change_core.{specs.Tightness.{Covered, IsTight}, specs.Sourced.{other}, specs.Ways.{back}, proofs.Sourced.{two_arrays_tight}, proofs.UsedWays.{back-onto, each_map, each_range, index-drop, onto_covered, within-whole}, proofs.ReadAlike.{item_same}}
use Rattle.search_fns.{specs.Encode.{carried_through, digit, encode_form, encode_item, radix_place, encode_rule, radices_box, radices_read}, specs.Laws.Reads.{all_read_alike, one_read, place_read, with_axes}}

-- the consequences of the checks
pub record EncodeFacts (a b : ArrayValue) (f : Form) : Type 0 where
  pub list : length a.shape ≤ 1
  pub shaped : f.shape ≡ a.shape ++ b.shape
  pub typed : f.item_type ≡ Nums

pub encode_facts : (a b : ArrayValue) (f : Form) → encode_form a b ≡ Ok f → EncodeFacts a b f
encode_facts a b f e =
    let ranks = gives (is_list a) _ _ f e in
    let typed = gives (counts_as_numbers a && counts_as_numbers b) _ _ f ranks.is in
    record { list = leb-true (length a.shape) 1 ranks.test; shaped = ap (λ (g : Form). g.shape) (limited_gives (a.shape ++ b.shape) Nums f typed.is); typed = ap (λ (g : Form). g.item_type) (limited_gives (a.shape ++ b.shape) Nums f typed.is) }

-- a digit depends on its own radix and the later ones
digit_same : (xs ys : List Item) (d : Item) (k : ℕ) (z : ℤ) → length xs ≡ length ys → 1 ≤ k → k ≤ length ys → ((j : ℕ) → k ≤ j + 1 → j < length ys → get_or xs j d ≡ get_or ys j d)
    → digit (map number_of xs) k z ≡ digit (map number_of ys) k z
digit_same xs ys d k z long low high same =
    let rs = map number_of xs in
    let ss = map number_of ys in
    let own : get_or rs (k - 1) (pos 0) ≡ get_or ss (k - 1) (pos 0) =
    get_or-map number_of xs (k - 1) d (pos 0) (omega arith) ∙ ap number_of (same (k - 1) (omega arith) (omega arith)) ∙ sym (get_or-map number_of ys (k - 1) d (pos 0) (omega arith)) in
    let rest : drop k rs ≡ drop k ss = later in
    λ i. and_then (carried_through (rest i) z) (λ r. Ok (residue (own i) r))
  where
    longs : length (drop k (map number_of xs)) ≡ length (drop k (map number_of ys))
    longs = length-drop k (map number_of xs) ∙ ap (λ (n : ℕ). n - k) (length-map xs number_of ∙ long ∙ sym (length-map ys number_of)) ∙ sym (length-drop k (map number_of ys))

    later : drop k (map number_of xs) ≡ drop k (map number_of ys)
    later = ext_get_or (pos 0) _ _ longs (λ j h.
        let dropped = length-drop k (map number_of xs) in
        let many = length-map xs number_of in
        let below : k + j < length xs = omega arith in
        get_or-drop k (map number_of xs) j (pos 0) ∙ get_or-map number_of xs (k + j) d (pos 0) below ∙ ap number_of (same (k + j) (omega arith) (omega arith))
        ∙ sym (get_or-map number_of ys (k + j) d (pos 0) (omega arith)) ∙ sym (get_or-drop k (map number_of ys) j (pos 0)))

radices_same : (t : ItemType) (shape : List ℕ) (xs ys : List Item) (rest index : List ℕ) (z : ℤ) → length shape ≤ 1 → length ys ≡ size shape → length xs ≡ length ys → is_index_of (shape ++ rest) index ≡ true
    → map (item_if_there (with_axes t shape xs)) (radices_read (with_axes t shape ys) index) ≡ map (item_if_there (with_axes t shape ys)) (radices_read (with_axes t shape ys) index)
    → digit (map number_of xs) (radix_place (with_axes t shape ys) index) z ≡ digit (map number_of ys) (radix_place (with_axes t shape ys) index) z
radices_same t [] xs ys rest index z list sized long place read = ap (λ (items : List Item). digit (map number_of items) 1 z) (all_read_alike (with_axes t [] ys) xs sized long read)
radices_same t (n ∷ []) xs ys rest [] z list sized long place read = absurd (false≢true place)
radices_same t (n ∷ []) xs ys rest (k ∷ index) z list sized long place read =
    let first = and_parts _ _ (and_parts _ _ place).0 in
    let low = leb-true 1 k first.0 in
    let high = leb-true k n first.1 in
    let many : length ys ≡ n = omega arith in
    digit_same xs ys (fill t) k z long low (omega arith) (λ j from below. place_read t n xs ys k j low from (omega arith) read)
radices_same t (n ∷ m ∷ shape) xs ys rest index z list sized long place read = absurd (omega arith)

radices_covered : (t : ItemType) (shape : List ℕ) (xs : List Item) (b : ArrayValue) → length shape ≤ 1
    → Covered shape (shape ++ b.shape) (record { reads = radices_read (with_axes t shape xs); box = radices_box (shape ++ b.shape) (with_axes t shape xs) b })
radices_covered t [] xs b list region index fit place = ((λ h. within-whole b.shape index ∙ place), tt)
radices_covered t (n ∷ []) xs b list region [] fit place = absurd (false≢true place)
radices_covered t (n ∷ []) xs b list [] (k ∷ index) fit place = absurd (false≢true fit)
radices_covered t (n ∷ []) xs b list (s ∷ region) (k ∷ index) fit place =
    let parts = and_parts _ _ place in
    let low = leb-true 1 k (and_parts _ _ parts.0).0 in
    each_map _ (λ i. i ∷ []) (range_with_len k (n + 1 - k)) (each_range _ k (n + 1 - k) (λ j from below h.
    let last = leb-true j s.1 (and_parts _ _ (and_parts _ _ h).0).1 in
    and_from _ _ (and_from _ _ (le-leb 1 k low) (le-leb k s.1 (omega arith))) (within-whole b.shape index ∙ parts.1)))
radices_covered t (n ∷ m ∷ shape) xs b list region index fit place = absurd (omega arith)

pub encode_tight : IsTight encode_rule
encode_tight = two_arrays_tight false encode_form encode_item (λ shape a b. record { reads = radices_read a; box = radices_box shape a b }) (λ shape a b. back a.shape) (record {
  blind = λ c d xs ys p q. let many = p.count in rw (many, q) refl;
  settled = λ c d xs ys f index sound_left sound_right p q e place read_left read_right.
      let facts = encode_facts c d f e in
      let here : is_index_of (c.shape ++ d.shape) index ≡ true = subst (λ (s : List ℕ). is_index_of s index ≡ true) facts.shaped place in
      let at = drop (length c.shape) index in
      let inside : is_index_of d.shape at ≡ true = index-drop c.shape d.shape index here in
      let number : item_of (other d ys) at ≡ item_of d at = item_same (other d ys) d at inside inside (one_read _ _ read_right) in
      let digits = radices_same c.item_type c.shape xs c.items d.shape index (number_of (item_of (other d ys) at)) facts.list sound_left.one_item_a_place p.count here read_left in
      ap number_item (digits ∙ ap (λ (x : Item). digit (numbers c) (radix_place c index) (number_of x)) number);
  covered_left = λ a b f e.
      let facts = encode_facts a b f e in
      subst (λ (s : List ℕ). Covered a.shape s (record { reads = radices_read a; box = radices_box s a b })) (sym facts.shaped) (radices_covered a.item_type a.shape a.items b facts.list);
  covered_right = λ a b f e.
      let facts = encode_facts a b f e in
      subst (λ (s : List ℕ). Covered b.shape s (back a.shape)) (sym facts.shaped) (onto_covered b.shape (a.shape ++ b.shape) (back a.shape) (back-onto a.shape b.shape));
})
