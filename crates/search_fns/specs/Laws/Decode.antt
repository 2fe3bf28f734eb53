-- The law of decode.
use Rattle.std.{proofs.Common.{◌≡◌, ◌≢◌, ℕ, zero, suc, ◌+◌, ◌-◌, ◌≤◌, ◌<◌, ℤ, List, [], ◌∷◌, length, get_or, drop, map, refl, ap, ◌∙◌, sym, subst, arith, true, false, ◌&&◌, ◌||◌, nat_eq, if◌then◌else◌, Option, None, Ok, inl, inr}, specs.List.{range_with_len}}
use Rattle.std.{proofs.lemmas.Bool.{and_from, and_parts, cases_Bool, cond-true, cond-false, eqb-true, eqb-false, false≢true, le-leb}, proofs.lemmas.Bool.Decides.{nat_tests}, proofs.lemmas.List.{get_or-map, length-map}, proofs.lemmas.List.FromFn.{get_or-map-range_with_len, length-range_with_len}}
use Rattle.arrays_core.{specs.declared.item.Item.{Item}, specs.declared.item.ItemType.{ItemType}, specs.declared.item.ItemType.TheVariants.{Nums}, specs.Arrays.{ArrayValue, item_if_there, item_of}, specs.Shapes.{indices, is_index_of}}
use Rattle.item_fns.specs.Items.{number_item}
use Rattle.index_region.{specs.Arguments.{counts_as_numbers, has_one_item, is_list, number_of}, specs.Axes.{places_along}, specs.Boxes.{is_within}, specs.Checks.{Form}, proofs.Passing.{gives, limited_gives}}
use Rattle.change_core.{specs.Tightness.{Covered, Each, IsTight}, specs.Sourced.{other}, specs.Ways.{everywhere}, proofs.Sourced.{two_arrays_tight}, proofs.UsedWays.{each_all, each_map, everywhere-covered}, proofs.ReadAlike.{item_same}}
use Rattle.search_fns.{specs.Decode.{decode_form, decode_item, decoded, digit_at, digit_count, radix_at, decode_rule, digits_use}, specs.Laws.Reads.{all_read_alike, one_read, with_axes}}

-- the consequences of the checks
record DecodeFacts (a b : ArrayValue) (f : Form) : Type 0 where
  shaped : f.shape ≡ drop 1 b.shape
  counted : (k : ℕ) → k ≤ digit_count a b → places_along b.shape 0 ≢ 1 → k ≤ places_along b.shape 0

as_many : (items places k : ℕ) → (nat_eq items 1 || (nat_eq places 1 || nat_eq items places)) ≡ true → k ≤ (if nat_eq items 1 then places else items) → places ≢ 1 → k ≤ places
as_many items places k test within many = elim (cases_Bool (nat_eq items 1)) [
  | inl t ↦ subst (λ (n : ℕ). k ≤ n) (cond-true _ _ _ t) within
  | inr f ↦
      let few : k ≤ items = subst (λ (n : ℕ). k ≤ n) (cond-false _ _ _ f) within in
      let same : items ≡ places = equal items places test f many in
      omega arith
]
  where
    equal : (items places : ℕ) → (nat_eq items 1 || (nat_eq places 1 || nat_eq items places)) ≡ true → nat_eq items 1 ≡ false → places ≢ 1 → items ≡ places
    equal items places test f many = grind (arith, nat_tests)

decode_facts : (a b : ArrayValue) (f : Form) → decode_form a b ≡ Ok f → DecodeFacts a b f
decode_facts a b f e =
    let n = places_along b.shape 0 in
    let ranks = gives (is_list a) _ _ f e in
    let lengths = gives (has_one_item a || (nat_eq n 1 || nat_eq (length a.items) n)) _ _ f ranks.is in
    let typed = gives (counts_as_numbers a && counts_as_numbers b) _ _ f lengths.is in
    record {
      shaped = ap (λ (g : Form). g.shape) (limited_gives (drop 1 b.shape) Nums f typed.is);
      counted = λ k within many. as_many (length a.items) n k lengths.test within many;
    }

-- the place of a digit lies on the first axis
place_on : (n k : ℕ) → 1 ≤ k → (n ≢ 1 → k ≤ n) → (1 ≤ (if nat_eq n 1 then 1 else k)) × ((if nat_eq n 1 then 1 else k) ≤ n)
place_on n k low high = elim (cases_Bool (nat_eq n 1)) [
  | inl t ↦ let one = eqb-true n 1 t in subst (λ (j : ℕ). (1 ≤ j) × (j ≤ n)) (sym (cond-true _ _ _ t)) (omega arith, omega arith)
  | inr f ↦ subst (λ (j : ℕ). (1 ≤ j) × (j ≤ n)) (sym (cond-false _ _ _ f)) (low, high (eqb-false n 1 f))
]

-- the items that are read of a line along the first axis
line_read : (a : ArrayValue) (index : List ℕ) (n j : ℕ) → 1 ≤ j → j ≤ n → get_or (map (item_if_there a) (map (λ k. k ∷ index) (range_with_len 1 n))) (j - 1) None ≡ item_if_there a (j ∷ index)
line_read a index n j low high =
    let long = length-map (range_with_len 1 n) (λ (k : ℕ). k ∷ index) in
    let many = length-range_with_len 1 n in
    get_or-map (item_if_there a) (map (λ k. k ∷ index) (range_with_len 1 n)) (j - 1) [] None (omega arith)
    ∙ ap (item_if_there a) (get_or-map-range_with_len (λ k. k ∷ index) 1 n (j - 1) j [] (omega arith) (omega arith))

with_an_axis : (n : ℕ) (shape : List ℕ) → nat_eq (length (n ∷ shape)) 0 ≡ false
with_an_axis n shape = grind (arith, nat_tests)

places_read : (t : ItemType) (n : ℕ) (shape : List ℕ) (items : List Item) (index : List ℕ) → (digits_use (with_axes t (n ∷ shape) items)).reads index ≡ map (λ k. k ∷ index) (range_with_len 1 n)
places_read t n shape items index = cond-false _ _ _ (with_an_axis n shape)

digit_same : (t : ItemType) (shape : List ℕ) (xs ys : List Item) (index : List ℕ) (k : ℕ) → is_index_of (drop 1 shape) index ≡ true → 1 ≤ k → (places_along shape 0 ≢ 1 → k ≤ places_along shape 0)
    → map (item_if_there (with_axes t shape xs)) ((digits_use (with_axes t shape ys)).reads index) ≡ map (item_if_there (with_axes t shape ys)) ((digits_use (with_axes t shape ys)).reads index)
    → digit_at (with_axes t shape xs) index k ≡ digit_at (with_axes t shape ys) index k
digit_same t [] xs ys index k place low high read = ap number_of (item_same (with_axes t [] xs) (with_axes t [] ys) [] refl refl (one_read _ _ read))
digit_same t (n ∷ shape) xs ys index k place low high read =
    let j = if nat_eq n 1 then 1 else k in
    let old = with_axes t (n ∷ shape) xs in
    let new = with_axes t (n ∷ shape) ys in
    let on = place_on n k low high in
    let inside : is_index_of (n ∷ shape) (j ∷ index) ≡ true = and_from _ _ (and_from _ _ (le-leb 1 j on.0) (le-leb j n on.1)) place in
    let lines = subst (λ (places : List (List ℕ)). map (item_if_there old) places ≡ map (item_if_there new) places) (places_read t n shape ys index) read in
    let same : item_if_there old (j ∷ index) ≡ item_if_there new (j ∷ index) =
    sym (line_read old index n j on.0 on.1) ∙ ap (λ (r : List (Option Item)). get_or r (j - 1) None) lines ∙ line_read new index n j on.0 on.1 in
    ap (λ (at : List ℕ). number_of (item_of old at)) (cond-false _ _ _ (with_an_axis n shape))
    ∙ ap number_of (item_same old new (j ∷ index) inside inside same)
    ∙ sym (ap (λ (at : List ℕ). number_of (item_of new at)) (cond-false _ _ _ (with_an_axis n shape)))

map_range_same : {X : Type 0} (f g : ℕ → X) (from n : ℕ) → ((k : ℕ) → from ≤ k → k < from + n → f k ≡ g k) → map f (range_with_len from n) ≡ map g (range_with_len from n)
map_range_same f g from zero h = refl
map_range_same f g from (suc n) h =
    let first = h from (omega arith) (omega arith) in
    let rest = map_range_same f g (from + 1) n (λ k l u. h k (omega arith) (omega arith)) in
    λ i. first i ∷ rest i

digits_covered : (t : ItemType) (shape : List ℕ) (xs : List Item) → Covered shape (drop 1 shape) (digits_use (with_axes t shape xs))
digits_covered t [] xs [] [] fit place = ((λ h. refl), tt)
digits_covered t [] xs (s ∷ region) [] fit place = absurd (false≢true fit)
digits_covered t [] xs region (i ∷ index) fit place = absurd (false≢true place)
digits_covered t (n ∷ shape) xs [] index fit place = absurd (false≢true fit)
digits_covered t (n ∷ shape) xs (s ∷ region) index fit place =
    subst (Each (λ (at : List ℕ). is_within (s ∷ region) at ≡ true → is_within region index ≡ true)) (sym (places_read t n shape xs index))
    (each_map _ (λ k. k ∷ index) (range_with_len 1 n) (each_all _ (range_with_len 1 n) (λ k h. (and_parts _ _ h).1)))

pub decode_tight : IsTight decode_rule
decode_tight = two_arrays_tight false decode_form decode_item (λ shape a b. everywhere shape (λ _. indices a.shape)) (λ shape a b. digits_use b) (record {
  blind = λ c d xs ys p q. let many = p.count in rw (many, q) refl;
  settled = λ c d xs ys f index sound_left sound_right p q e place read_left read_right.
      let facts = decode_facts c d f e in
      let here : is_index_of (drop 1 d.shape) index ≡ true = subst (λ (s : List ℕ). is_index_of s index ≡ true) facts.shaped place in
      let all : xs ≡ c.items = all_read_alike c xs sound_left.one_item_a_place p.count read_left in
      let digits = map_range_same (λ k. (radix_at c k, digit_at (other d ys) index k)) (λ k. (radix_at c k, digit_at d index k)) 1 (digit_count c d) (λ k low below.
      let same = digit_same d.item_type d.shape ys d.items index k here low (facts.counted k (omega arith)) read_right in
      λ i. (radix_at c k, same i)) in
      ap (λ (zs : List Item). decode_item (other c zs) (other d ys) index) all ∙ ap (λ (ks : List (ℤ × ℤ)). number_item (decoded ks)) digits;
  covered_left = λ a b f e. everywhere-covered a.shape f.shape (λ _. indices a.shape);
  covered_right = λ a b f e. subst (λ (s : List ℕ). Covered b.shape s (digits_use b)) (sym (decode_facts a b f e).shaped) (digits_covered b.item_type b.shape b.items);
})
