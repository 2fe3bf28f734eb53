-- Reduction of an array of numbers, computed from its slice of numbers.
use Rattle.std.{proofs.Common.{◌≡◌, ℕ, zero, suc, ◌+◌, ◌-◌, ◌*◌, ◌/◌, ◌%◌, ◌<◌, ◌≤◌, Bool, true, false, cond, ℤ, pos, List, [], ◌∷◌, length, get_or, drop, take, map, refl, ap, sym, ◌∙◌, arith, insert, remove, Ok}, proofs.lemmas.List.{length-map, ext_get_or, get_or_default, take_all}}
use Rattle.std.{proofs.lemmas.List.FromFn.{length-map-range_with_len}, proofs.Math.ListN.{get_or-map}, proofs.Math.Nat.{mul-le-mul_right, div-eq_of_lt, mul-add-div_right, mul-add-mod_self_right, mod-eq_of_lt, div-lt_iff_lt-mul, mul-mod_left}, proofs.lemmas.Nat.{div-add-mod', mod_below}}
use Rattle.arrays_core.{specs.declared.item.Item.{Item}, specs.declared.item.Item.TheVariants.{Num}, specs.declared.item.ItemType.{ItemType}, specs.declared.item.ItemType.TheVariants.{Nums}, specs.Items.{fill, and_then}, specs.Shapes.{size, is_index_of, places_before}, specs.Arrays.{ArrayValue, item_of, collect}}
use Rattle.arrays_core.proofs.Shapes.{head_of, places_below}
use Rattle.function_names.{specs.declared.scalar.Scalar2.{Scalar2}, specs.declared.along.Along.{Along}, specs.Axes.{axis_at}}
use Rattle.item_fns.{specs.Numbers.{dyadic_on_numbers}, specs.Items.{number_item}, specs.Folds.{strided, folded, line_start}, proofs.RightFolds.{length-strided, get_or-strided}, specs.RightFold.{fold_right}, proofs.ItemFolds.{number_items_folded}}
use Rattle.index_region.{specs.Checks.{form_of}, specs.Axes.{places_along}}
use Rattle.reduce_fns.{specs.Reduce.{reduce_form, reduce_item, reduce_whole}, proofs.Placewise.{collected_same}, specs.Lines.{line}, proofs.Lines.{line-strided, size-drop-le}, specs.Laws.ReducedShapes.{reduce_facts}}

-- ---- numbers and their items
pub strided_numbers : (xs : List ℤ) (first stride count : ℕ)
    → strided (Num (pos 0)) (map (λ z. Num z) xs) first stride count ≡ map (λ z. Num z) (strided (pos 0) xs first stride count)
strided_numbers xs first stride count =
    let items = map (λ z. Num z) xs in
    let zs = strided (pos 0) xs first stride count in
    let n = length-strided (Num (pos 0)) items first stride count in
    let long = length-map zs (λ z. Num z) in
    ext_get_or (Num (pos 0)) (strided (Num (pos 0)) items first stride count) (map (λ z. Num z) zs) (n ∙ sym (long ∙ (length-strided (pos 0) xs first stride count))) (λ k h.
    let below : k < count = omega arith in
    get_or-strided (Num (pos 0)) items first stride count k (Num (pos 0)) below
    ∙ get_or-map (λ z. Num z) xs (first + k * stride) (pos 0)
    ∙ sym (get_or-map (λ z. Num z) zs k (pos 0) ∙ ap (λ z. Num z) (get_or-strided (pos 0) xs first stride count k (pos 0) below)))

-- the fold of items that are numbers is the fold of the numbers
pub numbers_folded : (f : Scalar2) (xs : List ℤ) (items : List Item) (first stride count : ℕ) → items ≡ map (λ z. Num z) xs → 1 ≤ count
    → fold_right f (strided (Num (pos 0)) items first stride count) ≡ number_item (folded (dyadic_on_numbers f) (strided (pos 0) xs first stride count))
numbers_folded f xs items first stride count is h =
    let m = length-strided (pos 0) xs first stride count in
    ap (λ ys. fold_right f (strided (Num (pos 0)) ys first stride count)) is
    ∙ ap (fold_right f) (strided_numbers xs first stride count)
    ∙ number_items_folded f (strided (pos 0) xs first stride count) (omega arith)

-- ---- starts of lines
-- the sizes of a shape and of it without an axis
pub record Sizes (axis : ℕ) (shape : List ℕ) : Type 0 where
  pub lines : ℕ
  pub without : size (remove shape axis) ≡ lines * size (drop (suc axis) shape)
  pub all : size shape ≡ lines * (get_or shape axis 0 * size (drop (suc axis) shape))

times_assoc : (m k s x : ℕ) → x ≡ k * s → m * x ≡ m * k * s
times_assoc m k s x h = ap (λ y. m * y) h ∙ omega arith

pub sizes : (axis : ℕ) (shape : List ℕ) → axis < length shape → Sizes axis shape
sizes axis [] h = absurd (omega arith)
sizes zero (n ∷ shape) h = record { lines = 1; without = omega arith; all = omega arith }
sizes (suc axis) (n ∷ shape) h =
    let rest = sizes axis shape (omega arith) in
    record { lines = n * rest.lines; without = times_assoc n rest.lines _ _ rest.without; all = times_assoc n rest.lines _ _ rest.all }

start_more : (s n k i p : ℕ) → 0 < s → line_start s n (i * (k * s) + p) ≡ i * (k * (n * s)) + line_start s n p
start_more s n k i p h =
    let e : i * (k * s) + p ≡ i * k * s + p = omega arith in
    ap (line_start s n) e
    ∙ (rw (mul-add-div_right h (i * k) p, mul-add-mod_self_right (i * k) s p) (omega arith))

pub start_is : (axis : ℕ) (shape index : List ℕ) → axis < length shape → is_index_of (remove shape axis) index ≡ true → 0 < size (drop (suc axis) shape)
    → places_before shape (insert index axis 1)
    ≡ line_start (size (drop (suc axis) shape)) (get_or shape axis 0) (places_before (remove shape axis) index)
start_is axis [] index h inside some = absurd (omega arith)
start_is zero (n ∷ shape) index h inside some =
    let below : places_before shape index < size shape = places_below shape index inside in
    rw (div-eq_of_lt below, mod-eq_of_lt below) (omega arith)
start_is (suc axis) (n ∷ shape) [] h inside some = cc
start_is (suc axis) (n ∷ shape) (i ∷ index) h inside some =
    let parts = sizes axis shape (omega arith) in
    let s = size (drop (suc axis) shape) in
    let p = places_before (remove shape axis) index in
    let m = get_or shape axis 0 in
    ap (λ x. (i - 1) * size shape + x) (start_is axis shape index (omega arith) (head_of n i (remove shape axis) index inside).rest some)
    ∙ ap (λ x. (i - 1) * x + line_start s m p) parts.all
    ∙ sym (start_more s m parts.lines (i - 1) p some)
    ∙ ap (λ x. line_start s m ((i - 1) * x + p)) (sym parts.without)

-- the last item of a line lies before the end
last_below : (s n q r l : ℕ) → 1 ≤ n → r < s → q + 1 ≤ l → q * (n * s) + r + (n - 1) * s < l * (n * s)
last_below s zero q r l some h below = absurd (omega arith)
last_below s (suc n) q r l some h below =
    let k : (q + 1) * (suc n * s) ≤ l * (suc n * s) = mul-le-mul_right (suc n * s) below in
    let e : (q + 1) * (suc n * s) ≡ q * (suc n * s) + (n * s + s) = omega arith in
    let m : suc n - 1 ≡ n = omega arith in
    rw m (omega arith)

turned : (l n s : ℕ) → l * (n * s) ≡ l * s * n
turned l n s = omega arith

pub line_below : (stride count place places : ℕ) → 0 < stride → 1 ≤ count → places % stride ≡ 0 → place < places
    → line_start stride count place + (count - 1) * stride < places * count
line_below stride count place places apart some even below =
    let l = places / stride in
    let whole : l * stride + places % stride ≡ places = div-add-mod' places stride in
    let all : places ≡ l * stride = omega arith in
    let q : place / stride < l = (div-lt_iff_lt-mul apart).1 (rw all at below) in
    rw (← (turned l count stride ∙ ap (λ x. x * count) (sym all))) (last_below stride count (place / stride) (place % stride) l some (mod_below place stride apart) (omega arith))

pub whole_line : (place places n long : ℕ) → place < places → places * n ≡ long → place * n + n ≤ long
whole_line place places n long below whole =
    let k : (place + 1) * n ≤ places * n = mul-le-mul_right n (omega arith) in
    let e : (place + 1) * n ≡ place * n + n = omega arith in
    omega arith

some_along : (n s l t : ℕ) → t ≡ l * (n * s) → 0 < t → 1 ≤ n
some_along zero s l t e h = absurd (omega arith)
some_along (suc n) s l t e h = omega arith

-- ---- the whole
pub all_of_line : (b : ArrayValue) (axis count : ℕ) (index : List ℕ) → axis < length b.shape → count ≡ get_or b.shape axis 0 → take count (line b axis index) ≡ line b axis index
all_of_line b axis count index there is =
    let long = length-map-range_with_len (λ j. item_of b (insert index axis j)) 1 (places_along b.shape axis) in
    take_all count (line b axis index) (omega (arith, get_or_default b.shape axis 1 0 there))

module _ (f : Scalar2) (b : ArrayValue) (xs : List ℤ) (items : b.items ≡ map (λ z. Num z) xs) (typed : b.item_type ≡ Nums) where
  item_there : (axis : ℕ) (index : List ℕ) → axis < length b.shape → is_index_of (remove b.shape axis) index ≡ true → 0 < size b.shape
      → number_item (folded (dyadic_on_numbers f) (strided (pos 0) xs (line_start (size (drop (suc axis) b.shape)) (get_or b.shape axis 0) (places_before (remove b.shape axis) index)) (size (drop (suc axis) b.shape)) (get_or b.shape axis 0)))
      ≡ fold_right f (line b axis index)
  item_there axis index there inside some =
      let s = size (drop (suc axis) b.shape) in
      let n = get_or b.shape axis 0 in
      let parts = sizes axis b.shape there in
      let start = places_before b.shape (insert index axis 1) in
      sym (ap (fold_right f) (line-strided b axis index there inside)
      ∙ ap (λ d. fold_right f (strided d b.items start s n)) (ap fill typed)
      ∙ numbers_folded f xs b.items start s n items (some_along n s parts.lines (size b.shape) parts.all some)
      ∙ ap (λ m. number_item (folded (dyadic_on_numbers f) (strided (pos 0) xs m s n))) (start_is axis b.shape index there inside ((size-drop-le (suc axis) b.shape some).0)))

same_type : (w : Bool) (t : ItemType) → t ≡ Nums → cond w t Nums ≡ Nums
same_type true t h = h
same_type false t h = refl

pub some_lines : (l n : ℕ) → 0 < l * n → 0 < l
some_lines zero n h = absurd (omega arith)
some_lines (suc l) n h = omega arith

pub lines_whole : (axis : ℕ) (b shape : List ℕ) (n s : ℕ) → axis < length b → shape ≡ remove b axis → n ≡ get_or b axis 0 → s ≡ size (drop (suc axis) b) → 0 < size b
    → (1 ≤ n) × (size shape * n ≡ size b) × (size shape % s ≡ 0)
lines_whole axis b shape n s there shaped n_is s_is some =
    let parts = sizes axis b there in
    let m = get_or b axis 0 in
    let apart = size (drop (suc axis) b) in
    let whole : size (remove b axis) * m ≡ size b = ap (λ x. x * m) parts.without ∙ sym (turned parts.lines m apart) ∙ sym parts.all in
    rw (shaped, n_is, s_is) (some_along m apart parts.lines (size b) parts.all some, whole, ap (λ x. x % apart) parts.without ∙ mul-mod_left parts.lines apart)

module _ (f : Scalar2) (b : ArrayValue) (xs : List ℤ) (items : b.items ≡ map (λ z. Num z) xs) (typed : b.item_type ≡ Nums) where
  -- the whole reduction, place by place
  pub reduced_whole : (along : Along) (shape : List ℕ) (t : ItemType) (axis n s : ℕ) → reduce_form along b ≡ Ok (form_of shape t) → axis ≡ axis_at (length b.shape) along
      → axis < length b.shape → n ≡ get_or b.shape axis 0 → s ≡ size (drop (suc axis) b.shape) → 0 < size b.shape
      → reduce_whole f along b ≡ collect Nums shape (λ index. number_item (folded (dyadic_on_numbers f) (strided (pos 0) xs (line_start s n (places_before shape index)) s n)))
  reduced_whole along shape t axis n s form meant there n_is s_is some =
      let facts = reduce_facts along b shape t form in
      let shaped : shape ≡ remove b.shape axis = facts.shaped ∙ ap (remove b.shape) (sym meant) in
      ap (λ r. and_then r (λ g. collect g.item_type g.shape (reduce_item f along b))) form
      ∙ ap (λ u. collect u shape (reduce_item f along b)) (facts.typed ∙ same_type _ b.item_type typed)
      ∙ collected_same Nums shape (reduce_item f along b) _ (λ index inside.
      ap (λ a. fold_right f (line b a index)) (sym meant)
      ∙ sym (item_there f b xs items typed axis index there (ap (λ sh. is_index_of sh index) (sym shaped) ∙ inside) some)
      ∙ (rw (n_is, s_is, shaped) refl))
