-- Results whose items are a run of the argument.
use Rattle.std.{proofs.Common.{◌≡◌, ℕ, ◌+◌, ◌%◌, ◌<◌, ◌≤◌, List, [], ◌∷◌, ◌++◌, take, drop, length, get_or, Some, Result, Ok, Bool, true, false, cond, refl, sym, ap, subst, ◌∙◌, arith}, specs.Prelude.{unwrap_or, not, nat_eq, ◌&&◌}, proofs.lemmas.Bool.{eqb-true, eqb-false}, proofs.lemmas.Bool.Decides.{nat_tests}}
use Rattle.std.{proofs.lemmas.Nat.{mod_below}, proofs.lemmas.List.FromFn.{fill_by_all, length-map-range_with_len, get_or-map-range_with_len}, proofs.Math.ListN.{get_or-eq_default}, proofs.Math.Nat.{mod-eq_of_lt, mod-one}, proofs.lemmas.List.{length-take-le, length-drop, get_or-take, get_or-drop}}
use Rattle.arrays_core.{specs.declared.item.Item.{Item}, specs.declared.item.ItemType.{ItemType}, specs.declared.item.Kind.{Kind}, specs.declared.item.Kind.TheVariants.{Rank, Domain}, specs.Items.{fill, and_then}, specs.Building.{listed}, specs.Shapes.{size, index_after, places_before}}
use Rattle.arrays_core.{specs.Arrays.{ArrayValue, item_if_there, collect, with_items}, proofs.Order.{given_in_order, index_after-within, places_before-index_after}}
use Rattle.index_region.{specs.Checks.{form_of, Form, limited}, specs.Arguments.{is_list, counts_as_numbers, none_negative, numbers}, specs.ArgumentLists.{of_one_argument, of_two_arguments}, specs.Sources.{Place, Fill, item_from}, proofs.Passing.{gives, limited_gives}}
use Rattle.structural_fns.{specs.Reshape.{magnitudes, again_under, reshape_form, reshape_item, reshape_whole}, specs.Ravel.{ravel_item, ravel_whole}}

-- the item at the index list with offset k
pub item_after : (b : ArrayValue) (k : ℕ) → k < size b.shape → item_if_there b (index_after b.shape k) ≡ Some (get_or b.items k (fill b.item_type))
item_after b k h = rw (index_after-within b.shape k h, places_before-index_after b.shape k h) refl

-- the array of a run of items, if the rule returns them in order
pub run_collected : (item_type : ItemType) (shape : List ℕ) (rule : List ℕ → Result Item Kind) (items : List Item) (skipped : ℕ) (d : Item)
    → skipped + size shape ≤ length items
    → ((k : ℕ) → k < size shape → rule (index_after shape k) ≡ Ok (get_or items (skipped + k) d))
    → collect item_type shape rule ≡ Ok (record { item_type = item_type; shape = shape; items = take (size shape) (drop skipped items) })
run_collected item_type shape rule items skipped d inside gives =
    ap (with_items item_type shape) (given_in_order shape rule (take (size shape) (drop skipped items)) d long each)
  where
    long : length (take (size shape) (drop skipped items)) ≡ size shape
    long = length-take-le (size shape) (drop skipped items) (simp length-drop (omega arith))

    each : (k : ℕ) → k < size shape → rule (index_after shape k) ≡ Ok (get_or (take (size shape) (drop skipped items)) k d)
    each k h = gives k h ∙ ap (λ (x : Item). Ok x) (sym (get_or-take (size shape) (drop skipped items) k d h ∙ get_or-drop skipped items k d))

-- ---- ravel

module _ (b : ArrayValue) (inside : size b.shape ≤ length b.items) where
  ravelled_item : (k : ℕ) → k < size (size b.shape ∷ []) → ravel_item b (index_after (size b.shape ∷ []) k) ≡ Ok (get_or b.items (0 + k) (fill b.item_type))
  ravelled_item k h =
      ap (λ n. item_from b b b.item_type (Place 0 (index_after b.shape n))) (omega arith)
      ∙ ap (λ o. Ok (unwrap_or o (fill b.item_type))) (item_after b k (omega arith))
      ∙ ap (λ n. Ok (get_or b.items n (fill b.item_type))) (let same : k ≡ 0 + k = omega arith in same)

  pub ravelled : limited (size b.shape ∷ []) b.item_type ≡ Ok (form_of (size b.shape ∷ []) b.item_type) → ravel_whole b ≡ Ok (record { item_type = b.item_type; shape = size b.shape ∷ []; items = take (size (size b.shape ∷ [])) (drop 0 b.items) })
  ravelled is =
      ap (λ r. and_then r (λ f. collect f.item_type f.shape (ravel_item b))) is
      ∙ run_collected b.item_type (size b.shape ∷ []) (ravel_item b) b.items 0 (fill b.item_type) (omega arith) ravelled_item

-- a passed check returns the wanted form
pub limited_is : {asked shape : List ℕ} {asked_type item_type : ItemType} → limited asked asked_type ≡ Ok (form_of shape item_type) → (shape ≡ asked) × (item_type ≡ asked_type)
limited_is {asked = asked} {shape = shape} {asked_type = asked_type} {item_type = item_type} is =
    let same = limited_gives asked asked_type (form_of shape item_type) is in
    (ap (λ (f : Form). f.shape) same, ap (λ (f : Form). f.item_type) same)

pub ravel_answer : (args : List ArrayValue) (b v : ArrayValue) (places : ℕ) (asked shape : List ℕ) (asked_type item_type : ItemType)
    → length args ≡ 1 → b ≡ get_or args 0 b → asked ≡ places ∷ [] → places ≡ size b.shape → places ≡ length b.items → asked_type ≡ b.item_type
    → limited asked asked_type ≡ Ok (form_of shape item_type) → v ≡ record { item_type = b.item_type; shape = shape; items = take (size shape) (drop 0 b.items) }
    → of_one_argument ravel_whole args ≡ Ok v
ravel_answer [] b v places asked shape asked_type item_type one same is_asked is_size is_length is_type passed made = absurd (omega arith)
ravel_answer (a ∷ c ∷ args) b v places asked shape asked_type item_type one same is_asked is_size is_length is_type passed made = absurd (omega arith)
ravel_answer (a ∷ []) b v places asked shape asked_type item_type one same is_asked is_size is_length is_type passed made =
    let vector : asked ≡ size b.shape ∷ [] = is_asked ∙ ap (λ n. n ∷ []) is_size in
    let parts = limited_is passed in
    let shaped : shape ≡ size b.shape ∷ [] = parts.0 ∙ vector in
    let typed : item_type ≡ b.item_type = parts.1 ∙ is_type in
    let checked : limited (size b.shape ∷ []) b.item_type ≡ Ok (form_of (size b.shape ∷ []) b.item_type) =
    ap (λ xs. limited xs b.item_type) (sym vector) ∙ ap (λ t. limited asked t) (sym is_type) ∙ passed ∙ ap (λ xs. Ok (form_of xs item_type)) shaped ∙ ap (λ t. Ok (form_of (size b.shape ∷ []) t)) typed in
    ap ravel_whole (sym same) ∙ ravelled b (omega arith) checked
    ∙ ap (λ xs. Ok (record { item_type = b.item_type; shape = xs; items = take (size xs) (drop 0 b.items) })) (sym shaped) ∙ ap (λ w. Ok w) (sym made)

-- ---- reshape without repetition

pub positive : (n : ℕ) → 0 < n → nat_eq n 0 ≡ false
positive n h = grind (arith, nat_tests)

module _ (a b : ArrayValue) (as_many : length b.items ≡ size b.shape) (few : size (magnitudes a) ≤ length b.items) where
  reshaped_item : (k : ℕ) → k < size (magnitudes a) → reshape_item a b (index_after (magnitudes a) k) ≡ Ok (get_or b.items (0 + k) (fill b.item_type))
  reshaped_item k h =
      let below : k < size b.shape = omega arith in
      let before : places_before (magnitudes a) (index_after (magnitudes a) k) % size b.shape ≡ k =
      ap (λ n. n % size b.shape) (places_before-index_after (magnitudes a) k h) ∙ mod-eq_of_lt below in
      let some : nat_eq (length b.items) 0 ≡ false = positive (length b.items) (omega arith) in
      ap (λ w. item_from a b b.item_type (cond (not w) (Place 1 (index_after b.shape (places_before (magnitudes a) (index_after (magnitudes a) k) % size b.shape))) Fill)) some
      ∙ ap (λ n. item_from a b b.item_type (Place 1 (index_after b.shape n))) before
      ∙ ap (λ o. Ok (unwrap_or o (fill b.item_type))) (item_after b k below)
      ∙ ap (λ n. Ok (get_or b.items n (fill b.item_type))) (let same : k ≡ 0 + k = omega arith in same)

  reshaped : reshape_form a b ≡ Ok (form_of (magnitudes a) b.item_type) → reshape_whole a b ≡ Ok (record { item_type = b.item_type; shape = magnitudes a; items = take (size (magnitudes a)) (drop 0 b.items) })
  reshaped is =
      ap (λ r. and_then r (λ f. collect f.item_type f.shape (reshape_item a b))) is
      ∙ run_collected b.item_type (magnitudes a) (reshape_item a b) b.items 0 (fill b.item_type) (omega arith) reshaped_item

-- the facts that the checks of reshape establish
pub record ReshapePassed (a b : ArrayValue) (shape : List ℕ) (item_type : ItemType) : Type 0 where
  pub form : reshape_form a b ≡ Ok (form_of shape item_type)
  pub shaped : shape ≡ magnitudes a
  pub typed : item_type ≡ b.item_type

reshape_passed : (a b : ArrayValue) (shape : List ℕ) (item_type : ItemType) → reshape_form a b ≡ Ok (form_of shape item_type) → ReshapePassed a b shape item_type
reshape_passed a b shape item_type form =
    let listed = gives (is_list a) Rank _ (form_of shape item_type) form in
    let parts = limited_is (gives (counts_as_numbers a && none_negative (numbers a)) Domain _ (form_of shape item_type) listed.is).is in
    record { form = form; shaped = parts.0; typed = parts.1 }

pub reshape_answer : (args : List ArrayValue) (b v : ArrayValue) (shape : List ℕ) (item_type : ItemType)
    → length args ≡ 2 → b ≡ get_or args 1 b → of_two_arguments reshape_form args ≡ Ok (form_of shape item_type) → length b.items ≡ size b.shape → size shape ≤ length b.items
    → v ≡ record { item_type = b.item_type; shape = shape; items = take (size shape) (drop 0 b.items) } → of_two_arguments reshape_whole args ≡ Ok v
reshape_answer [] b v shape item_type two same passed as_many few made = absurd (omega arith)
reshape_answer (a ∷ []) b v shape item_type two same passed as_many few made = absurd (omega arith)
reshape_answer (a ∷ c ∷ d ∷ args) b v shape item_type two same passed as_many few made = absurd (omega arith)
reshape_answer (a ∷ c ∷ []) b v shape item_type two same passed as_many few made =
    let here : reshape_form a b ≡ Ok (form_of shape item_type) = ap (λ x. reshape_form a x) same ∙ passed in
    let passed = reshape_passed a b shape item_type here in
    let shaped = passed.shaped in
    let fits : size (magnitudes a) ≤ length b.items = subst (λ xs. size xs ≤ length b.items) shaped few in
    ap (λ x. reshape_whole a x) (sym same) ∙ reshaped a b as_many fits (here ∙ ap (λ xs. Ok (form_of xs item_type)) shaped ∙ ap (λ t. Ok (form_of (magnitudes a) t)) passed.typed)
    ∙ ap (λ xs. Ok (record { item_type = b.item_type; shape = xs; items = take (size xs) (drop 0 b.items) })) (sym shaped) ∙ ap (λ w. Ok w) (sym made)

-- ---- reshape with repetition

module _ (a b : ArrayValue) (as_many : length b.items ≡ size b.shape) where
  abbrev again : ℕ → Item
  again k = get_or b.items (k % length b.items) (fill b.item_type)

  item_again : (k : ℕ) → k < size (magnitudes a) → reshape_item a b (index_after (magnitudes a) k) ≡ Ok (again k)
  item_again k h = decide (nat_eq (length b.items) 0) refl
    where
      decide : (none : Bool) → nat_eq (length b.items) 0 ≡ none → reshape_item a b (index_after (magnitudes a) k) ≡ Ok (again k)
      decide true e =
          ap (λ w. item_from a b b.item_type (cond (not w) (Place 1 (index_after b.shape (places_before (magnitudes a) (index_after (magnitudes a) k) % size b.shape))) Fill)) e
          ∙ ap (λ (x : Item). Ok x) (sym (get_or-eq_default b.items (fill b.item_type) (omega (arith, eqb-true (length b.items) 0 e))))
      decide false e =
          let before : places_before (magnitudes a) (index_after (magnitudes a) k) % size b.shape ≡ k % size b.shape = ap (λ n. n % size b.shape) (places_before-index_after (magnitudes a) k h) in
          ap (λ w. item_from a b b.item_type (cond (not w) (Place 1 (index_after b.shape (places_before (magnitudes a) (index_after (magnitudes a) k) % size b.shape))) Fill)) e
          ∙ ap (λ n. item_from a b b.item_type (Place 1 (index_after b.shape n))) before
          ∙ ap (λ o. Ok (unwrap_or o (fill b.item_type))) (item_after b (k % size b.shape) (mod_below k (size b.shape) (omega (arith, as_many, eqb-false (length b.items) 0 e))))
          ∙ ap (λ n. Ok (get_or b.items (k % n) (fill b.item_type))) (sym as_many)

  recycles : reshape_form a b ≡ Ok (form_of (magnitudes a) b.item_type) → reshape_whole a b ≡ Ok (again_under b (magnitudes a))
  recycles is =
      let n = size (magnitudes a) in
      ap (λ r. and_then r (λ f. collect f.item_type f.shape (reshape_item a b))) is
      ∙ ap (with_items b.item_type (magnitudes a))
      (given_in_order (magnitudes a) (reshape_item a b) (again_under b (magnitudes a)).items (fill b.item_type) (length-map-range_with_len again 0 n)
      (λ k h. item_again k h ∙ ap (λ (x : Item). Ok x) (sym (get_or-map-range_with_len again 0 n k k (fill b.item_type) h (omega arith)))))

pub recycled_answer : (args : List ArrayValue) (b v : ArrayValue) (shape : List ℕ) (item_type : ItemType)
    → length args ≡ 2 → b ≡ get_or args 1 b → of_two_arguments reshape_form args ≡ Ok (form_of shape item_type) → length b.items ≡ size b.shape
    → v ≡ again_under b shape → of_two_arguments reshape_whole args ≡ Ok v
recycled_answer [] b v shape item_type two same passed as_many made = absurd (omega arith)
recycled_answer (a ∷ []) b v shape item_type two same passed as_many made = absurd (omega arith)
recycled_answer (a ∷ c ∷ d ∷ args) b v shape item_type two same passed as_many made = absurd (omega arith)
recycled_answer (a ∷ c ∷ []) b v shape item_type two same passed as_many made =
    let here : reshape_form a b ≡ Ok (form_of shape item_type) = ap (λ x. reshape_form a x) same ∙ passed in
    let passed = reshape_passed a b shape item_type here in
    let form : reshape_form a b ≡ Ok (form_of (magnitudes a) b.item_type) = here ∙ ap (λ xs. Ok (form_of xs item_type)) passed.shaped ∙ ap (λ t. Ok (form_of (magnitudes a) t)) passed.typed in
    ap (λ x. reshape_whole a x) (sym same) ∙ recycles a b as_many form ∙ ap (λ xs. Ok (again_under b xs)) (sym passed.shaped) ∙ ap (λ w. Ok w) (sym made)

pub all_listed : (xs : List Item) (d : Item) (n : ℕ) → n ≡ length xs → [] ++ listed n (λ k. get_or xs (0 + k) d) ≡ xs
all_listed xs d n e =
    ap (λ m. listed m (λ k. get_or xs (0 + k) d)) e
    ∙ sym (fill_by_all (λ k. get_or xs (0 + k) d) xs (length xs) d refl (λ k h. ap (λ j. get_or xs j d) (let same : k ≡ 0 + k = omega arith in same)))

pub built_long : (now before : List Item) (n : ℕ) (f : ℕ → Item) → now ≡ before ++ listed n f → before ≡ [] → length now ≡ n
built_long now before n f e none = ap length (e ∙ ap (λ xs. xs ++ listed n f) none) ∙ length-map-range_with_len f 0 n

pub all_built : (now before xs : List Item) (d : Item) (n : ℕ) → now ≡ before ++ listed n (λ k. get_or xs (0 + k) d) → before ≡ [] → n ≡ length xs → now ≡ xs
all_built now before xs d n e none long = e ∙ ap (λ ys. ys ++ listed n (λ k. get_or xs (0 + k) d)) none ∙ all_listed xs d n long

-- at most one item, repeated
one_item : (items : List Item) (d : Item) (k : ℕ) → length items ≤ 1 → get_or items 0 d ≡ get_or items (k % length items) d
one_item [] d k few = refl
one_item (x ∷ []) d k few = ap (λ j. get_or (x ∷ []) j d) (sym (mod-one k))
one_item (x ∷ y ∷ items) d k few = absurd (omega arith)

pub all_alike : (now before items : List Item) (x d : Item) (n : ℕ) → now ≡ before ++ listed n (λ k. x) → before ≡ [] → x ≡ get_or items 0 d → length items ≤ 1
    → now ≡ listed n (λ k. get_or items (k % length items) d)
all_alike now before items x d n e none is few =
    e ∙ ap (λ xs. xs ++ listed n (λ k. x)) none
    ∙ fill_by_all (λ k. get_or items (k % length items) d) (listed n (λ k. x)) n d (length-map-range_with_len (λ k. x) 0 n)
    (λ k h. get_or-map-range_with_len (λ k. x) 0 n k k d h (omega arith) ∙ is ∙ one_item items d k few)
