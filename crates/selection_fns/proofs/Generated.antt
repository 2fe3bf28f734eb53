-- The index lists of an index generator's result.
use Rattle.std.{proofs.Common.{◌≡◌, ℕ, Bool, true, false, cond, ◌+◌, ◌*◌, ◌<◌, ◌≤◌, pos, List, [], ◌∷◌, length, get_or, map, Ok, Err, refl, ap, sym, ◌∙◌, arith}, specs.Prelude.{nat_eq, nat_le, unsigned_abs, ◌&&◌}, specs.List.{range_with_len}, proofs.lemmas.Bool.{false≢true, eqb-true, leb-true}}
use Rattle.std.{proofs.lemmas.List.FromFn.{length-map-range_with_len, get_or-map-range_with_len}, proofs.Math.Nat.{div-one}, proofs.lemmas.Bool.Decides.{nat_tests}, proofs.lemmas.List.{length-map, get_or-map}}
use Rattle.arrays_core.{specs.declared.item.Item.{Item}, specs.declared.item.Item.TheVariants.{Num}, specs.declared.item.ItemType.{ItemType}, specs.declared.item.ItemType.TheVariants.{Nums}, specs.declared.item.Kind.TheVariants.{Rank, Length, Domain, Limit}, specs.Items.{and_then}, specs.Shapes.{index_after}}
use Rattle.arrays_core.{specs.Arrays.{ArrayValue, collect, with_items, vector_of}, proofs.Order.{given_in_order}, proofs.Shapes.{as_long}}
use Rattle.index_region.{specs.Checks.{Form, form_of, is_within_limits}, specs.ArgumentLists.{of_one_argument}, specs.Arguments.{is_list, has_one_item, counts_as_numbers, none_negative, numbers, number_of}, specs.Answers.{IsPlaceOf}, proofs.Passing.{passed, place_inside, gives, limited_gives}}
use Rattle.selection_fns.specs.IndexGenerator.{generator_form, generator_item, generator_whole}

-- there is one index
pub has_index : (args : List ArrayValue) (index : List ℕ) → IsPlaceOf (of_one_argument generator_form args) index → 0 < length index
has_index [] index h = absurd h
has_index (a ∷ b ∷ args) index h = absurd h
has_index (n ∷ []) index h =
    let one = passed (has_one_item n) _ _ index (passed (is_list n) _ _ index h).place in
    let counted = passed (counts_as_numbers n && none_negative (numbers n)) _ _ index one.place in
    let long = as_long (map unsigned_abs (numbers n)) index (place_inside (map unsigned_abs (numbers n)) _ index counted.place) in
    omega (arith, one_item (length n.items) one.test, length-map (numbers n) unsigned_abs, length-map n.items number_of)
  where
    one_item : (n : ℕ) → nat_eq n 1 ≡ true → n ≡ 1
    one_item n h = grind (arith, nat_tests)

-- ---- the whole vector

-- the consequences of the checks
pub record Generated (n : ArrayValue) (shape : List ℕ) (item_type : ItemType) : Type 0 where
  pub alone : shape ≡ get_or shape 0 0 ∷ []
  pub within : nat_le (get_or shape 0 0) 1048576 ≡ true
  pub form : generator_form n ≡ Ok (form_of (get_or shape 0 0 ∷ []) Nums)

axis_within : (rank axis places : Bool) → ((rank && (axis && true)) && places) ≡ true → axis ≡ true
axis_within rank true places h = refl
axis_within true false places h = absurd (false≢true h)
axis_within false false places h = absurd (false≢true h)

generated_of : (n : ArrayValue) (shape : List ℕ) (item_type : ItemType) → generator_form n ≡ Ok (form_of shape item_type) → Generated n shape item_type
generated_of n shape item_type form =
    let one = gives (has_one_item n) Length _ (form_of shape item_type) (gives (is_list n) Rank _ (form_of shape item_type) form).is in
    let counted = gives (counts_as_numbers n && none_negative (numbers n)) Domain _ (form_of shape item_type) one.is in
    let same = limited_gives (map unsigned_abs (numbers n)) Nums (form_of shape item_type) counted.is in
    let limits = gives (is_within_limits (map unsigned_abs (numbers n))) Limit _ (form_of shape item_type) counted.is in
    let single = eqb-true (length n.items) 1 one.test in
    let magnitudes = length-map (numbers n) unsigned_abs in
    let values = length-map n.items number_of in
    let shaped : shape ≡ map unsigned_abs (numbers n) = ap (λ (f : Form). f.shape) same in
    let long : length shape ≡ 1 = ap length shaped ∙ omega arith in
    let only : shape ≡ get_or shape 0 0 ∷ [] = by_length shape long in
    record {
      alone = only;
      within = first_within shape (ap is_within_limits shaped ∙ limits.test) long;
      form = form ∙ ap (λ t. Ok (form_of shape t)) (ap (λ (f : Form). f.item_type) same) ∙ ap (λ s. Ok (form_of s Nums)) only;
    }
  where
    by_length : (s : List ℕ) → length s ≡ 1 → s ≡ get_or s 0 0 ∷ []
    by_length [] e = absurd (omega arith)
    by_length (x ∷ []) e = refl
    by_length (x ∷ y ∷ s) e = absurd (omega arith)

    first_within : (s : List ℕ) → is_within_limits s ≡ true → length s ≡ 1 → nat_le (get_or s 0 0) 1048576 ≡ true
    first_within [] h e = absurd (omega arith)
    first_within (x ∷ []) h e = axis_within (nat_le 1 4) (nat_le x 1048576) (nat_le (x * 1) 1048576) h
    first_within (x ∷ y ∷ s) h e = absurd (omega arith)

pub generated : (args : List ArrayValue) (shape : List ℕ) (item_type : ItemType) → length args ≡ 1 → of_one_argument generator_form args ≡ Ok (form_of shape item_type)
    → (shape ≡ get_or shape 0 0 ∷ []) × (of_one_argument generator_whole args ≡ vector_of (map pos (range_with_len 1 (get_or shape 0 0)))) × (get_or shape 0 0 ≤ 1048576)
generated [] shape item_type h form = absurd (omega arith)
generated (a ∷ b ∷ args) shape item_type h form = absurd (omega arith)
generated (n ∷ []) shape item_type h form =
    let known = generated_of n shape item_type form in
    let c = get_or shape 0 0 in
    let zs = map pos (range_with_len 1 c) in
    let long : length zs ≡ c = length-map-range_with_len pos 1 c in
    let items = map (λ z. Num z) zs in
    let read : (k : ℕ) → k < c → get_or items k (Num (pos 0)) ≡ Num (pos (k + 1)) = λ k below.
    get_or-map (λ z. Num z) zs k (pos 0) (Num (pos 0)) (omega (arith, long)) ∙ ap (λ z. Num z) (get_or-map-range_with_len pos 1 c k (k + 1) (pos 0) below (omega arith)) in
    let each : (k : ℕ) → k < c * 1 → generator_item n (index_after (c ∷ []) k) ≡ Ok (get_or items k (Num (pos 0))) = λ k below.
    ap (λ m. Ok (Num (pos (m + 1)))) (div-one k) ∙ ap (λ (x : Item). Ok x) (sym (read k (omega arith))) in
    let collected : generator_whole n ≡ Ok (record { item_type = Nums; shape = c ∷ []; items = items }) =
    ap (λ r. and_then r (λ f. collect f.item_type f.shape (generator_item n))) known.form
    ∙ ap (with_items Nums (c ∷ [])) (given_in_order (c ∷ []) (generator_item n) items (Num (pos 0)) (length-map zs (λ z. Num z) ∙ long ∙ omega arith) each) in
    let vector : vector_of zs ≡ Ok (record { item_type = Nums; shape = c ∷ []; items = items }) =
    ap (λ m. cond (nat_le m 1048576) (Ok (record { item_type = Nums; shape = m ∷ []; items = items })) (Err Limit)) long
    ∙ ap (λ w. cond w (Ok (record { item_type = Nums; shape = c ∷ []; items = items })) (Err Limit)) known.within in
    (known.alone, collected ∙ sym vector, leb-true c 1048576 known.within)
