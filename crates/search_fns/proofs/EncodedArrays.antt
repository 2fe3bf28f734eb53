-- The array of the digits of an array by radices.
use Rattle.std.{proofs.Common.{◌≡◌, ℕ, zero, suc, true, ◌+◌, ◌*◌, ◌/◌, ◌%◌, ◌<◌, ◌≤◌, List, [], ◌∷◌, ◌++◌, length, get_or, drop, map, ℤ, pos, Ok, refl, ap, sym, ◌∙◌, arith, if◌then◌else◌}, specs.Prelude.{nat_eq, nat_le, ◌&&◌}, proofs.lemmas.Bool.Decides.{nat_tests}, proofs.lemmas.List.{length-map, get_or-map}}
use Rattle.std.{proofs.lemmas.Nat.{div_below, mod_below}, proofs.Math.Nat.{div-add-mod'}}
use Rattle.arrays_core.{specs.declared.item.Item.{Item}, specs.declared.item.Item.TheVariants.{Num}, specs.declared.item.ItemType.{ItemType}, specs.declared.item.ItemType.TheVariants.{Nums}, specs.declared.item.Kind.TheVariants.{Rank, Domain}, specs.Items.{fill, and_then}, specs.Shapes.{size, index_after}}
use Rattle.arrays_core.{specs.Arrays.{ArrayValue, IsArray, item_of, collect, with_items}, proofs.Order.{given_in_order, places_before-index_after}}
use Rattle.item_fns.specs.Items.{number_item}
use Rattle.index_region.{specs.Arguments.{is_list, counts_as_numbers, number_of, numbers}, specs.Checks.{Form, form_of, check, limited}, specs.ArgumentLists.{of_two_arguments}, proofs.Passing.{two_arguments, gives, limited_gives}}
use Rattle.search_fns.{specs.Encode.{digit, encode_form, encode_item, encode_whole}, specs.EncodedRows.{AreDigits}}

-- a place among rows is in a row of some places
row_some : (n s m : ℕ) → m < n * s → 0 < s
row_some n zero m h = absurd (omega arith)
row_some n (suc s) m h = omega arith

-- the consequences of a form
pub record IsEncoded (a b : ArrayValue) (shape : List ℕ) (item_type : ItemType) : Type 0 where
  pub few : length a.shape ≤ 1
  pub shaped : shape ≡ a.shape ++ b.shape
  pub typed : item_type ≡ Nums

pub encode_gives : (a b : ArrayValue) (shape : List ℕ) (item_type : ItemType) → encode_form a b ≡ Ok (form_of shape item_type) → IsEncoded a b shape item_type
encode_gives a b shape item_type form =
    let counted = check (counts_as_numbers a && counts_as_numbers b) Domain (limited (a.shape ++ b.shape) Nums) in
    let rank = gives (is_list a) Rank counted (form_of shape item_type) form in
    let checked = gives (counts_as_numbers a && counts_as_numbers b) Domain (limited (a.shape ++ b.shape) Nums) (form_of shape item_type) rank.is in
    let asked = limited_gives (a.shape ++ b.shape) Nums (form_of shape item_type) checked.is in
    record { few = within (length a.shape) rank.test; shaped = ap (λ (f : Form). f.shape) asked; typed = ap (λ (f : Form). f.item_type) asked }
  where
    within : (n : ℕ) → nat_le n 1 ≡ true → n ≤ 1
    within n e = grind (arith, nat_tests)

-- the number of digits
pub digits_long : (s t : List ℕ) → length s ≤ 1 → size (s ++ t) ≡ size s * size t
digits_long [] t few = omega arith
digits_long (n ∷ []) t few = ap (λ m. m * size t) (let one : n ≡ n * 1 = omega arith in one)
digits_long (n ∷ m ∷ s) t few = absurd (omega arith)

module _ (a b : ArrayValue) (digits : List ℤ) (long_a : length a.items ≡ size a.shape) (long_b : length b.items ≡ size b.shape)
    (made : AreDigits (numbers a) (numbers b) digits) where
  -- the number that is encoded at an index list of b
  number_there : (j : ℕ) → j < size b.shape → number_of (item_of b (index_after b.shape j)) ≡ get_or (numbers b) j (pos 0)
  number_there j h =
      ap (λ k. number_of (get_or b.items k (fill b.item_type))) (places_before-index_after b.shape j h)
      ∙ sym (get_or-map number_of b.items j (fill b.item_type) (pos 0) (omega arith))

  -- the digit by a radix of the number at a place
  digit_there : (k j : ℕ) → k < size a.shape → j < size b.shape
      → number_item (digit (numbers a) (k + 1) (number_of (item_of b (index_after b.shape j)))) ≡ Ok (Num (get_or digits (k * size b.shape + j) (pos 0)))
  digit_there k j low high =
      let radices : length (numbers a) ≡ length a.items = length-map a.items number_of in
      let places : length (numbers b) ≡ size b.shape = length-map b.items number_of ∙ long_b in
      ap (λ z. number_item (digit (numbers a) (k + 1) z)) (number_there j high)
      ∙ ap number_item (made.each k j (omega arith) (omega arith))
      ∙ ap (λ n. Ok (Num (get_or digits (k * n + j) (pos 0)))) places

  item_there : (s : List ℕ) → length s ≤ 1 → size a.shape ≡ size s → (m : ℕ) → m < size (s ++ b.shape)
      → number_item (digit (numbers a) (if nat_eq (length s) 0 then 1 else get_or (index_after (s ++ b.shape) m) 0 1) (number_of (item_of b (drop (length s) (index_after (s ++ b.shape) m)))))
      ≡ Ok (Num (get_or digits m (pos 0)))
  item_there [] few same m h = digit_there 0 m (omega arith) h ∙ ap (λ k. Ok (Num (get_or digits k (pos 0)))) (omega arith)
  item_there (n ∷ []) few same m h =
      let s = size b.shape in
      let some = row_some n s m h in
      let row : m / s < n = div_below m s n some h in
      digit_there (m / s) (m % s) (omega arith) (mod_below m s some) ∙ ap (λ k. Ok (Num (get_or digits k (pos 0)))) (div-add-mod' m s)
  item_there (n ∷ p ∷ s) few same m h = absurd (omega arith)

  -- there is one digit for each place of the result
  pub encoded_long : (shape : List ℕ) (item_type : ItemType) → IsEncoded a b shape item_type → length digits ≡ size shape
  encoded_long shape item_type known =
      let places : length (numbers b) ≡ size b.shape = length-map b.items number_of ∙ long_b in
      made.long ∙ (rw (length-map a.items number_of ∙ long_a, places) (sym (digits_long a.shape b.shape known.few))) ∙ ap size (sym known.shaped)

  -- the digits are the items of the whole result
  encoded_array : (shape : List ℕ) (item_type : ItemType) → encode_form a b ≡ Ok (form_of shape item_type) → IsEncoded a b shape item_type
      → encode_whole a b ≡ Ok (record { item_type = Nums; shape = shape; items = map (λ z. Num z) digits })
  encoded_array shape item_type form known =
      let axes = a.shape ++ b.shape in
      let items = map (λ z. Num z) digits in
      let long : length digits ≡ size axes = encoded_long shape item_type known ∙ ap size known.shaped in
      ap (λ r. and_then r (λ f. collect f.item_type f.shape (encode_item a b))) form
      ∙ ap (λ t. collect t shape (encode_item a b)) known.typed
      ∙ ap (λ s. collect Nums s (encode_item a b)) known.shaped
      ∙ ap (with_items Nums axes) (given_in_order axes (encode_item a b) items (Num (pos 0)) (length-map digits (λ z. Num z) ∙ long) (λ m h.
      item_there a.shape known.few refl m h ∙ sym (ap (λ (x : Item). Ok x) (get_or-map (λ z. Num z) digits m (pos 0) (Num (pos 0)) (omega arith)))))
      ∙ ap (λ s. Ok (record { item_type = Nums; shape = s; items = items })) (sym known.shaped)

module _ (args : List ArrayValue) (a b : ArrayValue) (two : length args ≡ 2) (first : a ≡ get_or args 0 a) (second : b ≡ get_or args 1 b)
    (shape : List ℕ) (item_type : ItemType) (is : of_two_arguments encode_form args ≡ Ok (form_of shape item_type)) where
  both : args ≡ a ∷ b ∷ []
  both = two_arguments args a b two first second

  form : encode_form a b ≡ Ok (form_of shape item_type)
  form = ap (of_two_arguments encode_form) (sym both) ∙ is

  pub encode_known : IsEncoded a b shape item_type
  encode_known = encode_gives a b shape item_type form

  pub encode_answer : (digits : List ℤ) → IsArray a → IsArray b → AreDigits (numbers a) (numbers b) digits
      → of_two_arguments encode_whole args ≡ Ok (record { item_type = Nums; shape = shape; items = map (λ z. Num z) digits })
  encode_answer digits sound_a sound_b made =
      ap (of_two_arguments encode_whole) both ∙ encoded_array a b digits sound_a.one_item_a_place sound_b.one_item_a_place made shape item_type form encode_known
