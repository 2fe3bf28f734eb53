-- Items sought in the items of an array.
use Rattle.std.{proofs.Common.{◌≡◌, ◌≢◌, ℕ, ◌+◌, ◌<◌, Bool, true, false, List, [], ◌∷◌, length, get_or, map, replicate, suc, pos, ℤ, refl, ap, sym, ◌∙◌, arith}, specs.Prelude.{nat_eq, nat_le, nat_lt}, specs.Ordering.{int_eq}, specs.List.{All, list_any, position_or_len}}
use Rattle.std.{proofs.lemmas.Bool.Decides.{nat_tests, same_from_decides, Decides-eqb, Decides-int_eq}, proofs.lemmas.List.{length-map}, proofs.lemmas.List.Sums.{position_or_len_is}}
use Rattle.item_fns.specs.Numbers.{truth}
use Rattle.arrays_core.{specs.declared.item.Item.{Item}, specs.declared.item.Item.TheVariants.{Num, Char}, specs.Items.{type_of}, specs.Arrays.{ArrayValue}}
use Rattle.search_fns.specs.SameItem.{same_item}

-- ---- numbers among numbers, characters among characters

module _ {K : Type 0} (item : K → Item) (code : K → ℤ) (alike : (x y : K) → same_item (item x) (item y) ≡ int_eq (code x) (code y)) where
  position_as : (x : K) (xs : List K) → position_or_len (same_item (item x)) (map item xs) ≡ position_or_len (int_eq (code x)) (map code xs)
  position_as x [] = refl
  position_as x (y ∷ xs) = rw (alike x y, position_as x xs) refl

  answers_by : (gives : ℕ → ℕ → ℤ) (places : ℕ) (xs ys : List K) → map (λ y. gives (position_or_len (int_eq (code y)) (map code xs)) places) ys
      ≡ map (λ y. gives (position_or_len (same_item y) (map item xs)) places) (map item ys)
  answers_by gives places xs [] = refl
  answers_by gives places xs (y ∷ ys) = rw (position_as y xs, answers_by gives places xs ys) refl

  pub answers_as : (gives : ℕ → ℕ → ℤ) (xs ys : List K) → map (λ y. gives (position_or_len (int_eq (code y)) (map code xs)) (length xs)) ys
      ≡ map (λ y. gives (position_or_len (same_item y) (map item xs)) (length (map item xs))) (map item ys)
  answers_as gives xs ys = answers_by gives (length xs) xs ys ∙ ap (λ n. map (λ y. gives (position_or_len (same_item y) (map item xs)) n) (map item ys)) (sym (length-map xs item))

truth_is_1 : (w : Bool) → int_eq (truth w) (pos 1) ≡ w
truth_is_1 true = refl
truth_is_1 false = refl

pub same_numbers : (x y : ℤ) → same_item (Num x) (Num y) ≡ int_eq x y
same_numbers x y = truth_is_1 (int_eq x y)

same_code : (x y : ℕ) → nat_eq x y ≡ int_eq (pos x) (pos y)
same_code x y =
    let d = Decides-int_eq (pos x) (pos y) in
    same_from_decides (nat_eq x y) (int_eq (pos x) (pos y)) (Decides-eqb x y) ((λ h. let e = d.0 h in cc), (λ e. d.1 (ap pos e)))

pub same_characters : (x y : ℕ) → same_item (Char x) (Char y) ≡ int_eq (pos x) (pos y)
same_characters x y = truth_is_1 (nat_eq x y) ∙ same_code x y

-- ---- items of the other type

other_type : (x y : Item) → (type_of x ≡ type_of y → ⊥) → same_item x y ≡ false
other_type (Num x) (Num y) h = absurd (h refl)
other_type (Num x) (Char y) h = refl
other_type (Char x) (Num y) h = refl
other_type (Char x) (Char y) h = absurd (h refl)

none_same : (x : Item) (xs : List Item) → All (λ y. type_of x ≢ type_of y) xs → position_or_len (same_item x) xs ≡ length xs
none_same x xs h =
    position_or_len_is (same_item x) xs (length xs) x (omega arith) (λ k below. other_type x (get_or xs k x) (h k x below)) (λ below. absurd (omega arith))

all_alike : {A B : Type 0} (f : A → B) (y : B) (xs : List A) → All (λ x. f x ≡ y) xs → map f xs ≡ replicate (length xs) y
all_alike f y [] h = refl
all_alike f y (x ∷ xs) h = rw (h 0 x (omega arith), all_alike f y xs (λ k d below. h (suc k) d (omega arith))) refl

module _ (a b : ArrayValue) (in_a : All (λ item. type_of item ≡ a.item_type) a.items) (in_b : All (λ item. type_of item ≡ b.item_type) b.items) (apart : a.item_type ≢ b.item_type) where
  differ : (k : ℕ) (d : Item) → k < length b.items → All (λ y. type_of (get_or b.items k d) ≢ type_of y) a.items
  differ k d below j e inside = λ same. apart (sym (in_a j e inside) ∙ sym same ∙ in_b k d below)

  pub no_answers_as : (gives : ℕ → ℕ → ℤ) → map (λ x. gives (position_or_len (same_item x) a.items) (length a.items)) b.items ≡ replicate (length b.items) (gives (length a.items) (length a.items))
  no_answers_as gives = all_alike _ _ b.items (λ k d below. ap (λ n. gives n (length a.items)) (none_same (get_or b.items k d) a.items (differ k d below)))

-- ---- an item is present if and only if its first place is

first_passes : (n : ℕ) → nat_le 1 (suc n) ≡ true
first_passes n = grind (arith, nat_tests)

after_the_first : (m n : ℕ) (w : Bool) → nat_le (suc m) n ≡ w → nat_le (suc (1 + m)) (suc n) ≡ w
after_the_first m n true h = grind (arith, nat_tests)
after_the_first m n false h = grind (arith, nat_tests)

pub found_if_any : (p : Item → Bool) (xs : List Item) → nat_le (suc (position_or_len p xs)) (length xs) ≡ list_any p xs
found_if_any p [] = refl
found_if_any p (x ∷ xs) = decide (p x) refl (found_if_any p xs)
  where
    decide : (w : Bool) → p x ≡ w → nat_le (suc (position_or_len p xs)) (length xs) ≡ list_any p xs
        → nat_le (suc (position_or_len p (x ∷ xs))) (length (x ∷ xs)) ≡ list_any p (x ∷ xs)
    decide true e more = rw e (first_passes (length xs))
    decide false e more = rw e (after_the_first (position_or_len p xs) (length xs) (list_any p xs) more)

pub members_as : (xs ys : List Item) → map (λ x. truth (nat_lt (position_or_len (same_item x) xs) (length xs))) ys ≡ map (λ x. truth (list_any (same_item x) xs)) ys
members_as xs [] = refl
members_as xs (y ∷ ys) = rw (found_if_any (same_item y) xs, members_as xs ys) refl
