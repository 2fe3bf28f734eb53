-- Equality of arrays of characters, and of numbers with characters.
use Rattle.std.{proofs.Common.{◌≡◌, ℕ, ◌+◌, ◌<◌, ◌==◌, Bool, true, false, if◌then◌else◌, List, [], ◌∷◌, ◌++◌, ◌≤◌, length, get_or, map, refl, ap, sym, ◌∙◌, arith, ℤ, pos, SFits, w64, to_z, of_z, vec_len, vec_capacity, Result, Ok, Err, IfOk, replicate}, specs.Prelude.{Vec}, proofs.lemmas.Int.{to_z-of_z}}
use Rattle.std.{proofs.lemmas.List.{length-map, get_or-map, get_or-replicate, length-replicate}, proofs.lemmas.List.Elements.{All-get_or}, proofs.lemmas.List.FromFn.{get_or-map-range_with_len, length-map-range_with_len}, proofs.lemmas.Bool.{eqb-true}, proofs.lemmas.Bool.Decides.{nat_tests}}
use Rattle.arrays_core.{specs.Building.{listed}, specs.declared.item.Item.{Item}, specs.declared.item.Item.TheVariants.{Num, Char}, specs.declared.item.ItemType.TheVariants.{Nums}, specs.declared.item.Kind.{Kind}, specs.Items.{all_or_first_error, after, fill, type_of}, specs.Shapes.{size, index_after}}
use Rattle.arrays_core.{specs.Arrays.{ArrayValue, IsArray, collect, with_items}, proofs.Building.{listed_more}}
use Rattle.scalar_fns.{specs.ScalarExtension.{common, extended, dyadic_on_arrays, for_shape}, specs.Characters.{equality, told, answers_of, character_at, AreTold}, specs.Laws.Extension.{ExtendsTo, common_extends}, proofs.Joint.{IsOf, extended_is, extended_place, place_in}}
use Rattle.item_fns.{specs.Items.{dyadic_on_items, number_item}, specs.NumberLists.{number_items}, proofs.Collected.{collected}}

all_ok : (zs : List ℤ) → all_or_first_error {E = Kind} (map (λ z. Ok z) zs) ≡ Ok zs
all_ok [] = refl
all_ok (z ∷ zs) = ap (after z) (all_ok zs)

-- two arrays whose items compare with these results
answers_collected : (equal : Bool) (a b : ArrayValue) (shape : List ℕ) (zs : List ℤ) → common a.shape b.shape ≡ Ok shape → length zs ≡ size shape
    → ((i : ℕ) → i < size shape → dyadic_on_items (equality equal) (extended a (index_after shape i)) (extended b (index_after shape i)) ≡ Ok (Num (get_or zs i (pos 0))))
    → dyadic_on_arrays (equality equal) a b ≡ answers_of shape zs
answers_collected equal a b shape zs common_is long each =
    ap (λ r. for_shape r (λ s. collect Nums s (λ index. dyadic_on_items (equality equal) (extended a index) (extended b index)))) common_is
    ∙ collected shape (λ index. dyadic_on_items (equality equal) (extended a index) (extended b index)) (map (λ z. Ok z) zs) (length-map zs (λ z. Ok z) ∙ long) (λ i h.
    each i h ∙ sym (ap number_item (get_or-map (λ z. Ok z) zs i (pos 0) (Ok (pos 0)) (omega arith))))
    ∙ ap (λ r. with_items Nums shape (number_items r)) (all_ok zs)

asked_of_characters : (equal : Bool) (x y : ℕ) → dyadic_on_items (equality equal) (Char x) (Char y) ≡ Ok (Num (told equal (x == y)))
asked_of_characters true x y = refl
asked_of_characters false x y = refl

asked_of_others : (equal : Bool) (x y : Item) → (type_of x ≡ type_of y → ⊥) → dyadic_on_items (equality equal) x y ≡ Ok (Num (told equal false))
asked_of_others equal (Num x) (Num y) differ = absurd (differ refl)
asked_of_others true (Num x) (Char y) differ = refl
asked_of_others false (Num x) (Char y) differ = refl
asked_of_others true (Char x) (Num y) differ = refl
asked_of_others false (Char x) (Num y) differ = refl
asked_of_others equal (Char x) (Char y) differ = absurd (differ refl)

pub of_characters : (equal : Bool) (a b : ArrayValue) (cs ds : List ℕ) (shape : List ℕ) (zs : List ℤ) → IsOf (λ c. Char c) a cs → IsOf (λ c. Char c) b ds
    → common a.shape b.shape ≡ Ok shape → AreTold equal cs ds (size shape) zs → dyadic_on_arrays (equality equal) a b ≡ answers_of shape zs
of_characters equal a b cs ds shape zs is_a is_b common_is answers =
    let fits = common_extends a.shape b.shape shape common_is in
    answers_collected equal a b shape zs common_is answers.long (λ i h.
    (rw (extended_is (λ c. Char c) 0 a cs shape i is_a fits.0 h, extended_is (λ c. Char c) 0 b ds shape i is_b fits.1 h)
    (asked_of_characters equal (character_at cs i) (character_at ds i)))
    ∙ ap (λ z. Ok (Num z)) (sym (answers.each i h)))

-- the items of an extended array have its type
type_there : (a : ArrayValue) (shape : List ℕ) (i : ℕ) → IsArray a → ExtendsTo a.shape shape → i < size shape → type_of (extended a (index_after shape i)) ≡ a.item_type
type_there a shape i is fits h =
    let place = extended_place a shape i fits h in
    let long : length a.items ≡ size a.shape = is.one_item_a_place in
    let below : place_in a i < length a.items = let b = place.1 in omega arith in
    ap type_of place.0 ∙ All-get_or (λ item. type_of item ≡ a.item_type) a.items (place_in a i) (fill a.item_type) below is.one_type

pub of_other_types : (equal : Bool) (a b : ArrayValue) (shape : List ℕ) → IsArray a → IsArray b → (a.item_type ≡ b.item_type → ⊥)
    → common a.shape b.shape ≡ Ok shape → dyadic_on_arrays (equality equal) a b ≡ answers_of shape (replicate (size shape) (told equal false))
of_other_types equal a b shape is_a is_b differ common_is =
    let fits = common_extends a.shape b.shape shape common_is in
    answers_collected equal a b shape (replicate (size shape) (told equal false)) common_is (length-replicate (size shape) (told equal false)) (λ i h.
    asked_of_others equal (extended a (index_after shape i)) (extended b (index_after shape i))
    (λ e. differ (sym (type_there a shape i is_a fits.0 h) ∙ e ∙ type_there b shape i is_b fits.1 h))
    ∙ ap (λ z. Ok (Num z)) (sym (get_or-replicate (size shape) i (told equal false) (pos 0) h)))

-- the results so far, place by place, with capacity for all
pub record AreToldTo {G : Type 0} (place most : ℕ) (answer : ℕ → ℤ) (answers : Vec ℤ G) : Type 0 where
  pub long : vec_len answers ≡ place
  pub room : most ≤ vec_capacity answers
  pub made : answers.items ≡ listed place answer

pub told_more : {G : Type 0} (place most : ℕ) (answer : ℕ → ℤ) (answers more : Vec ℤ G) (z : ℤ) → AreToldTo place most answer answers → z ≡ answer place → SFits w64 z
    → more.items ≡ answers.items ++ to_z w64 (of_z w64 z) ∷ [] → vec_len more ≡ vec_len answers + 1 → vec_capacity answers ≤ vec_capacity more → AreToldTo (place + 1) most answer more
told_more place most answer answers more z before here fits items longer room = record {
  long = longer ∙ ap (λ n. n + 1) before.long;
  room = omega (arith, before.room, room);
  made = listed_more answer [] answers.items more.items place z before.made (rw (to_z-of_z w64 z fits) at items) here;
}

-- a single character is at every place
one_at : (cs : List ℕ) (k : ℕ) → length cs ≡ 1 → character_at cs k ≡ get_or cs 0 0
one_at cs k one = ap (λ n. get_or cs (if n == 1 then 0 else k) 0) one

own_at : (cs : List ℕ) (k : ℕ) → k < length cs → character_at cs k ≡ get_or cs k 0
own_at cs k there = by (length cs == 1) refl
  where
    by : (b : Bool) → (length cs == 1) ≡ b → get_or cs (if b then 0 else k) 0 ≡ get_or cs k 0
    by true e = let one : length cs ≡ 1 = eqb-true (length cs) 1 e in let first : 0 ≡ k = omega arith in ap (λ j. get_or cs j 0) first
    by false e = refl

turned : (x y : ℕ) → (x == y) ≡ (y == x)
turned x y = grind (arith, nat_tests)

-- results that are listed place by place
told_at : (equal : Bool) (xs ys : List ℕ) (places : ℕ) (same : ℕ → Bool) (zs : List ℤ) → zs ≡ listed places (λ k. told equal (same k))
    → ((k : ℕ) → k < places → same k ≡ (character_at xs k == character_at ys k)) → AreTold equal xs ys places zs
told_at equal xs ys places same zs made is = record {
  long = ap length made ∙ length-map-range_with_len (λ k. told equal (same k)) 0 places;
  each = λ k h.
      ap (λ t. get_or t k (pos 0)) made ∙ get_or-map-range_with_len (λ j. told equal (same j)) 0 places k k (pos 0) h (let here : 0 + k ≡ k = omega arith in here)
      ∙ ap (told equal) (is k h);
}

pub told_beside_one : (equal : Bool) (xs ys : List ℕ) (places : ℕ) (zs : List ℤ) (x : ℕ) → x ≡ get_or xs 0 0 → length xs ≡ 1 → length ys ≡ places
    → zs ≡ listed (length ys) (λ k. told equal (get_or ys k 0 == x)) → AreTold equal xs ys places zs
told_beside_one equal xs ys places zs x first one long made =
    told_at equal xs ys places (λ k. get_or ys k 0 == x) zs (made ∙ ap (λ n. listed n (λ k. told equal (get_or ys k 0 == x))) long) (λ k h.
    turned (get_or ys k 0) x ∙ sym (ap (λ y. y == character_at ys k) (one_at xs k one ∙ sym first) ∙ ap (λ y. x == y) (own_at ys k (omega arith))))

pub told_before_one : (equal : Bool) (xs ys : List ℕ) (places : ℕ) (zs : List ℤ) (y : ℕ) → y ≡ get_or ys 0 0 → length ys ≡ 1 → length xs ≡ places
    → zs ≡ listed (length xs) (λ k. told equal (get_or xs k 0 == y)) → AreTold equal xs ys places zs
told_before_one equal xs ys places zs y first one long made =
    told_at equal xs ys places (λ k. get_or xs k 0 == y) zs (made ∙ ap (λ n. listed n (λ k. told equal (get_or xs k 0 == y))) long) (λ k h.
    sym (ap (λ z. character_at xs k == z) (one_at ys k one ∙ sym first) ∙ ap (λ x. x == y) (own_at xs k (omega arith))))

pub told_in_pairs : (equal : Bool) (xs ys : List ℕ) (places : ℕ) (zs : List ℤ) → length xs ≡ length ys → length xs ≡ places
    → zs ≡ listed (length xs) (λ k. told equal (get_or xs k 0 == get_or ys k 0)) → AreTold equal xs ys places zs
told_in_pairs equal xs ys places zs even long made =
    told_at equal xs ys places (λ k. get_or xs k 0 == get_or ys k 0) zs (made ∙ ap (λ n. listed n (λ k. told equal (get_or xs k 0 == get_or ys k 0))) long) (λ k h.
    sym (ap (λ y. character_at xs k == y) (own_at ys k (omega arith)) ∙ ap (λ x. x == get_or ys k 0) (own_at xs k (omega arith))))

-- a property of the items of a returned list
pub of_items : {G E : Type 0} (r : Result (Vec ℤ G) E) (P Q : List ℤ → Type 0) → ((zs : List ℤ) → P zs → Q zs) → IfOk r (λ v. P v.items) → IfOk r (λ v. Q v.items)
of_items (Ok v) P Q goes is = goes v.items is
of_items (Err e) P Q goes is = tt
