-- A list of items filled from the front.
use Rattle.index_region.{proofs.Walks.{walk_within}, proofs.Patched.{box_within_size, fits_within}, specs.Answers.{HasTypeOf, IsPlaceOf}, specs.Checks.{Form, form_of}, specs.Boxes.{Interval, box_size, walk_at, fits}}
use Rattle.std.{proofs.Common.{◌≡◌, ℕ, zero, suc, ◌+◌, ◌-◌, ◌<◌, ◌≤◌, List, [], ◌∷◌, length, map, get_or, take, set, replicate, refl, ap, ◌∙◌, sym, subst, arith, IsTrue, Result, Ok}, specs.List.{range_with_len}, proofs.lemmas.List.{take_more_set, take_all, length-set, length-replicate}}
use Rattle.arrays_core.{specs.declared.item.Item.{Item}, specs.declared.item.ItemType.{ItemType}, specs.declared.item.Kind.{Kind}, specs.Items.{fill, type_of}, specs.Arrays.{ArrayValue}, specs.Shapes.{size, IsWithinLimits, is_index_of}}
use Rattle.change_core.{proofs.Collected.{collected}, proofs.Walking.{prepend, prepend-nil, rest_end, rest_from, rest_ok}, specs.Meters.{ticked}}

pub filled_many : (values : ArrayValue) (t : ItemType) (shape : List ℕ) (n m : ℕ) → values ≡ record { item_type = t; shape = shape; items = replicate (size shape) (fill t) } → shape ≡ n ∷ [] → n ≡ m → length values.items ≡ m
filled_many values t shape n m v s e = ap (λ (x : ArrayValue). length x.items) v ∙ length-replicate (size shape) (fill t) ∙ ap size s ∙ (omega arith) ∙ e

pub nothing_filled : (f : ℕ → Result Item Kind) (n : ℕ) (xs : List Item) → prepend (take 0 xs) (rest_from f n 0) ≡ collected (map f (range_with_len 0 n))
nothing_filled f n xs = let same : n - 0 ≡ n = omega arith in prepend-nil (rest_from f n 0) ∙ ap (λ (m : ℕ). collected (map f (range_with_len 0 m))) same

pub one_filled : (values new : ArrayValue) (f : ℕ → Result Item Kind) (n p : ℕ) (x : Item) (all : Result (List Item) Kind) → length values.items ≡ n → p < n → f p ≡ Ok x
    → new ≡ record { item_type = values.item_type; shape = values.shape; items = set values.items (p + 1 - 1) x } → prepend (take p values.items) (rest_from f n p) ≡ all
    → prepend (take (p + 1) new.items) (rest_from f n (p + 1)) ≡ all
one_filled values new f n p x all long below given is rest =
    ap (λ (a : ArrayValue). prepend (take (p + 1) a.items) (rest_from f n (p + 1))) is
    ∙ ap (λ (k : ℕ). prepend (take (p + 1) (set values.items k x)) (rest_from f n (p + 1))) (omega arith)
    ∙ ap (λ (xs : List Item). prepend xs (rest_from f n (p + 1))) (take_more_set values.items p x (omega arith))
    ∙ sym (rest_ok f n p (take p values.items) x below given)
    ∙ rest

pub as_many_written : (values new : ArrayValue) (n p : ℕ) (x : Item) → length values.items ≡ n → new ≡ record { item_type = values.item_type; shape = values.shape; items = set values.items (p + 1 - 1) x } → length new.items ≡ n
as_many_written values new n p x long is = ap (λ (a : ArrayValue). length a.items) is ∙ length-set values.items (p + 1 - 1) x ∙ long

pub all_filled : (values : ArrayValue) (f : ℕ → Result Item Kind) (n p : ℕ) (all : Result (List Item) Kind) → length values.items ≡ n → n ≤ p → prepend (take p values.items) (rest_from f n p) ≡ all → all ≡ Ok values.items
all_filled values f n p all long past rest = sym rest ∙ rest_end f n p (take p values.items) past ∙ ap (λ (xs : List Item). Ok xs) (take_all p values.items (omega arith))

-- a box of a result within the limits is small, and its index lists are places of the result
pub few_places : (region : List Interval) (shape : List ℕ) → IsTrue (fits region shape) → IsWithinLimits shape → box_size region ≤ 1048576
few_places region shape fit limits = let few = box_within_size region shape fit in let most = limits.size_within in omega arith

pub place_of : (form : Result Form Kind) (shape : List ℕ) (t : ItemType) (region : List Interval) (p : ℕ) (index : List ℕ) → form ≡ Ok (form_of shape t) → IsTrue (fits region shape) → p < box_size region
    → index ≡ walk_at region p → IsPlaceOf form index
place_of form shape t region p index e fit below is =
    subst (λ (x : Result Form Kind). IsPlaceOf x index) (sym e)
    (subst (λ (i : List ℕ). IsTrue (is_index_of shape i)) (sym is) (fits_within region shape (walk_at region p) fit (walk_within region p below)))

pub typed_item : (form : Result Form Kind) (shape : List ℕ) (t : ItemType) (x : Item) → form ≡ Ok (form_of shape t) → HasTypeOf form x → type_of x ≡ t
typed_item form shape t x e h = subst (λ (f : Result Form Kind). HasTypeOf f x) e h

pub vector_within : (n : ℕ) (shape : List ℕ) → shape ≡ n ∷ [] → n ≤ 1048576 → IsWithinLimits shape
vector_within n shape e h = subst IsWithinLimits (sym e) (record { rank = omega arith; axes = axes; size_within = omega arith })
  where
    axes : (k d : ℕ) → k < 1 → get_or (n ∷ []) k d ≤ 1048576
    axes zero d b = h
    axes (suc k) d b = absurd (omega arith)

-- one more item is counted
pub one_more_tick : (start place meter new : ℕ) → (place ≡ 0 → meter ≡ start) → (0 < place → meter ≡ ticked start place) → new ≡ ticked meter 1 → new ≡ ticked start (place + 1)
one_more_tick start zero meter new none some e = let same = none refl in omega arith
one_more_tick start (suc place) meter new none some e = let same = some (omega arith) in omega arith
