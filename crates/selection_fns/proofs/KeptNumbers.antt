-- The numbers that a mask keeps, one place after another.
use Rattle.std.{proofs.Common.{◌≡◌, ℕ, zero, suc, ◌+◌, ◌<◌, ◌≤◌, Bool, true, false, nat_eq, cond, List, [], ◌∷◌, ◌++◌, length, map, get_or, take, ℤ, pos, negsuc, unsigned_abs, w64, of_z, Ok, refl, ap, sym, ◌∙◌, append-nil, arith}, specs.Prelude.{max, sum}, specs.List.{list_all}, proofs.lemmas.List.{length-map, get_or-map, map-append, take_all}}
use Rattle.arrays_core.{specs.declared.item.Item.{Item}, specs.declared.item.Item.TheVariants.{Num}, specs.declared.item.ItemType.{ItemType}, specs.declared.item.ItemType.TheVariants.{Nums}, specs.Items.{fill}, specs.Arrays.{ArrayValue}, specs.Shapes.{size}}
use Rattle.function_names.{specs.declared.along.Along.{Along}, specs.Axes.{axis_at}}
use Rattle.index_region.{specs.Checks.{form_of}, specs.Axes.{places_along}, specs.Arguments.{numbers}, proofs.RowIndices.{axis_below}}
use Rattle.selection_fns.{specs.Replicate.{is_bit, maker, times, copied_place, replicate_form, replicate_whole}, specs.Kept.{AreKept, AreMasked, IsKept}, specs.Laws.CopiedPlaces.{replicate_gives}, proofs.Copies.{AreBefore, all_copies, one_place_more}, proofs.NumbersAt.{items_at}, proofs.Picked.{picked_long, picked_copies}}

-- the numbers that the first k places keep
pub record AreKeptSoFar (counts ns : List ℤ) (k : ℕ) (kept : List ℤ) : Type 0 where
  pub before : List ℕ
  pub made : AreBefore (map unsigned_abs counts) k before
  pub are : kept ≡ map (λ j. get_or ns j (pos 0)) before

pub none_kept : (counts ns : List ℤ) → AreKeptSoFar counts ns 0 []
none_kept counts ns = record { before = []; made = record { first = refl; is = λ i h. absurd (omega arith) }; are = refl }

-- a count of 0 or 1 that is not 0 in machine arithmetic
pub one_of_bit : (z : ℤ) → unsigned_abs z ≤ 1 → (of_z w64 z ≡ 0 → ⊥) → unsigned_abs z ≡ 1
one_of_bit (pos zero) few some = absurd (some refl)
one_of_bit (pos (suc k)) few some = omega arith
one_of_bit (negsuc k) few some = omega arith

-- the next number is kept where its count is 1
pub one_kept : (counts ns : List ℤ) (k : ℕ) (kept new : List ℤ) → k < length counts → unsigned_abs (get_or counts k (pos 0)) ≡ 1
    → new ≡ kept ++ get_or ns k (pos 0) ∷ [] → AreKeptSoFar counts ns k kept → AreKeptSoFar counts ns (k + 1) new
one_kept counts ns k kept new below one put so_far =
    let long = length-map counts unsigned_abs in
    let count : 1 ≡ get_or (map unsigned_abs counts) k 0 = sym (get_or-map unsigned_abs counts k (pos 0) 0 below ∙ one) in
    record {
      before = so_far.before ++ k ∷ [];
      made = one_place_more (map unsigned_abs counts) k 1 so_far.before (so_far.before ++ k ∷ []) (omega arith) count refl so_far.made;
      are = put ∙ ap (λ t. t ++ get_or ns k (pos 0) ∷ []) so_far.are ∙ sym (map-append (λ j. get_or ns j (pos 0)) so_far.before (k ∷ []));
    }

-- the next number is dropped where its count is 0
pub not_kept : (counts ns : List ℤ) (k : ℕ) (kept : List ℤ) → k < length counts → unsigned_abs (get_or counts k (pos 0)) ≡ 0
    → AreKeptSoFar counts ns k kept → AreKeptSoFar counts ns (k + 1) kept
not_kept counts ns k kept below none so_far =
    let long = length-map counts unsigned_abs in
    let count : 0 ≡ get_or (map unsigned_abs counts) k 0 = sym (get_or-map unsigned_abs counts k (pos 0) 0 below ∙ none) in
    record {
      before = so_far.before;
      made = one_place_more (map unsigned_abs counts) k 0 so_far.before so_far.before (omega arith) count (sym (append-nil so_far.before)) so_far.made;
      are = so_far.are;
    }

-- all are kept after the last place
all_kept : (counts ns : List ℤ) (k : ℕ) (kept : List ℤ) → length counts ≤ k → AreKeptSoFar counts ns k kept → AreKept counts ns kept
all_kept counts ns k kept past so_far =
    let long = length-map counts unsigned_abs in
    record { before = so_far.before; are = so_far.are; long = all_copies (map unsigned_abs counts) k so_far.before (omega arith) so_far.made; is = so_far.made.is }

pub all_masked : (counts ns : List ℤ) (k : ℕ) (kept : List ℤ) → length counts ≤ k → k ≤ length counts → length kept ≤ k → list_all is_bit (take k counts) ≡ true
    → AreKeptSoFar counts ns k kept → AreMasked counts ns kept
all_masked counts ns k kept past within few bits so_far =
    let are = all_kept counts ns k kept past so_far in
    record {
      few = omega arith;
      mask = record { bits = ap (list_all is_bit) (sym (take_all k counts past)) ∙ bits; copies = ap length are.are ∙ length-map are.before (λ k. get_or ns k (pos 0)) ∙ are.long };
      are = are;
    }

-- the numbers of a vector that are kept are the copies of its places
module _ (along : Along) (a b : ArrayValue) (shape : List ℕ) (kept : List ℤ)
    (as_many : length b.items ≡ size b.shape) (form : replicate_form along a b ≡ Ok (form_of shape b.item_type)) (is_kept : IsKept a b kept) where
  abbrev ns : List ℤ
  ns = is_kept.all

  abbrev are : AreKept (numbers a) ns kept
  are = is_kept.masked.are

  abbrev places : ℕ
  places = places_along b.shape (axis_at (max 1 (length b.shape)) along)

  as_long : places ≡ length b.items
  as_long =
      let below = axis_below (max 1 (length b.shape)) along (replicate_gives along a b shape b.item_type form).axis (omega (arith, is_kept.vector)) in
      ap (places_along b.shape) (omega (arith, is_kept.vector)) ∙ alone b.shape is_kept.vector ∙ sym as_many
    where
      alone : (s : List ℕ) → length s ≡ 1 → get_or s 0 1 ≡ size s
      alone [] h = absurd (omega arith)
      alone (n ∷ []) h = omega arith
      alone (n ∷ m ∷ s) h = absurd (omega arith)

  counts_are : times a places ≡ map unsigned_abs (numbers a)
  counts_are = rw is_kept.several refl

  not_one : nat_eq places 1 ≡ false
  not_one = ap (λ n. nat_eq n 1) (as_long ∙ sym is_kept.even) ∙ is_kept.several

  long : length are.before ≡ sum (times a places)
  long = are.long ∙ ap sum (sym counts_are)

  is : (i : ℕ) → i < length are.before → get_or are.before i 0 + 1 ≡ copied_place a places (i + 1)
  is i h = are.is i h ∙ sym (ap (λ (w : Bool). cond w 1 (maker (times a places) (i + 1))) not_one ∙ ap (λ (cs : List ℕ). maker cs (i + 1)) counts_are)

  few : length b.shape ≤ 1
  few = omega (arith, is_kept.vector)

  pub kept_long : length kept ≡ size shape
  kept_long = ap length are.are ∙ length-map are.before (λ k. get_or ns k (pos 0)) ∙ picked_long along a b shape are.before b.item_type few as_many form long is

  pub kept_copies : replicate_whole along a b ≡ Ok (record { item_type = Nums; shape = shape; items = map (λ z. Num z) kept })
  kept_copies =
      picked_copies along a b shape are.before b.item_type few as_many form long is
      ∙ ap (λ (t : ItemType). Ok (record { item_type = t; shape = shape; items = map (λ k. get_or b.items k (fill b.item_type)) are.before })) is_kept.typed
      ∙ ap (λ (xs : List Item). Ok (record { item_type = Nums; shape = shape; items = xs })) (items_at b.item_type b.items ns is_kept.typed is_kept.items are.before ∙ ap (map (λ z. Num z)) (sym are.are))
