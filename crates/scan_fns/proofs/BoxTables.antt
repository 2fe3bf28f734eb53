-- Tables of the items of a box, filled line by line.
use Rattle.std.{proofs.Common.{◌≡◌, ℕ, zero, suc, ◌+◌, ◌-◌, ◌<◌, ◌≤◌, true, nat_eq, inl, inr, List, [], ◌∷◌, length, get_or, map, set, insert, remove, Result, Ok, Err, refl, ap, sym, ◌∙◌, arith, pos}, specs.List.{range_with_len}}
use Rattle.std.{proofs.lemmas.Bool.{and_parts, and_from, leb-true, le-leb, false≢true, cases_Bool, eqb-true, eqb-false}, proofs.lemmas.List.{get_or-set_same, get_or-set_other, length-set}, proofs.lemmas.List.Edits.{get_or-insert_at, length-remove}}
use Rattle.std.proofs.lemmas.List.FromFn.{length-map-range_with_len, get_or-map-range_with_len}
use Rattle.arrays_core.{specs.declared.item.Item.{Item}, specs.declared.item.Item.TheVariants.{Num}, specs.declared.item.ItemType.TheVariants.{Nums}, specs.declared.item.Kind.{Kind}, specs.declared.item.Kind.TheVariants.{Domain}, specs.Items.{all_or_first_error, after, fill}, specs.Arrays.{ArrayValue, with_items}}
use Rattle.function_names.{specs.declared.scalar.Scalar2.{Scalar2}, specs.declared.along.Along.{Along}, specs.Axes.{axis_at}}
use Rattle.index_region.{specs.Boxes.{Interval, box_size, box_offset, is_within, walk_at}, proofs.Walks.{walk_within, walk_of_offset, offset_below}}
use Rattle.change_core.specs.Parts.{items_in}
use Rattle.scan_fns.{specs.Scan.{scan_item, scan_along}, specs.BoxLines.{Holds, IsOnLine, FillsBox}, specs.Laws.Scan.{put_again}}
use Rattle.reduce_fns.proofs.Lines.{remove_inserted}

-- ---- lists of results

-- a list of results without errors, entry by entry
pub each_result : {A E : Type 0} (rs : List (Result A E)) (xs : List A) (k : ℕ) (r : Result A E) (d : A) → all_or_first_error rs ≡ Ok xs → k < length rs → get_or rs k r ≡ Ok (get_or xs k d)
each_result [] xs k r d h below = absurd (omega arith)
each_result (Err e ∷ rs) xs k r d h below = cc
each_result {A} {E} (Ok x ∷ rs) xs k r d h below = decide (all_or_first_error rs) refl h k below (λ rest made j inside. each_result rs rest j r d made inside)
  where
    decide : (all : Result (List A) E) → all_or_first_error rs ≡ all → after x all ≡ Ok xs → (k : ℕ) → k < length (Ok x ∷ rs)
        → ((rest : List A) → all_or_first_error rs ≡ Ok rest → (j : ℕ) → j < length rs → get_or rs j r ≡ Ok (get_or rest j d)) → get_or (Ok x ∷ rs) k r ≡ Ok (get_or xs k d)
    decide (Err e) made h k below later = cc
    decide (Ok rest) made h zero below later = let is : x ∷ rest ≡ xs = cc in ap (λ ys. Ok (get_or ys 0 d)) is
    decide (Ok rest) made h (suc k) below later = let is : x ∷ rest ≡ xs = cc in later rest made k (omega arith) ∙ ap (λ ys. Ok (get_or ys (suc k) d)) is

-- entries without errors form a list without errors
pub all_results : {A E : Type 0} (rs : List (Result A E)) (xs : List A) (r : Result A E) (d : A) → length rs ≡ length xs → ((k : ℕ) → k < length xs → get_or rs k r ≡ Ok (get_or xs k d)) → all_or_first_error rs ≡ Ok xs
all_results [] [] r d long each = refl
all_results [] (x ∷ xs) r d long each = absurd (omega arith)
all_results (e ∷ rs) [] r d long each = absurd (omega arith)
all_results (e ∷ rs) (x ∷ xs) r d long each = rw (each 0 (omega arith), all_results rs xs r d (omega arith) (λ k below. each (suc k) (omega arith))) refl

-- ---- index lists on a line

pub as_long_as : (region : List Interval) (index : List ℕ) → is_within region index ≡ true → length index ≡ length region
as_long_as [] [] h = refl
as_long_as [] (i ∷ index) h = absurd (false≢true h)
as_long_as (s ∷ region) [] h = absurd (false≢true h)
as_long_as (s ∷ region) (i ∷ index) h = let rest = as_long_as region index (and_parts _ _ h).1 in omega arith

-- moving an index within its interval stays in the box
pub within_line : (axis : ℕ) (region : List Interval) (index : List ℕ) (j : ℕ) → axis < length region → is_within region index ≡ true → (get_or region axis (0, 0)).0 ≤ j → j ≤ (get_or region axis (0, 0)).1
    → is_within region (insert (remove index axis) axis j) ≡ true
within_line axis [] index j there h low high = absurd (omega arith)
within_line axis (s ∷ region) [] j there h low high = absurd (false≢true h)
within_line zero (s ∷ region) (i ∷ index) j there h low high = and_from _ _ (and_from _ _ (le-leb s.0 j low) (le-leb j s.1 high)) (and_parts _ _ h).1
within_line (suc axis) (s ∷ region) (i ∷ index) j there h low high =
    let parts = and_parts _ _ h in
    and_from _ _ parts.0 (within_line axis region index j (omega arith) parts.1 low high)

-- the index on an axis lies in the interval of the box
pub record Between (region : List Interval) (index : List ℕ) (axis : ℕ) : Type 0 where
  pub low : (get_or region axis (0, 0)).0 ≤ get_or index axis 1
  pub high : get_or index axis 1 ≤ (get_or region axis (0, 0)).1

pub between : (axis : ℕ) (region : List Interval) (index : List ℕ) → axis < length region → is_within region index ≡ true → Between region index axis
between axis [] index there h = absurd (omega arith)
between axis (s ∷ region) [] there h = absurd (false≢true h)
between zero (s ∷ region) (i ∷ index) there h = let here = and_parts _ _ (and_parts _ _ h).0 in record { low = leb-true s.0 i here.0; high = leb-true i s.1 here.1 }
between (suc axis) (s ∷ region) (i ∷ index) there h =
    let rest = between axis region index (omega arith) (and_parts _ _ h).1 in
    record { low = rest.low; high = rest.high }

-- ---- one more item in a table

module _ (item : List ℕ → Result Item Kind) (region : List Interval) (old new : ArrayValue) (q : ℕ) (x : Item) (is : new ≡ record old { items = set old.items q x }) (there : q < length old.items)
    (right : item (walk_at region q) ≡ Ok x) where
  entry : (place : ℕ) → get_or new.items place (Num (pos 0)) ≡ get_or (set old.items q x) place (Num (pos 0))
  entry place = ap (λ (a : ArrayValue). get_or a.items place (Num (pos 0))) is

  pub holds_there : Holds item region new q
  holds_there = right ∙ ap (λ y. Ok y) (sym (entry q ∙ get_or-set_same old.items q x (Num (pos 0)) there))

  pub holds_still : (place : ℕ) → Holds item region old place → Holds item region new place
  holds_still place h = elim (cases_Bool (nat_eq place q)) [
    | inl t ↦ subst_place place (eqb-true place q t)
    | inr o ↦ h ∙ ap (λ y. Ok y) (sym (entry place ∙ get_or-set_other old.items q place x (Num (pos 0)) (eqb-false place q o)))
  ]
    where
      subst_place : (place : ℕ) → place ≡ q → Holds item region new place
      subst_place place e = rw e holds_there

  pub table_still : FillsBox region old → FillsBox region new
  table_still h = record {
    typed = ap (λ (a : ArrayValue). a.item_type) is ∙ h.typed;
    long = ap (λ (a : ArrayValue). length a.items) is ∙ length-set old.items q x ∙ h.long;
  }

-- ---- the items of a line

module _ (f : Scalar2) (along : Along) (b : ArrayValue) (region : List Interval) (index : List ℕ) (last : ℕ) (line : ArrayValue) (axis : ℕ) (meant : axis ≡ axis_at (length b.shape) along)
    (there : axis < length index) (answered : scan_along f along b index last ≡ Ok line) (before : ℕ) (below : before < last + 1 - get_or index axis 1) where
  abbrev n : ℕ
  n = last + 1 - get_or index axis 1

  abbrev item_on_line : ℕ → Result Item Kind
  item_on_line k = scan_item f along b (set index axis (get_or index axis 1 + k))

  answered_so : with_items Nums (n ∷ []) (all_or_first_error (map item_on_line (range_with_len 0 n))) ≡ Ok line
  answered_so =
      ap (λ a. with_items Nums ((last + 1 - get_or index a 1) ∷ []) (all_or_first_error (map (λ k. scan_item f along b (set index a (get_or index a 1 + k))) (range_with_len 0 (last + 1 - get_or index a 1))))) meant
      ∙ answered

  parts : (r : Result (List Item) Kind) → with_items Nums (n ∷ []) r ≡ Ok line → (r ≡ Ok line.items) × (line.item_type ≡ Nums)
  parts (Ok xs) h = let same : record { item_type = Nums; shape = n ∷ []; items = xs } ≡ line = cc in (ap (λ (a : ArrayValue). Ok a.items) same, sym (ap (λ (a : ArrayValue). a.item_type) same))
  parts (Err k) h = cc

  pub line_item : scan_item f along b (insert (remove index axis) axis (get_or index axis 1 + before)) ≡ Ok (get_or line.items before (fill line.item_type))
  line_item =
      ap (scan_item f along b) (put_again axis (get_or index axis 1 + before) index there)
      ∙ sym (get_or-map-range_with_len item_on_line 0 n before before (Err Domain) below (omega arith))
      ∙ each_result (map item_on_line (range_with_len 0 n)) line.items before (Err Domain) (fill line.item_type) (parts _ answered_so).0
      (let long = length-map-range_with_len item_on_line 0 n in omega (arith, long, below))

-- ---- the whole table

-- a table with the right item at each place is the answer
pub table_is : (item : List ℕ → Result Item Kind) (region : List Interval) (a : ArrayValue) → FillsBox region a → ((place : ℕ) → place < box_size region → Holds item region a place) → items_in item region ≡ Ok a.items
table_is item region a table each =
    let g : ℕ → Result Item Kind = λ place. item (walk_at region place) in
    let long = length-map-range_with_len g 0 (box_size region) in
    all_results (map g (range_with_len 0 (box_size region))) a.items (Err Domain) (Num (pos 0)) (long ∙ sym table.long) (λ k below.
    let inside : k < box_size region = omega (arith, below, table.long) in
    get_or-map-range_with_len g 0 (box_size region) k k (Err Domain) inside (omega arith) ∙ each k inside)

-- the place where the line of a place begins
abbrev pub line_begins : List Interval → ℕ → ℕ → ℕ
line_begins region axis place = box_offset region (insert (remove (walk_at region place) axis) axis (get_or region axis (0, 0)).0)

module _ (region : List Interval) (axis : ℕ) (there : axis < length region) (ordered : (get_or region axis (0, 0)).0 ≤ (get_or region axis (0, 0)).1) (place : ℕ) (below : place < box_size region) where
  abbrev first : ℕ
  first = (get_or region axis (0, 0)).0

  abbrev beginning : List ℕ
  beginning = insert (remove (walk_at region place) axis) axis first

  inside : is_within region beginning ≡ true
  inside = within_line axis region (walk_at region place) first there (walk_within region place below) (omega arith) ordered

  pub begins_below : line_begins region axis place < box_size region
  begins_below = offset_below region beginning inside

  short : axis ≤ length (remove (walk_at region place) axis)
  short =
      let long = as_long_as region (walk_at region place) (walk_within region place below) in
      omega (arith, length-remove (walk_at region place) axis (omega (arith, long, there)), long, there)

  -- a line begins at its first index
  pub begins_first : (p : ℕ) → line_begins region axis place ≡ p → get_or (walk_at region p) axis 1 ≡ first
  begins_first p e = ap (λ q. get_or (walk_at region q) axis 1) (sym e) ∙ ap (λ i. get_or i axis 1) (walk_of_offset region beginning inside) ∙ get_or-insert_at _ axis first 1 short

  pub begins_on_line : (p : ℕ) → line_begins region axis place ≡ p → IsOnLine region axis (walk_at region p) place
  begins_on_line p e = sym (ap (λ q. remove (walk_at region q) axis) (sym e) ∙ ap (λ i. remove i axis) (walk_of_offset region beginning inside) ∙ remove_inserted axis first _ short)
