-- The first error of a box, from the errors of its lines.
use Rattle.std.{proofs.Common.{◌≡◌, ℕ, zero, suc, ◌+◌, ◌-◌, ◌*◌, ◌<◌, ◌≤◌, true, ◌⊎◌, inl, inr, List, [], ◌∷◌, length, get_or, map, set, insert, remove, Option, Some, None, Result, Ok, Err, refl, ap, sym, ◌∙◌, arith, pos}, specs.List.{range_with_len}, proofs.lemmas.Bool.{and_parts, false≢true}}
use Rattle.std.{proofs.lemmas.Nat.{mul-le}, proofs.lemmas.List.FromFn.{length-map-range_with_len, get_or-map-range_with_len}}
use Rattle.arrays_core.{specs.declared.item.Item.{Item}, specs.declared.item.Item.TheVariants.{Num}, specs.declared.item.Kind.{Kind}, specs.declared.item.Kind.TheVariants.{Domain}, specs.Items.{all_or_first_error, after}, specs.declared.item.ItemType.TheVariants.{Nums}, specs.Arrays.{ArrayValue, with_items}}
use Rattle.function_names.{specs.declared.scalar.Scalar2.{Scalar2}, specs.declared.along.Along.{Along}, specs.Axes.{axis_at}}
use Rattle.index_region.{specs.Boxes.{Interval, interval_length, box_size, box_offset, is_within, walk_at}, proofs.Walks.{walk_within, offset_of_walk, walk_of_offset, offset_below}}
use Rattle.change_core.specs.Parts.{items_in}
use Rattle.scan_fns.{specs.Scan.{scan_item, scan_along}, proofs.Scanned.{restored}, specs.Laws.Scan.{put_again}, specs.BoxLines.{Holds, IsOnLine, IsOneError, LineIsIn, line_items}, proofs.BoxTables.{each_result, as_long_as, within_line, between}}

-- a place holds its item, or its line has this error
abbrev pub IsDone : (List ℕ → Result Item Kind) → List Interval → ℕ → ArrayValue → Option Kind → ℕ → Type 0
IsDone item region axis a None place = Holds item region a place
IsDone item region axis a (Some kind) place = Holds item region a place ⊎ (line_items item region axis (walk_at region place) ≡ Err kind)

-- some line has this error, if there is one
abbrev pub IsMet : (List ℕ → Result Item Kind) → List Interval → ℕ → Option Kind → Type 0
IsMet item region axis None = Unit {0}
IsMet item region axis (Some kind) = (place : ℕ) × (place < box_size region) × (line_items item region axis (walk_at region place) ≡ Err kind)

-- ---- first errors

pub record First (rs : List (Result Item Kind)) (e : Kind) : Type 0 where
  pub place : ℕ
  pub below : place < length rs
  pub is : get_or rs place (Err Domain) ≡ Err e
  pub before : (k : ℕ) → k < place → (x : Item) × (get_or rs k (Err Domain) ≡ Ok x)

first_of : (rs : List (Result Item Kind)) (e : Kind) → all_or_first_error rs ≡ Err e → First rs e
first_of [] e h = cc
first_of (Err k ∷ rs) e h = let same : k ≡ e = cc in record { place = 0; below = omega arith; is = ap (λ (j : Kind). Err j) same; before = λ j low. absurd (omega arith) }
first_of (Ok x ∷ rs) e h = decide (all_or_first_error rs) refl h (first_of rs e)
  where
    earlier : {place : ℕ} → ((k : ℕ) → k < place → (y : Item) × (get_or rs k (Err Domain) ≡ Ok y)) → (k : ℕ) → k < suc place → (y : Item) × (get_or (Ok x ∷ rs) k (Err Domain) ≡ Ok y)
    earlier before zero low = (x, refl)
    earlier before (suc k) low = before k (omega arith)

    decide : (all : Result (List Item) Kind) → all_or_first_error rs ≡ all → after x all ≡ Err e → (all_or_first_error rs ≡ Err e → First rs e) → First (Ok x ∷ rs) e
    decide (Ok rest) made h later = cc
    decide (Err k) made h later =
        let rest = later (made ∙ ap (λ (j : Kind). Err j) cc) in
        record { place = suc rest.place; below = omega (arith, rest.below); is = rest.is; before = earlier rest.before }

error_at : (rs : List (Result Item Kind)) (k : ℕ) (e : Kind) → k < length rs → get_or rs k (Err Domain) ≡ Err e → ((j : ℕ) → j < k → (x : Item) × (get_or rs j (Err Domain) ≡ Ok x)) → all_or_first_error rs ≡ Err e
error_at [] k e below is before = absurd (omega arith)
error_at (r ∷ rs) zero e below is before = rw is refl
error_at (r ∷ rs) (suc k) e below is before = rw ((before 0 (omega arith)).1, error_at rs k e (omega arith) is (λ j low. before (suc j) (omega arith))) refl

-- ---- the error of a line

line_error : (shape : List ℕ) (r : Result (List Item) Kind) (kind : Kind) → with_items {E = Kind} Nums shape r ≡ Err kind → r ≡ Err kind
line_error shape (Ok xs) kind h = cc
line_error shape (Err k) kind h = let same : k ≡ kind = cc in ap (λ (j : Kind). Err j) same

pub line_fails : (f : Scalar2) (along : Along) (b : ArrayValue) (region : List Interval) (axis : ℕ) (index : List ℕ) (last : ℕ) (kind : Kind) → axis ≡ axis_at (length b.shape) along → axis < length index
    → get_or index axis 1 ≡ (get_or region axis (0, 0)).0 → last ≡ (get_or region axis (0, 0)).1 → scan_along f along b index last ≡ Err kind → line_items (scan_item f along b) region axis index ≡ Err kind
line_fails f along b region axis index last kind meant there begins ends fails =
    let s = get_or region axis (0, 0) in
    let line : ℕ → ℕ → ℕ → Result (List Item) Kind = λ a q n. all_or_first_error (map (λ before. scan_item f along b (set index a (q + before))) (range_with_len 0 n)) in
    (λ i. all_or_first_error (map (λ before. scan_item f along b (put_again axis (s.0 + before) index there i)) (range_with_len 0 (interval_length s))))
    ∙ ap (λ q. line axis q (s.1 + 1 - q)) (sym begins)
    ∙ ap (λ l. line axis (get_or index axis 1) (l + 1 - get_or index axis 1)) (sym ends)
    ∙ ap (λ a. line a (get_or index a 1) (last + 1 - get_or index a 1)) meant
    ∙ line_error _ _ kind fails

-- ---- places of a line

-- an earlier place on a line comes earlier in the box
offset_less : (axis : ℕ) (region : List Interval) (index : List ℕ) (j : ℕ) → axis < length region → is_within region index ≡ true → (get_or region axis (0, 0)).0 ≤ j → j < get_or index axis 1
    → box_offset region (insert (remove index axis) axis j) < box_offset region index
offset_less axis [] index j there h low less = absurd (omega arith)
offset_less axis (s ∷ region) [] j there h low less = absurd (false≢true h)
offset_less zero (s ∷ region) (i ∷ index) j there h low less =
    step (j - s.0) (i - s.0) (box_size region) (box_offset region index) (omega (arith, low, less)) (offset_below region index (and_parts _ _ h).1)
  where
    step : (a b w o : ℕ) → a < b → o < w → a * w + o < b * w + o
    step a b w o h k = let more : (a + 1) * w ≤ b * w = mul-le (a + 1) w b w (omega arith) (omega arith) in omega (arith, more)
offset_less (suc axis) (s ∷ region) (i ∷ index) j there h low less = omega (arith, offset_less axis region index j (omega arith) (and_parts _ _ h).1 low less)

module _ (item : List ℕ → Result Item Kind) (region : List Interval) (axis : ℕ) (there : axis < length region) where
  abbrev s : Interval
  s = get_or region axis (0, 0)

  abbrev here : ℕ → ℕ → List ℕ
  here place before = insert (remove (walk_at region place) axis) axis (s.0 + before)

  abbrev on_line : ℕ → List (Result Item Kind)
  on_line place = map (λ before. item (here place before)) (range_with_len 0 (interval_length s))

  entry : (place before : ℕ) → before < interval_length s → get_or (on_line place) before (Err Domain) ≡ item (here place before)
  entry place before below = get_or-map-range_with_len (λ k. item (here place k)) 0 (interval_length s) before before (Err Domain) below (omega arith)

  long_line : (place : ℕ) → length (on_line place) ≡ interval_length s
  long_line place = length-map-range_with_len (λ k. item (here place k)) 0 (interval_length s)

  within_here : (place before : ℕ) → place < box_size region → before < interval_length s → is_within region (here place before) ≡ true
  within_here place before inside below = within_line axis region (walk_at region place) (s.0 + before) there (walk_within region place inside) (omega arith) (omega arith)

  -- the first error of the box is the first error of its line
  pub first_of_line : (e : Kind) (first : First (map (λ p. item (walk_at region p)) (range_with_len 0 (box_size region))) e) → line_items item region axis (walk_at region first.place) ≡ Err e
  first_of_line e first =
      let g : ℕ → Result Item Kind = λ p. item (walk_at region p) in
      let n = box_size region in
      let inside : first.place < n = omega (arith, first.below, length-map-range_with_len g 0 n) in
      let at = between axis region (walk_at region first.place) there (walk_within region first.place inside) in
      let k = get_or (walk_at region first.place) axis 1 - s.0 in
      let k_below : k < interval_length s = omega (arith, at.low, at.high) in
      let walk_long : length (walk_at region first.place) ≡ length region = as_long_as region _ (walk_within region first.place inside) in
      let own : s.0 + k ≡ get_or (walk_at region first.place) axis 1 = omega (arith, at.low) in
      let back : here first.place k ≡ walk_at region first.place = ap (insert (remove (walk_at region first.place) axis) axis) own ∙ restored (walk_at region first.place) axis 1 (omega (arith, walk_long, there)) in
      error_at (on_line first.place) k e (omega (arith, k_below, long_line first.place))
      (entry first.place k k_below ∙ ap item back ∙ sym (get_or-map-range_with_len g 0 n first.place first.place (Err Domain) inside (omega arith)) ∙ first.is)
      (λ j low.
      let j_below : j < interval_length s = omega arith in
      let within = within_here first.place j inside j_below in
      let q = box_offset region (here first.place j) in
      let earlier : q < first.place = let less = offset_less axis region (walk_at region first.place) (s.0 + j) there (walk_within region first.place inside) (omega arith) (omega (arith, low, own)) in
      omega (arith, less, offset_of_walk region first.place inside) in
      let given = first.before q earlier in
      (given.0, entry first.place j j_below ∙ ap item (sym (walk_of_offset region (here first.place j) within)) ∙ sym (get_or-map-range_with_len g 0 n q q (Err Domain) (omega (arith, earlier, inside)) (omega arith)) ∙ given.1))

  -- if no place fails, no line fails
  pub no_error : (xs : List Item) → items_in item region ≡ Ok xs → (place : ℕ) → place < box_size region → (e : Kind) → line_items item region axis (walk_at region place) ≡ Err e → ⊥
  no_error xs all place inside e fails =
      let g : ℕ → Result Item Kind = λ p. item (walk_at region p) in
      let n = box_size region in
      let first = first_of (on_line place) e fails in
      let k = first.place in
      let k_below : k < interval_length s = omega (arith, first.below, long_line place) in
      let within = within_here place k inside k_below in
      let q = box_offset region (here place k) in
      let q_below = offset_below region (here place k) within in
      let given = each_result (map g (range_with_len 0 n)) xs q (Err Domain) (Num (pos 0)) all (omega (arith, q_below, length-map-range_with_len g 0 n)) in
      let bad : item (walk_at region q) ≡ Err e = ap item (walk_of_offset region (here place k) within) ∙ sym (entry place k k_below) ∙ first.is in
      let good : item (walk_at region q) ≡ Ok (get_or xs q (Num (pos 0))) = sym (get_or-map-range_with_len g 0 n q q (Err Domain) q_below (omega arith)) ∙ given in
      cc

  -- if every line is done and one failed, the error of the box is this one
  pub all_fail : (a : ArrayValue) (kind : Kind) → IsMet item region axis (Some kind) → ((place : ℕ) → place < box_size region → IsDone item region axis a (Some kind) place) → items_in item region ≡ Err kind
  all_fail a kind met done = decide (items_in item region) refl
    where
      same_kind : (e : Kind) (first : First (map (λ p. item (walk_at region p)) (range_with_len 0 (box_size region))) e) → Holds item region a first.place ⊎ (line_items item region axis (walk_at region first.place) ≡ Err kind) → e ≡ kind
      same_kind e first (inl holds) =
          let g : ℕ → Result Item Kind = λ p. item (walk_at region p) in
          let inside : first.place < box_size region = omega (arith, first.below, length-map-range_with_len g 0 (box_size region)) in
          let bad : item (walk_at region first.place) ≡ Err e = sym (get_or-map-range_with_len g 0 (box_size region) first.place first.place (Err Domain) inside (omega arith)) ∙ first.is in
          cc
      same_kind e first (inr fails) = let own = first_of_line e first in cc

      decide : (r : Result (List Item) Kind) → items_in item region ≡ r → items_in item region ≡ Err kind
      decide (Ok xs) all = absurd (no_error xs all met.0 met.1 kind met.2)
      decide (Err e) all =
          let first = first_of _ e all in
          let g : ℕ → Result Item Kind = λ p. item (walk_at region p) in
          let inside : first.place < box_size region = omega (arith, first.below, length-map-range_with_len g 0 (box_size region)) in
          all ∙ ap (λ (k : Kind). Err k) (same_kind e first (done first.place inside))

-- ---- one more line

module _ (item : List ℕ → Result Item Kind) (region : List Interval) (axis : ℕ) (old new : ArrayValue) where
  own : (index : List ℕ) (place : ℕ) (kind : Kind) → IsOnLine region axis index place → line_items item region axis index ≡ Err kind → line_items item region axis (walk_at region place) ≡ Err kind
  own index place kind on_line fails =
      ap (λ others. all_or_first_error (map (λ before. item (insert others axis ((get_or region axis (0, 0)).0 + before))) (range_with_len 0 (interval_length (get_or region axis (0, 0)))))) on_line ∙ fails

  pub done_still : (failed now : Option Kind) (line : Result (Unit {0}) Kind) (place : ℕ) → IsOneError failed line now → (Holds item region old place → Holds item region new place) → IsDone item region axis old failed place
      → IsDone item region axis new now place
  done_still None now (Ok u) place one keeps h = rw one (keeps h)
  done_still (Some other) now (Ok u) place one keeps (inl h) = rw one (inl (keeps h))
  done_still (Some other) now (Ok u) place one keeps (inr h) = rw one (inr h)
  done_still None now (Err kind) place one keeps h = rw one (inl (keeps h))
  done_still (Some other) now (Err kind) place one keeps (inl h) = rw one.0 (inl (keeps h))
  done_still (Some other) now (Err kind) place one keeps (inr h) = rw one.0 (inr (h ∙ ap (λ (k : Kind). Err k) one.1))

  pub done_here : (failed now : Option Kind) (line : Result (Unit {0}) Kind) (index : List ℕ) (place : ℕ) → place < box_size region → IsOneError failed line now → IsOnLine region axis index place → LineIsIn item region axis index new line
      → IsDone item region axis new now place
  done_here None now (Ok u) index place below one on_line is = rw one (is place below on_line)
  done_here (Some other) now (Ok u) index place below one on_line is = rw one (inl (is place below on_line))
  done_here None now (Err kind) index place below one on_line is = rw one (inr (own index place kind on_line is))
  done_here (Some other) now (Err kind) index place below one on_line is = rw one.0 (inr (own index place kind on_line is))

  pub met_more : (failed now : Option Kind) (line : Result (Unit {0}) Kind) (place : ℕ) → place < box_size region → IsOneError failed line now → LineIsIn item region axis (walk_at region place) new line → IsMet item region axis failed
      → IsMet item region axis now
  met_more None now (Ok u) place below one is met = rw one tt
  met_more (Some other) now (Ok u) place below one is met = rw one met
  met_more None now (Err kind) place below one is met = rw one (place, below, is)
  met_more (Some other) now (Err kind) place below one is met = rw one.0 (place, below, is)
