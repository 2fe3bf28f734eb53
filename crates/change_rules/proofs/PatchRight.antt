-- A patch of the announced box yields the evaluation.
use Rattle.index_region.{proofs.Walks.{walk_within, offset_below, walk_of_offset, offset_of_walk}, proofs.Patched.{fits_within}, specs.Boxes.{Interval, box_offset, box_size, fits, is_within, walk_at, whole_of}, specs.Checks.{Form}, specs.Patches.{PatchValue, patched, patched_item}}
use Rattle.std.{proofs.Common.{◌≡◌, ℕ, suc, zero, ◌+◌, ◌-◌, ◌*◌, ◌<◌, ◌≤◌, List, [], ◌∷◌, map, get_or, refl, ap, ◌∙◌, sym, subst, arith, IsTrue, true, false, Result, Ok, Err, ◌⊎◌, inl, inr, add-zero}, specs.List.{range_with_len}}
use Rattle.std.{proofs.lemmas.Bool.{and_parts, leb-true, false≢true, cases_Bool, cond-true, cond-false, cases_order}, proofs.lemmas.Nat.{mul-le}}
use Rattle.arrays_core.{specs.declared.item.Item.{Item}, specs.declared.item.Kind.{Kind}, specs.Arrays.{ArrayValue}, specs.Shapes.{is_index_of, size, index_after, places_before}, specs.Items.{fill}, proofs.Shapes.{places_below}, proofs.Order.{index_after-places_before, places_before-index_after}}
use Rattle.change_core.{proofs.Collected.{along, collected, put_first}, proofs.UsedWays.{within-whole}, proofs.Walking.{walk-whole, box_size-whole}}
use Rattle.change_rules.proofs.Walked.{array_of, failing, walked}

put_parts : (r : Result Item Kind) (rest : Result (List Item) Kind) (ys : List Item) → put_first r rest ≡ Ok ys → (x : Item) × (xs : List Item) × (r ≡ Ok x) × (rest ≡ Ok xs) × (ys ≡ x ∷ xs)
put_parts (Ok x) (Ok xs) ys e = let s : x ∷ xs ≡ ys = cc in (x, xs, refl, refl, sym s)
put_parts (Ok x) (Err k) ys e = absurd cc
put_parts (Err k) rest ys e = absurd cc

-- the item collected for a place
pub collected_at : (d : Item) (h : ℕ → Result Item Kind) (n a : ℕ) (ys : List Item) → collected (map h (range_with_len a n)) ≡ Ok ys → (p : ℕ) → p < n → h (a + p) ≡ Ok (get_or ys p d)
collected_at d h zero a ys e p l = absurd (omega arith)
collected_at d h (suc n) a ys e zero l =
    let parts = put_parts (h a) (collected (map h (range_with_len (a + 1) n))) ys e in
    ap h (add-zero a) ∙ parts.2 ∙ ap (λ (l : List Item). Ok (get_or l 0 d)) (sym parts.4)
collected_at d h (suc n) a ys e (suc p) l =
    let parts = put_parts (h a) (collected (map h (range_with_len (a + 1) n))) ys e in
    ap h (omega arith) ∙ collected_at d h n (a + 1) parts.1 parts.3 p (omega arith) ∙ ap (λ (l : List Item). Ok (get_or l (suc p) d)) (sym parts.4)

pub collected_in : (d : Item) (h : ℕ → Result Item Kind) (n : ℕ) (ys : List Item) → collected (map h (range_with_len 0 n)) ≡ Ok ys → (p : ℕ) → p < n → h p ≡ Ok (get_or ys p d)
collected_in d h n ys e p l = let z : p ≡ 0 + p = omega arith in ap h z ∙ collected_at d h n 0 ys e p l

-- collecting a rule that succeeds at each place
pub collected_from : (h : ℕ → Result Item Kind) (g : ℕ → Item) (n a : ℕ) → ((p : ℕ) → a ≤ p → p < a + n → h p ≡ Ok (g p)) → collected (map h (range_with_len a n)) ≡ Ok (map g (range_with_len a n))
collected_from h g zero a f = refl
collected_from h g (suc n) a f =
    λ i. put_first ((f a (omega arith) (omega arith)) i) ((collected_from h g n (a + 1) (λ p l m. f p (omega arith) (omega arith))) i)

array_parts : (f : Form) (r : Result (List Item) Kind) (a : ArrayValue) → array_of f r ≡ Ok a → (ys : List Item) × (r ≡ Ok ys) × (a ≡ record { item_type = f.item_type; shape = f.shape; items = ys })
array_parts f (Ok ys) a e = let s : record { item_type = f.item_type; shape = f.shape; items = ys } ≡ a = cc in (ys, refl, sym s)
array_parts f (Err k) a e = absurd cc

-- new items in the box and old ones outside it: the patch yields the evaluation
pub patch_right : (f : Form) (old new : List ℕ → Result Item Kind) (region : List Interval) (a : ArrayValue) (xs : List Item) → ((index : List ℕ) → IsTrue (is_index_of f.shape index) → is_within region index ≡ false → old index ≡ new index) → Ok a ≡ walked (Ok f) old → collected (along new region) ≡ Ok xs → Ok (patched a (record { region = region; item_type = f.item_type; items = xs })) ≡ walked (Ok f) new
patch_right f old new region a xs outside e c =
    let parts = array_parts f (collected (along old (whole_of f.shape))) a (sym e) in
    let patch : PatchValue = record { region = region; item_type = f.item_type; items = xs } in
    let before : ArrayValue = record { item_type = f.item_type; shape = f.shape; items = parts.0 } in
    let place : (p : ℕ) → 0 ≤ p → p < 0 + box_size (whole_of f.shape) → new (walk_at (whole_of f.shape) p) ≡ Ok (patched_item before patch (index_after f.shape p)) = λ p l m.
    let below : p < box_size (whole_of f.shape) = omega arith in
    let here = walk_within (whole_of f.shape) p below in
    let index = walk-whole f.shape p in
    let is_place : is_index_of f.shape (index_after f.shape p) ≡ true = sym (within-whole f.shape (index_after f.shape p)) ∙ ap (is_within (whole_of f.shape)) (sym index) ∙ here in
    ap new index ∙ elim (cases_Bool (is_within region (index_after f.shape p))) [
      | inl t ↦
          ap new (sym (walk_of_offset region (index_after f.shape p) t))
          ∙ collected_in (fill f.item_type) (λ q. new (walk_at region q)) (box_size region) xs c (box_offset region (index_after f.shape p)) (offset_below region (index_after f.shape p) t)
          ∙ ap (λ (x : Item). Ok x) (sym (cond-true _ _ _ t))
      | inr o ↦
          sym (outside (index_after f.shape p) is_place o)
          ∙ ap old (sym index)
          ∙ collected_in (fill f.item_type) (λ q. old (walk_at (whole_of f.shape) q)) (box_size (whole_of f.shape)) parts.0 parts.1 p below
          ∙ ap (λ (m : ℕ). Ok (get_or parts.0 m (fill f.item_type))) (sym (places_before-index_after f.shape p (omega (arith, box_size-whole f.shape))))
          ∙ ap (λ (x : Item). Ok x) (sym (cond-false _ _ _ o))
    ] in
    let all = collected_from (λ p. new (walk_at (whole_of f.shape) p)) (λ (p : ℕ). patched_item before patch (index_after f.shape p)) (box_size (whole_of f.shape)) 0 place in
    ap (λ (b : ArrayValue). Ok (patched b patch)) parts.2
    ∙ ap (λ (n : ℕ). Ok (record { item_type = f.item_type; shape = f.shape; items = map (λ (p : ℕ). patched_item before patch (index_after f.shape p)) (range_with_len 0 n) })) (sym (box_size-whole f.shape))
    ∙ ap (array_of f) (sym all)

put_err : (r : Result Item Kind) (rest : Result (List Item) Kind) (k : Kind) → put_first r rest ≡ Err k → (r ≡ Err k) ⊎ ((x : Item) × (r ≡ Ok x) × (rest ≡ Err k))
put_err (Ok x) (Ok xs) k e = absurd cc
put_err (Ok x) (Err j) k e = inr (x, refl, (let s : j ≡ k = cc in ap (λ (m : Kind). Err m) s))
put_err (Err j) rest k e = inl (let s : j ≡ k = cc in ap (λ (m : Kind). Err m) s)

-- the place of the first error
pub record FirstError (h : ℕ → Result Item Kind) (n a : ℕ) (k : Kind) : Type 0 where
  pub place : ℕ
  pub below : place < n
  pub fails : h (a + place) ≡ Err k
  pub before : (q : ℕ) → q < place → (x : Item) × (h (a + q) ≡ Ok x)

pub first_error : (h : ℕ → Result Item Kind) (n a : ℕ) (k : Kind) → collected (map h (range_with_len a n)) ≡ Err k → FirstError h n a k
first_error h zero a k e = absurd cc
first_error h (suc n) a k e = elim (put_err (h a) (collected (map h (range_with_len (a + 1) n))) k e) [
  | inl f ↦ record { place = 0; below = omega arith; fails = ap h (add-zero a) ∙ f; before = λ q l. absurd (omega arith) }
  | inr r ↦
      let later = first_error h n (a + 1) k r.2 in
      record {
        place = suc later.place;
        below = (let l = later.below in omega arith);
        fails = (let i : a + suc later.place ≡ a + 1 + later.place = omega arith in ap h i ∙ later.fails);
        before = earlier h a r.0 later.place r.1 later.before;
      }
]
  where
    earlier : (h : ℕ → Result Item Kind) (a : ℕ) (x : Item) (p : ℕ) → h a ≡ Ok x → ((q : ℕ) → q < p → (y : Item) × (h (a + 1 + q) ≡ Ok y)) → (q : ℕ) → q < suc p → (y : Item) × (h (a + q) ≡ Ok y)
    earlier h a x p e f zero l = (x, ap h (add-zero a) ∙ e)
    earlier h a x p e f (suc q) l =
        let y = f q (omega arith) in
        (y.0, ap h (omega arith) ∙ y.1)

pub from_first : (h : ℕ → Result Item Kind) (n a : ℕ) (k : Kind) (p : ℕ) → p < n → h (a + p) ≡ Err k → ((q : ℕ) → q < p → (x : Item) × (h (a + q) ≡ Ok x)) → collected (map h (range_with_len a n)) ≡ Err k
from_first h zero a k p l e f = absurd (omega arith)
from_first h (suc n) a k zero l e f = ap (λ (r : Result Item Kind). put_first r (collected (map h (range_with_len (a + 1) n)))) (ap h (sym (add-zero a)) ∙ e)
from_first h (suc n) a k (suc p) l e f =
    let i : a + 1 + p ≡ a + suc p = omega arith in
    let x = f 0 (omega arith) in
    let later = from_first h n (a + 1) k p (omega arith) (ap h i ∙ e) (λ q m. let j : a + 1 + q ≡ a + suc q = omega arith in let y = f (suc q) (omega arith) in (y.0, ap h j ∙ y.1)) in
    λ t. put_first ((ap h (sym (add-zero a)) ∙ x.1) t) (later t)

-- all of a row comes before any later row
rows_apart : (i j w a b : ℕ) → i < j → a < w → i * w + a < j * w + b
rows_apart i j w a b h k =
    let next : (i + 1) * w ≤ j * w = mul-le (i + 1) w j w (omega arith) (omega arith) in
    let more : (i + 1) * w ≡ i * w + w = grind arith in
    omega arith

-- the walk of a box keeps the order of the whole
pub offset_order : (axes : List ℕ) (region : List Interval) (i j : List ℕ) → is_index_of axes i ≡ true → is_index_of axes j ≡ true → is_within region i ≡ true → is_within region j ≡ true → places_before axes i < places_before axes j → box_offset region i < box_offset region j
offset_order [] region [] [] hi hj wi wj l = absurd (omega arith)
offset_order (n ∷ axes) (s ∷ intervals) (i ∷ is) (j ∷ js) hi hj wi wj l =
    let pi = and_parts _ _ hi in
    let pj = and_parts _ _ hj in
    let qi = and_parts _ _ wi in
    let qj = and_parts _ _ wj in
    let li : 1 ≤ i = leb-true 1 i (and_parts _ _ pi.0).0 in
    let lj : 1 ≤ j = leb-true 1 j (and_parts _ _ pj.0).0 in
    let si : s.0 ≤ i = leb-true s.0 i (and_parts _ _ qi.0).0 in
    let sj : s.0 ≤ j = leb-true s.0 j (and_parts _ _ qj.0).0 in
    elim (cases_order i j) [
      | inl e ↦
          let tail : places_before axes is < places_before axes js = same_row i j (size axes) (places_before axes is) (places_before axes js) e l in
          same_box i j s.0 (box_size intervals) (box_offset intervals is) (box_offset intervals js) e (offset_order axes intervals is js pi.1 pj.1 qi.1 qj.1 tail)
      | inr o ↦ elim o [
        | inl m ↦ rows_apart (i - s.0) (j - s.0) (box_size intervals) (box_offset intervals is) (box_offset intervals js) (omega arith) (offset_below intervals is qi.1)
        | inr m ↦
            let back = rows_apart (j - 1) (i - 1) (size axes) (places_before axes js) (places_before axes is) (omega arith) (places_below axes js pj.1) in
            absurd (omega arith)
      ]
    ]
  where
    same_row : (i j w a b : ℕ) → i ≡ j → (i - 1) * w + a < (j - 1) * w + b → a < b
    same_row i j w a b e h = let k = rw e at h in omega arith

    same_box : (i j s w a b : ℕ) → i ≡ j → a < b → (i - s) * w + a < (j - s) * w + b
    same_box i j s w a b e h = rw e (omega arith)
offset_order [] region [] (j ∷ js) hi hj wi wj l = absurd (false≢true hj)
offset_order [] region (i ∷ is) js hi hj wi wj l = absurd (false≢true hi)
offset_order (n ∷ axes) region [] js hi hj wi wj l = absurd (false≢true hi)
offset_order (n ∷ axes) region (i ∷ is) [] hi hj wi wj l = absurd (false≢true hj)
offset_order (n ∷ axes) [] (i ∷ is) (j ∷ js) hi hj wi wj l = absurd (false≢true wi)

-- the first error in the box is the first error of the whole
pub error_right : (f : Form) (old new : List ℕ → Result Item Kind) (region : List Interval) (a : ArrayValue) (k : Kind) → ((index : List ℕ) → IsTrue (is_index_of f.shape index) → is_within region index ≡ false → old index ≡ new index) → fits region f.shape ≡ true → Ok a ≡ walked (Ok f) old → collected (along new region) ≡ Err k → failing k ≡ walked (Ok f) new
error_right f old new region a k outside fit e c =
    let parts = array_parts f (collected (along old (whole_of f.shape))) a (sym e) in
    let n = box_size (whole_of f.shape) in
    let sized : n ≡ size f.shape = box_size-whole f.shape in
    let first = first_error (λ q. new (walk_at region q)) (box_size region) 0 k c in
    let q = first.place in
    let index = walk_at region q in
    let inside : is_within region index ≡ true = walk_within region q first.below in
    let is_place : is_index_of f.shape index ≡ true = fits_within region f.shape index fit inside in
    let p = places_before f.shape index in
    let below : p < n = (let b = places_below f.shape index is_place in omega arith) in
    let there : walk_at (whole_of f.shape) p ≡ index = walk-whole f.shape p ∙ index_after-places_before f.shape index is_place in
    let before : (r : ℕ) → r < p → (x : Item) × (new (walk_at (whole_of f.shape) (0 + r)) ≡ Ok x) = λ r l.
    let low : r < n = omega arith in
    let zero_r : 0 + r ≡ r = omega arith in
    let at = walk-whole f.shape r in
    let i = index_after f.shape r in
    let i_place : is_index_of f.shape i ≡ true = sym (within-whole f.shape i) ∙ ap (is_within (whole_of f.shape)) (sym at) ∙ walk_within (whole_of f.shape) r low in
    let here : new (walk_at (whole_of f.shape) (0 + r)) ≡ new i = ap (λ (m : ℕ). new (walk_at (whole_of f.shape) m)) zero_r ∙ ap new at in
    elim (cases_Bool (is_within region i)) [
      | inl t ↦
          let order : places_before f.shape i < places_before f.shape index = subst (λ (m : ℕ). m < p) (sym (places_before-index_after f.shape r (omega arith))) l in
          let earlier : box_offset region i < box_offset region index = offset_order f.shape region i index i_place is_place t inside order in
          let least : box_offset region i < q = subst (λ (m : ℕ). box_offset region i < m) (offset_of_walk region q first.below) earlier in
          let y = first.before (box_offset region i) least in
          (y.0, here ∙ ap new (sym (walk_of_offset region i t)) ∙ ap (λ (m : ℕ). new (walk_at region m)) (omega arith) ∙ y.1)
      | inr o ↦
          let kept = collected_at (fill f.item_type) (λ m. old (walk_at (whole_of f.shape) m)) n 0 parts.0 parts.1 r low in
          (get_or parts.0 r (fill f.item_type), here ∙ sym (outside i i_place o) ∙ ap old (sym at) ∙ ap (λ (m : ℕ). old (walk_at (whole_of f.shape) m)) (sym zero_r) ∙ kept)
    ] in
    let zero_p : 0 + p ≡ p = omega arith in
    let zero_q : q ≡ 0 + q = omega arith in
    let fails : new (walk_at (whole_of f.shape) (0 + p)) ≡ Err k = ap (λ (m : ℕ). new (walk_at (whole_of f.shape) m)) zero_p ∙ ap new there ∙ ap (λ (m : ℕ). new (walk_at region m)) zero_q ∙ first.fails in
    ap (array_of f) (sym (from_first (λ m. new (walk_at (whole_of f.shape) m)) n 0 k p below fails before))
