-- Boxes built axis by axis.
use Rattle.std.{proofs.Common.{◌≡◌, ℕ, ◌+◌, ◌-◌, ◌*◌, ◌/◌, ◌%◌, ◌<◌, ◌≤◌, List, [], ◌∷◌, ◌++◌, length, take, drop, set, remove, get_or, arith, true, false, Bool, ◌&&◌, sym, ap, ◌∙◌, subst, refl, min, max, suc, zero, nat_le, nat_eq, length-take-le, inl, inr, add-one, append_assoc, if◌then◌else◌}, specs.List.{list_all}}
use Rattle.std.{proofs.lemmas.Bool.{and_parts, and_from, or_parts, leb-true, le-leb, ltb-false, eqb-true, eq-eqb, ne_eqb, false≢true, cases_Bool, cond-true, cond-false}, proofs.lemmas.Nat.{div-add-mod', mod_below, le-div}, proofs.Math.Nat.{div-mul-le_self, div-lt_iff_lt-mul}}
use Rattle.std.{proofs.lemmas.List.{take_more, take_all, length-drop, length-take}, proofs.Math.Seq.{take-set-lt}}
use Rattle.arrays_core.specs.Shapes.{size, index_after}
use Rattle.index_region.specs.Boxes.{Interval, is_within, is_box, fits, hull_of, meet_of, whole_of, met, is_empty, cover, cover_between}

-- an index in an interval
pub record On (s : Interval) (i : ℕ) (region : List Interval) (index : List ℕ) : Type 0 where
  pub low : s.0 ≤ i
  pub high : i ≤ s.1
  pub rest : is_within region index ≡ true

pub on_parts : (s : Interval) (i : ℕ) (region : List Interval) (index : List ℕ) → is_within (s ∷ region) (i ∷ index) ≡ true → On s i region index
on_parts s i region index h =
    let parts = and_parts _ _ h in
    let here = and_parts _ _ parts.0 in
    record { low = leb-true s.0 i here.0; high = leb-true i s.1 here.1; rest = parts.1 }

pub on_from : (s : Interval) (i : ℕ) (region : List Interval) (index : List ℕ) → s.0 ≤ i → i ≤ s.1 → is_within region index ≡ true → is_within (s ∷ region) (i ∷ index) ≡ true
on_from s i region index l u rest = and_from _ _ (and_from _ _ (le-leb s.0 i l) (le-leb i s.1 u)) rest

-- a place of one box lies in the hull
pub within-hull_left : (a b : List Interval) (index : List ℕ) → length a ≡ length b → is_within a index ≡ true → is_within (hull_of a b) index ≡ true
within-hull_left [] [] index e h = h
within-hull_left (s ∷ a) (t ∷ b) (i ∷ index) e h =
    let here = on_parts s i a index h in
    on_from (min s.0 t.0, max s.1 t.1) i (hull_of a b) index (omega (arith, here.low)) (omega (arith, here.high)) (within-hull_left a b index (omega arith) here.rest)
within-hull_left (s ∷ a) (t ∷ b) [] e h = absurd (false≢true h)
within-hull_left [] (t ∷ b) index e h = absurd (omega arith)
within-hull_left (s ∷ a) [] index e h = absurd (omega arith)

hull_turned : (a b : List Interval) → hull_of a b ≡ hull_of b a
hull_turned [] [] = refl
hull_turned [] (t ∷ b) = refl
hull_turned (s ∷ a) [] = refl
hull_turned (s ∷ a) (t ∷ b) =
    let low : min s.0 t.0 ≡ min t.0 s.0 = omega arith in
    let high : max s.1 t.1 ≡ max t.1 s.1 = omega arith in
    λ i. (low i, high i) ∷ hull_turned a b i

pub within-hull_right : (a b : List Interval) (index : List ℕ) → length a ≡ length b → is_within b index ≡ true → is_within (hull_of a b) index ≡ true
within-hull_right a b index e h = subst (λ r. is_within r index ≡ true) (hull_turned b a) (within-hull_left b a index (sym e) h)

-- no interval is empty
abbrev pub filled : List Interval → Bool
filled region = list_all (λ s. nat_le 1 s.0 && nat_le s.0 s.1) region

is_box_from : (region : List Interval) → length region ≤ 4 → filled region ≡ true → is_box region ≡ true
is_box_from region few h = and_from _ _ (le-leb _ _ few) h

pub length-met : (axes : List ℕ) (region : List Interval) → length (met axes region) ≡ length axes
length-met [] region = refl
length-met (n ∷ axes) [] = let k = length-met axes [] in omega (arith, k)
length-met (n ∷ axes) (s ∷ region) = let k = length-met axes region in omega (arith, k)

pub length-hull : (a b : List Interval) → length a ≡ length b → length (hull_of a b) ≡ length a
length-hull [] b h = refl
length-hull (s ∷ a) [] h = absurd (omega arith)
length-hull (s ∷ a) (t ∷ b) h = let k = length-hull a b (omega arith) in omega (arith, k)

pub length-meet : (a b : List Interval) → length a ≡ length b → length (meet_of a b) ≡ length a
length-meet [] b h = refl
length-meet (s ∷ a) [] h = absurd (omega arith)
length-meet (s ∷ a) (t ∷ b) h = let k = length-meet a b (omega arith) in omega (arith, k)

-- ---- boxes that lie in a shape

pub fits_length : (region : List Interval) (axes : List ℕ) → fits region axes ≡ true → length region ≡ length axes
fits_length [] [] h = refl
fits_length [] (n ∷ axes) h = absurd (false≢true h)
fits_length (s ∷ region) [] h = absurd (false≢true h)
fits_length (s ∷ region) (n ∷ axes) h = let k = fits_length region axes (and_parts _ _ h).1 in omega (arith, k)

fits_filled : (region : List Interval) (axes : List ℕ) → fits region axes ≡ true → filled region ≡ true
fits_filled [] [] h = refl
fits_filled [] (n ∷ axes) h = absurd (false≢true h)
fits_filled (s ∷ region) [] h = absurd (false≢true h)
fits_filled (s ∷ region) (n ∷ axes) h = let parts = and_parts _ _ h in and_from _ _ (and_parts _ _ parts.0).0 (fits_filled region axes parts.1)

pub fits_box : (region : List Interval) (axes : List ℕ) → length axes ≤ 4 → fits region axes ≡ true → is_box region ≡ true
fits_box region axes few h = let e = fits_length region axes h in is_box_from region (omega arith) (fits_filled region axes h)

-- a part that is cut to a shape, and is not empty, lies in it
pub fits-met : (axes : List ℕ) (region : List Interval) → is_empty (met axes region) ≡ false → fits (met axes region) axes ≡ true
fits-met [] region h = refl
fits-met (n ∷ axes) [] h =
    let parts = or_parts _ _ h in
    and_from _ _ (and_from _ _ (le-leb 1 n (ltb-false n 1 parts.0)) (le-leb n n (omega arith))) (fits-met axes [] parts.1)
fits-met (n ∷ axes) (s ∷ region) h =
    let parts = or_parts _ _ h in
    let some : max 1 s.0 ≤ min s.1 n = ltb-false (min s.1 n) (max 1 s.0) parts.0 in
    and_from _ _ (and_from _ _ (and_from _ _ (le-leb 1 (max 1 s.0) (omega arith)) (le-leb _ _ some)) (le-leb (min s.1 n) n (omega arith))) (fits-met axes region parts.1)

pub met_box : (axes : List ℕ) (region : List Interval) → length axes ≤ 4 → is_empty (met axes region) ≡ false → is_box (met axes region) ≡ true
met_box axes region few h = fits_box (met axes region) axes few (fits-met axes region h)

-- the whole of a shape with places lies in it
pub fits-whole : (axes : List ℕ) → 0 < size axes → fits (whole_of axes) axes ≡ true
fits-whole [] h = refl
fits-whole (n ∷ axes) h = and_from _ _ (and_from _ _ (le-leb 1 n (grind arith)) (le-leb n n (omega arith))) (fits-whole axes (grind arith))

-- the cover of places of a shape lies in it
pub fits-cover : (axes : List ℕ) (p q : ℕ) → p ≤ q → q < size axes → fits (cover axes p q) axes ≡ true
fits-cover [] p q h b = refl
fits-cover (n ∷ axes) p q h b =
    let w = size axes in
    let positive : 0 < w = grind arith in
    let start : p / w * w ≤ p = div-mul-le_self p w in
    let order : p / w ≤ q / w = le-div (p / w) q w positive (omega arith) in
    let row : q / w < n = (div-lt_iff_lt-mul positive).1 b in
    let here : (nat_le 1 (p / w + 1) && nat_le (p / w + 1) (q / w + 1) && nat_le (q / w + 1) n) ≡ true
    = and_from _ _ (and_from _ _ (le-leb 1 (p / w + 1) (omega arith)) (le-leb (p / w + 1) (q / w + 1) (omega arith))) (le-leb (q / w + 1) n (omega arith)) in
    elim (cases_Bool (nat_eq (p / w + 1) (q / w + 1))) [
      | inl t ↦
          let same : p / w + 1 ≡ q / w + 1 = eqb-true _ _ t in
          let dp : p / w * w + p % w ≡ p = div-add-mod' p w in
          let dq : q / w * w + q % w ≡ q = div-add-mod' q w in
          let row : p / w * w ≡ q / w * w = ap (λ (k : ℕ). k * w) (let e : p / w ≡ q / w = omega arith in e) in
          let rest : p % w ≤ q % w = omega arith in
          subst (λ (r : List Interval). fits r (n ∷ axes) ≡ true) (ap (λ (r : List Interval). (p / w + 1, q / w + 1) ∷ r) (sym (cond-true _ _ _ t))) (and_from _ _ here (fits-cover axes (p % w) (q % w) rest (mod_below q w positive)))
      | inr f ↦ subst (λ (r : List Interval). fits r (n ∷ axes) ≡ true) (ap (λ (r : List Interval). (p / w + 1, q / w + 1) ∷ r) (sym (cond-false _ _ _ f))) (and_from _ _ here (fits-whole axes positive))
    ]

-- ---- hull and meet

hull_filled : (a b : List Interval) → filled a ≡ true → filled b ≡ true → filled (hull_of a b) ≡ true
hull_filled [] b h k = refl
hull_filled (s ∷ a) [] h k = refl
hull_filled (s ∷ a) (t ∷ b) h k =
    let hp = and_parts _ _ h in
    let kp = and_parts _ _ k in
    let h1 = and_parts _ _ hp.0 in
    let k1 = and_parts _ _ kp.0 in
    let order : min s.0 t.0 ≤ max s.1 t.1 = omega (arith, leb-true s.0 s.1 h1.1) in
    and_from _ _ (and_from _ _ (le-leb _ _ (omega (arith, leb-true 1 s.0 h1.0, leb-true 1 t.0 k1.0))) (le-leb _ _ order)) (hull_filled a b hp.1 kp.1)

pub hull_box : (a b : List Interval) → length a ≡ length b → is_box a ≡ true → is_box b ≡ true → is_box (hull_of a b) ≡ true
hull_box a b e h k =
    let hp = and_parts _ _ h in
    let kp = and_parts _ _ k in
    let few = leb-true (length a) 4 hp.0 in
    let same = length-hull a b e in
    is_box_from (hull_of a b) (omega arith) (hull_filled a b hp.1 kp.1)

meet_filled : (a b : List Interval) → filled a ≡ true → is_empty (meet_of a b) ≡ false → filled (meet_of a b) ≡ true
meet_filled [] b h e = refl
meet_filled (s ∷ a) [] h e = refl
meet_filled (s ∷ a) (t ∷ b) h e =
    let hp = and_parts _ _ h in
    let h1 = and_parts _ _ hp.0 in
    let ep = or_parts _ _ e in
    and_from _ _ (and_from _ _ (le-leb _ _ (omega (arith, leb-true 1 s.0 h1.0))) (le-leb _ _ (ltb-false (min s.1 t.1) (max s.0 t.0) ep.0))) (meet_filled a b hp.1 ep.1)

pub meet_box : (a b : List Interval) → length a ≡ length b → is_box a ≡ true → is_empty (meet_of a b) ≡ false → is_box (meet_of a b) ≡ true
meet_box a b e h some =
    let hp = and_parts _ _ h in
    let few = leb-true (length a) 4 hp.0 in
    let same = length-meet a b e in
    is_box_from (meet_of a b) (omega arith) (meet_filled a b hp.1 some)

-- ---- an axis more

hull_of-push : (a b : List Interval) (x y : Interval) → length a ≡ length b → hull_of (a ++ x ∷ []) (b ++ y ∷ []) ≡ hull_of a b ++ (min x.0 y.0, max x.1 y.1) ∷ []
hull_of-push [] [] x y h = refl
hull_of-push (s ∷ a) (t ∷ b) x y h = ap (λ (r : List Interval). (min s.0 t.0, max s.1 t.1) ∷ r) (hull_of-push a b x y (omega arith))
hull_of-push [] (t ∷ b) x y h = absurd (omega arith)
hull_of-push (s ∷ a) [] x y h = absurd (omega arith)

pub hull_more : (k : ℕ) (a b : List Interval) → k < length a → length a ≡ length b
    → hull_of (take (k + 1) a) (take (k + 1) b) ≡ hull_of (take k a) (take k b) ++ (min (get_or a k (0, 0)).0 (get_or b k (0, 0)).0, max (get_or a k (0, 0)).1 (get_or b k (0, 0)).1) ∷ []
hull_more k a b h e =
    let lengths : length (take k a) ≡ length (take k b) = rw (length-take-le k a (omega arith), length-take-le k b (omega arith)) refl in
    (λ i. hull_of (take_more a k (0, 0) h i) (take_more b k (0, 0) (let g : k < length b = omega arith in g) i)) ∙ hull_of-push (take k a) (take k b) (get_or a k (0, 0)) (get_or b k (0, 0)) lengths

meet_of-push : (a b : List Interval) (x y : Interval) → length a ≡ length b → meet_of (a ++ x ∷ []) (b ++ y ∷ []) ≡ meet_of a b ++ (max x.0 y.0, min x.1 y.1) ∷ []
meet_of-push [] [] x y h = refl
meet_of-push (s ∷ a) (t ∷ b) x y h = ap (λ (r : List Interval). (max s.0 t.0, min s.1 t.1) ∷ r) (meet_of-push a b x y (omega arith))
meet_of-push [] (t ∷ b) x y h = absurd (omega arith)
meet_of-push (s ∷ a) [] x y h = absurd (omega arith)

pub meet_more : (k : ℕ) (a b : List Interval) → k < length a → length a ≡ length b
    → meet_of (take (k + 1) a) (take (k + 1) b) ≡ meet_of (take k a) (take k b) ++ (max (get_or a k (0, 0)).0 (get_or b k (0, 0)).0, min (get_or a k (0, 0)).1 (get_or b k (0, 0)).1) ∷ []
meet_more k a b h e =
    let lengths : length (take k a) ≡ length (take k b) = rw (length-take-le k a (omega arith), length-take-le k b (omega arith)) refl in
    (λ i. meet_of (take_more a k (0, 0) h i) (take_more b k (0, 0) (let g : k < length b = omega arith in g) i)) ∙ meet_of-push (take k a) (take k b) (get_or a k (0, 0)) (get_or b k (0, 0)) lengths

met_push : (k : ℕ) (axes : List ℕ) (ours : List Interval) → k < length axes
    → met (take (suc k) axes) ours ≡ met (take k axes) ours ++ (max 1 (get_or ours k (1, get_or axes k 0)).0, min (get_or ours k (1, get_or axes k 0)).1 (get_or axes k 0)) ∷ []
met_push k [] ours h = absurd (omega arith)
met_push zero (n ∷ axes) [] h = let same : n ≡ min n n = omega arith in ap (λ (m : ℕ). (1, m) ∷ []) same
met_push zero (n ∷ axes) (s ∷ ours) h = refl
met_push (suc k) (n ∷ axes) [] h = ap (λ (r : List Interval). (1, n) ∷ r) (met_push k axes [] (omega arith))
met_push (suc k) (n ∷ axes) (s ∷ ours) h = ap (λ (r : List Interval). (max 1 s.0, min s.1 n) ∷ r) (met_push k axes ours (omega arith))

pub met_more : (k : ℕ) (axes : List ℕ) (ours : List Interval) → k < length axes
    → met (take (k + 1) axes) ours ≡ met (take k axes) ours ++ (max 1 (get_or ours k (1, get_or axes k 0)).0, min (get_or ours k (1, get_or axes k 0)).1 (get_or axes k 0)) ∷ []
met_more k axes ours h = let next : k + 1 ≡ suc k = omega arith in ap (λ (m : ℕ). met (take m axes) ours) next ∙ met_push k axes ours h

-- ---- lists

pub length-index_after : (axes : List ℕ) (before : ℕ) → length (index_after axes before) ≡ length axes
length-index_after [] before = refl
length-index_after (n ∷ axes) before = let k = length-index_after axes (before % size axes) in omega (arith, k)

pub set_in_front : (n k : ℕ) (y : Interval) (xs now : List Interval) → now ≡ take n xs → k < length now → take n (set xs k y) ≡ set now k y
set_in_front n k y xs now e h = take-set-lt n xs k y (omega (arith, ap length e, length-take n xs)) ∙ ap (λ (r : List Interval). set r k y) (sym e)

pub removed : (k n : ℕ) (xs : List Interval) → n ≡ length xs - (k + 1) → take k xs ++ take n (drop (k + 1) xs) ≡ remove xs k
removed k n xs e =
    let next : k + 1 ≡ suc k = omega arith in
    let all : take n (drop (k + 1) xs) ≡ drop (k + 1) xs = take_all n (drop (k + 1) xs) (let l = length-drop (k + 1) xs in omega (arith, l)) in
    ap (λ (r : List Interval). take k xs ++ r) all ∙ ap (λ (m : ℕ). take k xs ++ drop m xs) next

-- ---- the intervals between two index lists, from an axis on

from_axis : (k : ℕ) (axes from to : List ℕ) → k < length axes → length from ≡ length axes → length to ≡ length axes
    → cover_between (drop k axes) (drop k from) (drop k to)
    ≡ (get_or from k 0, get_or to k 0)
    ∷ (if nat_eq (get_or from k 0) (get_or to k 0) then cover_between (drop (suc k) axes) (drop (suc k) from) (drop (suc k) to) else whole_of (drop (suc k) axes))
from_axis k [] from to h e f = absurd (omega arith)
from_axis k (n ∷ axes) [] to h e f = absurd (omega arith)
from_axis k (n ∷ axes) (i ∷ from) [] h e f = absurd (omega arith)
from_axis zero (n ∷ axes) (i ∷ from) (j ∷ to) h e f = refl
from_axis (suc k) (n ∷ axes) (i ∷ from) (j ∷ to) h e f = from_axis k axes from to (omega arith) (omega arith) (omega arith)

-- an axis on which the two have the same index
pub same_on_axis : (k : ℕ) (done : List Interval) (axes from to : List ℕ) → k < length axes → length from ≡ length axes → length to ≡ length axes → get_or from k 0 ≡ get_or to k 0
    → (done ++ (get_or from k 0, get_or to k 0) ∷ []) ++ cover_between (drop (k + 1) axes) (drop (k + 1) from) (drop (k + 1) to) ≡ done ++ cover_between (drop k axes) (drop k from) (drop k to)
same_on_axis k done axes from to h e f same = rw (append_assoc, add-one, from_axis k axes from to h e f, eq-eqb (get_or from k 0) (get_or to k 0) same) refl

-- the first axis on which the two differ
pub differ_on_axis : (k n : ℕ) (done : List Interval) (axes from to : List ℕ) → k < length axes → length from ≡ length axes → length to ≡ length axes
    → (get_or from k 0 ≡ get_or to k 0 → ⊥) → n ≡ length axes - (k + 1)
    → (done ++ (get_or from k 0, get_or to k 0) ∷ []) ++ whole_of (take n (drop (k + 1) axes)) ≡ done ++ cover_between (drop k axes) (drop k from) (drop k to)
differ_on_axis k n done axes from to h e f apart left =
    let all : take n (drop (k + 1) axes) ≡ drop (k + 1) axes = take_all n (drop (k + 1) axes) (let l = length-drop (k + 1) axes in omega (arith, l)) in
    rw (append_assoc, all, add-one, from_axis k axes from to h e f, ne_eqb (get_or from k 0) (get_or to k 0) apart) refl
