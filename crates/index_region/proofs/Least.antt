-- The least boxes that contain two boxes, or a range of places of a shape.
use Rattle.std.proofs.Common.{◌≡◌, ℕ, suc, zero, ◌+◌, ◌-◌, ◌*◌, ◌/◌, ◌%◌, ◌<◌, ◌≤◌, List, [], ◌∷◌, length, refl, sym, ap, subst, ◌∙◌, arith, true, Bool, ◌&&◌, inl, inr, min, max, nat_le, nat_eq, map}
use Rattle.std.{proofs.lemmas.Bool.{and_parts, and_from, leb-true, le-leb, eqb-true, eqb-false, false≢true, cases_Bool, cond-true, cond-false, cases_order}, proofs.lemmas.Nat.{div-mul-add, mod-mul-add, mod_below, div-add-mod', mul-le}}
use Rattle.arrays_core.{specs.Shapes.{size, is_index_of, places_before, index_after}, proofs.Shapes.{places_below}, proofs.Order.{index_after-within, places_before-index_after}}
use Rattle.index_region.{specs.Boxes.{Interval, is_within, hull_of, whole_of, cover}, specs.BoxLaws.{LiesIn, HoldsPlaces}, proofs.Boxes.{filled, On, on_parts, on_from}}

-- ---- the hull

-- the first places of the intervals
abbrev firsts : List Interval → List ℕ
firsts region = map (λ s. s.0) region

-- an interval that is not empty
record Filled (s : Interval) (region : List Interval) : Type 0 where
  order : s.0 ≤ s.1
  rest : filled region ≡ true

filled_parts : (s : Interval) (region : List Interval) → filled (s ∷ region) ≡ true → Filled s region
filled_parts s region h =
    let parts = and_parts _ _ h in
    record { order = leb-true s.0 s.1 (and_parts _ _ parts.0).1; rest = parts.1 }

firsts_within : (region : List Interval) → filled region ≡ true → is_within region (firsts region) ≡ true
firsts_within [] h = refl
firsts_within (s ∷ region) h = let f = filled_parts s region h in on_from s s.0 region (firsts region) (omega arith) f.order (firsts_within region f.rest)

-- the first axis of a box that lies in another
record Ahead (s t : Interval) (region others : List Interval) : Type 0 where
  low : t.0 ≤ s.0
  high : s.1 ≤ t.1
  rest : LiesIn region others

ahead : (s t : Interval) (region others : List Interval) → filled (s ∷ region) ≡ true → LiesIn (s ∷ region) (t ∷ others) → Ahead s t region others
ahead s t region others h lies =
    let f = filled_parts s region h in
    let first = on_parts t s.0 others (firsts region) (lies (s.0 ∷ firsts region) (on_from s s.0 region (firsts region) (omega arith) f.order (firsts_within region f.rest))) in
    let last = on_parts t s.1 others (firsts region) (lies (s.1 ∷ firsts region) (on_from s s.1 region (firsts region) f.order (omega arith) (firsts_within region f.rest))) in
    record {
      low = first.low;
      high = last.high;
      rest = λ index inside. (on_parts t s.0 others index (lies (s.0 ∷ index) (on_from s s.0 region index (omega arith) f.order inside))).rest;
    }

pub hull_least : (a b other : List Interval) → filled a ≡ true → filled b ≡ true → length a ≡ length b → LiesIn a other → LiesIn b other → LiesIn (hull_of a b) other
hull_least [] [] other fa fb e la lb index h = la index h
hull_least [] (t ∷ b) other fa fb e la lb index h = absurd (omega arith)
hull_least (s ∷ a) [] other fa fb e la lb index h = absurd (omega arith)
hull_least (s ∷ a) (t ∷ b) [] fa fb e la lb index h = absurd (false≢true (la (s.0 ∷ firsts a) (firsts_within (s ∷ a) fa)))
hull_least (s ∷ a) (t ∷ b) (u ∷ other) fa fb e la lb [] h = absurd (false≢true h)
hull_least (s ∷ a) (t ∷ b) (u ∷ other) fa fb e la lb (i ∷ index) h =
    let left = ahead s u a other fa la in
    let right = ahead t u b other fb lb in
    let here = on_parts (min s.0 t.0, max s.1 t.1) i (hull_of a b) index h in
    let low : u.0 ≤ i = omega (arith, left.low, right.low, here.low) in
    let high : i ≤ u.1 = omega (arith, left.high, right.high, here.high) in
    on_from u i other index low high (hull_least a b other (filled_parts s a fa).rest (filled_parts t b fb).rest (omega arith) left.rest right.rest index here.rest)

-- ---- the cover

pub within-whole : (axes index : List ℕ) → is_within (whole_of axes) index ≡ is_index_of axes index
within-whole [] [] = refl
within-whole (n ∷ axes) (i ∷ index) = ap (λ (b : Bool). (nat_le 1 i && nat_le i n) && b) (within-whole axes index)
within-whole [] (i ∷ index) = refl
within-whole (n ∷ axes) [] = refl

row_le : (a x w b o : ℕ) → a * w + b ≤ x * w + o → o < w → a ≤ x
row_le a x w b o h l = elim (cases_order a x) [
  | inl e ↦ omega arith
  | inr s ↦ elim s [
    | inl m ↦ omega arith
    | inr m ↦
        let next : (x + 1) * w ≤ a * w = mul-le (x + 1) w a w (omega arith) (omega arith) in
        let more : (x + 1) * w ≡ x * w + w = grind arith in
        absurd (omega arith)
  ]
]

same_row : (a x w b o : ℕ) → a ≡ x → a * w + b ≤ x * w + o → b ≤ o
same_row a x w b o e h = let k = rw e at h in omega arith

pub cover-within : (axes index : List ℕ) (p q : ℕ) → is_index_of axes index ≡ true → p ≤ places_before axes index → places_before axes index ≤ q → q < size axes → is_within (cover axes p q) index ≡ true
cover-within [] [] p q place l u b = refl
cover-within [] (i ∷ index) p q place l u b = absurd (false≢true place)
cover-within (n ∷ axes) [] p q place l u b = absurd (false≢true place)
cover-within (n ∷ axes) (i ∷ index) p q place l u b =
    let parts = and_parts _ _ place in
    let low : 1 ≤ i = leb-true 1 i (and_parts _ _ parts.0).0 in
    let w = size axes in
    let o = places_before axes index in
    let below : o < w = places_below axes index parts.1 in
    let dp : p / w * w + p % w ≡ p = div-add-mod' p w in
    let dq : q / w * w + q % w ≡ q = div-add-mod' q w in
    let mq : q % w < w = mod_below q w (omega arith) in
    let lp : p / w * w + p % w ≤ (i - 1) * w + o = omega arith in
    let lq : (i - 1) * w + o ≤ q / w * w + q % w = omega arith in
    let first : p / w ≤ i - 1 = row_le (p / w) (i - 1) w (p % w) o lp below in
    let last : i - 1 ≤ q / w = row_le (i - 1) (q / w) w o (q % w) lq mq in
    let here : (nat_le (p / w + 1) i && nat_le i (q / w + 1)) ≡ true = and_from _ _ (le-leb (p / w + 1) i (omega arith)) (le-leb i (q / w + 1) (omega arith)) in
    let deep = λ (r : List Interval). is_within r index ≡ true in
    elim (cases_Bool (nat_eq (p / w + 1) (q / w + 1))) [
      | inl t ↦
          let same : p / w + 1 ≡ q / w + 1 = eqb-true _ _ t in
          let pi : p / w ≡ i - 1 = omega arith in
          let qi : i - 1 ≡ q / w = omega arith in
          and_from _ _ here (subst deep (sym (cond-true _ _ _ t)) (cover-within axes index (p % w) (q % w) parts.1 (same_row _ _ w _ _ pi lp) (same_row _ _ w _ _ qi lq) mq))
      | inr f ↦ and_from _ _ here (subst deep (sym (cond-false _ _ _ f)) (within-whole axes index ∙ parts.1))
    ]

pub cover_holds : (axes : List ℕ) (p q : ℕ) → q < size axes → HoldsPlaces axes p q (cover axes p q)
cover_holds axes p q b place l u =
    let below : place < size axes = omega arith in
    let back : places_before axes (index_after axes place) ≡ place = places_before-index_after axes place below in
    cover-within axes (index_after axes place) p q (index_after-within axes place below) (subst (λ m. p ≤ m) (sym back) l) (subst (λ m. m ≤ q) (sym back) u) b

-- a place of a row by the place in it
row_of : (axes : List ℕ) (n a b : ℕ) → b < size axes → index_after (n ∷ axes) (a * size axes + b) ≡ (a + 1) ∷ index_after axes b
row_of axes n a b h = rw (div-mul-add a (size axes) b h, mod-mul-add a (size axes) b h) refl

-- an index list of another box, split at the first axis
on_row : (t : Interval) (others : List Interval) (axes : List ℕ) (n a b : ℕ) → b < size axes → is_within (t ∷ others) (index_after (n ∷ axes) (a * size axes + b)) ≡ true → On t (a + 1) others (index_after axes b)
on_row t others axes n a b h inside = on_parts t (a + 1) others (index_after axes b) (subst (λ index. is_within (t ∷ others) index ≡ true) (row_of axes n a b h) inside)

-- a shape with places has places on its later axes
later_positive : (n w p : ℕ) → p < n * w → 0 < w
later_positive n w p h = grind arith

-- a box that contains the first and the last place of a shape contains all
ends_hold : (axes : List ℕ) (other : List Interval) → 0 < size axes → is_within other (index_after axes 0) ≡ true → is_within other (index_after axes (size axes - 1)) ≡ true → LiesIn (whole_of axes) other
ends_hold [] other some first last [] h = first
ends_hold [] other some first last (i ∷ index) h = absurd (false≢true h)
ends_hold (n ∷ axes) [] some first last index h = absurd (false≢true first)
ends_hold (n ∷ axes) (t ∷ other) some first last [] h = absurd (false≢true h)
ends_hold (zero ∷ axes) (t ∷ other) some first last (i ∷ index) h = absurd (omega arith)
ends_hold (suc n ∷ axes) (t ∷ other) some first last (i ∷ index) h =
    let w = size axes in
    let positive : 0 < w = later_positive (suc n) w 0 some in
    let here = on_parts (1, suc n) i (whole_of axes) index h in
    let rows : suc n * w ≡ n * w + w = grind arith in
    let end : suc n * w - 1 ≡ n * w + (w - 1) = omega (arith, rows, positive) in
    let low = on_row t other axes (suc n) 0 0 positive (subst (λ place. is_within (t ∷ other) (index_after (suc n ∷ axes) place) ≡ true) (omega arith) first) in
    let high = on_row t other axes (suc n) n (w - 1) (omega (arith, positive)) (subst (λ place. is_within (t ∷ other) (index_after (suc n ∷ axes) place) ≡ true) end last) in
    on_from t i other index (omega (arith, low.low, here.low)) (omega (arith, high.high, here.high)) (ends_hold axes other positive low.rest high.rest index here.rest)

-- the part of another box in the last row
one_row : (t : Interval) (other : List Interval) (axes : List ℕ) (n a b d p q : ℕ) → a * size axes + b ≡ p → a * size axes + d ≡ q → d < size axes → HoldsPlaces (n ∷ axes) p q (t ∷ other) → HoldsPlaces axes b d other
one_row t other axes n a b d p q ep eq below holds place l u =
    (on_row t other axes n a place (omega arith) (holds (a * size axes + place) (omega arith) (omega arith))).rest

pub cover_least : (axes : List ℕ) (p q : ℕ) (other : List Interval) → p ≤ q → q < size axes → HoldsPlaces axes p q other → LiesIn (cover axes p q) other
cover_least [] p q other o b holds [] h = holds p (omega arith) o
cover_least [] p q other o b holds (i ∷ index) h = absurd (false≢true h)
cover_least (n ∷ axes) p q [] o b holds index h = absurd (false≢true (holds p (omega arith) o))
cover_least (n ∷ axes) p q (t ∷ other) o b holds [] h = absurd (false≢true h)
cover_least (n ∷ axes) p q (t ∷ other) o b holds (i ∷ index) h =
    let w = size axes in
    let positive : 0 < w = later_positive n w q b in
    let dp : p / w * w + p % w ≡ p = div-add-mod' p w in
    let dq : q / w * w + q % w ≡ q = div-add-mod' q w in
    let mp : p % w < w = mod_below p w positive in
    let mq : q % w < w = mod_below q w positive in
    let at_p = on_row t other axes n (p / w) (p % w) mp (subst (λ place. is_within (t ∷ other) (index_after (n ∷ axes) place) ≡ true) (sym dp) (holds p (omega arith) o)) in
    let at_q = on_row t other axes n (q / w) (q % w) mq (subst (λ place. is_within (t ∷ other) (index_after (n ∷ axes) place) ≡ true) (sym dq) (holds q o (omega arith))) in
    let here = on_parts (p / w + 1, q / w + 1) i _ index h in
    on_from t i other index (omega (arith, at_p.low, here.low)) (omega (arith, at_q.high, here.high)) (
    elim (cases_Bool (nat_eq (p / w + 1) (q / w + 1))) [
      | inl e ↦
          let same : p / w + 1 ≡ q / w + 1 = eqb-true _ _ e in
          let eq : p / w * w + q % w ≡ q = subst (λ a. a * w + q % w ≡ q) (omega arith) dq in
          let rest : p % w ≤ q % w = omega arith in
          cover_least axes (p % w) (q % w) other rest mq (one_row t other axes n (p / w) (p % w) (q % w) p q dp eq mq holds) index (subst (λ r. is_within r index ≡ true) (cond-true _ _ _ e) here.rest)
      | inr e ↦
          let apart : p / w + 1 ≡ q / w + 1 → ⊥ = eqb-false _ _ e in
          let first : p / w ≤ q / w = row_le (p / w) (q / w) w (p % w) (q % w) (omega arith) mq in
          let less : p / w + 1 ≤ q / w = elim (cases_order (p / w) (q / w)) [ inl s ↦ absurd (apart (ap (λ a. a + 1) s)) | inr s ↦ elim s [ inl m ↦ omega arith | inr m ↦ absurd (omega arith) ] ] in
          let next : (p / w + 1) * w ≤ q / w * w = mul-le (p / w + 1) w (q / w) w less (omega arith) in
          let more : (p / w + 1) * w ≡ p / w * w + w = grind arith in
          let begin = on_row t other axes n (p / w + 1) 0 positive (holds ((p / w + 1) * w + 0) (omega arith) (omega arith)) in
          let end = on_row t other axes n (p / w) (w - 1) (omega arith) (holds (p / w * w + (w - 1)) (omega arith) (omega arith)) in
          ends_hold axes other positive begin.rest end.rest index (subst (λ r. is_within r index ≡ true) (cond-false _ _ _ e) here.rest)
    ])
