-- The step of a walk to the next index list of a box.
use Rattle.std.{proofs.Common.{◌≡◌, ℕ, ◌+◌, ◌*◌, ◌/◌, ◌%◌, ◌<◌, ◌≤◌, List, [], ◌∷◌, arith, true, false, Bool, sym, ap, ◌∙◌, refl, inl, inr}, proofs.lemmas.Bool.{cond-true, cond-false, lt-ltb, le-ltb, cases_order}, proofs.lemmas.Nat.{div-add-mod', div-mul-add, mod-mul-add, mod_below, div_below, mul-le}}
use Rattle.index_region.{specs.Boxes.{Interval, interval_length, box_size, walk_at}, proofs.Walks.{rest_positive}, specs.Advancing.{stepped, next_in}}

-- the conclusion of a step
pub record Next (region : List Interval) (before : ℕ) : Type 0 where
  pub more : before + 1 < box_size region → next_in region (walk_at region before) ≡ (walk_at region (before + 1), false)
  pub last : before + 1 ≡ box_size region → next_in region (walk_at region before) ≡ (walk_at region 0, true)

-- the rows of an axis
row_of : (s : Interval) (region : List Interval) (a b : ℕ) → b < box_size region → walk_at (s ∷ region) (a * box_size region + b) ≡ (s.0 + a) ∷ walk_at region b
row_of s region a b h = rw (div-mul-add a (box_size region) b h, mod-mul-add a (box_size region) b h) refl

-- fewer rows have fewer places
rows_below : (a n w : ℕ) → a * w < n * w → a < n
rows_below a n w h = elim (cases_order a n) [
  | inl e ↦ absurd (let same : a * w ≡ n * w = ap (λ (k : ℕ). k * w) e in omega arith)
  | inr o ↦ elim o [ inl l ↦ l | inr l ↦ absurd (let more : n * w ≤ a * w = mul-le n w a w (omega arith) (omega arith) in omega arith) ]
]

-- an axis steps if the later axes have wrapped around
stepped_more : (s : Interval) (i : ℕ) (index : List ℕ) → i < s.1 → stepped s i (index, true) ≡ ((i + 1) ∷ index, false)
stepped_more s i index h = cond-true _ _ _ (lt-ltb i s.1 h)

stepped_last : (s : Interval) (i : ℕ) (index : List ℕ) → s.1 ≤ i → stepped s i (index, true) ≡ (s.0 ∷ index, true)
stepped_last s i index h = cond-false _ _ _ (le-ltb i s.1 h)

-- one axis in front of those after it
front_more : (s : Interval) (region : List Interval) (a b : ℕ) → a < interval_length s → b < box_size region → Next region b → a * box_size region + b + 1 < interval_length s * box_size region
    → next_in (s ∷ region) ((s.0 + a) ∷ walk_at region b) ≡ (walk_at (s ∷ region) (a * box_size region + b + 1), false)
front_more s region a b below inside next h = elim (cases_order (b + 1) (box_size region)) [
  | inl e ↦
      let next_row : (a + 1) * box_size region ≡ a * box_size region + box_size region = grind arith in
      let more : a + 1 < interval_length s = rows_below (a + 1) (interval_length s) (box_size region) (omega arith) in
      ap (stepped s (s.0 + a)) (next.last e)
      ∙ stepped_more s (s.0 + a) (walk_at region 0) (omega arith)
      ∙ ap (λ (i : ℕ). (i ∷ walk_at region 0, false)) (omega arith)
      ∙ sym (ap (λ (p : ℕ). (walk_at (s ∷ region) p, false)) (omega arith) ∙ ap (λ (i : List ℕ). (i, false)) (row_of s region (a + 1) 0 (omega arith)))
  | inr o ↦ elim o [
    | inl l ↦
        ap (stepped s (s.0 + a)) (next.more l)
        ∙ sym (ap (λ (p : ℕ). (walk_at (s ∷ region) p, false)) (omega arith) ∙ ap (λ (i : List ℕ). (i, false)) (row_of s region a (b + 1) l))
    | inr l ↦ absurd (omega arith)
  ]
]

front_last : (s : Interval) (region : List Interval) (a b : ℕ) → a < interval_length s → b < box_size region → Next region b → a * box_size region + b + 1 ≡ interval_length s * box_size region
    → next_in (s ∷ region) ((s.0 + a) ∷ walk_at region b) ≡ (walk_at (s ∷ region) 0, true)
front_last s region a b below inside next h =
    let next_row : (a + 1) * box_size region ≡ a * box_size region + box_size region = grind arith in
    let rows : (a + 1) * box_size region ≤ interval_length s * box_size region = mul-le (a + 1) (box_size region) (interval_length s) (box_size region) (omega arith) (omega arith) in
    let none_more : a + 1 < interval_length s → ⊥ = λ l.
    let more : (a + 1 + 1) * box_size region ≤ interval_length s * box_size region = mul-le (a + 1 + 1) (box_size region) (interval_length s) (box_size region) (omega arith) (omega arith) in
    let after : (a + 1 + 1) * box_size region ≡ a * box_size region + box_size region + box_size region = grind arith in
    omega arith in
    let last : a + 1 ≡ interval_length s = elim (cases_order (a + 1) (interval_length s)) [ inl e ↦ e | inr o ↦ elim o [ inl l ↦ absurd (none_more l) | inr l ↦ absurd (omega arith) ] ] in
    let zero_first : s.0 + 0 ≡ s.0 = omega arith in
    let none : 0 ≡ 0 * box_size region + 0 = omega arith in
    ap (stepped s (s.0 + a)) (next.last (omega arith))
    ∙ stepped_last s (s.0 + a) (walk_at region 0) (omega arith)
    ∙ sym (ap (λ (p : ℕ). (walk_at (s ∷ region) p, true)) none ∙ ap (λ (i : List ℕ). (i, true)) (row_of s region 0 0 (omega arith) ∙ ap (λ (i : ℕ). i ∷ walk_at region 0) zero_first))

pub next_at : (region : List Interval) (before : ℕ) → before < box_size region → Next region before
next_at [] before h = record { more = λ l. absurd (omega arith); last = λ e. refl }
next_at (s ∷ region) before h =
    let w = box_size region in
    let positive : 0 < w = rest_positive before (interval_length s) w h in
    let a = before / w in
    let b = before % w in
    let inside : b < w = mod_below before w positive in
    let below : a < interval_length s = div_below before w (interval_length s) positive h in
    let rest = next_at region b inside in
    record {
      more = λ l. front_more s region a b below inside rest (omega arith) ∙ ap (λ (p : ℕ). (walk_at (s ∷ region) (p + 1), false)) (div-add-mod' before w);
      last = λ e. front_last s region a b below inside rest (omega arith);
    }

-- a step leads from each index list to the next, and from the last to the first
pub advanced : (region intervals : List Interval) (old new : List ℕ) (before : ℕ) → intervals ≡ region → new ≡ (next_in intervals old).0 → before + 1 < box_size region → old ≡ walk_at region before → new ≡ walk_at region (before + 1)
advanced region intervals old new before same e h is = e ∙ (λ i. (next_in (same i) (is i)).0) ∙ ap (λ (r : List ℕ × Bool). r.0) ((next_at region before (omega arith)).more h)

pub around : (region intervals : List Interval) (old new : List ℕ) (before : ℕ) → intervals ≡ region → new ≡ (next_in intervals old).0 → before + 1 ≡ box_size region → old ≡ walk_at region before → new ≡ walk_at region 0
around region intervals old new before same e h is = e ∙ (λ i. (next_in (same i) (is i)).0) ∙ ap (λ (r : List ℕ × Bool). r.0) ((next_at region before (omega arith)).last h)
