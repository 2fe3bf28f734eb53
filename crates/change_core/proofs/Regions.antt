-- Boxes cut to a result, and their hulls.
use Rattle.std.{proofs.Common.{◌≡◌, ℕ, ◌≤◌, List, [], ◌∷◌, length, refl, ap, ◌∙◌, sym, subst, arith, true, false, Option, Some, None, inl, inr, min, max}, proofs.lemmas.Bool.{and_parts, leb-true, false≢true, cases_Bool, cond-true, cond-false, both_ways, or_from, and_from, le-leb, le-ltb}}
use Rattle.{arrays_core.specs.Shapes.{is_index_of}, change_core.specs.Reaches.{bounded, is_moved}}
use Rattle.index_region.{proofs.Boxes.{within-hull_left, within-hull_right, fits-met, fits_length}, specs.Boxes.{Interval, fits, hull_of, is_empty, is_within, join_boxes, met, unless_empty}}

-- a place of the result that lies in the box lies in the part cut to the result
pub within-met : (shape : List ℕ) (intervals : List Interval) (index : List ℕ) → is_index_of shape index ≡ true → is_within intervals index ≡ true → is_within (met shape intervals) index ≡ true
within-met [] intervals [] h k = refl
within-met [] intervals (i ∷ index) h k = absurd (false≢true h)
within-met (n ∷ axes) intervals [] h k = absurd (false≢true h)
within-met (n ∷ axes) [] (i ∷ index) h k = absurd (false≢true k)
within-met (n ∷ axes) (s ∷ intervals) (i ∷ index) h k =
    let hp = and_parts _ _ h in
    let kp = and_parts _ _ k in
    let h1 = and_parts _ _ hp.0 in
    let k1 = and_parts _ _ kp.0 in
    let high : i ≤ min s.1 n = omega (arith, leb-true i n h1.1, leb-true i s.1 k1.1) in
    and_from _ _ (and_from _ _ (le-leb _ _ (omega (arith, leb-true 1 i h1.0, leb-true s.0 i k1.0))) (le-leb _ _ high)) (within-met axes intervals index hp.1 kp.1)

-- a box with a place is not empty
pub within-some : (intervals : List Interval) (index : List ℕ) → is_within intervals index ≡ true → is_empty intervals ≡ false
within-some [] index h = refl
within-some (s ∷ intervals) [] h = absurd (false≢true h)
within-some (s ∷ intervals) (i ∷ index) h =
    let hp = and_parts _ _ h in
    let h1 = and_parts _ _ hp.0 in
    or_from _ _ (le-ltb _ _ (omega (arith, leb-true s.0 i h1.0, leb-true i s.1 h1.1))) (within-some intervals index hp.1)

lower : (i : ℕ) → 1 ≤ i → max 1 i ≡ i
lower i h = omega arith

upper : (i n : ℕ) → i ≤ n → min i n ≡ i
upper i n h = omega arith

-- cutting a box that fits changes nothing
pub met_fit : (shape : List ℕ) (region : List Interval) → fits region shape ≡ true → met shape region ≡ region
met_fit [] [] h = refl
met_fit [] (s ∷ region) h = absurd (false≢true h)
met_fit (n ∷ shape) [] h = absurd (false≢true h)
met_fit (n ∷ shape) (s ∷ region) h =
    let parts = and_parts _ _ h in
    let first = and_parts _ _ parts.0 in
    λ i. ((lower s.0 (leb-true 1 s.0 (and_parts _ _ first.0).0)) i, (upper s.1 n (leb-true s.1 n first.1)) i) ∷ (met_fit shape region parts.1) i

-- a box that fits has no empty interval
pub fit_some : (region : List Interval) (shape : List ℕ) → fits region shape ≡ true → is_empty region ≡ false
fit_some [] [] h = refl
fit_some [] (n ∷ shape) h = absurd (false≢true h)
fit_some (s ∷ region) [] h = absurd (false≢true h)
fit_some (s ∷ region) (n ∷ shape) h =
    let parts = and_parts _ _ h in
    let order : s.0 ≤ s.1 = leb-true s.0 s.1 (and_parts _ _ (and_parts _ _ parts.0).0).1 in
    rw (le-ltb s.1 s.0 order) (fit_some region shape parts.1)

pub hull_fits : (a b : List Interval) (shape : List ℕ) → fits a shape ≡ true → fits b shape ≡ true → fits (hull_of a b) shape ≡ true
hull_fits [] [] shape h k = h
hull_fits (s ∷ a) (t ∷ b) (n ∷ shape) h k =
    let hp = and_parts _ _ h in
    let kp = and_parts _ _ k in
    let h1 = and_parts _ _ hp.0 in
    let k1 = and_parts _ _ kp.0 in
    let h2 = and_parts _ _ h1.0 in
    let low : 1 ≤ min s.0 t.0 = omega (arith, leb-true 1 s.0 h2.0, leb-true 1 t.0 (and_parts _ _ k1.0).0) in
    let high : max s.1 t.1 ≤ n = omega (arith, leb-true s.1 n h1.1, leb-true t.1 n k1.1) in
    and_from _ _ (and_from _ _ (and_from _ _ (le-leb _ _ low) (le-leb _ _ (omega (arith, leb-true s.0 s.1 h2.1)))) (le-leb _ _ high)) (hull_fits a b shape hp.1 kp.1)
hull_fits (s ∷ a) (t ∷ b) [] h k = absurd (false≢true h)
hull_fits [] (t ∷ b) [] h k = absurd (false≢true k)
hull_fits [] (t ∷ b) (n ∷ shape) h k = absurd (false≢true h)
hull_fits (s ∷ a) [] shape h k = absurd (no_box s a shape h k)
  where
    no_box : (s : Interval) (a : List Interval) (shape : List ℕ) → fits (s ∷ a) shape ≡ true → fits [] shape ≡ true → ⊥
    no_box s a [] h k = false≢true h
    no_box s a (n ∷ shape) h k = false≢true k

-- a box, if there is one, lies in the result
abbrev pub HasFit : List ℕ → Option (List Interval) → Type 0
HasFit shape None = Unit {0}
HasFit shape (Some region) = fits region shape ≡ true

pub unless_empty-fits : (shape : List ℕ) (intervals : List Interval) → HasFit shape (unless_empty (met shape intervals))
unless_empty-fits shape intervals = elim (cases_Bool (is_empty (met shape intervals))) [
  | inl t ↦ subst (HasFit shape) (sym (cond-true _ _ _ t)) tt
  | inr f ↦ subst (HasFit shape) (sym (cond-false _ _ _ f)) (fits-met shape intervals f)
]

pub join_fits : (shape : List ℕ) (p q : Option (List Interval)) → HasFit shape p → HasFit shape q → HasFit shape (join_boxes p q)
join_fits shape None q hp hq = hq
join_fits shape (Some a) None hp hq = hp
join_fits shape (Some a) (Some b) hp hq = hull_fits a b shape hp hq

outside_hull : (a b : List Interval) (index : List ℕ) → length a ≡ length b → is_within (hull_of a b) index ≡ false → (is_within a index ≡ false) × (is_within b index ≡ false)
outside_hull a b index e h = (
  elim (cases_Bool (is_within a index)) [ inl t ↦ absurd (both_ways _ h (within-hull_left a b index e t)) | inr f ↦ f ],
  elim (cases_Bool (is_within b index)) [ inl t ↦ absurd (both_ways _ h (within-hull_right a b index e t)) | inr f ↦ f ],
)

-- an index list outside the hull is outside both boxes
pub join_unmoved : (shape : List ℕ) (p q : Option (List Interval)) (index : List ℕ) → HasFit shape p → HasFit shape q → is_moved (join_boxes p q) index ≡ false → (is_moved p index ≡ false) × (is_moved q index ≡ false)
join_unmoved shape None q index hp hq u = (refl, u)
join_unmoved shape (Some a) None index hp hq u = (u, refl)
join_unmoved shape (Some a) (Some b) index hp hq u = outside_hull a b index (fits_length a shape hp ∙ sym (fits_length b shape hq)) u

-- a place of the box is in the reach
pub unless_empty-within : (shape : List ℕ) (intervals : List Interval) (index : List ℕ) → is_index_of shape index ≡ true → is_within intervals index ≡ true → is_moved (unless_empty (met shape intervals)) index ≡ true
unless_empty-within shape intervals index h k =
    let inside = within-met shape intervals index h k in
    ap (λ (o : Option (List Interval)). is_moved o index) (cond-false _ _ _ (within-some (met shape intervals) index inside)) ∙ inside

pub bounded-fits : (shape : List ℕ) (region : Option (List Interval)) → HasFit shape (bounded shape region)
bounded-fits shape None = tt
bounded-fits shape (Some region) = unless_empty-fits shape region

pub bounded-within : (shape : List ℕ) (region : Option (List Interval)) (index : List ℕ) → is_index_of shape index ≡ true → is_moved region index ≡ true → is_moved (bounded shape region) index ≡ true
bounded-within shape None index h k = absurd (false≢true k)
bounded-within shape (Some region) index h k = unless_empty-within shape region index h k
