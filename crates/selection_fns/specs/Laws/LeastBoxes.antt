-- The least box of the places that pass a test contains each of them.
use Rattle.std.{proofs.Common.{◌≡◌, ℕ, zero, suc, ◌<◌, List, [], ◌∷◌, ◌++◌, length, take, drop, refl, ap, ◌∙◌, sym, subst, arith, true, Bool, Option, Some, None, inl, inr}, proofs.lemmas.Bool.{and_parts, and_from, le-leb, false≢true, cases_Bool, cond-true, cond-false, cases_order}}
use Rattle.arrays_core.{specs.Shapes.{size, is_index_of, index_after, places_before}, proofs.Shapes.{places_below}, proofs.Order.{index_after-places_before}}
use Rattle.index_region.{specs.Boxes.{Interval, is_within, join_boxes}, proofs.Boxes.{length-hull, length-index_after, within-hull_left, within-hull_right}}
use Rattle.change_core.specs.Reaches.{is_moved}
use Rattle.selection_fns.specs.Index.{beside, least_box, point}

within-point : (index : List ℕ) → is_within (point index) index ≡ true
within-point [] = refl
within-point (i ∷ index) = and_from _ _ (and_from _ _ (le-leb i i (omega arith)) (le-leb i i (omega arith))) (within-point index)

pub length-point : (index : List ℕ) → length (point index) ≡ length index
length-point [] = refl
length-point (i ∷ index) = let k = length-point index in omega (arith, k)

-- the rank of a box, if there is one
abbrev pub HasRank : ℕ → Option (List Interval) → Type 0
HasRank rank None = Unit {0}
HasRank rank (Some region) = length region ≡ rank

join_rank : (rank : ℕ) (a : List Interval) (rest : Option (List Interval)) → length a ≡ rank → HasRank rank rest → HasRank rank (join_boxes (Some a) rest)
join_rank rank a None h k = h
join_rank rank a (Some b) h k = length-hull a b (h ∙ sym k) ∙ h

one_point : (shape : List ℕ) (n : ℕ) → length (point (index_after shape n)) ≡ length shape
one_point shape n = length-point (index_after shape n) ∙ length-index_after shape n

pub least_rank : (shape : List ℕ) (test : List ℕ → Bool) (n : ℕ) → HasRank (length shape) (least_box shape test n)
least_rank shape test zero = tt
least_rank shape test (suc n) = elim (cases_Bool (test (index_after shape n))) [
  | inl t ↦ subst (HasRank (length shape)) (sym (cond-true _ _ _ t)) (join_rank (length shape) (point (index_after shape n)) (least_box shape test n) (one_point shape n) (least_rank shape test n))
  | inr f ↦ subst (HasRank (length shape)) (sym (cond-false _ _ _ f)) (least_rank shape test n)
]

join_left : (rank : ℕ) (a : List Interval) (rest : Option (List Interval)) (index : List ℕ) → length a ≡ rank → HasRank rank rest → is_within a index ≡ true → is_moved (join_boxes (Some a) rest) index ≡ true
join_left rank a None index h k w = w
join_left rank a (Some b) index h k w = within-hull_left a b index (h ∙ sym k) w

join_right : (rank : ℕ) (a : List Interval) (rest : Option (List Interval)) (index : List ℕ) → length a ≡ rank → HasRank rank rest → is_moved rest index ≡ true → is_moved (join_boxes (Some a) rest) index ≡ true
join_right rank a None index h k w = absurd (false≢true w)
join_right rank a (Some b) index h k w = within-hull_right a b index (h ∙ sym k) w

least_at : (shape : List ℕ) (test : List ℕ → Bool) (n p : ℕ) → p < n → test (index_after shape p) ≡ true → is_moved (least_box shape test n) (index_after shape p) ≡ true
least_at shape test zero p l h = absurd (omega arith)
least_at shape test (suc n) p l h =
    let len = one_point shape n in
    let rank = least_rank shape test n in
    let moved = λ (o : Option (List Interval)). is_moved o (index_after shape p) ≡ true in
    elim (cases_order p n) [
      | inl e ↦
          let t : test (index_after shape n) ≡ true = ap (λ (k : ℕ). test (index_after shape k)) (sym e) ∙ h in
          let here : is_within (point (index_after shape n)) (index_after shape p) ≡ true = ap (λ (k : ℕ). is_within (point (index_after shape n)) (index_after shape k)) e ∙ within-point (index_after shape n) in
          subst moved (sym (cond-true _ _ _ t)) (join_left (length shape) (point (index_after shape n)) (least_box shape test n) (index_after shape p) len rank here)
      | inr o ↦
          let below : p < n = elim o [ inl m ↦ m | inr m ↦ absurd (omega arith) ] in
          let later = least_at shape test n p below h in
          elim (cases_Bool (test (index_after shape n))) [
            | inl t ↦ subst moved (sym (cond-true _ _ _ t)) (join_right (length shape) (point (index_after shape n)) (least_box shape test n) (index_after shape p) len rank later)
            | inr f ↦ subst moved (sym (cond-false _ _ _ f)) later
          ]
    ]

-- each place that passes lies in the box
pub least_within : (shape : List ℕ) (test : List ℕ → Bool) (index : List ℕ) → is_index_of shape index ≡ true → test index ≡ true → is_moved (least_box shape test (size shape)) index ≡ true
least_within shape test index place h =
    let back = index_after-places_before shape index place in
    let here : test (index_after shape (places_before shape index)) ≡ true = ap test back ∙ h in
    ap (is_moved (least_box shape test (size shape))) (sym back) ∙ least_at shape test (size shape) (places_before shape index) (places_below shape index place) here

within-append : (a b : List Interval) (n : ℕ) (index : List ℕ) → n ≡ length a → is_within a (take n index) ≡ true → is_within b (drop n index) ≡ true → is_within (a ++ b) index ≡ true
within-append a b n index e h k = go a b index (subst (λ (m : ℕ). is_within a (take m index) ≡ true) e h) (subst (λ (m : ℕ). is_within b (drop m index) ≡ true) e k)
  where
    go : (a b : List Interval) (index : List ℕ) → is_within a (take (length a) index) ≡ true → is_within b (drop (length a) index) ≡ true → is_within (a ++ b) index ≡ true
    go [] b index h k = k
    go (s ∷ a) b [] h k = absurd (false≢true h)
    go (s ∷ a) b (i ∷ index) h k = let parts = and_parts _ _ h in and_from _ _ parts.0 (go a b index parts.1 k)

pub beside-within : (a b : Option (List Interval)) (n : ℕ) (index : List ℕ) → HasRank n a → is_moved a (take n index) ≡ true → is_moved b (drop n index) ≡ true → is_moved (beside a b) index ≡ true
beside-within None b n index r h k = absurd (false≢true h)
beside-within (Some a) None n index r h k = absurd (false≢true k)
beside-within (Some a) (Some b) n index r h k = within-append a b n index (sym r) h k
