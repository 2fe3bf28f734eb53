-- The walk of a box follows the ravel order of every shape around the box.
use Rattle.std.{proofs.Common.{◌≡◌, ℕ, ◌+◌, ◌-◌, ◌*◌, ◌/◌, ◌%◌, ◌<◌, ◌≤◌, List, [], ◌∷◌, arith, true, inl, inr}, proofs.lemmas.Bool.{and_parts, leb-true, false≢true, cases_order}, proofs.lemmas.Nat.{mod_below, div-add-mod', mul-le}}
use Rattle.arrays_core.{specs.Shapes.{size, places_before}, proofs.Shapes.{places_below}}
use Rattle.index_region.{specs.Boxes.{Interval, box_size, interval_length, walk_at, fits}, proofs.Walks.{rest_positive, walk_within}, proofs.Patched.{fits_within}}

-- every place of a row comes before every place of a later row
rows_apart : (i j w a b : ℕ) → i < j → a < w → i * w + a < j * w + b
rows_apart i j w a b h k =
    let next : (i + 1) * w ≤ j * w = mul-le (i + 1) w j w (omega arith) (omega arith) in
    let more : (i + 1) * w ≡ i * w + w = grind arith in
    omega arith

-- two places in one row are in the order of their places within it
rest_before : (i j w a b : ℕ) → i ≡ j → i * w + a < j * w + b → a < b
rest_before i j w a b e h = let k = rw e at h in omega arith

rest_after : (i j w a b : ℕ) → i ≡ j → a < b → i * w + a < j * w + b
rest_after i j w a b e h = rw e (omega arith)

pub walk_ascends : (region : List Interval) (shape : List ℕ) (p q : ℕ) → fits region shape ≡ true → p < q → q < box_size region
    → places_before shape (walk_at region p) < places_before shape (walk_at region q)
walk_ascends [] [] p q fit l b = absurd (omega arith)
walk_ascends [] (n ∷ shape) p q fit l b = absurd (false≢true fit)
walk_ascends (s ∷ region) [] p q fit l b = absurd (false≢true fit)
walk_ascends (s ∷ region) (n ∷ shape) p q fit l b =
    let parts = and_parts _ _ fit in
    let w = box_size region in
    let positive : 0 < w = rest_positive q (interval_length s) w b in
    let mq : q % w < w = mod_below q w positive in
    let both : p / w * w + p % w < q / w * w + q % w = omega (arith, div-add-mod' p w, div-add-mod' q w, l) in
    let below = places_below shape (walk_at region (p % w)) (fits_within region shape (walk_at region (p % w)) parts.1 (walk_within region (p % w) (mod_below p w positive))) in
    let first = places_before shape (walk_at region (p % w)) in
    let last = places_before shape (walk_at region (q % w)) in
    elim (cases_order (p / w) (q / w)) [
      | inl e ↦
          let rest : p % w < q % w = rest_before (p / w) (q / w) w (p % w) (q % w) e both in
          rest_after (s.0 + p / w - 1) (s.0 + q / w - 1) (size shape) first last (omega (arith, e)) (walk_ascends region shape (p % w) (q % w) parts.1 rest mq)
      | inr o ↦ elim o [
        | inl m ↦ rows_apart (s.0 + p / w - 1) (s.0 + q / w - 1) (size shape) first last (omega (arith, leb-true 1 s.0 (and_parts _ _ (and_parts _ _ parts.0).0).0, m)) below
        | inr m ↦
            absurd (omega (arith, rows_apart (q / w) (p / w) w (q % w) (p % w) m mq, both))
      ]
    ]
