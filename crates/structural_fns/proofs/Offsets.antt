-- The offset of an index list that may lie outside a shape, axis by axis.
use Rattle.std.{proofs.Common.{◌≡◌, ℕ, ◌+◌, ◌-◌, ◌*◌, ◌%◌, ◌^◌, ◌<◌, ◌≤◌, ◌&&◌, leb, true, if◌then◌else◌, List, length, drop, get_or, Option, Some, None, refl, ap, sym, ◌∙◌, arith}, proofs.lemmas.Bool.{le-leb, false_from_ne_true}, proofs.lemmas.List.{drop_more, drop_all}, proofs.Math.Nat.{mod-eq_of_lt}}
use Rattle.arrays_core.{specs.Shapes.{size, is_index_of, places_before}, proofs.Shapes.{head_at, turn_at, turn_ended, places_below}}

-- the offset, or None outside the shape
abbrev pub offset_of : List ℕ → List ℕ → Option ℕ
offset_of shape index = if is_index_of shape index then Some (places_before shape index) else None

-- the first k indices are on their axes, and `before` index lists of these axes come before them if the whole list is inside
pub record Walked (shape index : List ℕ) (k before : ℕ) : Type 0 where
  pub inside : is_index_of (drop k shape) (drop k index) ≡ is_index_of shape index
  pub place : is_index_of shape index ≡ true → before * size (drop k shape) + places_before (drop k shape) (drop k index) ≡ places_before shape index

-- the next index is on its axis
pub walked_on : (shape index : List ℕ) (k before : ℕ) → size shape ≤ 1048576 → k < length shape → length index ≡ length shape → Walked shape index k before
    → 1 ≤ get_or index k 0 → get_or index k 0 ≤ get_or shape k 0
    → Walked shape index (k + 1) ((before * get_or shape k 0 % 2 ^ 32 + (get_or index k 0 - 1)) % 2 ^ 32)
walked_on shape index k before within there long walked low high =
    let n = get_or shape k 0 in
    let i = get_or index k 0 in
    let split : is_index_of (drop k shape) (drop k index) ≡ (leb 1 i && leb i n) && is_index_of (drop (k + 1) shape) (drop (k + 1) index) =
    rw (drop_more shape k 0 there, drop_more index k 0 (omega arith)) refl in
    record {
      inside = sym (split ∙ ap (λ w. (w && leb i n) && is_index_of (drop (k + 1) shape) (drop (k + 1) index)) (le-leb 1 i low)
          ∙ ap (λ w. w && is_index_of (drop (k + 1) shape) (drop (k + 1) index)) (le-leb i n high)) ∙ walked.inside;
      place = λ h.
          let turn = turn_at shape index k before (places_before shape index) (omega arith) long (walked.place h) (walked.inside ∙ h) in
          let below = places_below shape index h in
          let bound = turn.bound in
          let product : before * n % 2 ^ 32 ≡ before * n = mod-eq_of_lt (omega arith) in
          let total : (before * n + (i - 1)) % 2 ^ 32 ≡ before * n + (i - 1) = mod-eq_of_lt (omega arith) in
          rw (product, total) turn.next;
    }

-- the next index is outside its axis
pub walked_out : (shape index : List ℕ) (k before : ℕ) → k < length shape → length index ≡ length shape → Walked shape index k before
    → (1 ≤ get_or index k 0 → get_or index k 0 ≤ get_or shape k 0 → ⊥) → None ≡ offset_of shape index
walked_out shape index k before there long walked not_on =
    sym (ap (λ w. if w then Some (places_before shape index) else None) (false_from_ne_true _ (λ e.
    let head = head_at shape index k (omega arith) there (walked.inside ∙ e) in not_on head.low head.high)))

-- all indices are on their axes
pub walked_all : (shape index : List ℕ) (k before : ℕ) → length shape ≤ k → length index ≡ length shape → Walked shape index k before → Some before ≡ offset_of shape index
walked_all shape index k before all long walked =
    let inside : is_index_of shape index ≡ true = sym walked.inside ∙ rw (drop_all k shape all, drop_all k index (omega arith)) refl in
    ap (λ m. Some m) (turn_ended shape index k before (places_before shape index) (omega arith) long (walked.place inside))
    ∙ sym (ap (λ w. if w then Some (places_before shape index) else None) inside)
