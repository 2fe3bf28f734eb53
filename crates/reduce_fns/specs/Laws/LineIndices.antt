-- Index lists of lines.
use Rattle.std.{proofs.Common.{◌≡◌, ℕ, zero, suc, ◌<◌, ◌≤◌, true, List, [], ◌∷◌, length, get_or, arith, insert, remove}, proofs.lemmas.Bool.{and_from, le-leb}}
use Rattle.arrays_core.{specs.Shapes.{is_index_of}, proofs.Shapes.{head_of}}

pub inside : (axis : ℕ) (shape index : List ℕ) (j : ℕ) → axis < length shape → is_index_of (remove shape axis) index ≡ true
    → 1 ≤ j → j ≤ get_or shape axis 0 → is_index_of shape (insert index axis j) ≡ true
inside axis [] index j h e low high = absurd (omega arith)
inside zero (n ∷ shape) index j h e low high = and_from _ _ (and_from _ _ (le-leb 1 j low) (le-leb j n high)) e
inside (suc axis) (n ∷ shape) [] j h e low high = cc
inside (suc axis) (n ∷ shape) (i ∷ index) j h e low high =
    let head = head_of n i (remove shape axis) index e in
    and_from _ _ (and_from _ _ (le-leb 1 i head.low) (le-leb i n head.high)) (inside axis shape index j (omega arith) head.rest low high)
