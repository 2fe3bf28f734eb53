-- The digits of numbers, a row for each radix, the row of the last radix first.
use Rattle.std.{proofs.Common.{◌≡◌, ℕ, ◌+◌, ◌-◌, ◌*◌, ◌<◌, ◌≤◌, List, length, get_or, drop, ℤ, pos, Ok, ap, sym, ◌∙◌, inl, inr, arith}, proofs.lemmas.Bool.{cases_lt}, proofs.Math.Nat.{mul-le-mul_right}}
use Rattle.{arrays_core.specs.Items.{and_then}, item_fns.specs.Numbers.{residue}}
use Rattle.search_fns.{specs.Encode.{carried_through, digit}, specs.EncodedRows.{AreCarried, HasRow}, proofs.Radices.{one_more_radix}}

-- the digit by the radix before those that were applied
pub digit_here : (radices : List ℤ) (k : ℕ) (z rest : ℤ) → carried_through (drop (k + 1) radices) z ≡ Ok rest
    → digit radices (k + 1) z ≡ Ok (residue (get_or radices k (pos 0)) rest)
digit_here radices k z rest h =
    ap (λ r. and_then r (λ x. Ok (residue (get_or radices (k + 1 - 1) (pos 0)) x))) h ∙ ap (λ n. Ok (residue (get_or radices n (pos 0)) rest)) (omega arith)

module _ (radices zs rests : List ℤ) (k : ℕ) (same : length rests ≡ length zs)
    (left : (j : ℕ) → j < length zs → carried_through (drop (k + 1) radices) (get_or zs j (pos 0)) ≡ Ok (get_or rests j (pos 0))) where
  -- the rests after one more radix
  pub carried_more : (more : List ℤ) → k < length radices → AreCarried (get_or radices k (pos 0)) rests more
      → (j : ℕ) → j < length zs → carried_through (drop k radices) (get_or zs j (pos 0)) ≡ Ok (get_or more j (pos 0))
  carried_more more below carries j inside =
      one_more_radix radices k (get_or zs j (pos 0)) (get_or rests j (pos 0)) below (left j inside) ∙ carries.each j (omega arith)

  -- the digits by one more radix, before the others
  pub row_more : (old new : List ℤ) → HasRow (get_or radices k (pos 0)) rests (k * length zs) old new
      → ((p j : ℕ) → k + 1 ≤ p → p < length radices → j < length zs → digit radices (p + 1) (get_or zs j (pos 0)) ≡ Ok (get_or old (p * length zs + j) (pos 0)))
      → (p j : ℕ) → k ≤ p → p < length radices → j < length zs → digit radices (p + 1) (get_or zs j (pos 0)) ≡ Ok (get_or new (p * length zs + j) (pos 0))
  row_more old new row made p j low high inside = elim (cases_lt k p) [
    | inl above ↦
        let n = length zs in
        let rows : (k + 1) * n ≤ p * n = mul-le-mul_right n (omega arith) in
        made p j (omega arith) high inside ∙ ap (λ (x : ℤ). Ok x) (sym (row.behind (p * n + j) (omega arith)))
    | inr here ↦
        let e : p ≡ k = omega arith in
        rw e (digit_here radices k (get_or zs j (pos 0)) (get_or rests j (pos 0)) (left j inside) ∙ ap (λ (x : ℤ). Ok x) (sym (row.each j (omega arith))))
  ]
