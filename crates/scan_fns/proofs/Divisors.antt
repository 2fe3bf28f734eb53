-- Residues along a line, from divisor to divisor.
use Rattle.std.{proofs.Common.{◌≡◌, ℕ, zero, suc, ◌+◌, ◌-◌, ◌<◌, ◌≤◌, List, [], ◌∷◌, ◌++◌, inl, inr, length, get_or, refl, ap, sym, ◌∙◌, arith, pos, ℤ, unsigned_abs, FitsSigned, w64, Bool, true, false, nat_eq, IfSome, Option, Some, None}, proofs.lemmas.Bool.{eqb-true, eqb-false, cases_lt}}
use Rattle.std.{proofs.lemmas.List.{get_or_append_left, length-append}, proofs.Math.Seq.{get_or-append_right}}
use Rattle.{function_names.specs.declared.scalar.Scalar2.TheVariants.{Residue as ByResidue}, item_fns.specs.Numbers.{residue, dyadic_on_numbers}}
use Rattle.scan_fns.{specs.declared.residue_scan.Divisor.{Divisor}, specs.LinearScan.{depth}, specs.RecalledScan.{given_at}, specs.ResidueScan.{extent_at, place_before, no_divisor, AreDivisors, IsBeside, AreTheSame, IsDivisor, Leads, LeadsTo, from}, proofs.RecalledFolds.{at_first, at_later}}
use Rattle.scan_fns.proofs.OneSided.{stays, comes_near, beside_at, rest_stays_beside}

positive : (n : ℕ) → (n ≡ 0 → ⊥) → 0 < n
positive zero h = absurd (h refl)
positive (suc n) h = omega arith

module _ (zs : List ℤ) (stride count : ℕ) where
  -- a divisor of no greater magnitude replaces a value by its residue
  pub divided : (place : ℕ) (d : Divisor) (w : ℤ) → IsDivisor zs stride count place d → place < length zs → IsBeside zs w → FitsSigned w64 w
      → extent_at zs place ≤ unsigned_abs w
      → from zs stride count (Some place) w ≡ from zs stride count d.below (residue (get_or zs place (pos 0)) w)
  divided place d w is below beside fit far =
      let x = get_or zs place (pos 0) in
      let rest = residue x w in
      let near : unsigned_abs rest < extent_at zs place = comes_near x w (beside_at zs w place beside below) far fit in
      let beside_rest = rest_stays_beside zs w place beside below in
      let again : residue x rest ≡ rest = stays x rest (beside_at zs rest place beside_rest below) near in
      ap (given_at (dyadic_on_numbers ByResidue) zs stride count place) (sym again) ∙ is.below rest beside_rest near

  -- a value passes a place unchanged, unless the divisor there applies
  module _ (apart : 0 < stride) (some : 1 ≤ count) where
    pub at_place : (place : ℕ) (w : ℤ) → given_at (dyadic_on_numbers ByResidue) zs stride count place w ≡ from zs stride count (place_before stride count place) w
    at_place place w = by_depth (nat_eq (depth stride count place) 0) refl
      where
        by_depth : (first : Bool) → nat_eq (depth stride count place) 0 ≡ first → given_at (dyadic_on_numbers ByResidue) zs stride count place w ≡ from zs stride count (place_before stride count place) w
        by_depth true h = rw h (at_first (dyadic_on_numbers ByResidue) zs stride count apart some place w (eqb-true (depth stride count place) 0 h))
        by_depth false h = rw h (at_later (dyadic_on_numbers ByResidue) zs stride count apart some place w (positive (depth stride count place) (eqb-false (depth stride count place) 0 h)))

    pub passes : (place : ℕ) (below : Option ℕ) (w : ℤ) → place < length zs → IsBeside zs w → unsigned_abs w < extent_at zs place
        → from zs stride count (place_before stride count place) w ≡ from zs stride count below w
        → from zs stride count (Some place) w ≡ from zs stride count below w
    passes place below w inside beside near same =
        ap (given_at (dyadic_on_numbers ByResidue) zs stride count place) (stays (get_or zs place (pos 0)) w (beside_at zs w place beside inside) near)
        ∙ at_place place w ∙ same

  -- a link from the place below is a link from the place
  pub leads_on : (place : ℕ) (below far : Option ℕ) → AreTheSame zs stride count (extent_at zs place) (Some place) below
      → IfSome below (λ b. extent_at zs b < extent_at zs place) → LeadsTo zs stride count below far → IfSome far (Leads zs stride count (Some place))
  leads_on place below None same near leads = _
  leads_on place None (Some far) same near leads = absurd (let no = leads.before in omega (arith, no))
  leads_on place (Some b) (Some far) same near leads =
      record {
        less = omega (arith, near, leads.leads.less);
        same = λ w beside close. same w beside (omega (arith, close, near, leads.leads.less)) ∙ leads.leads.same w beside close;
      }

-- a measure of at most `most` is less than a greater bound
pub nearer : (measure : ℕ → ℕ) (most bound : ℕ) (found : Option ℕ) → most < bound → IfSome found (λ q. measure q ≤ most) → IfSome found (λ q. measure q < bound)
nearer measure most bound None more h = _
nearer measure most bound (Some q) more h = omega (arith, more, h)

-- one more divisor at the end
pub next_divisors : (zs : List ℤ) (stride count : ℕ) (ds more : List Divisor) (d : Divisor) → AreDivisors zs stride count ds → IsDivisor zs stride count (length ds) d → more ≡ ds ++ d ∷ []
    → AreDivisors zs stride count more
next_divisors zs stride count ds more d before next is place below =
    rw is (elim (cases_lt place (length ds)) [
      | inl inside ↦ rw (get_or_append_left ds (d ∷ []) no_divisor place inside) (before place inside)
      | inr last ↦
          let long : length more ≡ length ds + 1 = ap length is ∙ length-append ds (d ∷ []) in
          let here : place ≡ length ds = omega (arith, below, long, last) in
          let zero_more : place - length ds ≡ 0 = omega (arith, here) in
          rw (get_or-append_right ds (d ∷ []) place no_divisor (omega (arith, here)) ∙ ap (λ i. get_or (d ∷ []) i no_divisor) zero_more, here) next
    ])
