-- The right fold up to a place, from the values that reach the places before it.
use Rattle.std.{proofs.Common.{◌≡◌, ℕ, ◌-◌, ◌<◌, ◌≤◌, List, [], ◌∷◌, ◌++◌, length, get_or, set, refl, inl, inr, ap, sym, ◌∙◌, arith, pos, ℤ, Result, Ok}, proofs.lemmas.Bool.{cases_eq, cases_lt}, proofs.lemmas.List.{length-set, get_or-set_same, get_or-set_other, get_or_append_left, length-append}}
use Rattle.{std.proofs.Math.Seq.{get_or-append_right}, arrays_core.{specs.declared.item.Kind.{Kind}, specs.Items.{and_then}}, item_fns.specs.Folds.{folded}}
use Rattle.scan_fns.{specs.LinearScan.{depth}, specs.declared.recalled_scan.Recalled.{Recalled}, specs.Prefixes.{fold_to}, specs.RecalledScan.{run_before, given_at, nothing, IsRecalled, AreRecalled}, proofs.Runs.{run_last, run_before_is}, proofs.Prefixes.{fold_two}}

module _ (f : ℤ → ℤ → Result ℤ Kind) (zs : List ℤ) (stride count : ℕ) (apart : 0 < stride) (some : 1 ≤ count) where
  -- the number of the place itself
  pub own_number : (place : ℕ) → given_at f zs stride count place (get_or zs place (pos 0)) ≡ fold_to f zs stride count place
  own_number place = ap (folded f) (sym (run_last stride count apart some (pos 0) zs place))

  -- at the first place of a line, a value is its own fold
  pub at_first : (place : ℕ) (z : ℤ) → depth stride count place ≡ 0 → given_at f zs stride count place z ≡ Ok z
  at_first place z e = rw e refl

  -- the value at the place before is f of the number there and the value here
  pub at_later : (place : ℕ) (z : ℤ) → 0 < depth stride count place
      → given_at f zs stride count place z ≡ and_then (f (get_or zs (place - stride) (pos 0)) z) (given_at f zs stride count (place - stride))
  at_later place z h =
      let before = place - stride in
      ap (λ ws. folded f (ws ++ z ∷ [])) (run_before_is stride count apart some (pos 0) zs place h ∙ run_last stride count apart some (pos 0) zs before)
      ∙ ap (folded f) (two_more (run_before zs stride count before) (get_or zs before (pos 0)) z)
      ∙ fold_two f (run_before zs stride count before) (get_or zs before (pos 0)) z
    where
      two_more : (ws : List ℤ) (x y : ℤ) → (ws ++ x ∷ []) ++ y ∷ [] ≡ ws ++ x ∷ y ∷ []
      two_more [] x y = refl
      two_more (w ∷ ws) x y = ap (λ vs. w ∷ vs) (two_more ws x y)

-- replacing one kept value by a correct one
pub one_recalled : (f : ℤ → ℤ → Result ℤ Kind) (zs : List ℤ) (stride count : ℕ) (rs : List Recalled) (here : ℕ) (r : Recalled) → here < length rs
    → AreRecalled f zs stride count rs → IsRecalled f zs stride count here r → AreRecalled f zs stride count (set rs here r)
one_recalled f zs stride count rs here r inside before is place below =
    elim (cases_eq place here) [
      | inl same ↦ rw (same, get_or-set_same rs here r nothing inside) is
      | inr other ↦ rw (get_or-set_other rs here place r nothing other) (before place (omega (arith, below, length-set rs here r)))
    ]

-- the new entry holds the number of its own place
pub next_recalled : (f : ℤ → ℤ → Result ℤ Kind) (zs : List ℤ) (stride count : ℕ) (apart : 0 < stride) (some : 1 ≤ count) (rs more : List Recalled) (r : Recalled)
    → AreRecalled f zs stride count rs → r.number ≡ get_or zs (length rs) (pos 0) → r.later ≡ length rs → more ≡ rs ++ r ∷ [] → AreRecalled f zs stride count more
next_recalled f zs stride count apart some rs more r before number later is place below =
    rw is (elim (cases_lt place (length rs)) [
      | inl inside ↦ rw (get_or_append_left rs (r ∷ []) nothing place inside) (before place inside)
      | inr last ↦
          let here : place ≡ length rs = omega (arith, below, (ap length is ∙ length-append rs (r ∷ [])), last) in
          let entry : get_or (rs ++ r ∷ []) place nothing ≡ r = get_or-append_right rs (r ∷ []) place nothing (omega (arith, here)) ∙ ap (λ i. get_or (r ∷ []) i nothing) (first place (length rs) here) in
          rw (entry, number, later, here) (own_number f zs stride count apart some (length rs))
    ])
  where
    first : (a b : ℕ) → a ≡ b → a - b ≡ 0
    first a b e = omega arith
