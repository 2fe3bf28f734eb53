-- Folds up to each place, from a prefix as a function of the next number.
use Rattle.std.{proofs.Common.{◌≡◌, ℕ, zero, suc, ◌+◌, ◌-◌, ◌*◌, ◌/◌, ◌%◌, true, false, nat_lt, ◌≢◌, inl, inr, ◌<◌, ◌≤◌, List, [], ◌∷◌, ◌++◌, length, get_or, refl, ap, sym, subst, ◌∙◌, arith, pos, ℤ, FitsSigned, Result, Ok, Err, append_assoc, length-append}, specs.Int.{w64}, proofs.Math.ListN.{set}}
use Rattle.std.{proofs.lemmas.Bool.{cases_lt, lt-ltb, le-ltb}, proofs.lemmas.List.{get_or-set_same, get_or-set_other}, proofs.Math.Nat.{mod-add-div, mod-add-mod, mod-eq_of_lt, add-mod_right, mul-le-mul_left}, proofs.lemmas.Nat.{mod_below}}
use Rattle.{arrays_core.{specs.declared.item.Kind.{Kind}, specs.Items.{and_then}}, item_fns.{specs.Folds.{folded}, proofs.RightFolds.{fold_more}}}
use Rattle.scan_fns.{specs.LinearScan.{depth, run_to}, specs.Prefixes.{fold_to, IsFresh, Continues, IsClosed}, proofs.Runs.{through, as_it_is, regroup, run_first, run_more, first_row, later_row}}

-- a function of the next 64-bit number that folds a list with it
pub record FoldsWithNext (f : ℤ → ℤ → Result ℤ Kind) (gives : ℤ → Result ℤ Kind) (xs : List ℤ) : Type 0 where
  pub is : (v : ℤ) → FitsSigned w64 v → gives v ≡ folded f (xs ++ v ∷ [])

-- ---- a list and two more numbers

module _ {A : Type 0} (f : A → A → Result A Kind) where
  pub fold_two : (xs : List A) (x v : A) → folded f (xs ++ x ∷ v ∷ []) ≡ and_then (f x v) (λ w. folded f (xs ++ w ∷ []))
  fold_two [] x v = sym (as_it_is (f x v))
  fold_two (y ∷ rest) x v =
      fold_more f y (rest ++ x ∷ v ∷ []) (omega (arith, length-append rest (x ∷ v ∷ [])))
      ∙ ap (λ r. and_then r (f y)) (fold_two rest x v)
      ∙ regroup (f x v) (λ w. folded f (rest ++ w ∷ [])) (f y)
      ∙ through (f x v) (λ w. and_then (folded f (rest ++ w ∷ [])) (f y)) (λ w. folded f (y ∷ rest ++ w ∷ []))
      (λ w. sym (fold_more f y (rest ++ w ∷ []) (omega (arith, length-append rest (w ∷ [])))))

module _ (f : ℤ → ℤ → Result ℤ Kind) where
  pub fresh_tells : (gives : ℤ → Result ℤ Kind) → IsFresh gives → FoldsWithNext f gives []
  fresh_tells gives fresh = record { is = λ v fits. fresh.is v fits }

  -- one more number is in the list
  pub tells_more : (before after : ℤ → Result ℤ Kind) (xs : List ℤ) (x : ℤ) → IsClosed f → FitsSigned w64 x → FoldsWithNext f before xs → Continues (f x) before after
      → FoldsWithNext f after (xs ++ x ∷ [])
  tells_more before after xs x closed fits told next = record { is = λ v fit. next.is v fit ∙ decide v fit (f x v) refl ∙ sym (fold_two f xs x v) ∙ ap (folded f) (sym (append_assoc xs (x ∷ []) (v ∷ []))) }
    where
      decide : (v : ℤ) → FitsSigned w64 v → (r : Result ℤ Kind) → f x v ≡ r → and_then (f x v) before ≡ and_then (f x v) (λ w. folded f (xs ++ w ∷ []))
      decide v fit (Ok w) e = ap (λ r. and_then r before) e ∙ told.is w (closed.is x v w fits fit e) ∙ ap (λ r. and_then r (λ w. folded f (xs ++ w ∷ []))) (sym e)
      decide v fit (Err k) e = ap (λ r. and_then r before) e ∙ ap (λ r. and_then r (λ w. folded f (xs ++ w ∷ []))) (sym e)

-- ---- the run to a place

module _ (f : ℤ → ℤ → Result ℤ Kind) (zs : List ℤ) (stride count : ℕ) (apart : 0 < stride) (some : 1 ≤ count) (place : ℕ) (before : ℤ → Result ℤ Kind)
    (fits : FitsSigned w64 (get_or zs place (pos 0)))
    (fresh : depth stride count place ≡ 0 → IsFresh before)
    (told : 0 < depth stride count place → FoldsWithNext f before (run_to (pos 0) zs stride count (place - stride))) where
  pub fold_here : fold_to f zs stride count place ≡ before (get_or zs place (pos 0))
  fold_here = decide (depth stride count place) refl
    where
      decide : (d : ℕ) → depth stride count place ≡ d → fold_to f zs stride count place ≡ before (get_or zs place (pos 0))
      decide zero e = ap (folded f) (run_first stride count apart some (pos 0) zs place e) ∙ sym ((fresh e).is (get_or zs place (pos 0)) fits)
      decide (suc d) e =
          let deep : 0 < depth stride count place = omega (arith, e) in
          ap (folded f) (run_more stride count apart some (pos 0) zs place deep) ∙ sym ((told deep).is (get_or zs place (pos 0)) fits)

  pub tells_here : (after : ℤ → Result ℤ Kind) → IsClosed f → Continues (f (get_or zs place (pos 0))) before after → FoldsWithNext f after (run_to (pos 0) zs stride count place)
  tells_here after closed next = decide (depth stride count place) refl
    where
      decide : (d : ℕ) → depth stride count place ≡ d → FoldsWithNext f after (run_to (pos 0) zs stride count place)
      decide zero e =
          subst (FoldsWithNext f after) (sym (run_first stride count apart some (pos 0) zs place e))
          (tells_more f before after [] (get_or zs place (pos 0)) closed fits (fresh_tells f before (fresh e)) next)
      decide (suc d) e =
          let deep : 0 < depth stride count place = omega (arith, e) in
          subst (FoldsWithNext f after) (sym (run_more stride count apart some (pos 0) zs place deep))
          (tells_more f before after _ (get_or zs place (pos 0)) closed fits (told deep) next)

-- ---- prefixes kept for one line, and for lines a stride apart

-- a prefix that holds these numbers
pub record Keeps {A : Type 0} (step : A → ℤ → ℤ → Result ℤ Kind) (gives : A → ℤ → Result ℤ Kind) (f : ℤ → ℤ → Result ℤ Kind) (xs : List ℤ) (line : A) : Type 0 where
  pub same : step line ≡ f
  pub tells : FoldsWithNext f (gives line) xs

mod_other : (p q s : ℕ) → 0 < s → p < q → q < p + s → q % s ≡ p % s → ⊥
mod_other p q s some low high e =
    decide (p / s) (q / s) (mod-add-div p s) (mod-add-div q s)
  where
    decide : (a b : ℕ) → p % s + s * a ≡ p → q % s + s * b ≡ q → ⊥
    decide a b at_p at_q =
        elim (cases_lt a b) [
          | inl h ↦ let far : s * (a + 1) ≤ s * b = mul-le-mul_left s (omega arith) in omega arith
          | inr h ↦ let near : s * b ≤ s * a = mul-le-mul_left s h in omega arith
        ]

-- the prefixes kept for the lines of the next numbers
abbrev pub AreFoldsKept : {A : Type 0} → (A → ℤ → ℤ → Result ℤ Kind) → (A → ℤ → Result ℤ Kind) → A → List ℤ → (stride count place : ℕ) → List A → Type 0
AreFoldsKept step gives none zs stride count place lines = (q : ℕ) → place ≤ q → q < place + stride → 0 < depth stride count q
    → Keeps step gives (step none) (run_to (pos 0) zs stride count (q - stride)) (get_or lines (q % stride) none)

-- the prefix of the line of the next number
pub record IsFoldKept {A : Type 0} (step : A → ℤ → ℤ → Result ℤ Kind) (gives : A → ℤ → Result ℤ Kind) (none : A) (zs : List ℤ) (stride count place : ℕ) (line : A) : Type 0 where
  pub same : step line ≡ step none
  pub fresh : depth stride count place ≡ 0 → IsFresh (gives line)
  pub told : 0 < depth stride count place → FoldsWithNext (step none) (gives line) (run_to (pos 0) zs stride count (place - stride))

module _ {A : Type 0} (step : A → ℤ → ℤ → Result ℤ Kind) (gives : A → ℤ → Result ℤ Kind) (none : A) (zs : List ℤ) (stride count : ℕ) (apart : 0 < stride) (some : 1 ≤ count) where
  pub line_kept : (place block_place column : ℕ) (lines : List A) (line : A) → AreFoldsKept step gives none zs stride count place lines → IsFresh (gives none)
      → block_place ≡ place % (count * stride) → column ≡ place % stride
      → (nat_lt block_place stride ≡ true → line ≡ none) → (nat_lt block_place stride ≡ false → line ≡ get_or lines column none)
      → IsFoldKept step gives none zs stride count place line
  line_kept place block_place column lines line kept fresh here at first later =
      elim (cases_lt block_place stride) [
        | inl h ↦
            let is = first (lt-ltb block_place stride h) in
            record {
              same = ap step is;
              fresh = λ d. subst (λ l. IsFresh (gives l)) (sym is) fresh;
              told = λ d. absurd (omega (arith, first_row stride count apart some place (omega (arith, here, h)), d));
            }
        | inr h ↦
            let deep = later_row stride count apart some place (omega (arith, here, h)) in
            let is = later (le-ltb block_place stride h) ∙ ap (λ k. get_or lines k none) at in
            let was = kept place (omega arith) (omega arith) deep in
            record {
              same = ap step is ∙ was.same;
              fresh = λ d. absurd (omega (arith, deep, d));
              told = λ d. subst (λ l. FoldsWithNext (step none) (gives l) (run_to (pos 0) zs stride count (place - stride))) (sym is) was.tells;
            }
      ]

  -- one more number
  module _ (place column : ℕ) (lines : List A) (line after : A) (kept : AreFoldsKept step gives none zs stride count place lines) (it : IsFoldKept step gives none zs stride count place line)
      (fits : FitsSigned w64 (get_or zs place (pos 0))) (closed : IsClosed (step none)) (same : step after ≡ step line)
      (next : Continues (step line (get_or zs place (pos 0))) (gives line) (gives after)) where
    pub after_keeps : Keeps step gives (step none) (run_to (pos 0) zs stride count place) after
    after_keeps = record {
      same = same ∙ it.same;
      tells = tells_here (step none) zs stride count apart some place (gives line) fits it.fresh it.told (gives after) closed
          (subst (λ f. Continues (f (get_or zs place (pos 0))) (gives line) (gives after)) it.same next);
    }

    pub more_kept : column ≡ place % stride → length lines ≡ stride → AreFoldsKept step gives none zs stride count (place + 1) (set lines column after)
    more_kept at long q low high deep =
        elim (cases_lt q (place + stride)) [
          | inl near ↦
              let other : q % stride ≢ column = λ e. mod_other place q stride apart (omega arith) near (e ∙ at) in
              subst (Keeps step gives (step none) (run_to (pos 0) zs stride count (q - stride))) (sym (get_or-set_other lines column (q % stride) after none other))
              (kept q (omega arith) near deep)
          | inr far ↦
              let there : q % stride ≡ column = ap (λ n. n % stride) (omega arith) ∙ add-mod_right place stride ∙ sym at in
              let inside : column < length lines = omega (arith, mod_below place stride apart) in
              let found : get_or (set lines column after) (q % stride) none ≡ after = ap (λ k. get_or (set lines column after) k none) there ∙ get_or-set_same lines column after none inside in
              subst (Keeps step gives (step none) (run_to (pos 0) zs stride count (q - stride))) (sym found)
              (subst (λ p. Keeps step gives (step none) (run_to (pos 0) zs stride count p) after) (sym (omega arith)) after_keeps)
        ]

-- ---- a contiguous line

pub beside_depth : (count place first : ℕ) → 1 ≤ count → first % count ≡ 0 → first ≤ place → place < first + count → depth 1 count place ≡ place - first
beside_depth count place first some begins low near =
    let from : first % count + (place - first) ≡ place - first = omega (arith, begins) in
    let one : place / 1 ≡ place = omega arith in
    ap (λ n. n % count) one ∙ ap (λ n. n % count) (sym (omega arith)) ∙ sym (mod-add-mod first count (place - first)) ∙ ap (λ n. n % count) from ∙ mod-eq_of_lt (omega arith)

module _ {A : Type 0} (step : A → ℤ → ℤ → Result ℤ Kind) (gives : A → ℤ → Result ℤ Kind) (none : A) (zs : List ℤ) (count : ℕ) (some : 1 ≤ count) (first : ℕ) (begins : first % count ≡ 0) where
  pub line_begun : IsFresh (gives none) → IsFoldKept step gives none zs 1 count first none
  line_begun fresh =
      record { same = refl; fresh = λ d. fresh; told = λ d. absurd (omega (arith, beside_depth count first first some begins (omega arith) (omega arith), d)) }

  pub line_goes_on : (place : ℕ) (line after : A) → first ≤ place → place + 1 < first + count → IsFoldKept step gives none zs 1 count place line → FitsSigned w64 (get_or zs place (pos 0))
      → IsClosed (step none) → step after ≡ step line → Continues (step line (get_or zs place (pos 0))) (gives line) (gives after)
      → IsFoldKept step gives none zs 1 count (place + 1) after
  line_goes_on place line after low near it fits closed same next =
      record {
        same = same ∙ it.same;
        fresh = λ d. absurd (omega (arith, beside_depth count (place + 1) first some begins (omega arith) near, d));
        told = λ d.
            subst (λ p. FoldsWithNext (step none) (gives after) (run_to (pos 0) zs 1 count p)) (sym (omega arith))
            (tells_here (step none) zs 1 count (omega arith) some place (gives line) fits it.fresh it.told (gives after) closed
            (subst (λ f. Continues (f (get_or zs place (pos 0))) (gives line) (gives after)) it.same next));
      }
