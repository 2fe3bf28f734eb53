-- The running sums of lines, from their greatest and least suffix sums.
use Rattle.std.{proofs.Common.{◌≡◌, ℕ, zero, suc, ◌+◌, ◌-◌, ◌*◌, ◌<◌, ◌≤◌, List, [], ◌∷◌, ◌++◌, length, get_or, refl, ap, sym, subst, ◌∙◌, arith, pos, ℤ, ◌+ℤ◌, FitsSigned, Result, Ok, Err}, specs.Int.{int_max, int_min, w64}, specs.List.{All}, proofs.Math.Nat.{mul-le-mul_right}}
use Rattle.arrays_core.{specs.Items.{all_or_first_error, and_then}, specs.declared.item.Kind.{Kind}, specs.declared.item.Kind.TheVariants.{Limit}}
use Rattle.function_names.specs.declared.scalar.Scalar2.TheVariants.{Plus}
use Rattle.item_fns.{specs.Numbers.{dyadic_on_numbers}, specs.Folds.{folded}, proofs.RightFolds.{length-strided, get_or-strided}, proofs.Within.{Within, within_of, held_error}}
use Rattle.scan_fns.{specs.LinearScan.{depth, run_to, scanned, FailsAt}, proofs.Runs.{one_deeper, depth_high, run_more, run_some, left_first, left_later}}
use Rattle.reduce_fns.{specs.LeftFolds.{fold_on, folded_left}, proofs.Firsts.{Given, rule_entry, rule_error, same_rules}, proofs.Endings.{folded_error, greatest_step, least_step, sum_from_left, more_most, more_fewest}}

module _ (zs : List ℤ) (stride count : ℕ) (apart : 0 < stride) (some : 1 ≤ count) where
  abbrev run : ℕ → List ℤ
  run place = run_to (pos 0) zs stride count place

  -- a property of all numbers before a place holds for its run
  pub run_each : (P : ℤ → Type 0) (end : ℕ) → ((k : ℕ) → k < end → P (get_or zs k (pos 0))) → (place : ℕ) → place < end → All P (run place)
  run_each P end numbers place inside k d below =
      let deep = depth stride count place in
      let first = place - deep * stride in
      let n = deep + 1 in
      let long = length-strided (pos 0) zs first stride n in
      let here : k * stride ≤ deep * stride = mul-le-mul_right stride (omega arith) in
      let high = depth_high stride count apart some place in
      subst P (sym (get_or-strided (pos 0) zs first stride n k d (omega arith))) (numbers (first + k * stride) (omega arith))

  module _ (end : ℕ) (numbers : (k : ℕ) → k < end → Within (get_or zs k (pos 0))) where
    run_within : (place : ℕ) → place < end → All Within (run place)
    run_within place inside = run_each Within end numbers place inside

    -- a left fold whose steps succeed if the sum up to the next number does
    left_given : (step : ℤ → ℤ → Result ℤ Kind)
        → ((xs : List ℤ) (y z t : ℤ) → 0 < length xs → All Within (xs ++ y ∷ []) → folded (dyadic_on_numbers Plus) (xs ++ y ∷ []) ≡ Ok t → folded_left step xs ≡ Ok z → Given (step z y))
        → (d place : ℕ) → depth stride count place ≡ d → place < end → ((q : ℕ) → q < end → Given (folded (dyadic_on_numbers Plus) (run q)))
        → Given (folded_left step (run place))
    left_given step more zero place e below sums =
        record { item = get_or zs place (pos 0); is = left_first stride count apart some (pos 0) zs step place e }
    left_given step more (suc d) place e below sums =
        let deep : 0 < depth stride count place = omega (arith, e) in
        let before = left_given step more d (place - stride) (omega (arith, e, (one_deeper stride count apart some place deep))) (omega arith) sums in
        let y = get_or zs place (pos 0) in
        let split = run_more stride count apart some (pos 0) zs place deep in
        let sum = sums place below in
        let next = more (run (place - stride)) y before.item sum.item (run_some stride count apart some (pos 0) zs (place - stride))
        (subst (All Within) split (run_within place below)) (ap (folded (dyadic_on_numbers Plus)) (sym split) ∙ sum.is) before.is in
        record {
          item = next.item;
          is = left_later stride count apart some (pos 0) zs step place deep ∙ ap (λ r. and_then r (λ z. step z y)) before.is ∙ next.is;
        }

  module _ (step : ℤ → ℤ → Result ℤ Kind)
      (more : (xs : List ℤ) (y z t : ℤ) → 0 < length xs → All Within (xs ++ y ∷ []) → folded (dyadic_on_numbers Plus) (xs ++ y ∷ []) ≡ Ok t → folded_left step xs ≡ Ok z → Given (step z y))
      (only : (a b : ℤ) (k : Kind) → step a b ≡ Err k → k ≡ Limit) where
    on_limit : (x : ℤ) (rest : List ℤ) (k : Kind) → fold_on step x rest ≡ Err k → k ≡ Limit
    on_limit x [] k h = let no : ⊥ = cc in absurd no
    on_limit x (y ∷ rest) k h = decide (step x y) (λ e g. only x y e g) (λ z g. on_limit z rest k g) h
      where
        decide : (r : Result ℤ Kind) → ((e : Kind) → r ≡ Err e → e ≡ Limit) → ((z : ℤ) → fold_on step z rest ≡ Err k → k ≡ Limit)
            → and_then r (λ z. fold_on step z rest) ≡ Err k → k ≡ Limit
        decide (Ok z) here later h = later z h
        decide (Err e) here later h = let same : e ≡ k = cc in sym same ∙ here e refl

    left_limit : (xs : List ℤ) (k : Kind) → 0 < length xs → folded_left step xs ≡ Err k → k ≡ Limit
    left_limit [] k long h = absurd (omega arith)
    left_limit (x ∷ rest) k long h = on_limit x rest k h

    sum_limit : (xs : List ℤ) (k : Kind) → 0 < length xs → folded (dyadic_on_numbers Plus) xs ≡ Err k → k ≡ Limit
    sum_limit [] k long h = absurd (omega arith)
    sum_limit (x ∷ rest) k long h = folded_error x rest k h

    -- if the fold leaves 64 bits, so does a sum
    pub sums_leave : (k : Kind) → FailsAt (λ place. folded_left step (run place)) zs k → scanned (folded (dyadic_on_numbers Plus)) zs stride count ≡ Err k
    sums_leave k fails = decide (scanned (folded (dyadic_on_numbers Plus)) zs stride count) refl
      where
        decide : (r : Result (List ℤ) Kind) → scanned (folded (dyadic_on_numbers Plus)) zs stride count ≡ r → r ≡ Err k
        decide (Ok sums) e =
            let p = fails.place in
            let inside = fails.below in
            let given = left_given (p + 1) (λ j below. within_of (get_or zs j (pos 0)) (fails.numbers j (omega arith))) step more (depth stride count p) p refl (omega arith) (λ q below.
            record { item = get_or sums q (pos 0); is = rule_entry (λ q. folded (dyadic_on_numbers Plus) (run q)) (length zs) sums q (pos 0) e (omega arith) }) in
            let wrong : folded_left step (run p) ≡ Err k = fails.is in
            let right : folded_left step (run p) ≡ Ok given.item = given.is in
            let no : ⊥ = cc in absurd no
        decide (Err j) e =
            let bad = rule_error (λ q. folded (dyadic_on_numbers Plus) (run q)) (length zs) (pos 0) j e in
            let limit = sum_limit (run bad.place) j (run_some stride count apart some (pos 0) zs bad.place) bad.is in
            ap Err (limit ∙ sym (left_limit (run fails.place) k (run_some stride count apart some (pos 0) zs fails.place) fails.is))

  pub greatest_leaves : (k : Kind) → FailsAt (λ place. folded_left greatest_step (run place)) zs k → scanned (folded (dyadic_on_numbers Plus)) zs stride count ≡ Err k
  greatest_leaves k h = sums_leave greatest_step more_most (λ a b k e. held_error (int_max a (pos 0) +ℤ b) k e) k h

  pub least_leaves : (k : Kind) → FailsAt (λ place. folded_left least_step (run place)) zs k → scanned (folded (dyadic_on_numbers Plus)) zs stride count ≡ Err k
  least_leaves k h = sums_leave least_step more_fewest (λ a b k e. held_error (int_min a (pos 0) +ℤ b) k e) k h

  -- if neither fold leaves 64 bits, the right folds are the left folds
  pub sums_stay : (tops bottoms : List ℤ) → All (FitsSigned w64) zs → scanned (folded_left greatest_step) zs stride count ≡ Ok tops
      → scanned (folded_left least_step) zs stride count ≡ Ok bottoms → scanned (folded_left (dyadic_on_numbers Plus)) zs stride count ≡ scanned (folded (dyadic_on_numbers Plus)) zs stride count
  sums_stay tops bottoms fit g l =
      let numbers = λ (j : ℕ) (below : j < length zs). within_of (get_or zs j (pos 0)) (fit j (pos 0) below) in
      ap all_or_first_error (same_rules _ _ (length zs) (λ q below.
      sum_from_left (run q) (get_or tops q (pos 0)) (get_or bottoms q (pos 0)) (run_within (length zs) numbers q below)
      (rule_entry (λ p. folded_left greatest_step (run p)) (length zs) tops q (pos 0) g below)
      (rule_entry (λ p. folded_left least_step (run p)) (length zs) bottoms q (pos 0) l below)))
