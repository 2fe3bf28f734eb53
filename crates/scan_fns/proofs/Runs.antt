-- The runs of lines up to each place, and folds from the left.
use Rattle.std.{proofs.Common.{◌≡◌, ℕ, zero, suc, ◌+◌, ◌-◌, ◌*◌, ◌/◌, ◌%◌, ◌<◌, ◌≤◌, List, [], ◌∷◌, ◌++◌, length, get_or, refl, ap, sym, ◌∙◌, inl, inr, arith, Result, Ok, Err}, proofs.lemmas.List.{take_more, take_all}, proofs.lemmas.Nat.{mod_below}, proofs.Math.Nat.{div-eq-sub-div, mod-add-div}}
use Rattle.{std.proofs.Math.Arith.{mod-mul}, arrays_core.{specs.declared.item.Kind.{Kind}, specs.Items.{and_then}}}
use Rattle.item_fns.{specs.Folds.{strided}, proofs.Residues.{next_mod}, proofs.RightFolds.{length-strided, get_or-strided, take-strided}}
use Rattle.{scan_fns.specs.LinearScan.{depth, run_to}, reduce_fns.specs.LeftFolds.{fold_on, folded_left}}

-- ---- left folds

pub through : {A B : Type 0} (r : Result A Kind) (g h : A → Result B Kind) → ((z : A) → g z ≡ h z) → and_then r g ≡ and_then r h
through (Ok z) g h e = e z
through (Err k) g h e = refl

pub as_it_is : {A : Type 0} (r : Result A Kind) → and_then r (λ z. Ok z) ≡ r
as_it_is (Ok z) = refl
as_it_is (Err k) = refl

pub regroup : {A B C : Type 0} (r : Result A Kind) (g : A → Result B Kind) (h : B → Result C Kind) → and_then (and_then r g) h ≡ and_then r (λ z. and_then (g z) h)
regroup (Ok z) g h = refl
regroup (Err k) g h = refl

module _ {A : Type 0} (f : A → A → Result A Kind) where
  pub on_more : (x : A) (rest : List A) (y : A) → fold_on f x (rest ++ y ∷ []) ≡ and_then (fold_on f x rest) (λ z. f z y)
  on_more x [] y = as_it_is (f x y)
  on_more x (w ∷ rest) y =
      through (f x w) (λ z. fold_on f z (rest ++ y ∷ [])) (λ z. and_then (fold_on f z rest) (λ v. f v y)) (λ z. on_more z rest y)
      ∙ sym (regroup (f x w) (λ z. fold_on f z rest) (λ z. f z y))

  pub left_more : (xs : List A) (y : A) → 0 < length xs → folded_left f (xs ++ y ∷ []) ≡ and_then (folded_left f xs) (λ z. f z y)
  left_more [] y h = absurd (omega arith)
  left_more (x ∷ rest) y h = on_more x rest y

-- ---- the run to a place

module _ (stride count : ℕ) (apart : 0 < stride) (some : 1 ≤ count) where
  -- the position of a place in its block
  pub in_block : (place : ℕ) → place % (count * stride) ≡ depth stride count place * stride + place % stride
  in_block place = mod-mul place (omega (arith, some)) apart

  pub first_row : (place : ℕ) → place % (count * stride) < stride → depth stride count place ≡ 0
  first_row place h = decide (depth stride count place) (in_block place)
    where
      decide : (d : ℕ) → place % (count * stride) ≡ d * stride + place % stride → d ≡ 0
      decide zero e = refl
      decide (suc d) e = absurd (omega arith)

  pub later_row : (place : ℕ) → stride ≤ place % (count * stride) → 0 < depth stride count place
  later_row place h = decide (depth stride count place) (in_block place)
    where
      decide : (d : ℕ) → place % (count * stride) ≡ d * stride + place % stride → 0 < d
      decide zero e = let r = mod_below place stride apart in absurd (omega arith)
      decide (suc d) e = omega arith

  pub depth_high : (place : ℕ) → depth stride count place * stride ≤ place
  depth_high place =
      let e = in_block place in
      let quotient : place % (count * stride) ≤ place = le_of_mod place (count * stride) in
      omega arith
    where
      le_of_mod : (n m : ℕ) → n % m ≤ n
      le_of_mod n m = let e = mod-add-div n m in omega arith

  pub past_stride : (place : ℕ) → 0 < depth stride count place → stride ≤ place
  past_stride place h = decide (depth stride count place) h (depth_high place)
    where
      decide : (d : ℕ) → 0 < d → d * stride ≤ place → stride ≤ place
      decide zero h e = absurd (omega arith)
      decide (suc d) h e = omega arith

  pub one_deeper : (place : ℕ) → 0 < depth stride count place → depth stride count place ≡ depth stride count (place - stride) + 1
  one_deeper place h =
      let q = (place - stride) / stride in
      let e : depth stride count place ≡ suc q % count = ap (λ m. m % count) ((div-eq-sub-div apart (past_stride place h)) ∙ (omega arith)) in
      elim (next_mod q count (omega (arith, some))) [
        | inl n ↦ absurd (omega (arith, n.0))
        | inr n ↦ e ∙ n
      ]

  module _ {A : Type 0} (d : A) (xs : List A) where
    pub run_first : (place : ℕ) → depth stride count place ≡ 0 → run_to d xs stride count place ≡ get_or xs place d ∷ []
    run_first place e = rw e (ap (λ k. get_or xs k d ∷ []) (omega arith))

    -- the run to a place is the entries before it, then its own
    pub run_last : (place : ℕ) → run_to d xs stride count place ≡ strided d xs (place - depth stride count place * stride) stride (depth stride count place) ++ get_or xs place d ∷ []
    run_last place =
        let k = depth stride count place in
        let first = place - k * stride in
        let ys = strided d xs first stride (k + 1) in
        let long = length-strided d xs first stride (k + 1) in
        let last : first + k * stride ≡ place = omega (arith, depth_high place) in
        sym (take_all (k + 1) ys (omega (arith, long)))
        ∙ take_more ys k d (omega (arith, long))
        ∙ ap (λ ws. ws ++ get_or ys k d ∷ []) (take-strided d xs first stride (k + 1) k (omega arith))
        ∙ ap (λ z. strided d xs first stride k ++ z ∷ []) (get_or-strided d xs first stride (k + 1) k d (omega arith) ∙ ap (λ n. get_or xs n d) last)

    pub run_before_is : (place : ℕ) → 0 < depth stride count place
        → strided d xs (place - depth stride count place * stride) stride (depth stride count place) ≡ run_to d xs stride count (place - stride)
    run_before_is place h =
        let b = depth stride count (place - stride) in
        let deeper = one_deeper place h in
        let high = depth_high place in
        let total : depth stride count place * stride ≡ b * stride + stride = ap (λ n. n * stride) deeper ∙ (omega arith) in
        ap (λ m. strided d xs (place - depth stride count place * stride) stride m) deeper
        ∙ ap (λ m. strided d xs m stride (b + 1)) (omega arith)

    pub run_more : (place : ℕ) → 0 < depth stride count place
        → run_to d xs stride count place ≡ run_to d xs stride count (place - stride) ++ get_or xs place d ∷ []
    run_more place h = run_last place ∙ ap (λ ws. ws ++ get_or xs place d ∷ []) (run_before_is place h)

    pub run_some : (place : ℕ) → 0 < length (run_to d xs stride count place)
    run_some place = omega (arith, length-strided d xs (place - depth stride count place * stride) stride (depth stride count place + 1))

    -- each left fold follows from the one before it on the line
    module _ (f : A → A → Result A Kind) where
      pub left_first : (place : ℕ) → depth stride count place ≡ 0 → folded_left f (run_to d xs stride count place) ≡ Ok (get_or xs place d)
      left_first place e = ap (folded_left f) (run_first place e)

      pub left_later : (place : ℕ) → 0 < depth stride count place
          → folded_left f (run_to d xs stride count place) ≡ and_then (folded_left f (run_to d xs stride count (place - stride))) (λ z. f z (get_or xs place d))
      left_later place h =
          ap (folded_left f) (run_more place h)
          ∙ left_more f (run_to d xs stride count (place - stride)) (get_or xs place d) (run_some (place - stride))
