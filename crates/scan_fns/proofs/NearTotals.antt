-- Running totals of lines, and their bounds for near numbers.
use Rattle.std.{proofs.Common.{◌≡◌, ℕ, zero, suc, ◌+◌, ◌-◌, ◌*◌, ◌/◌, ◌%◌, ◌<◌, ◌≤◌, nat_eq, true, false, Bool, if◌then◌else◌, List, [], ◌∷◌, ◌++◌, length, get_or, map, take, refl, ap, sym, ◌∙◌, arith, pos, ℤ, neg_ℤ, ◌+ℤ◌, ◌-ℤ◌, inl, inr, w64, Ok}, specs.Int.{int_wrap}, specs.List.{All, range_with_len}, proofs.lemmas.Int.{ints, int_wrap-add_left, int_wrap_fits}, proofs.lemmas.Bool.{cases_lt}}
use Rattle.std.{proofs.Math.Nat.{mul-le-mul_left}, proofs.lemmas.Nat.{div-mul-add}}
use Rattle.{arrays_core.specs.Items.{all_or_first_error, and_then}}
use Rattle.item_fns.{specs.Numbers.{dyadic_on_numbers}, specs.Folds.{folded}, specs.AtOnce.{IsSum}, specs.Laws.AtOnce.{sum_fits}, proofs.RightFolds.{length-strided}, proofs.Within.{held}}
use Rattle.scan_fns.{specs.LinearScan.{depth, run_to, scanned}, specs.NearTotals.{AreNear, next_total, total_function, total_of, wrapped_to, wrapped_total}, proofs.RunningSums.{run_each}, proofs.LeftScans.{result_before}, proofs.Runs.{one_deeper, depth_high, run_first, run_more, run_some}}
use Rattle.reduce_fns.proofs.Firsts.{same_rules}

even_or_odd : (n : ℕ) (P : Bool → Bool → Type 0) → P true false → P false true → P (nat_eq (n % 2) 0) (nat_eq (suc n % 2) 0)
even_or_odd n P even odd = decide (n % 2) (suc n % 2) refl refl
  where
    decide : (a b : ℕ) → n % 2 ≡ a → suc n % 2 ≡ b → P (nat_eq a 0) (nat_eq b 0)
    decide zero zero e f = absurd (omega arith)
    decide zero (suc zero) e f = even
    decide zero (suc (suc b)) e f = absurd (omega arith)
    decide (suc zero) zero e f = odd
    decide (suc zero) (suc b) e f = absurd (omega arith)
    decide (suc (suc a)) b e f = absurd (omega arith)

pub total_more : (turned : Bool) (xs : List ℤ) (z : ℤ) → total_of turned (xs ++ z ∷ []) ≡ next_total turned (length xs) (total_of turned xs) z
total_more true [] z = omega (arith, ints)
total_more false [] z = omega (arith, ints)
total_more true (x ∷ xs) z =
    ap (λ t. x -ℤ t) (total_more true xs z)
    ∙ even_or_odd (length xs) (λ p q. (x -ℤ (if p then total_of true xs +ℤ z else total_of true xs -ℤ z)) ≡ (if q then (x -ℤ total_of true xs) +ℤ z else (x -ℤ total_of true xs) -ℤ z))
    (omega (arith, ints)) (omega (arith, ints))
total_more false (x ∷ xs) z = let more = total_more false xs z in omega (arith, ints)

-- one more number, without a check
pub wrap_added : (t z : ℤ) → int_wrap w64 (int_wrap w64 t +ℤ z) ≡ int_wrap w64 (t +ℤ z)
wrap_added t z = int_wrap-add_left w64 t z

pub wrap_taken : (t z : ℤ) → int_wrap w64 (int_wrap w64 t -ℤ z) ≡ int_wrap w64 (t -ℤ z)
wrap_taken t z =
    let one : int_wrap w64 t -ℤ z ≡ int_wrap w64 t +ℤ neg_ℤ z = omega (arith, ints) in
    let other : t +ℤ neg_ℤ z ≡ t -ℤ z = omega (arith, ints) in
    ap (int_wrap w64) one ∙ int_wrap-add_left w64 t (neg_ℤ z) ∙ ap (int_wrap w64) other

-- ---- totals of near numbers

near_total : (turned : Bool) (xs : List ℤ) → All (IsSum 1) xs → IsSum (length xs) (total_of turned xs)
near_total turned [] h = record { low = omega (arith, ints); high = omega (arith, ints) }
near_total true (x ∷ rest) h =
    let later = near_total true rest (λ k d below. h (suc k) d (omega arith)) in
    let here = h 0 x (omega arith) in
    record { low = omega (arith, ints, here.low, later.high); high = omega (arith, ints, here.high, later.low) }
near_total false (x ∷ rest) h =
    let later = near_total false rest (λ k d below. h (suc k) d (omega arith)) in
    let here = h 0 x (omega arith) in
    record { low = omega (arith, ints, here.low, later.low); high = omega (arith, ints, here.high, later.high) }

total_folded : (turned : Bool) (xs : List ℤ) → 0 < length xs → length xs ≤ 1048576 → All (IsSum 1) xs → folded (dyadic_on_numbers (total_function turned)) xs ≡ Ok (total_of turned xs)
total_folded turned [] some few h = absurd (omega arith)
total_folded true (x ∷ []) some few h = ap Ok (omega (arith, ints))
total_folded false (x ∷ []) some few h = ap Ok (omega (arith, ints))
total_folded true (x ∷ y ∷ rest) some few h =
    ap (λ r. and_then r (dyadic_on_numbers (total_function true) x)) (total_folded true (y ∷ rest) (omega arith) (omega arith) (λ k d below. h (suc k) d (omega arith)))
    ∙ held (total_of true (x ∷ y ∷ rest)) (sum_fits (length (x ∷ y ∷ rest)) _ (omega arith) (near_total true (x ∷ y ∷ rest) h))
total_folded false (x ∷ y ∷ rest) some few h =
    ap (λ r. and_then r (dyadic_on_numbers (total_function false) x)) (total_folded false (y ∷ rest) (omega arith) (omega arith) (λ k d below. h (suc k) d (omega arith)))
    ∙ held (total_of false (x ∷ y ∷ rest)) (sum_fits (length (x ∷ y ∷ rest)) _ (omega arith) (near_total false (x ∷ y ∷ rest) h))

wrapped_folded : (turned : Bool) (xs : List ℤ) → 0 < length xs → length xs ≤ 1048576 → All (IsSum 1) xs → wrapped_total turned xs ≡ folded (dyadic_on_numbers (total_function turned)) xs
wrapped_folded turned xs some few h =
    ap Ok (int_wrap_fits w64 (total_of turned xs) (sum_fits (length xs) (total_of turned xs) (omega arith) (near_total turned xs h))) ∙ sym (total_folded turned xs some few h)

-- ---- along lines

-- the total of the numbers up to a place
abbrev pub total_to : (turned : Bool) → List ℤ → (stride count place : ℕ) → ℤ
total_to turned zs stride count place = total_of turned (run_to (pos 0) zs stride count place)

module _ (turned : Bool) (zs : List ℤ) (stride count : ℕ) (apart : 0 < stride) (some : 1 ≤ count) where
  run_length : (place : ℕ) → length (run_to (pos 0) zs stride count place) ≡ depth stride count place + 1
  run_length place = length-strided (pos 0) zs (place - depth stride count place * stride) stride (depth stride count place + 1)

  -- the exact total behind the one before, in the first row and in a later one
  abbrev total_behind : (place row : ℕ) → depth stride count place ≡ row → ℤ
  total_behind place zero e = pos 0
  total_behind place (suc row) e = total_to turned zs stride count (place - stride)

  next_is : (place row : ℕ) (e : depth stride count place ≡ row) → total_to turned zs stride count place ≡ next_total turned row (total_behind place row e) (get_or zs place (pos 0))
  next_is place zero e = ap (total_of turned) (run_first stride count apart some (pos 0) zs place e) ∙ total_more turned [] (get_or zs place (pos 0))
  next_is place (suc row) e =
      let deep : 0 < depth stride count place = omega arith in
      let z = get_or zs place (pos 0) in
      let long : length (run_to (pos 0) zs stride count (place - stride)) ≡ suc row = run_length (place - stride) ∙ sym (one_deeper stride count apart some place deep) ∙ e in
      ap (total_of turned) (run_more stride count apart some (pos 0) zs place deep)
      ∙ total_more turned (run_to (pos 0) zs stride count (place - stride)) z
      ∙ ap (λ n. next_total turned n (total_to turned zs stride count (place - stride)) z) long

  pub next_result : (place row : ℕ) → depth stride count place ≡ row → (before result : ℤ) → (row ≡ 0 → before ≡ pos 0) → (0 < row → before ≡ int_wrap w64 (total_to turned zs stride count (place - stride)))
      → ((t : ℤ) → before ≡ int_wrap w64 t → result ≡ int_wrap w64 (next_total turned row t (get_or zs place (pos 0)))) → result ≡ int_wrap w64 (total_to turned zs stride count place)
  next_result place row e before result first later made =
      made (total_behind place row e) (behind row e first later) ∙ ap (int_wrap w64) (sym (next_is place row e))
    where
      behind : (row : ℕ) (e : depth stride count place ≡ row) → (row ≡ 0 → before ≡ pos 0) → (0 < row → before ≡ int_wrap w64 (total_to turned zs stride count (place - stride)))
          → before ≡ int_wrap w64 (total_behind place row e)
      behind zero e first later = first refl ∙ sym (int_wrap_fits w64 (pos 0) (sum_fits 0 (pos 0) (omega arith) (near_total turned [] (λ k d below. absurd (omega arith)))))
      behind (suc row) e first later = later (omega arith)

  run_few : length zs ≤ 1048576 → (place : ℕ) → place < length zs → length (run_to (pos 0) zs stride count place) ≤ 1048576
  run_few few place below =
      let deep = depth stride count place in
      let high = depth_high stride count apart some place in
      let least : deep * 1 ≤ deep * stride = mul-le-mul_left deep (omega arith) in
      omega (arith, run_length place)

  pub near_scanned : length zs ≤ 1048576 → AreNear zs 0 (length zs) → scanned (wrapped_total turned) zs stride count ≡ scanned (folded (dyadic_on_numbers (total_function turned))) zs stride count
  near_scanned few near =
      ap all_or_first_error (same_rules _ _ (length zs) (λ place below.
      wrapped_folded turned (run_to (pos 0) zs stride count place) (run_some stride count apart some (pos 0) zs place) (run_few few place below)
      (run_each zs stride count apart some (IsSum 1) (length zs) (λ k inside. near k inside (omega arith)) place below)))

-- near numbers, and near ones behind them
pub more_near : (zs : List ℤ) (n m : ℕ) → AreNear zs 0 n → AreNear zs n m → AreNear zs 0 m
more_near zs n m old new k below low = elim (cases_lt k n) [ inl h ↦ old k h low | inr h ↦ new k below h ]

-- each result so far is the wrapped total up to its place
pub result_is : (turned : Bool) (zs : List ℤ) (stride count place q : ℕ) (xs : List ℤ)
    → all_or_first_error (take place (map (wrapped_to turned zs stride count) (range_with_len 0 (length zs)))) ≡ Ok xs → q < place → place ≤ length zs
    → get_or xs q (pos 0) ≡ int_wrap w64 (total_to turned zs stride count q)
result_is turned zs stride count place q xs made before within =
    let given = result_before (wrapped_to turned zs stride count) zs place xs made within q before in
    cc

-- a place on the same row as an earlier one
pub row_depth : (stride count place first : ℕ) → first % stride ≡ 0 → first ≤ place → place < first + stride → depth stride count place ≡ depth stride count first
row_depth stride count place first begins low near =
    let q = first / stride in
    let same : place / stride ≡ q = ap (λ n. n / stride) (omega arith) ∙ div-mul-add q stride (place - first) (omega arith) in
    ap (λ n. n % count) same
