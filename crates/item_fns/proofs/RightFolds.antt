-- Folds of non-empty lists, from the last element to the first.
use Rattle.std.{proofs.Common.{◌≡◌, ℕ, zero, suc, ◌+◌, ◌-◌, ◌*◌, ◌<◌, ◌≤◌, List, [], ◌∷◌, length, get_or, drop, take, refl, ap, sym, ◌∙◌, arith, Result, Ok, Err}, proofs.lemmas.List.{drop_more, get_or-take, get_or-drop, length-drop, length-take, ext_get_or}}
use Rattle.std.proofs.lemmas.List.FromFn.{length-map-range_with_len, get_or-map-range_with_len}
use Rattle.{arrays_core.{specs.declared.item.Kind.{Kind}, specs.Items.{and_then}}, item_fns.specs.Folds.{strided, folded}}

module _ {A : Type 0} (f : A → A → Result A Kind) where
  pub fold_more : (x : A) (rest : List A) → 0 < length rest → folded f (x ∷ rest) ≡ and_then (folded f rest) (f x)
  fold_more x [] h = absurd (omega arith)
  fold_more x (y ∷ rest) h = refl

  pub fold_last : (xs : List A) (k : ℕ) (d : A) → k + 1 ≡ length xs → folded f (drop k xs) ≡ Ok (get_or xs k d)
  fold_last [] k d h = absurd (omega arith)
  fold_last (x ∷ []) zero d h = refl
  fold_last (x ∷ y ∷ xs) zero d h = absurd (omega arith)
  fold_last (x ∷ xs) (suc k) d h = fold_last xs k d (omega arith)

  -- an error of the rest is the result
  pub error_stands : (xs : List A) (k : ℕ) (e : Kind) → k < length xs → folded f (drop k xs) ≡ Err e → folded f xs ≡ Err e
  error_stands [] k e h g = absurd (omega arith)
  error_stands (x ∷ xs) zero e h g = g
  error_stands (x ∷ xs) (suc k) e h g = fold_more x xs (omega arith) ∙ (rw (error_stands xs k e (omega arith) g) refl)

-- one more element in front
pub rest_more : {A : Type 0} (f : A → A → Result A Kind) (xs : List A) (d : A) (j : ℕ) (y : A) → j + 1 < length xs → folded f (drop (j + 1) xs) ≡ Ok y
    → folded f (drop j xs) ≡ f (get_or xs j d) y
rest_more f xs d j y h e =
    ap (folded f) (drop_more xs j d (omega arith))
    ∙ fold_more f (get_or xs j d) (drop (j + 1) xs) (omega (arith, length-drop (j + 1) xs))
    ∙ (rw e refl)

-- ---- elements a stride apart

module _ {A : Type 0} (d : A) (xs : List A) where
  pub length-strided : (first stride count : ℕ) → length (strided d xs first stride count) ≡ count
  length-strided first stride count = length-map-range_with_len (λ k. get_or xs (first + k * stride) d) 0 count

  pub get_or-strided : (first stride count k : ℕ) (other : A) → k < count → get_or (strided d xs first stride count) k other ≡ get_or xs (first + k * stride) d
  get_or-strided first stride count k other h = get_or-map-range_with_len (λ k. get_or xs (first + k * stride) d) 0 count k k other h (omega arith)

  module _ (f : A → A → Result A Kind) (first stride count : ℕ) where
    pub strided_last : 1 ≤ count → folded f (drop (count - 1) (strided d xs first stride count)) ≡ Ok (get_or xs (first + (count - 1) * stride) d)
    strided_last h =
        let long = length-strided first stride count in
        fold_last f (strided d xs first stride count) (count - 1) d (omega arith)
        ∙ ap Ok (get_or-strided first stride count (count - 1) d (omega arith))

    pub strided_more : (j : ℕ) (y : A) → j + 1 < count → folded f (drop (j + 1) (strided d xs first stride count)) ≡ Ok y
        → folded f (drop j (strided d xs first stride count)) ≡ f (get_or xs (first + j * stride) d) y
    strided_more j y h e =
        let long = length-strided first stride count in
        rest_more f (strided d xs first stride count) d j y (omega arith) e ∙ ap (λ x. f x y) (get_or-strided first stride count j d (omega arith))

  -- the first elements of a line
  pub take-strided : (first stride count n : ℕ) → n ≤ count → take n (strided d xs first stride count) ≡ strided d xs first stride n
  take-strided first stride count n h =
      let ys = strided d xs first stride count in
      let long = length-strided first stride count in
      let short = length-strided first stride n in
      let taken = length-take n ys in
      ext_get_or d (take n ys) (strided d xs first stride n) (omega arith) (λ k below.
      let inside : k < n = omega arith in
      get_or-take n ys k d inside
      ∙ get_or-strided first stride count k d (omega arith)
      ∙ sym (get_or-strided first stride n k d inside))

-- elements with stride 1 are a run
pub strided_run : {A : Type 0} (d : A) (xs : List A) (first count : ℕ) → first + count ≤ length xs → take count (drop first xs) ≡ strided d xs first 1 count
strided_run d xs first count h =
    let long = length-take count (drop first xs) in
    let rest = length-drop first xs in
    let n = length-strided d xs first 1 count in
    ext_get_or d (take count (drop first xs)) (strided d xs first 1 count) (omega arith) (λ k below.
    let inside : k < count = omega arith in
    get_or-take count (drop first xs) k d inside
    ∙ get_or-drop first xs k d
    ∙ ap (λ m. get_or xs m d) (omega arith)
    ∙ sym (get_or-strided d xs first 1 count k d inside))
