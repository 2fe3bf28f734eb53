-- Folds of lines from the column folds of blocks.
use Rattle.std.proofs.Common.{◌≡◌, refl, inl, inr, ℕ, [], ◌∷◌, ◌++◌, ◌+◌, ◌-◌, ◌*◌, ◌/◌, ◌%◌, ◌<◌, ◌≤◌, List, length, get_or, drop, take, ℤ, pos, Result, Ok, ap, sym, ◌∙◌, arith}
use Rattle.std.{proofs.lemmas.Bool.{cases_lt}, proofs.lemmas.List.{length-append, length-take, length-drop, take-append-drop, drop-drop, ext_get_or, get_or-take, get_or-drop, get_or_append_left, get_or-append_right}}
use Rattle.{std.{proofs.lemmas.Nat.{div-mul-add, mod-mul-add, div-add-mod'}, proofs.Math.Nat.{mul-le-mul_right}}, arrays_core.{specs.declared.item.Kind.{Kind}, specs.Items.{and_then}}}
use Rattle.item_fns.{specs.Folds.{strided, folded, line_start}, proofs.RightFolds.{fold_more, length-strided, get_or-strided}}
use Rattle.reduce_fns.{specs.Columns.{EndsInFolds}, proofs.Folds.{place_high}}

-- a line within a part of a list
pub strided_part : (xs : List ℤ) (first size column stride count : ℕ) → column < stride → size ≡ count * stride
    → strided (pos 0) (take size (drop first xs)) column stride count ≡ strided (pos 0) xs (first + column) stride count
strided_part xs first size column stride count below whole =
    let part = take size (drop first xs) in
    let n = length-strided (pos 0) part column stride count in
    let m = length-strided (pos 0) xs (first + column) stride count in
    ext_get_or (pos 0) (strided (pos 0) part column stride count) (strided (pos 0) xs (first + column) stride count) (n ∙ sym m) (λ k h.
    let inside : k < count = omega arith in
    get_or-strided (pos 0) part column stride count k (pos 0) inside
    ∙ get_or-take size (drop first xs) (column + k * stride) (pos 0) (within column stride count k size below inside whole)
    ∙ get_or-drop first xs (column + k * stride) (pos 0)
    ∙ ap (λ p. get_or xs p (pos 0)) (omega arith)
    ∙ sym (get_or-strided (pos 0) xs (first + column) stride count k (pos 0) inside))
  where
    within : (column stride count k size : ℕ) → column < stride → k < count → size ≡ count * stride → column + k * stride < size
    within column stride count k size below inside whole =
        let last = place_high 0 stride count k ((count - 1) * stride) inside (omega arith) in
        let one : count ≡ count - 1 + 1 = omega arith in
        let parts : count * stride ≡ (count - 1) * stride + stride = ap (λ m. m * stride) one ∙ omega arith in
        omega arith

module _ (f : ℤ → ℤ → Result ℤ Kind) (xs : List ℤ) (stride count : ℕ) where
  -- an end of a list in place of which its fold may stand
  end_folded : (front rest : List ℤ) (y : ℤ) → 0 < length rest → folded f rest ≡ Ok y → folded f (front ++ rest) ≡ folded f (front ++ y ∷ [])
  end_folded [] rest y some h = h
  end_folded (x ∷ front) rest y some h =
      let long = length-append front rest in
      let more = length-append front (y ∷ []) in
      fold_more f x (front ++ rest) (omega arith)
      ∙ ap (λ r. and_then r (f x)) (end_folded front rest y some h)
      ∙ sym (fold_more f x (front ++ y ∷ []) (omega arith))

  -- more rows above a fold of a column
  pub rows_more : (column k m size : ℕ) (y : ℤ) → column < stride → size ≡ m * stride → k + m < count
      → folded f (drop (k + m) (strided (pos 0) xs column stride count)) ≡ Ok y
      → folded f (drop k (strided (pos 0) xs column stride count)) ≡ folded f (strided (pos 0) (take size (drop (k * stride) xs)) column stride m ++ y ∷ [])
  rows_more column k m size y inside whole high h =
      let line = strided (pos 0) xs column stride count in
      let rest = drop (k + m) line in
      let long = length-strided (pos 0) xs column stride count in
      let part = length-strided (pos 0) xs (k * stride + column) stride m in
      let front : take m (drop k line) ≡ strided (pos 0) xs (k * stride + column) stride m =
      ext_get_or (pos 0) (take m (drop k line)) (strided (pos 0) xs (k * stride + column) stride m) (omega (arith, length-take m (drop k line), length-drop k line)) (λ j below.
      let few : j < m = omega (arith, length-take m (drop k line)) in
      get_or-take m (drop k line) j (pos 0) few
      ∙ get_or-drop k line j (pos 0)
      ∙ get_or-strided (pos 0) xs column stride count (k + j) (pos 0) (omega arith)
      ∙ ap (λ p. get_or xs p (pos 0)) (omega arith)
      ∙ sym (get_or-strided (pos 0) xs (k * stride + column) stride m j (pos 0) few)) in
      ap (folded f) (sym (take-append-drop m (drop k line)) ∙ ap (λ r. take m (drop k line) ++ r) (drop-drop m k line))
      ∙ ap (λ r. folded f (r ++ rest)) (front ∙ sym (strided_part xs (k * stride) size column stride m inside whole))
      ∙ end_folded (strided (pos 0) (take size (drop (k * stride) xs)) column stride m) rest y (omega (arith, length-drop (k + m) line)) h

  -- the fold of the line of a place of the result
  abbrev pub at_place : ℕ → Result ℤ Kind
  at_place place = folded f (strided (pos 0) xs (line_start stride count place) stride count)

  start_at : (block column : ℕ) → column < stride → line_start stride count (block * stride + column) ≡ block * (count * stride) + column
  start_at block column inside = rw (div-mul-add block stride column inside, mod-mul-add block stride column inside) refl

  -- one more block
  pub block_more : (block : ℕ) (before all : List ℤ) → length before ≡ block * stride
      → EndsInFolds f (take (count * stride) (drop (block * (count * stride)) xs)) stride count before all
      → ((place : ℕ) → place < block * stride → at_place place ≡ Ok (get_or before place (pos 0)))
      → (place : ℕ) → place < (block + 1) * stride → at_place place ≡ Ok (get_or all place (pos 0))
  block_more block before all long ends made place below =
      elim (cases_lt place (block * stride)) [
        | inl h ↦ made place h ∙ ap Ok (sym (ap (λ ys. get_or ys place (pos 0)) ends.is ∙ get_or_append_left before ends.folds (pos 0) place (omega arith)))
        | inr h ↦
            (let column = place - block * stride in
            let size = count * stride in
            let inside : column < stride = omega arith in
            ap (λ p. folded f (strided (pos 0) xs p stride count)) (ap (line_start stride count) (omega arith) ∙ start_at block column inside)
            ∙ ap (folded f) (sym (strided_part xs (block * size) size column stride count inside refl))
            ∙ ap (λ s. folded f (strided (pos 0) (take size (drop (block * size) xs)) column s count)) (sym ends.long)
            ∙ ends.folded.each column (omega arith)
            ∙ ap Ok (sym (ap (λ ys. get_or ys place (pos 0)) ends.is ∙ get_or-append_right before ends.folds (block * stride) place (pos 0) long h)))
      ]

-- after all blocks, all places are done
pub all_blocks : (block stride places : ℕ) → block ≤ places / stride → places / stride ≤ block → places % stride ≡ 0 → block * stride ≡ places
all_blocks block stride places low high even =
    let same : block ≡ places / stride = omega arith in
    ap (λ b. b * stride) same ∙ omega (arith, div-add-mod' places stride, even)

-- the blocks lie within the list
pub block_high : (block stride count places n : ℕ) → block < places / stride → places % stride ≡ 0 → places * count ≡ n
    → block * (count * stride) + count * stride ≤ n
block_high block stride count places n below even whole =
    let blocks = places / stride in
    let all : n ≡ blocks * (count * stride) = sym whole ∙ ap (λ p. p * count) (sym (div-add-mod' places stride) ∙ omega (arith, even)) ∙ regroup blocks stride count in
    let some : (block + 1) * (count * stride) ≤ blocks * (count * stride) = mul-le-mul_right (count * stride) (omega arith) in
    let more : (block + 1) * (count * stride) ≡ block * (count * stride) + count * stride = one_more block (count * stride) in
    omega arith
  where
    regroup : (b s c : ℕ) → b * s * c ≡ b * (c * s)
    regroup b s c = omega arith

    one_more : (b m : ℕ) → (b + 1) * m ≡ b * m + m
    one_more b m = omega arith
