-- Outer products of numbers, row by row.
use Rattle.std.{proofs.Common.{◌≡◌, Vec, ℕ, zero, suc, ◌+◌, ◌*◌, ◌/◌, ◌%◌, ◌<◌, List, [], ◌∷◌, ◌++◌, append-nil, length, get_or, map, take, drop, ℤ, pos, Result, Ok, Err, ap, sym, ◌∙◌, arith}, specs.List.{range_with_len}}
use Rattle.std.{proofs.lemmas.List.{length-map, length-append, get_or_append_left, get_or-append-add, get_or-map, take_more, take-append-drop}, proofs.lemmas.List.FromFn.{fill_by_all}, proofs.lemmas.Grind.{flat_map-append}, proofs.lemmas.Nat.{div-add-mod'}, proofs.Math.Nat.{mod-lt, div-lt_iff_lt-mul}}
use Rattle.std.specs.Result.{IsErr, IsErrAnd}
use Rattle.arrays_core.{specs.declared.item.Kind.{Kind}, specs.declared.fault.ApplyFault.{ApplyFault}, specs.declared.fault.ApplyFault.TheVariants.{Kind as KindFault, NoMemory}, specs.Items.{all_or_first_error, and_then}}
use Rattle.{item_fns.specs.NumberLists.{IsListAnswerTo}, operator_fns.specs.OuterResults.{outer_results, with_results, LeavesOrFails}}

-- some numbers, followed by the first k results of a list
pub record RowTo (old : List ℤ) (rs : List (Result ℤ Kind)) (k : ℕ) (items : List ℤ) : Type 0 where
  pub new : List ℤ
  pub made : all_or_first_error (take k rs) ≡ Ok new
  pub is : items ≡ old ++ new

-- ---- the rows of an outer product

module _ (f : ℤ → ℤ → Result ℤ Kind) (ys : List ℤ) where
  -- one more row
  pub row_more : (xs : List ℤ) (i : ℕ) → i < length xs → outer_results f (take (i + 1) xs) ys ≡ outer_results f (take i xs) ys ++ map (f (get_or xs i (pos 0))) ys
  row_more xs i h =
      ap (λ zs. outer_results f zs ys) (take_more xs i (pos 0) h)
      ∙ flat_map-append (λ x. map (f x) ys) (take i xs) (get_or xs i (pos 0) ∷ [])
      ∙ ap (λ rs. outer_results f (take i xs) ys ++ rs) (append-nil (map (f (get_or xs i (pos 0))) ys))

  pub rows_left : (xs : List ℤ) (i : ℕ) → outer_results f xs ys ≡ outer_results f (take i xs) ys ++ outer_results f (drop i xs) ys
  rows_left xs i = ap (λ zs. outer_results f zs ys) (sym (take-append-drop i xs)) ∙ flat_map-append (λ x. map (f x) ys) (take i xs) (drop i xs)

  pub length-outer : (xs : List ℤ) → length (outer_results f xs ys) ≡ length xs * length ys
  length-outer [] = omega arith
  length-outer (x ∷ xs) = length-append (map (f x) ys) (outer_results f xs ys) ∙ (omega (arith, length-map ys (f x), length-outer xs))

  pub entry_of_row : (xs : List ℤ) (q r : ℕ) (d : Result ℤ Kind) → q < length xs → r < length ys
      → get_or (outer_results f xs ys) (q * length ys + r) d ≡ f (get_or xs q (pos 0)) (get_or ys r (pos 0))
  entry_of_row [] q r d h low = absurd (omega arith)
  entry_of_row (x ∷ xs) zero r d h low =
      let long = length-map ys (f x) in
      let place : zero * length ys + r ≡ r = omega arith in
      ap (λ k. get_or (outer_results f (x ∷ xs) ys) k d) place
      ∙ get_or_append_left (map (f x) ys) (outer_results f xs ys) d r (omega arith)
      ∙ get_or-map (f x) ys r (pos 0) d low
  entry_of_row (x ∷ xs) (suc q) r d h low =
      let long = length-map ys (f x) in
      let place : suc q * length ys + r ≡ length (map (f x) ys) + (q * length ys + r) = omega arith in
      ap (λ k. get_or (outer_results f (x ∷ xs) ys) k d) place
      ∙ get_or-append-add (map (f x) ys) (outer_results f xs ys) (q * length ys + r) d
      ∙ entry_of_row xs q r d (omega arith) low

  -- place by place
  pub places_of_outer : (xs : List ℤ) (n : ℕ) → n ≡ length xs * length ys
      → map (λ p. f (get_or xs (p / length ys) (pos 0)) (get_or ys (p % length ys) (pos 0))) (range_with_len 0 n) ≡ outer_results f xs ys
  places_of_outer xs n e =
      let m = length ys in
      let number = λ (p : ℕ). f (get_or xs (p / m) (pos 0)) (get_or ys (p % m) (pos 0)) in
      sym (fill_by_all number (outer_results f xs ys) n (Ok (pos 0)) (length-outer xs ∙ sym e) (λ p h.
      let some : 0 < m = some_columns (length xs) m p (omega arith) in
      let q_low : p / m < length xs = (div-lt_iff_lt-mul some).1 (omega arith) in
      ap (λ k. get_or (outer_results f xs ys) k (Ok (pos 0))) (sym (div-add-mod' p m)) ∙ entry_of_row xs (p / m) (p % m) (Ok (pos 0)) q_low (mod-lt p some)))
    where
      some_columns : (n m p : ℕ) → p < n * m → 0 < m
      some_columns n zero p h = absurd (omega arith)
      some_columns n (suc m) p h = omega arith

-- ---- the answers of calls

pub left_error : {U : Type 0} (wanted : Result (List ℤ) Kind) (k : Kind) (left : List ℤ) (r : Result U ApplyFault) → wanted ≡ Err k
    → IsErr r × IsErrAnd r (λ e. e ≡ KindFault k) → LeavesOrFails wanted left r
left_error wanted k left (Ok u) e h = absurd h.1
left_error wanted k left (Err f) e h = rw h.1 e

-- an error of a row is an error of the outer product
pub row_failed : {G : Type 0} (U : Type 0) (wanted other : Result (List ℤ) Kind) (left : List ℤ) (fault : ApplyFault) (r : Result (Vec ℤ G) ApplyFault)
    → ((k : Kind) → wanted ≡ Err k → other ≡ Err k) → LeavesOrFails {U = U} wanted left (Err fault) → IsErr r × IsErrAnd r (λ e. e ≡ fault) → IsListAnswerTo other r
row_failed U wanted other left fault (Ok v) same is h = absurd h.1
row_failed U wanted other left (KindFault k) (Err e) same is h = rw h.1 (same k is)
row_failed U wanted other left NoMemory (Err e) same is h = rw h.1 tt

-- an error of a list of results is an error of the row
pub list_failed : (G U : Type 0) (rs : List (Result ℤ Kind)) (before left : List ℤ) (fault : ApplyFault) (r : Result U ApplyFault)
    → IsListAnswerTo {G = G} (all_or_first_error rs) (Err fault) → IsErr r × IsErrAnd r (λ e. e ≡ fault) → LeavesOrFails (with_results before rs) left r
list_failed G U rs before left fault (Ok u) is h = absurd h.1
list_failed G U rs before left (KindFault k) (Err e) is h = rw h.1 (ap (λ all. and_then all (λ more. Ok (before ++ more))) is)
list_failed G U rs before left NoMemory (Err e) is h = rw h.1 tt
