-- Folds of the paired results of a row and a column, from the last pair to the first.
use Rattle.std.{proofs.Common.{◌≡◌, ℕ, zero, suc, ◌+◌, ◌-◌, ◌<◌, ◌≤◌, List, [], ◌∷◌, ◌++◌, length, get_or, set, drop, take, map, refl, ap, sym, ◌∙◌, arith, Result, Ok, Err}, specs.List.{range_with_len}, proofs.lemmas.List.{drop_more, drop_all, drop-set, ext_get_or}}
use Rattle.std.proofs.lemmas.List.FromFn.{length-map-range_with_len, get_or-map-range_with_len, map-range_with_len_more, take-map-range_with_len}
use Rattle.{arrays_core.{specs.declared.item.Kind.{Kind}, specs.Items.{and_then}}, item_fns.{specs.Folds.{folded}, proofs.RightFolds.{fold_more}}, reduce_fns.proofs.Firsts.{same_rules}}
use Rattle.operator_fns.{specs.InnerProduct.{all_or_last_error}, specs.RowByColumn.{all_met, last_error_or, folded_all}}

-- ---- the error of the last entry that fails

module _ {A : Type 0} where
  pub last_fine : (e : Kind) (rs : List (Result A Kind)) (x : A) → last_error_or e (rs ++ Ok x ∷ []) ≡ last_error_or e rs
  last_fine e [] x = refl
  last_fine e (Ok y ∷ rs) x = last_fine e rs x
  last_fine e (Err k ∷ rs) x = last_fine k rs x

  pub last_failed : (e : Kind) (rs : List (Result A Kind)) (k : Kind) → last_error_or e (rs ++ Err k ∷ []) ≡ k
  last_failed e [] k = refl
  last_failed e (Ok y ∷ rs) k = last_failed e rs k
  last_failed e (Err j ∷ rs) k = last_failed j rs k

  -- an error of a suffix is the error of the whole
  pub later_error : (rs : List (Result A Kind)) (k : ℕ) (e : Kind) → k < length rs → all_or_last_error (drop k rs) ≡ Err e → all_or_last_error rs ≡ Err e
  later_error [] k e h g = absurd (omega arith)
  later_error (x ∷ rs) zero e h g = g
  later_error (x ∷ rs) (suc k) e h g = ap (λ r. and_then r (λ items. and_then x (λ item. Ok (item ∷ items)))) (later_error rs k e (omega arith) g)

  -- continuing after a suffix without errors fails, if it fails for every prefix
  fails_after : {B : Type 0} (rs : List (Result A Kind)) (k : ℕ) (later : List A) (next : List A → Result B Kind) (e : Kind)
      → all_or_last_error (drop k rs) ≡ Ok later → ((front : List A) → next (front ++ later) ≡ Err e)
      → and_then (all_or_last_error rs) next ≡ Err (last_error_or e (take k rs))
  fails_after rs zero later next e made fails = ap (λ r. and_then r next) made ∙ fails []
  fails_after [] (suc k) later next e made fails = ap (λ r. and_then r next) made ∙ fails []
  fails_after (Ok x ∷ rs) (suc k) later next e made fails =
      moved (all_or_last_error rs) ∙ fails_after rs k later (λ items. next (x ∷ items)) e made (λ front. fails (x ∷ front))
    where
      moved : (r : Result (List A) Kind) → and_then (and_then r (λ items. Ok (x ∷ items))) next ≡ and_then r (λ items. next (x ∷ items))
      moved (Ok items) = refl
      moved (Err j) = refl
  fails_after (Err j ∷ rs) (suc k) later next e made fails =
      moved (all_or_last_error rs) ∙ fails_after rs k later (λ items. Err j) j made (λ front. refl)
    where
      moved : (r : Result (List A) Kind) → and_then {A = List A} (and_then r (λ items. Err j)) next ≡ and_then r (λ items. Err j)
      moved (Ok items) = refl
      moved (Err i) = refl

-- ---- the results of a rule at the first places

module _ {A : Type 0} (rule : ℕ → Result A Kind) where
  abbrev pub firsts : ℕ → List (Result A Kind)
  firsts count = map rule (range_with_len 0 count)

  pub length-firsts : (count : ℕ) → length (firsts count) ≡ count
  length-firsts count = length-map-range_with_len rule 0 count

  pub first_at : (count k : ℕ) (d : Result A Kind) → k < count → get_or (firsts count) k d ≡ rule k
  first_at count k d h = get_or-map-range_with_len rule 0 count k k d h (omega arith)

  pub take-firsts : (count k : ℕ) → k ≤ count → take k (firsts count) ≡ firsts k
  take-firsts count k h = take-map-range_with_len rule 0 count k h

  firsts_more : (place : ℕ) → 0 < place → firsts place ≡ firsts (place - 1) ++ rule (place - 1) ∷ []
  firsts_more place some = let next : place ≡ place - 1 + 1 = omega arith in ap firsts next ∙ map-range_with_len_more rule 0 (place - 1) (place - 1) (omega arith)

  -- one entry fewer, which succeeds or fails with the error
  pub fine_entry : (e : Kind) (place : ℕ) (x : A) → 0 < place → rule (place - 1) ≡ Ok x → last_error_or e (firsts place) ≡ last_error_or e (firsts (place - 1))
  fine_entry e place x some here = ap (last_error_or e) (firsts_more place some ∙ ap (λ r. firsts (place - 1) ++ r ∷ []) here) ∙ last_fine e (firsts (place - 1)) x

  pub failed_entry : (e : Kind) (place : ℕ) (j : Kind) → 0 < place → rule (place - 1) ≡ Err j → last_error_or e (firsts place) ≡ j
  failed_entry e place j some here = ap (last_error_or e) (firsts_more place some ∙ ap (λ r. firsts (place - 1) ++ r ∷ []) here) ∙ last_failed e (firsts (place - 1)) j

  module _ (n : ℕ) where
    pub none_after : drop n (firsts n) ≡ []
    none_after = drop_all n (firsts n) (omega (arith, length-firsts n))

    -- the suffix from the entry before a place
    pub rest_from : (place : ℕ) (r : Result A Kind) → 0 < place → place ≤ n → rule (place - 1) ≡ r → drop (place - 1) (firsts n) ≡ r ∷ drop place (firsts n)
    rest_from place r some inside here =
        drop_more (firsts n) (place - 1) r (omega (arith, length-firsts n)) ∙ ap (λ m. get_or (firsts n) (place - 1) r ∷ drop m (firsts n)) (omega arith)
        ∙ ap (λ x. x ∷ drop place (firsts n)) (first_at n (place - 1) r (omega arith) ∙ here)

    pub rest_failed : (place : ℕ) (e : Kind) (later : List A) → 0 < place → place ≤ n → rule (place - 1) ≡ Err e → all_or_last_error (drop place (firsts n)) ≡ Ok later
        → all_or_last_error (firsts n) ≡ Err e
    rest_failed place e later some inside here made =
        later_error (firsts n) (place - 1) e (omega (arith, length-firsts n)) (rw (rest_from place (Err e) some inside here, made) refl)

    -- a list written from its end has one more entry
    pub one_written : (xs : List A) (place : ℕ) (x : A) → 0 < place → place ≤ n → place ≤ length xs → rule (place - 1) ≡ Ok x
        → all_or_last_error (drop place (firsts n)) ≡ Ok (drop place xs) → all_or_last_error (drop (place - 1) (firsts n)) ≡ Ok (drop (place - 1) (set xs (place - 1) x))
    one_written xs place x some inside in_xs here later =
        let next : place - 1 + 1 ≡ place = omega arith in
        (rw (rest_from place (Ok x) some inside here, later) refl) ∙ ap (λ m. Ok (x ∷ drop m xs)) (sym next) ∙ ap Ok (sym (drop-set xs (place - 1) x (omega arith)))

-- ---- the fold so far

still_fails : {A : Type 0} (f : A → A → Result A Kind) (front later : List A) (e : Kind) → 0 < length later → folded f later ≡ Err e
    → (folded f (front ++ later) ≡ Err e) × (0 < length (front ++ later))
still_fails f [] later e h g = (g, h)
still_fails f (x ∷ front) later e h g =
    let rest = still_fails f front later e h g in
    (fold_more f x (front ++ later) rest.1 ∙ ap (λ r. and_then r (f x)) rest.0, omega (arith, rest.1))

module _ {A : Type 0} (f : A → A → Result A Kind) (rule : ℕ → Result A Kind) (n : ℕ) where
  -- the suffix from a place succeeds, and folds to y
  pub record FoldedTo (place : ℕ) (y : A) : Type 0 where
    pub later : List A
    pub made : all_or_last_error (drop place (firsts rule n)) ≡ Ok later
    pub some : 0 < length later
    pub is : folded f later ≡ Ok y

  pub folded_last : (y : A) → 1 ≤ n → rule (n - 1) ≡ Ok y → FoldedTo (n - 1) y
  folded_last y some here = record { later = y ∷ []; made = rw (rest_from rule n n (Ok y) some (omega arith) here, none_after rule n) refl; some = omega arith; is = refl }

  pub last_entry_failed : (e : Kind) → 1 ≤ n → rule (n - 1) ≡ Err e → folded_all f (firsts rule n) ≡ Err e
  last_entry_failed e some here = ap (λ r. and_then r (folded f)) (rest_failed rule n n e [] some (omega arith) here (ap all_or_last_error (none_after rule n)))

  module _ (place : ℕ) (y : A) (some : 0 < place) (inside : place ≤ n) (so_far : FoldedTo place y) where
    pub one_more : (x z : A) → rule (place - 1) ≡ Ok x → f x y ≡ Ok z → FoldedTo (place - 1) z
    one_more x z here gave = record {
      later = x ∷ so_far.later;
      made = rw (rest_from rule n place (Ok x) some inside here, so_far.made) refl;
      some = omega arith;
      is = fold_more f x so_far.later so_far.some ∙ ap (λ r. and_then r (f x)) so_far.is ∙ gave;
    }

    pub entry_failed : (e : Kind) → rule (place - 1) ≡ Err e → folded_all f (firsts rule n) ≡ Err e
    entry_failed e here = ap (λ r. and_then r (folded f)) (rest_failed rule n place e so_far.later some inside here so_far.made)

    pub fold_failed : (x : A) (e : Kind) → rule (place - 1) ≡ Ok x → f x y ≡ Err e → folded_all f (firsts rule n) ≡ Err (last_error_or e (firsts rule (place - 1)))
    fold_failed x e here gave =
        let made : all_or_last_error (drop (place - 1) (firsts rule n)) ≡ Ok (x ∷ so_far.later) = rw (rest_from rule n place (Ok x) some inside here, so_far.made) refl in
        let fails : folded f (x ∷ so_far.later) ≡ Err e = fold_more f x so_far.later so_far.some ∙ ap (λ r. and_then r (f x)) so_far.is ∙ gave in
        fails_after (firsts rule n) (place - 1) (x ∷ so_far.later) (folded f) e made (λ front. (still_fails f front (x ∷ so_far.later) e (omega arith) fails).0)
        ∙ ap (λ rs. Err (last_error_or e rs)) (take-firsts rule n (place - 1) (omega arith))

  -- all entries are folded
  pub folded_whole : (y : A) → FoldedTo 0 y → folded_all f (firsts rule n) ≡ Ok y
  folded_whole y whole = ap (λ r. and_then r (folded f)) whole.made ∙ whole.is

-- ---- results without an error

pub all_fine : {A : Type 0} (value : ℕ → A) (places : List ℕ) → all_or_last_error (map (λ k. Ok (value k)) places) ≡ Ok (map value places)
all_fine value [] = refl
all_fine value (k ∷ places) = ap (λ r. and_then r (λ items. Ok (value k ∷ items))) (all_fine value places)

-- the fold of results that a list holds
pub met_folded : {A : Type 0} (f : A → A → Result A Kind) (rule : ℕ → Result A Kind) (n : ℕ) (xs : List A) (d : A) → length xs ≡ n
    → ((k : ℕ) → k < n → rule k ≡ Ok (get_or xs k d)) → folded_all f (firsts rule n) ≡ folded f xs
met_folded f rule n xs d long h =
    let value = λ (k : ℕ). get_or xs k d in
    let same = length-map-range_with_len value 0 n in
    ap (folded_all f) (same_rules rule (λ k. Ok (value k)) n h)
    ∙ ap (λ r. and_then r (folded f)) (all_fine value (range_with_len 0 n))
    ∙ ap (folded f) (ext_get_or d (map value (range_with_len 0 n)) xs (same ∙ sym long) (λ k below. get_or-map-range_with_len value 0 n k k d (omega arith) (omega arith)))

-- ---- paired results

module _ {A : Type 0} (g : A → A → Result A Kind) (row column : ℕ → A) where
  pub length-met : (count : ℕ) → length (all_met g row column count) ≡ count
  length-met count = length-firsts (λ k. g (row k) (column k)) count
