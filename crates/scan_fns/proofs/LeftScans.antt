-- A scan from the left, result by result.
use Rattle.std.{proofs.Common.{◌≡◌, eq-eqb, ℕ, nat_eq, ◌+◌, ◌-◌, ◌*◌, ◌%◌, ◌<◌, ◌≤◌, nat_lt, true, false, List, length, get_or, map, take, ap, sym, subst, ◌∙◌, inl, inr, arith, pos, ℤ, FitsSigned, to_z, of_z, min, Result, Ok, Err, Vec, ◌++◌, ◌∷◌, [], vec_len, vec_capacity}, specs.Int.{w64}}
use Rattle.std.{specs.List.{All, range_with_len}, specs.Result.{IsErr, IsErrAnd}, proofs.lemmas.List.{get_or_default, length-take, get_or-take, take_all}, proofs.lemmas.Bool.{cases_lt, lt-ltb, le-ltb, ltb-true, ltb-false, ne_eqb}, proofs.lemmas.Int.{to_z-of_z}, proofs.Math.Nat.{mod-eq_of_lt, add-mod_right}}
use Rattle.std.proofs.lemmas.List.FromFn.{length-map-range_with_len, get_or-map-range_with_len}
use Rattle.arrays_core.{specs.declared.fault.ApplyFault.{ApplyFault}, specs.declared.fault.ApplyFault.TheVariants.{Kind as KindFault}, specs.declared.item.Kind.{Kind}, specs.Items.{all_or_first_error, and_then}, proofs.Order.{front_more, front_error}}
use Rattle.scan_fns.{specs.LinearScan.{run_to, left_rule, AreResultsTo, FailsAt, HasRead}, proofs.Runs.{first_row, later_row, past_stride, left_first, left_later}, proofs.Prefixes.{beside_depth}}
use Rattle.reduce_fns.proofs.Firsts.{entry_of}

-- each of the results before a place
pub result_before : (rule : ℕ → Result ℤ Kind) (zs : List ℤ) (place : ℕ) (xs : List ℤ) → all_or_first_error (take place (map rule (range_with_len 0 (length zs)))) ≡ Ok xs
    → place ≤ length zs
    → (k : ℕ) → k < place → rule k ≡ Ok (get_or xs k (pos 0))
result_before rule zs place xs made within k h =
    let rs = map rule (range_with_len 0 (length zs)) in
    let long : length rs ≡ length zs = length-map-range_with_len rule 0 (length zs) in
    let entry = entry_of (take place rs) xs k (Ok (pos 0)) (pos 0) made (omega (arith, length-take place rs)) in
    sym (get_or-take place rs k (Ok (pos 0)) h
    ∙ get_or-map-range_with_len rule 0 (length zs) k k (Ok (pos 0)) (omega arith) (omega arith)) ∙ entry

module _ (f : ℤ → ℤ → Result ℤ Kind) (zs : List ℤ) (stride count : ℕ) (apart : 0 < stride) (some : 1 ≤ count) where
  -- one more result, from the one a stride before it
  pub next_left : (place block_place : ℕ) (xs : List ℤ) (r : Result ℤ Kind) → place < length zs
      → all_or_first_error (take place (map (left_rule f zs stride count) (range_with_len 0 (length zs)))) ≡ Ok xs
      → block_place ≡ place % (count * stride)
      → (nat_lt block_place stride ≡ true → r ≡ Ok (get_or zs place (pos 0)))
      → (nat_lt block_place stride ≡ false → r ≡ f (get_or xs (place - stride) (pos 0)) (get_or zs place (pos 0)))
      → left_rule f zs stride count place ≡ r
  next_left place block_place xs r below made here first later =
      elim (cases_lt block_place stride) [
        | inl h ↦
            let low : place % (count * stride) < stride = omega (arith, here, h) in
            left_first stride count apart some (pos 0) zs f place (first_row stride count apart some place low) ∙ sym (first (lt-ltb block_place stride h))
        | inr h ↦
            let deep = later_row stride count apart some place (omega (arith, here, h)) in
            let far = past_stride stride count apart some place deep in
            left_later stride count apart some (pos 0) zs f place deep
            ∙ ap (λ w. and_then w (λ z. f z (get_or zs place (pos 0)))) (result_before (left_rule f zs stride count) zs place xs made (omega arith) (place - stride) (omega arith))
            ∙ sym (later (le-ltb block_place stride h))
      ]

-- the same for a contiguous line, from the result before
pub next_beside : (f : ℤ → ℤ → Result ℤ Kind) (zs : List ℤ) (count : ℕ) (some : 1 ≤ count) (place first : ℕ) (xs : List ℤ) (before : ℤ) (r : Result ℤ Kind) → place < length zs
    → all_or_first_error (take place (map (left_rule f zs 1 count) (range_with_len 0 (length zs)))) ≡ Ok xs
    → first % count ≡ 0 → first ≤ place → place < first + count
    → (first < place → get_or xs (place - 1) (pos 0) ≡ before)
    → (nat_eq place first ≡ true → r ≡ Ok (get_or zs place (pos 0)))
    → (nat_eq place first ≡ false → r ≡ f before (get_or zs place (pos 0)))
    → left_rule f zs 1 count place ≡ r
next_beside f zs count some place first xs before r below made begins low high last at_first later =
    let here : place - first ≡ place % count = sym (beside_depth count place first some begins low high) ∙ ap (λ k. k % count) (omega arith) in
    next_left f zs 1 count (omega arith) some place (place - first) xs r below made (here ∙ ap (λ m. place % m) (omega arith))
    (λ h. at_first (let near = ltb-true (place - first) 1 h in eq-eqb place first (omega arith)))
    (λ h. let far = ltb-false (place - first) 1 h in
    later (ne_eqb place first (λ e. omega arith)) ∙ ap (λ z. f z (get_or zs place (pos 0))) (sym (last (omega arith))))

-- ---- the numbers read fit 64 bits

pub fits_below : (zs : List ℤ) (place : ℕ) → ((k : ℕ) → k < place → FitsSigned w64 (get_or zs k (pos 0))) → FitsSigned w64 (get_or zs place (pos 0))
    → (k : ℕ) → k < place + 1 → FitsSigned w64 (get_or zs k (pos 0))
fits_below zs place before here k below =
    elim (cases_lt k place) [
      | inl h ↦ before k h
      | inr h ↦ let same : place ≡ k = omega arith in subst (λ j. FitsSigned w64 (get_or zs j (pos 0))) same here
    ]

pub all_fit : (zs : List ℤ) (place : ℕ) → length zs ≤ place → ((k : ℕ) → k < place → FitsSigned w64 (get_or zs k (pos 0))) → All (FitsSigned w64) zs
all_fit zs place h read k d below = subst (FitsSigned w64) (get_or_default zs k (pos 0) d below) (read k (omega arith))

-- ---- results so far, and the next

pub none_yet : {G : Type 0} (rule : ℕ → Result ℤ Kind) (zs : List ℤ) (results : Vec ℤ G) → results.items ≡ [] → vec_len results ≡ 0 → length zs ≤ vec_capacity results
    → AreResultsTo 0 rule zs results
none_yet rule zs results items long room = record {
  long = long;
  room = room;
  made = sym (ap Ok items);
  read = λ k h. absurd (let none : k < 0 = h in omega arith);
}

module _ {G : Type 0} (rule : ℕ → Result ℤ Kind) (zs : List ℤ) (place : ℕ) (results : Vec ℤ G) (before : AreResultsTo place rule zs results) where
  pub results_end : length zs ≤ place → all_or_first_error (map rule (range_with_len 0 (length zs))) ≡ Ok results.items
  results_end h =
      let long = length-map-range_with_len rule 0 (length zs) in
      ap all_or_first_error (sym (take_all place (map rule (range_with_len 0 (length zs))) (omega arith))) ∙ before.made

  module _ (below : place < length zs) (fit : FitsSigned w64 (get_or zs place (pos 0))) where
    pub one_more : (z : ℤ) (more : Vec ℤ G) → rule place ≡ Ok z → FitsSigned w64 z → more.items ≡ results.items ++ to_z w64 (of_z w64 z) ∷ [] → vec_len more ≡ vec_len results + 1
        → vec_capacity results ≤ vec_capacity more → AreResultsTo (place + 1) rule zs more
    one_more z more given fits items longer room =
        let long = length-map-range_with_len rule 0 (length zs) in
        let here = get_or-map-range_with_len rule 0 (length zs) place place (Ok z) below (omega arith) ∙ given in
        record {
          long = longer ∙ ap (λ n. n + 1) before.long;
          room = omega (arith, before.room, room);
          made = rw (items, to_z-of_z w64 z fits) (front_more (map rule (range_with_len 0 (length zs))) place results.items z (omega arith) here before.made);
          read = λ j h. fits_below zs place before.read fit j h;
        }

    pub first_error : (kind : Kind) → rule place ≡ Err kind → all_or_first_error (map rule (range_with_len 0 (length zs))) ≡ Err kind
    first_error kind given =
        let long = length-map-range_with_len rule 0 (length zs) in
        let here = get_or-map-range_with_len rule 0 (length zs) place place (Err kind) below (omega arith) ∙ given in
        front_error (map rule (range_with_len 0 (length zs))) place results.items kind (omega arith) here before.made

    pub fails_here : (kind : Kind) → rule place ≡ Err kind → FailsAt rule zs kind
    fails_here kind given = record { place = place; below = below; is = given; numbers = λ k h. fits_below zs place before.read fit k (omega arith) }

-- the results of whole lines so far
pub record AreLinesTo {G : Type 0} (rule : ℕ → Result ℤ Kind) (zs : List ℤ) (count : ℕ) (results : Vec ℤ G) : Type 0 where
  pub so_far : AreResultsTo (vec_len results) rule zs results
  pub within : vec_len results ≤ length zs
  pub begins : vec_len results < length zs → vec_len results % count ≡ 0

module _ {G : Type 0} (rule : ℕ → Result ℤ Kind) (zs : List ℤ) (count : ℕ) (some : 1 ≤ count) (results : Vec ℤ G) where
  pub no_lines : results.items ≡ [] → vec_len results ≡ 0 → length zs ≤ vec_capacity results → AreLinesTo rule zs count results
  no_lines items long room = record {
    so_far = subst (λ place. AreResultsTo place rule zs results) (sym long) (none_yet rule zs results items long room);
    within = omega (arith, long);
    begins = λ h. ap (λ n. n % count) long ∙ mod-eq_of_lt (omega (arith, some));
  }

  pub more_lines : (more : Vec ℤ G) → vec_len results < length zs → AreLinesTo rule zs count results → AreResultsTo (min (vec_len results + count) (length zs)) rule zs more
      → AreLinesTo rule zs count more
  more_lines more inside before is = record {
    so_far = subst (λ place. AreResultsTo place rule zs more) (sym is.long) is;
    within = omega (arith, is.long);
    begins = λ h. ap (λ n. n % count) (omega (arith, is.long, h)) ∙ add-mod_right (vec_len results) count ∙ before.begins inside;
  }

-- the error that `?` passes on
pub error_read : {G : Type 0} (fold : List ℤ → Result ℤ Kind) (zs : List ℤ) (stride count : ℕ) (kind : Kind) (r : Result (Vec ℤ G) ApplyFault)
    → FailsAt (λ place. fold (run_to (pos 0) zs stride count place)) zs kind → IsErr r × IsErrAnd r (λ e. e ≡ KindFault kind) → HasRead fold zs stride count r
error_read fold zs stride count kind (Ok v) is h = absurd h.1
error_read fold zs stride count kind (Err e) is h = rw h.1 is
