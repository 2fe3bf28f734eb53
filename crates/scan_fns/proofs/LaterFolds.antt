-- The folds of the first numbers of a list, from a place on.
use Rattle.std.{proofs.Common.{◌≡◌, ℕ, zero, suc, ◌+◌, ◌-◌, ◌*◌, ◌%◌, ◌<◌, ◌≤◌, List, [], ◌∷◌, ◌++◌, length, map, take, drop, ℤ, pos, Result, Ok, Err, refl, ap, sym, ◌∙◌, arith}, specs.List.{range_with_len}, proofs.lemmas.List.{length-drop, length-take, get_or-drop, take-take, take-append-drop}}
use Rattle.std.{proofs.lemmas.List.FromFn.{fill_by_all, length-map-range_with_len, get_or-map-range_with_len, take-map-range_with_len}, proofs.Math.Nat.{mod-eq_of_lt}}
use Rattle.arrays_core.{specs.declared.item.Kind.{Kind}, specs.declared.item.Kind.TheVariants.{Domain}, specs.declared.fault.ApplyFault.{ApplyFault}, specs.declared.fault.ApplyFault.TheVariants.{Kind as KindFault, NoMemory}, specs.Items.{all_or_first_error, and_then}}
use Rattle.item_fns.{specs.NumberLists.{IsListAnswerTo}, specs.Folds.{strided, folded}, proofs.RightFolds.{strided_run}}
use Rattle.reduce_fns.{specs.declared.axis_lines.AxisLines.{AxisLines}, proofs.ListResults.{after_parts, all_then}, proofs.Firsts.{same_rules}}
use Rattle.scan_fns.specs.LinearScan.{scans_of, run_to, scanned, folds_from}

-- a list as one line
pub one_line : (f : ℤ → ℤ → Result ℤ Kind) (lines : AxisLines) (zs : List ℤ) → lines.numbers.now ≡ zs → lines.stride ≡ 1 → lines.count ≡ length zs
    → scans_of f lines ≡ scanned (folded f) zs 1 (length zs)
one_line f lines zs numbers beside count =
    ap (λ ys. scanned (folded f) ys lines.stride lines.count) numbers
    ∙ ap (λ s. scanned (folded f) zs s lines.count) beside
    ∙ ap (scanned (folded f) zs 1) count

-- ---- results after the first ones

pub later_results : (n : ℕ) (rs : List (Result ℤ Kind)) (zs : List ℤ) → all_or_first_error rs ≡ Ok zs → all_or_first_error (drop n rs) ≡ Ok (drop n zs)
later_results zero rs zs h = h
later_results (suc n) [] zs h = let none : zs ≡ [] = cc in rw none refl
later_results (suc n) (Err k ∷ rs) zs h = cc
later_results (suc n) (Ok x ∷ rs) zs h =
    after_parts x (all_or_first_error rs) zs (all_or_first_error (drop n rs) ≡ Ok (drop (suc n) zs)) h (λ rest made is.
    later_results n rs rest made ∙ ap (λ ys. Ok (drop (suc n) ys)) (sym is))

pub later_error : (n : ℕ) (rs : List (Result ℤ Kind)) (zs : List ℤ) (k : Kind) → all_or_first_error (take n rs) ≡ Ok zs → all_or_first_error rs ≡ Err k → all_or_first_error (drop n rs) ≡ Err k
later_error n rs zs k front h =
    failed (all_or_first_error (drop n rs)) (sym (all_then (take n rs) (drop n rs) zs front) ∙ ap all_or_first_error (take-append-drop n rs) ∙ h)
  where
    failed : (r : Result (List ℤ) Kind) → and_then r (λ ys. Ok (zs ++ ys)) ≡ Err k → r ≡ Err k
    failed (Ok ys) g = cc
    failed (Err e) g = g

module _ (f : ℤ → ℤ → Result ℤ Kind) where
  -- the folds up to each of the first n places
  abbrev first_folds : List ℤ → ℕ → List (Result ℤ Kind)
  first_folds zs n = map (λ place. folded f (take (place + 1) zs)) (range_with_len 0 n)

  run_whole : (zs : List ℤ) (place : ℕ) → place < length zs → run_to (pos 0) zs 1 (length zs) place ≡ take (place + 1) zs
  run_whole zs place below =
      ap (λ d. strided (pos 0) zs (place - d * 1) 1 (d + 1)) (ap (λ m. m % length zs) (omega arith) ∙ mod-eq_of_lt below)
      ∙ ap (λ m. strided (pos 0) zs m 1 (place + 1)) (omega arith)
      ∙ sym (strided_run (pos 0) zs 0 (place + 1) (omega arith))

  -- the scan of one line is the folds up to each place
  scanned_line : (zs : List ℤ) → scanned (folded f) zs 1 (length zs) ≡ all_or_first_error (first_folds zs (length zs))
  scanned_line zs = ap all_or_first_error (same_rules _ _ (length zs) (λ place below. ap (folded f) (run_whole zs place below)))

  -- the scan of the first numbers is the start of the scan
  scanned_first : (zs : List ℤ) (n : ℕ) → n ≤ length zs → scanned (folded f) (take n zs) 1 n ≡ all_or_first_error (take n (first_folds zs (length zs)))
  scanned_first zs n few =
      let long : length (take n zs) ≡ n = omega (arith, length-take n zs) in
      ap (scanned (folded f) (take n zs) 1) (sym long)
      ∙ scanned_line (take n zs)
      ∙ ap (λ m. all_or_first_error (first_folds (take n zs) m)) long
      ∙ ap all_or_first_error (same_rules _ _ n (λ place below. ap (folded f) (take-take (place + 1) n zs (omega arith))))
      ∙ ap all_or_first_error (sym (take-map-range_with_len (λ place. folded f (take (place + 1) zs)) 0 (length zs) n few))

  -- the folds from a place on are the rest of all folds
  folds_behind : (zs : List ℤ) (first : ℕ) → 1 ≤ first → first ≤ length zs → drop (first - 1) (first_folds zs (length zs)) ≡ map (λ before. folded f (take (first + before) zs)) (range_with_len 0 (length zs + 1 - first))
  folds_behind zs first low high =
      let n = length zs in
      let rule : ℕ → Result ℤ Kind = λ place. folded f (take (place + 1) zs) in
      let later : ℕ → Result ℤ Kind = λ before. folded f (take (first + before) zs) in
      let long = length-map-range_with_len rule 0 n in
      fill_by_all later (drop (first - 1) (first_folds zs n)) (n + 1 - first) (Err Domain) (omega (arith, length-drop (first - 1) (first_folds zs n))) (λ before h.
      let place : first - 1 + before + 1 ≡ first + before = omega arith in
      get_or-drop (first - 1) (first_folds zs n) before (Err Domain)
      ∙ get_or-map-range_with_len rule 0 n (first - 1 + before) (first - 1 + before) (Err Domain) (omega arith) (omega arith)
      ∙ ap (λ m. folded f (take m zs)) place)

  pub later_folds : (zs folds : List ℤ) (first : ℕ) → 1 ≤ first → first ≤ length zs → scanned (folded f) zs 1 (length zs) ≡ Ok folds → folds_from f zs first ≡ Ok (drop (first - 1) folds)
  later_folds zs folds first low high h =
      ap all_or_first_error (sym (folds_behind zs first low high))
      ∙ later_results (first - 1) (first_folds zs (length zs)) folds (sym (scanned_line zs) ∙ h)

  pub later_fails : (zs front : List ℤ) (first : ℕ) (k : Kind) → 1 ≤ first → first ≤ length zs → scanned (folded f) zs 1 (length zs) ≡ Err k → scanned (folded f) (take (first - 1) zs) 1 (first - 1) ≡ Ok front
      → folds_from f zs first ≡ Err k
  later_fails zs front first k low high h before =
      ap all_or_first_error (sym (folds_behind zs first low high))
      ∙ later_error (first - 1) (first_folds zs (length zs)) front k (sym (scanned_first zs (first - 1) (omega arith)) ∙ before) (sym (scanned_line zs) ∙ h)

  -- an error of the whole scan, or a lack of memory, if the earlier places succeed
  pub later_fault : (zs : List ℤ) (first : ℕ) → 1 ≤ first → first ≤ length zs → (G : Type 0) (fault : ApplyFault) → IsListAnswerTo {G = G} (scanned (folded f) zs 1 (length zs)) (Err fault)
      → (front : List ℤ) × (scanned (folded f) (take (first - 1) zs) 1 (first - 1) ≡ Ok front) → IsListAnswerTo {G = G} (folds_from f zs first) (Err fault)
  later_fault zs first low high G (KindFault k) h before = later_fails zs before.0 first k low high h before.1
  later_fault zs first low high G NoMemory h before = tt
