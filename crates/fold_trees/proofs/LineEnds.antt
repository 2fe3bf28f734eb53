-- The nodes of a line, from the first parts to the last.
use Rattle.std.{proofs.Common.{◌≡◌, ◌≢◌, ◌∙◌, ℕ, zero, suc, ◌+◌, ◌-◌, ◌*◌, ◌/◌, ◌%◌, ◌^◌, ◌<◌, ◌≤◌, ◌⊎◌, ◌++◌, min, List, length, set, ap, sym, subst, arith, inl, inr, ℤ}, proofs.lemmas.Nat.{pow_pos, mod-mul-add, div-add-mod'}, proofs.lemmas.Bool.{cases_lt}}
use Rattle.fold_trees.{specs.declared.line.Line.{Line}, specs.LineTrees.{slot_at, nth_node, node_of, segment, IsKept, ArePartsKeptIn, ArePartsKeptBeside, ArePartsKeptUpTo}, proofs.Segments.{segment_split}, proofs.Halves.{half_up, half_grows, half_or_same, half_times, meetings_apart, meeting_some}}
use Rattle.fold_trees.proofs.LineNodes.{node_here, node_other, told_at}

-- ---- the slots and the nodes of a contiguous line

pub near_slot : (l : Line) (place : ℕ) → l.step ≡ 1 → slot_at l place ≡ l.slot + place
near_slot l place near = ap (λ s. l.slot + place * s) near ∙ omega arith

pub near_node : (l : Line) (k : ℕ) → l.step ≡ 1 → nth_node l k ≡ l.node + (k - 1)
near_node l k near = ap (λ s. l.node + (k - 1) * s) near ∙ omega arith

-- ---- one more part that ends at a place

pub end_is : (end half : ℕ) → end % (2 * half) ≡ 0 → 0 < end → end ≡ (end / (2 * half) - 1) * (2 * half) + 2 * half
end_is end half whole some = pick (end / (2 * half)) (sym (div-add-mod' end (2 * half)))
  where
    pick : (k : ℕ) → end ≡ k * (2 * half) + end % (2 * half) → end ≡ (k - 1) * (2 * half) + 2 * half
    pick zero is = let no : ⊥ = omega (arith, is, whole, some) in absurd no
    pick (suc k) is =
        let more : suc k * (2 * half) ≡ k * (2 * half) + 2 * half = grind arith in
        let less : (suc k - 1) * (2 * half) ≡ k * (2 * half) = ap (λ j. j * (2 * half)) (omega arith) in
        omega (arith, is, whole, more, less)

module _ {P : Type 0} (blank : P) (tells : P → List ℤ → Type 0) (l : Line) (nodes : List P) (x : ℕ → ℤ) (end half low : ℕ) (half_is : half ≡ 2 * 2 ^ low)
    (whole : end % (2 * half) ≡ 0) (some : 0 < end) (below : end < l.count) (kept : ArePartsKeptUpTo tells end half l.count x (node_of blank l nodes)) where
  abbrev pub part : ℕ
  part = end / (2 * half) - 1

  abbrev pub from : ℕ
  from = part * (2 * half)

  ends : end ≡ part * (2 * half) + 2 * half
  ends = end_is end half whole some

  pub first_told : tells (node_of blank l nodes (from + half / 2)) (segment x from half)
  first_told =
      let start : from ≡ 2 * part * (2 * 2 ^ low) = ap (λ n. part * (2 * n)) half_is ∙ grind arith in
      told_at tells l.count half low x (node_of blank l nodes) half_is from (2 * part) start (omega (arith, ends, below)) (kept low (2 * part) (inl (omega (arith, sym start, ends, half_is, pow_pos low))))

  pub second_told : tells (node_of blank l nodes (from + half + half / 2)) (segment x (from + half) half)
  second_told =
      let start : from + half ≡ (2 * part + 1) * (2 * 2 ^ low) = (λ i. part * (2 * half_is i) + half_is i) ∙ grind arith in
      told_at tells l.count half low x (node_of blank l nodes) half_is (from + half) (2 * part + 1) start (omega (arith, ends, below)) (kept low (2 * part + 1) (inr (omega (arith, sym start, ends, half_is), omega (arith, half_is))))

  module _ (s : P) (apart : 0 < l.step) (inside : nth_node l (end - half) < length nodes) (told : tells s (segment x from half ++ segment x (from + half) half)) where
    meets : end - half ≡ part * (2 * 2 ^ suc low) + 2 ^ suc low
    meets =
        let up = half_up low in
        omega (arith, ends, ap (λ n. part * (2 * n)) (half_is ∙ sym up), up, half_is)

    after : ℕ → P
    after = node_of blank l (set nodes (nth_node l (end - half)) s)

    -- the nodes of parts that meet elsewhere stay
    stays : (level place : ℕ) → place * (2 * 2 ^ level) + 2 ^ level ≢ end - half
        → after (place * (2 * 2 ^ level) + 2 ^ level) ≡ node_of blank l nodes (place * (2 * 2 ^ level) + 2 ^ level)
    unfolding after
    stays level place other =
        node_other blank l nodes (end - half) ((place * (2 * 2 ^ level) + 2 ^ level)) s apart (omega (arith, meets, meeting_some (suc low) part)) (meeting_some level place) other

    -- a part of another width does not meet there
    differ : (level place : ℕ) → 2 ^ level ≢ 2 ^ suc low → place * (2 * 2 ^ level) + 2 ^ level ≢ end - half
    differ level place other e = other (ap (λ k. 2 ^ k) (meetings_apart level place (suc low) part (e ∙ meets)))

    old : (level place : ℕ) → place * (2 * 2 ^ level) + 2 ^ level ≢ end - half
        → (place * (2 * 2 ^ level) + 2 * 2 ^ level < end ⊎ place * (2 * 2 ^ level) + 2 * 2 ^ level ≡ end × 2 * 2 ^ level ≤ half)
        → IsKept tells l.count x after (place * (2 * 2 ^ level)) (2 ^ level)
    old level place other one inside_line = rw (stays level place other) (kept level place one inside_line)

    all_told : tells s (segment x from (half + half))
    all_told = subst (tells s) (sym (segment_split x from half half)) told

    pub kept_up : ArePartsKeptUpTo tells end (2 * half) l.count x (node_of blank l (set nodes (nth_node l (end - half)) s))
    unfolding after
    kept_up level place which inside_line = elim which [
      | inl before ↦ old level place (λ e.
          let same = ap (λ k. 2 ^ k) (meetings_apart level place (suc low) part (e ∙ meets)) in
          let no : ⊥ = omega (arith, e, same, before, half_is, half_up low) in
          no) (inl before) inside_line
      | inr here ↦
          let up = half_up low in
          elim (half_or_same level (suc low) (omega (arith, here.1, half_is, up))) [
            | inl less ↦
                old level place (differ level place (λ same. let no : ⊥ = omega (arith, same, less, pow_pos level) in no)) (inr (here.0, omega (arith, less, half_is, up))) inside_line
            | inr same ↦
                let meeting : place * (2 * 2 ^ level) + 2 ^ level ≡ end - half = omega (arith, here.0, same, half_is, up) in
                let start : place * (2 * 2 ^ level) ≡ from = omega (arith, here.0, same, half_is, up, ends) in
                let long : min (2 * 2 ^ level) (l.count - place * (2 * 2 ^ level)) ≡ half + half = omega (arith, here.0, same, half_is, up, below) in
                subst (λ t. tells t (segment x (place * (2 * 2 ^ level)) (min (2 * 2 ^ level) (l.count - place * (2 * 2 ^ level)))))
                (sym (ap after meeting ∙ node_here blank l nodes (end - half) s inside))
                (subst (tells s) (sym (λ i. segment x (start i) (long i))) all_told)
          ]
    ]

module _ {P : Type 0} (tells : P → List ℤ → Type 0) where
  -- where no wider part ends there, all parts within are correct
  pub kept_within : (end half low count : ℕ) (x : ℕ → ℤ) (node : ℕ → P) → half ≡ 2 * 2 ^ low → end % (2 * half) ≢ 0 → ArePartsKeptUpTo tells end half count x node → ArePartsKeptIn tells 0 end count x node
  kept_within end half low count x node half_is uneven kept level place first last inside = elim (cases_lt (place * (2 * 2 ^ level) + 2 * 2 ^ level) end) [
    | inl before ↦ kept level place (inl before) inside
    | inr enough ↦
        let here : place * (2 * 2 ^ level) + 2 * 2 ^ level ≡ end = omega (arith, last, enough) in
        elim (cases_lt low level) [
          | inl wide ↦ absurd (uneven (multiple (omega (arith, wide)) here))
          | inr narrow ↦ kept level place (inr (here, omega (arith, half_grows level low narrow, half_is))) inside
        ]
  ]
    where
      multiple : suc low ≤ level → place * (2 * 2 ^ level) + 2 * 2 ^ level ≡ end → end % (2 * half) ≡ 0
      multiple levels here =
          let rest = 2 ^ (level - suc low) in
          let pieces : 2 ^ level ≡ rest * half = half_times (suc low) level levels ∙ ap (λ n. rest * n) (half_up low ∙ sym half_is) in
          let times : end ≡ (place + 1) * rest * (2 * half) + 0 = sym here ∙ ap (λ n. place * (2 * n) + 2 * n) pieces ∙ grind arith in
          ap (λ n. n % (2 * half)) times ∙ mod-mul-add ((place + 1) * rest) (2 * half) 0 (omega (arith, half_is, pow_pos low))

  -- parts end at even places
  ends_within : (level place end : ℕ) → end % 2 ≡ 0 → place * (2 * 2 ^ level) + 2 * 2 ^ level ≤ end + 1 → place * (2 * 2 ^ level) + 2 * 2 ^ level ≤ end
  ends_within level place end whole most =
      let even : place * (2 * 2 ^ level) + 2 * 2 ^ level ≡ 2 * (place * 2 ^ level + 2 ^ level) = grind arith in
      omega (arith, even, whole, most)

  -- ---- the next part of two numbers

  -- the next node is correct, and the nodes of earlier parts stay
  pub least_more : (from count : ℕ) (x : ℕ → ℤ) (m n : ℕ → P) → from % 2 ≡ 0 → from + 2 ≤ count
      → ((meeting : ℕ) → 1 ≤ meeting → meeting < from + 1 → n meeting ≡ m meeting) → tells (n (from + 1)) (segment x from 2)
      → ArePartsKeptIn tells 0 from count x m → ArePartsKeptUpTo tells (from + 2) 2 count x n
  least_more from count x m n whole full same told kept level place which inside = elim which [
    | inl before ↦
        let ends = ends_within level place from whole (omega (arith, before)) in
        rw (same (place * (2 * 2 ^ level) + 2 ^ level) (omega (arith, pow_pos level)) (omega (arith, ends, pow_pos level))) (kept level place (omega arith) (omega (arith, ends)) inside)
    | inr here ↦ pick level here.0 here.1
  ]
    where
      pick : (level : ℕ) → place * (2 * 2 ^ level) + 2 * 2 ^ level ≡ from + 2 → 2 * 2 ^ level ≤ 2
          → tells (n (place * (2 * 2 ^ level) + 2 ^ level)) (segment x (place * (2 * 2 ^ level)) (min (2 * 2 ^ level) (count - place * (2 * 2 ^ level))))
      pick zero here few =
          let start : place * 2 ≡ from = omega (arith, here) in
          let meeting : place * 2 + 1 ≡ from + 1 = omega (arith, start) in
          let long : min 2 (count - place * 2) ≡ 2 = omega (arith, start, full) in
          subst (λ k. tells (n k) (segment x (place * 2) (min 2 (count - place * 2)))) (sym meeting)
          (subst (tells (n (from + 1))) (sym (λ i. segment x (start i) (long i))) told)
      pick (suc more) here few =
          let no : ⊥ = omega (arith, half_up more, pow_pos more, few) in
          absurd no

  -- after the last pair before the last number, all parts without that number are correct; further nodes change nothing
  pub kept_beside_last : (done count : ℕ) (x : ℕ → ℤ) (m n : ℕ → P) → 0 < count → done % 2 ≡ 0 → count - 1 < done + 2
      → ((meeting : ℕ) → 1 ≤ meeting → meeting < done → n meeting ≡ m meeting) → ArePartsKeptIn tells 0 done count x m → ArePartsKeptBeside tells (count - 1) count x n
  kept_beside_last done count x m n some whole last same kept level place which inside = elim which [
    | inl behind ↦ let no : ⊥ = omega (arith, behind, inside, some) in absurd no
    | inr before ↦
        let ends = ends_within level place done whole (omega (arith, before, last)) in
        rw (same (place * (2 * 2 ^ level) + 2 ^ level) (omega (arith, pow_pos level)) (omega (arith, ends, pow_pos level))) (kept level place (omega arith) (omega (arith, ends)) inside)
  ]
