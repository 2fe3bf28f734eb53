-- A number is written at a place of all lines.
use Rattle.std.{proofs.Common.{◌≡◌, ◌≢◌, ◌∙◌, ℕ, ◌*◌, ◌/◌, ◌%◌, ◌<◌, ◌≤◌, ℤ, pos, List, length, get_or, set, sym, ap, subst, arith, inl, inr}, proofs.lemmas.Bool.{cases_eq}, proofs.lemmas.List.{ext_get_or, length-set, get_or-set_same, get_or-set_other}, proofs.lemmas.Nat.{mod_below}}
use Rattle.fold_trees.{specs.ArrayLines.{line_through}, specs.PartTrees.{AreLines, AreLineTrees}, proofs.LineParts.{replaced_here, replaced_other}, proofs.LinePlaces.{place_spot}, specs.declared.line.Line.{Line}, specs.LineTrees.{slot_at, slot_of, replaced, HasSlots, nth_node, node_of, ArePartsKept, nodes_in_line}}
use Rattle.fold_trees.{proofs.LineSpots.{nodes_apart, slots_apart}, proofs.Halves.{steps_apart}, proofs.LineNodes.{kept_alike}, specs.LineBlocks.{line_at}}

module _ (l : Line) (numbers : List ℤ) (has : HasSlots l (length numbers)) where
  put_here : (place : ℕ) (z : ℤ) → place < l.count → slot_of l (set numbers (slot_at l place) z) place ≡ z
  put_here place z h = get_or-set_same numbers (slot_at l place) z (pos 0) (has.slot place h)

  put_other : (place : ℕ) (z : ℤ) (i : ℕ) → i ≢ place → slot_of l (set numbers (slot_at l place) z) i ≡ slot_of l numbers i
  put_other place z i other = get_or-set_other numbers (slot_at l place) (slot_at l i) z (pos 0) (λ e. other (steps_apart i place l.step has.apart (omega (arith, e))))

-- another number at a place of a line
pub number_set : (l : Line) (numbers : List ℤ) (place : ℕ) (z : ℤ) → HasSlots l (length numbers) → place < l.count
    → (i : ℕ) → slot_of l (set numbers (slot_at l place) z) i ≡ replaced (slot_of l numbers) place z i
number_set l numbers place z has inside i = elim (cases_eq i place) [
  | inl e ↦
      ap (slot_of l (set numbers (slot_at l place) z)) e
      ∙ put_here l numbers has place z inside
      ∙ sym (replaced_here (slot_of l numbers) place z) ∙ sym (ap (replaced (slot_of l numbers) place z) e)
  | inr other ↦ put_other l numbers has place z i other ∙ sym (replaced_other (slot_of l numbers) place z i other)
]

-- a number is written at a place of a line, and the nodes of its parts are correct; other numbers, and nodes of other lines, stay
pub record IsWritten {P : Type 0} (blank : P) (tells : P → List ℤ → Type 0) (l : Line) (place : ℕ) (z : ℤ) (numbers after : List ℤ)
    (nodes nodes_after : List P) : Type 0 where
  pub numbers_are : (i : ℕ) → i < l.count → slot_of l after i ≡ replaced (slot_of l numbers) place z i
  pub kept : ArePartsKept tells l.count (slot_of l after) (node_of blank l nodes_after)
  pub other_slots : (p : ℕ) → p ≢ slot_at l place → get_or after p (pos 0) ≡ get_or numbers p (pos 0)
  pub other_nodes : (p : ℕ) → ((meeting : ℕ) → 1 ≤ meeting → meeting < l.count → p ≢ nth_node l meeting) → get_or nodes_after p blank ≡ get_or nodes p blank
  pub slot_count : length after ≡ length numbers
  pub node_count : length nodes_after ≡ length nodes

module _ {P : Type 0} (blank : P) (tells : P → List ℤ → Type 0) (count step : ℕ) (numbers after : List ℤ) (nodes nodes_after : List P) (place : ℕ) (z : ℤ)
    (trees : AreLineTrees blank tells count step numbers nodes) (inside : place < length numbers)
    (new : IsWritten blank tells (line_at count step (line_through count step place)) (place / step % count) z numbers after nodes nodes_after) where
  -- the line of the place
  abbrev line : ℕ
  line = line_through count step place

  abbrev at : ℕ
  at = place / step % count

  there : slot_at (line_at count step line) at ≡ place
  there = place_spot count step trees.lines.some trees.lines.apart place

  -- the numbers of all lines
  pub written_numbers : after ≡ set numbers place z
  written_numbers = ext_get_or (pos 0) after (set numbers place z) (new.slot_count ∙ sym (length-set numbers place z)) same
    where
      here : get_or after place (pos 0) ≡ z
      here =
          ap (λ k. get_or after k (pos 0)) (sym there)
          ∙ new.numbers_are at (mod_below (place / step) count trees.lines.some)
          ∙ replaced_here (slot_of (line_at count step line) numbers) at z

      same : (k : ℕ) → k < length after → get_or after k (pos 0) ≡ get_or (set numbers place z) k (pos 0)
      same k h = elim (cases_eq k place) [
        | inl e ↦
            ap (λ j. get_or after j (pos 0)) e ∙ here ∙ sym (get_or-set_same numbers place z (pos 0) inside) ∙ sym (ap (λ j. get_or (set numbers place z) j (pos 0)) e)
        | inr apart ↦ new.other_slots k (λ e. apart (e ∙ there)) ∙ sym (get_or-set_other numbers place k z (pos 0) apart)
      ]

  -- the nodes of all lines
  pub written_trees : AreLineTrees blank tells count step after nodes_after
  written_trees = record {
    lines = subst (AreLines count step) (sym new.slot_count) trees.lines;
    sized = new.node_count ∙ trees.sized ∙ ap (λ n. n / count * nodes_in_line count) (sym new.slot_count);
    kept = λ k h. elim (cases_eq k line) [
      | inl e ↦ subst (λ j. ArePartsKept tells count (slot_of (line_at count step j) after) (node_of blank (line_at count step j) nodes_after)) (sym e) new.kept
      | inr other ↦
          let l = line_at count step k in
          kept_alike tells count (slot_of l numbers) (slot_of l after) (node_of blank l nodes) (node_of blank l nodes_after)
          (λ i p. new.other_slots (slot_at l i) (slots_apart count step k line i at trees.lines.apart p (mod_below (place / step) count trees.lines.some) other))
          (λ m low high. new.other_nodes (nth_node l m) (λ n low2 high2. nodes_apart count step k line m n trees.lines.apart low high low2 high2 other))
          (trees.kept k (omega (arith, h, ap (λ n. n / count) new.slot_count)))
    ];
  }
