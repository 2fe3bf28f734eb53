-- The trees of lines after others.
use Rattle.std.{proofs.Common.{◌≡◌, ◌∙◌, ℕ, ◌+◌, ◌-◌, ◌*◌, ◌/◌, ◌%◌, ◌<◌, ℤ, pos, List, ◌++◌, length, get_or, sym, ap, subst, arith, inl, inr}, proofs.lemmas.Bool.{cases_lt}, proofs.lemmas.List.{length-append, get_or_append_left, get_or-append-add}}
use Rattle.fold_trees.{specs.LineTrees.{slot_at, nth_node, slot_of, node_of, ArePartsKept, nodes_in_line}, specs.LineBlocks.{line_at}, specs.PartTrees.{AreLines, AreLineTrees}, proofs.LineNodes.{kept_alike}, proofs.LineSpots.{spot, all_slots, slot_within, node_within}}
use Rattle.fold_trees.proofs.MoreLines.{spot_after, whole_behind, lines_behind}

module _ {P : Type 0} (blank : P) (tells : P → List ℤ → Type 0) (count step : ℕ)
    (slots more : List ℤ) (nodes more_nodes : List P) (old : AreLineTrees blank tells count step slots nodes) (new : AreLineTrees blank tells count step more more_nodes) where
  abbrev there : AreLines count step (length slots)
  there = old.lines

  abbrev old_lines : ℕ
  old_lines = length slots / count

  -- the slots and the nodes of the later lines
  slot_behind : (line place : ℕ) → slot_at (line_at count step (old_lines + line)) place ≡ length slots + slot_at (line_at count step line) place
  slot_behind line place =
      spot_after count step (length slots) there count line place ∙ ap (λ n. n + spot count step line place) (sym (all_slots count step (length slots) there))

  node_behind : (line meeting : ℕ) → nth_node (line_at count step (old_lines + line)) meeting ≡ length nodes + nth_node (line_at count step line) meeting
  node_behind line meeting =
      let unit = nodes_in_line count in
      spot_after count step (length slots) there unit line (meeting - 1) ∙ ap (λ n. n + spot unit step line (meeting - 1)) (sym old.sized)

  -- the nodes of both are correct
  first_kept : (line : ℕ) → line < old_lines
      → ArePartsKept tells count (slot_of (line_at count step line) (slots ++ more)) (node_of blank (line_at count step line) (nodes ++ more_nodes))
  first_kept line h =
      let l = line_at count step line in
      kept_alike tells count (slot_of l slots) (slot_of l (slots ++ more)) (node_of blank l nodes) (node_of blank l (nodes ++ more_nodes))
      (λ i p. get_or_append_left slots more (pos 0) (slot_at l i) (slot_within count step (length slots) there line h i p))
      (λ m low high.
      get_or_append_left nodes more_nodes blank (nth_node l m) (node_within count step (length slots) old.lines line h (length nodes) old.sized m low high))
      (old.kept line h)

  later_kept : (line : ℕ) → line < length more / count
      → ArePartsKept tells count (slot_of (line_at count step (old_lines + line)) (slots ++ more))
      (node_of blank (line_at count step (old_lines + line)) (nodes ++ more_nodes))
  later_kept line h =
      let l = line_at count step line in
      let m = line_at count step (old_lines + line) in
      kept_alike tells count (slot_of l more) (slot_of m (slots ++ more)) (node_of blank l more_nodes) (node_of blank m (nodes ++ more_nodes))
      (λ i p. ap (λ k. get_or (slots ++ more) k (pos 0)) (slot_behind line i) ∙ get_or-append-add slots more (slot_at l i) (pos 0))
      (λ n low high. ap (λ k. get_or (nodes ++ more_nodes) k blank) (node_behind line n) ∙ get_or-append-add nodes more_nodes (nth_node l (n)) blank)
      (new.kept line h)

  pub more_trees : AreLineTrees blank tells count step (slots ++ more) (nodes ++ more_nodes)
  more_trees =
      let long = length-append slots more in
      let lines = ap (λ n. n / count) long ∙ lines_behind count step (length slots) (length more) there new.lines in
      record {
        lines = record {
          some = old.lines.some;
          apart = old.lines.apart;
          whole = ap (λ n. n % (count * step)) long ∙ whole_behind count step (length slots) (length more) there new.lines;
        };
        sized = length-append nodes more_nodes ∙ (λ i. old.sized i + new.sized i) ∙ grind arith ∙ ap (λ n. n * nodes_in_line count) (sym lines);
        kept = λ k h. elim (cases_lt k old_lines) [
          | inl before ↦ first_kept k before
          | inr after ↦
              let is : k ≡ old_lines + (k - old_lines) = omega (arith, after) in
              subst (λ n. ArePartsKept tells count (slot_of (line_at count step n) (slots ++ more)) (node_of blank (line_at count step n) (nodes ++ more_nodes))) (sym is)
              (later_kept (k - old_lines) (omega (arith, h, lines, after)))
        ];
      }
