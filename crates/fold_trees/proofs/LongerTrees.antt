-- Interleaved lines, each with one more number.
use Rattle.std.{proofs.Common.{◌≡◌, ◌∙◌, ℕ, ◌+◌, ◌-◌, ◌*◌, ◌/◌, ◌%◌, ◌^◌, ◌<◌, ◌≤◌, ℤ, pos, List, ◌++◌, length, get_or, sym, ap, subst, arith}, proofs.lemmas.List.{length-append, get_or_append_left}, proofs.lemmas.Nat.{div_below, div-mul-add, mod-mul-add}}
use Rattle.fold_trees.{specs.LineTrees.{slot_at, nth_node, slot_of, shorter, IsIn, node_of, ArePartsKept, nodes_in_line}, specs.LineBlocks.{line_at}, specs.PartTrees.{AreLines, AreLineTrees}, proofs.LinePlaces.{some_places}, proofs.LineSpots.{spot, slot_within, node_within, in_both}, proofs.LineNodes.{kept_alike}}

-- ---- the slots of the lines

-- the lines of the first block
pub in_first : (step line : ℕ) → 0 < step → line < step → line / step ≡ 0
in_first step line apart h = let below = div_below line step 1 apart (omega (arith, h)) in omega (arith, below)

-- a place of such a line has the same spot where the lines are longer
pub first_spot : (unit other step line place : ℕ) → 0 < step → line < step → spot unit step line place ≡ spot other step line place
first_spot unit other step line place apart h =
    let first = in_first step line apart h in
    (λ i. first i * (unit * step) + line % step + place * step) ∙ (grind arith) ∙ sym (λ i. first i * (other * step) + line % step + place * step)

-- all slots form one block of lines
pub one_block : (count step slots : ℕ) → 0 < count → 0 < step → slots ≡ count * step → AreLines count step slots
one_block count step slots some apart is = record {
  some = some;
  apart = apart;
  whole = ap (λ n. n % (count * step)) whole ∙ mod-mul-add 1 (count * step) 0 (some_places count step some apart);
}
  where
    whole : slots ≡ 1 * (count * step) + 0
    whole = is ∙ grind arith

-- the block has as many lines as the step
pub lines_in_block : (count step slots : ℕ) → 0 < count → slots ≡ count * step → slots / count ≡ step
lines_in_block count step slots some is = ap (λ n. n / count) (is ∙ grind arith) ∙ div-mul-add step count 0 some

-- both lists are long enough for each of them
pub in_block : (count step numbers nodes line : ℕ) → 0 < count → 0 < step → numbers ≡ count * step → nodes ≡ nodes_in_line count * step → line < step → numbers < 2 ^ 62
    → IsIn (line_at count step line) numbers nodes
in_block count step numbers nodes line some apart is sized h few =
    let lines = lines_in_block count step numbers some is in
    let whole = sized ∙ grind arith ∙ ap (λ n. n * nodes_in_line count) (sym lines) in
    in_both count step numbers (one_block count step numbers some apart is) line (omega (arith, h, lines)) nodes whole few

module _ {P : Type 0} (blank : P) (tells : P → List ℤ → Type 0) (count step : ℕ) (slots : List ℤ) (nodes : List P) where
  -- the number of nodes of such lines
  pub held_nodes : AreLineTrees blank tells count step slots nodes → length slots ≡ count * step → length nodes ≡ nodes_in_line count * step
  held_nodes trees is = trees.sized ∙ ap (λ n. n * nodes_in_line count) (lines_in_block count step (length slots) trees.lines.some is) ∙ grind arith

  -- the trees of one block of lines
  pub longer_trees : 0 < count → 0 < step → length slots ≡ count * step → length nodes ≡ nodes_in_line count * step
      → ((line : ℕ) → line < step → ArePartsKept tells count (slot_of (line_at count step line) slots) (node_of blank (line_at count step line) nodes))
      → AreLineTrees blank tells count step slots nodes
  longer_trees some apart slot_count node_count kept =
      let lines = lines_in_block count step (length slots) some slot_count in
      record {
        lines = one_block count step (length slots) some apart slot_count;
        sized = node_count ∙ grind arith ∙ ap (λ n. n * nodes_in_line count) (sym lines);
        kept = λ line below. kept line (omega (arith, below, lines));
      }

-- the number of slots of the longer lines
pub all_long : (count step : ℕ) (slots numbers : List ℤ) → length slots ≡ count * step → length numbers ≡ step → length (slots ++ numbers) ≡ (count + 1) * step
all_long count step slots numbers between wide =
    let sum : count * step + step ≡ (count + 1) * step = grind arith in
    omega (arith, length-append slots numbers, between, wide, sum)

-- ---- before the new numbers are added to the trees

module _ {P : Type 0} (blank : P) (tells : P → List ℤ → Type 0) (count step : ℕ)
    (slots numbers : List ℤ) (nodes more : List P) (old : AreLineTrees blank tells count step slots nodes) (between : length slots ≡ count * step) where
  there : (line : ℕ) → line < step → line < length slots / count
  there line below = omega (arith, below, lines_in_block count step (length slots) old.lines.some between)

  -- the numbers of a line
  pub numbers_without : (line : ℕ) → line < step → (i : ℕ) → i < count → slot_of (shorter (line_at (count + 1) step line)) (slots ++ numbers) i ≡ slot_of (line_at count step line) slots i
  numbers_without line below i p =
      ap (λ k. get_or (slots ++ numbers) k (pos 0)) (first_spot (count + 1) count step line i old.lines.apart below)
      ∙ get_or_append_left slots numbers (pos 0) (slot_at (line_at count step line) i) (slot_within count step (length slots) old.lines line (there line below) i p)

  -- the nodes of a line
  nodes_without : (line : ℕ) → line < step → (meeting : ℕ) → 1 ≤ meeting → meeting < count
      → node_of blank (shorter (line_at (count + 1) step line)) (nodes ++ more) meeting ≡ node_of blank (line_at count step line) nodes meeting
  nodes_without line below meeting low high =
      ap (λ k. get_or (nodes ++ more) k blank) (first_spot (nodes_in_line (count + 1)) (nodes_in_line count) step line (meeting - 1) old.lines.apart below)
      ∙ get_or_append_left nodes more blank (nth_node (line_at count step line) meeting)
      (node_within count step (length slots) old.lines line (there line below) (length nodes) old.sized meeting low high)

  -- the nodes are correct for the lines without the new numbers
  pub kept_without : (line : ℕ) → line < step
      → ArePartsKept tells (count + 1 - 1) (slot_of (shorter (line_at (count + 1) step line)) (slots ++ numbers)) (node_of blank (shorter (line_at (count + 1) step line)) (nodes ++ more))
  kept_without line below =
      let l = line_at count step line in
      let m = shorter (line_at (count + 1) step line) in
      subst (λ n. ArePartsKept tells n (slot_of m (slots ++ numbers)) (node_of blank m (nodes ++ more))) (omega arith)
      (kept_alike tells count (slot_of l slots) (slot_of m (slots ++ numbers)) (node_of blank l nodes) (node_of blank m (nodes ++ more)) (numbers_without line below)
      (nodes_without line below) (old.kept line (there line below)))

  -- the number of nodes of the longer lines
  pub nodes_long : length numbers ≡ step → length more ≡ length numbers → length (nodes ++ more) ≡ nodes_in_line (count + 1) * step
  nodes_long wide is =
      let sum : (nodes_in_line count + 1) * step ≡ nodes_in_line count * step + step = grind arith in
      let whole : nodes_in_line count + 1 ≡ nodes_in_line (count + 1) = omega (arith, old.lines.some) in
      omega (arith, length-append nodes more, held_nodes blank tells count step slots nodes old between, is, wide, sum) ∙ ap (λ n. n * step) whole
