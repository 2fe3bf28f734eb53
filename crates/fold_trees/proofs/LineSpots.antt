-- The slots and the nodes of different lines.
use Rattle.std.{proofs.Common.{◌≡◌, ◌≢◌, ◌∙◌, ℕ, ◌+◌, ◌-◌, ◌*◌, ◌/◌, ◌%◌, ◌^◌, ◌<◌, ◌≤◌, sym, ap, arith}, proofs.lemmas.Nat.{div-add-mod', div-mul-add, same_from_place, mul-add-lt, div_below, mod_below, mul-le}}
use Rattle.fold_trees.{specs.LineTrees.{nth_node, HasSlots, IsIn, nodes_in_line}, specs.PartTrees.{AreLines}, specs.LineBlocks.{line_at}}

-- the spot of a place of a line, among lines with `unit` places each
abbrev pub spot : (unit step line place : ℕ) → ℕ
spot unit step line place = line / step * (unit * step) + line % step + place * step

-- the spot as a place of a grid
pub spot_is : (unit step line place : ℕ) → spot unit step line place ≡ (line / step * unit + place) * step + line % step
spot_is unit step line place = grind arith

-- spots of different lines are apart
pub same_line : (unit step a b i j : ℕ) → 0 < step → i < unit → j < unit → spot unit step a i ≡ spot unit step b j → a ≡ b
same_line unit step a b i j some p q e =
    let both = same_from_place (a / step * unit + i) (a % step) (b / step * unit + j) (b % step) step (mod_below a step some) (mod_below b step some)
    (sym (spot_is unit step a i) ∙ e ∙ spot_is unit step b j) in
    sym (div-add-mod' a step) ∙ (λ k. (same_from_place (a / step) i (b / step) j unit p q both.0).0 k * step + both.1 k) ∙ div-add-mod' b step

-- all spots lie within
pub spot_inside : (unit step blocks line place : ℕ) → 0 < step → line < blocks * step → place < unit → spot unit step line place < blocks * (unit * step)
spot_inside unit step blocks line place some h p =
    let row = mul-add-lt (line / step) unit place blocks (div_below line step blocks some h) p in
    let order : step * (unit * blocks) ≡ blocks * (unit * step) = grind arith in
    omega (arith, mul-add-lt (line / step * unit + place) step (line % step) (unit * blocks) row (mod_below line step some), order, spot_is unit step line place)

-- lines whose numbers fit into fewer than 2^62 slots are as short
pub short_lines : (count step slots before : ℕ) → 0 < step → before + count * step ≤ slots → slots < 2 ^ 62 → count < 2 ^ 62
short_lines count step slots before apart ends few =
    omega (arith, ends, mul-le count 1 count step (omega arith) (omega (arith, apart)), few)

module _ (count step slots : ℕ) (are : AreLines count step slots) where
  -- the number of blocks of lines
  pub blocks : ℕ
  blocks = slots / (count * step)

  pub slots_are : slots ≡ blocks * (count * step)
  unfolding blocks
  slots_are = let parts = div-add-mod' slots (count * step) in omega (arith, parts, are.whole)

  pub lines_are : slots / count ≡ blocks * step
  lines_are = ap (λ n. n / count) (slots_are ∙ grind arith) ∙ div-mul-add (blocks * step) count 0 are.some

  pub all_slots : slots ≡ slots / count * count
  all_slots = slots_are ∙ grind arith ∙ ap (λ n. n * count) (sym lines_are)

  -- the number of nodes, as each line has `unit` of them
  pub nodes_are : (unit nodes : ℕ) → nodes ≡ slots / count * unit → nodes ≡ blocks * (unit * step)
  nodes_are unit nodes sized = sized ∙ ap (λ n. n * unit) lines_are ∙ grind arith

  pub fewer_nodes : (unit nodes : ℕ) → unit ≤ count → nodes ≡ slots / count * unit → nodes ≤ slots
  fewer_nodes unit nodes few sized = omega (arith, mul-le (slots / count) unit (slots / count) count (omega arith) few, sized, all_slots)

  module _ (line : ℕ) (h : line < slots / count) where
    pub line_below : line < blocks * step
    line_below = omega (arith, h, lines_are)

    -- a line is not longer than the list
    pub line_fits : line / step * (count * step) + count * step ≤ slots
    line_fits =
        let row = div_below line step blocks are.apart line_below in
        let sum : (line / step + 1) * (count * step) ≡ line / step * (count * step) + count * step = grind arith in
        omega (arith, mul-le (line / step + 1) (count * step) blocks (count * step) (omega (arith, row)) (omega arith), sum, slots_are)

    pub slot_within : (place : ℕ) → place < count → spot count step line place < slots
    slot_within place p = let inside = spot_inside count step blocks line place are.apart line_below p in omega (arith, inside, slots_are)

    pub nth_within : (unit nodes : ℕ) → nodes ≡ slots / count * unit → (k : ℕ) → 1 ≤ k → k ≤ unit → spot unit step line (k - 1) < nodes
    nth_within unit nodes sized k low high =
        omega (arith, spot_inside unit step blocks line (k - 1) are.apart line_below (omega (arith, low, high)), nodes_are unit nodes sized)

    pub in_slots : slots < 2 ^ 62 → HasSlots (line_at count step line) slots
    in_slots few = record { few = short_lines count step slots _ are.apart line_fits few; apart = are.apart; fit = omega (arith, few); slot = slot_within }

-- both lists are long enough for a line
module _ (count step slots : ℕ) (are : AreLines count step slots) (line : ℕ) (h : line < slots / count)
    (nodes : ℕ) (sized : nodes ≡ slots / count * nodes_in_line count) where
  pub node_within : (meeting : ℕ) → 1 ≤ meeting → meeting < count → nth_node (line_at count step line) meeting < nodes
  node_within meeting low high = nth_within count step slots are line h (nodes_in_line count) nodes sized meeting low (omega (arith, high))

  pub in_both : slots < 2 ^ 62 → IsIn (line_at count step line) slots nodes
  in_both few = record {
    slots = in_slots count step slots are line h few;
    nodes = record { fit = omega (arith, few, fewer_nodes count step slots are (nodes_in_line count) nodes (omega arith) sized); node = node_within };
  }

-- slots of different lines are different
pub slots_apart : (count step a b i j : ℕ) → 0 < step → i < count → j < count → a ≢ b → spot count step a i ≢ spot count step b j
slots_apart count step a b i j some p q apart e = apart (same_line count step a b i j some p q e)

-- nodes of different lines are different
pub nodes_apart : (count step a b m n : ℕ) → 0 < step → 1 ≤ m → m < count → 1 ≤ n → n < count → a ≢ b
    → nth_node (line_at count step a) m ≢ nth_node (line_at count step b) n
nodes_apart count step a b m n some low high low2 high2 apart e =
    apart (same_line (nodes_in_line count) step a b (m - 1) (n - 1) some (omega (arith, low, high)) (omega (arith, low2, high2)) e)
