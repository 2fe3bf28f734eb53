-- Interleaved lines take one more number each, one line after another.
use Rattle.std.{proofs.Common.{◌≡◌, ◌≢◌, ◌∙◌, ℕ, ◌+◌, ◌<◌, ◌≤◌, ℤ, List, length, get_or, refl, sym, subst, arith, inl, inr}, proofs.lemmas.Bool.{cases_eq}}
use Rattle.fold_trees.{specs.declared.line.Line.{Line}, specs.LineTrees.{slot_of, nth_node, node_of, ArePartsKept}, proofs.LineSpots.{nodes_apart}, proofs.LineNodes.{kept_alike}, specs.LineBlocks.{line_at}}

-- one line has its last number; nodes of other lines stay
pub record IsTaken {P : Type 0} (blank : P) (tells : P → List ℤ → Type 0) (l : Line) (numbers : List ℤ) (nodes after : List P) : Type 0 where
  pub kept : ArePartsKept tells l.count (slot_of l numbers) (node_of blank l after)
  pub other_nodes : (p : ℕ) → ((meeting : ℕ) → 1 ≤ meeting → meeting < l.count → p ≢ nth_node l meeting) → get_or after p blank ≡ get_or nodes p blank
  pub node_count : length after ≡ length nodes

-- the lines before this one have their last number, the others do not
pub record AreTakenTo {P : Type 0} (blank : P) (tells : P → List ℤ → Type 0) (count step : ℕ) (numbers : List ℤ) (nodes now : List P) (line : ℕ) : Type 0 where
  pub kept : (k : ℕ) → k < line → ArePartsKept tells count (slot_of (line_at count step k) numbers) (node_of blank (line_at count step k) now)
  pub rest : (k m : ℕ) → line ≤ k → 1 ≤ m → m < count → node_of blank (line_at count step k) now m ≡ node_of blank (line_at count step k) nodes m
  pub node_count : length now ≡ length nodes

module _ {P : Type 0} (blank : P) (tells : P → List ℤ → Type 0) (count step : ℕ) (numbers : List ℤ) (nodes now : List P) (line : ℕ)
    (taken : AreTakenTo blank tells count step numbers nodes now line) where
  -- the next line takes its number
  pub taken_on : (after : List P) → 0 < step → IsTaken blank tells (line_at count step line) numbers now after
      → AreTakenTo blank tells count step numbers nodes after (line + 1)
  taken_on after apart new = record {
    kept = λ k h. elim (cases_eq k line) [
      | inl e ↦ subst (λ j. ArePartsKept tells count (slot_of (line_at count step j) numbers) (node_of blank (line_at count step j) after)) (sym e) new.kept
      | inr other ↦
          let l = line_at count step k in
          kept_alike tells count (slot_of l numbers) (slot_of l numbers) (node_of blank l now) (node_of blank l after) (λ i p. refl) (stay k other)
          (taken.kept k (omega (arith, h, other)))
    ];
    rest = λ k m h low high. stay k (λ e. let no : ⊥ = omega (arith, e, h) in no) m low high ∙ taken.rest k m (omega (arith, h)) low high;
    node_count = new.node_count ∙ taken.node_count;
  }
    where
      stay : (k : ℕ) → k ≢ line → (m : ℕ) → 1 ≤ m → m < count → node_of blank (line_at count step k) after m ≡ node_of blank (line_at count step k) now m
      stay k other m low high = new.other_nodes (nth_node (line_at count step k) m) (λ n low2 high2. nodes_apart count step k line m n apart low high low2 high2 other)
