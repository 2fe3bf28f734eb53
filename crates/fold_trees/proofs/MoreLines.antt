-- Lines after others.
use Rattle.std.{proofs.Common.{◌≡◌, ◌∙◌, ℕ, ◌+◌, ◌*◌, ◌/◌, ◌%◌, ◌^◌, ◌<◌, ◌≤◌, sym, ap, arith}, proofs.lemmas.Nat.{div-add-mod', div-mul-add, mod-mul-add, mod_below, mul-le}}
use Rattle.fold_trees.{specs.PartTrees.{AreLines}, proofs.LinePlaces.{some_places}, proofs.LineSpots.{spot, blocks, slots_are, lines_are, all_slots}}

-- the spot of a line after whole blocks
pub spot_behind : (unit step blocks line place : ℕ) → 0 < step → spot unit step (blocks * step + line) place ≡ blocks * (unit * step) + spot unit step line place
spot_behind unit step blocks line place some =
    let low = mod_below line step some in
    let parts : blocks * step + line ≡ (blocks + line / step) * step + line % step = ap (λ k. blocks * step + k) (sym (div-add-mod' line step)) ∙ grind arith in
    let row = ap (λ k. k / step) parts ∙ div-mul-add (blocks + line / step) step (line % step) low in
    (λ i. row i * (unit * step) + (ap (λ k. k % step) parts ∙ mod-mul-add (blocks + line / step) step (line % step) low) i + place * step) ∙ grind arith

-- the lines of two lists are whole lines of both
module _ (count step slots more : ℕ) (old : AreLines count step slots) (new : AreLines count step more) where
  pub whole_behind : (slots + more) % (count * step) ≡ 0
  whole_behind =
      let block = count * step in
      let more_blocks = blocks count step more new in
      let sum : blocks count step slots old * block + more_blocks * block ≡ (blocks count step slots old + more_blocks) * block + 0 = grind arith in
      ap (λ n. n % block) (omega (arith, sum, slots_are count step slots old, slots_are count step more new))
      ∙ mod-mul-add (blocks count step slots old + more_blocks) block 0 (some_places count step old.some old.apart)

  pub lines_behind : (slots + more) / count ≡ slots / count + more / count
  lines_behind =
      let sum : slots / count * count + more / count * count ≡ (slots / count + more / count) * count + 0 = grind arith in
      ap (λ n. n / count) (omega (arith, sum, all_slots count step slots old, all_slots count step more new))
      ∙ div-mul-add (slots / count + more / count) count 0 old.some

-- the spot of a later line, where each line has this count
pub spot_after : (count step slots : ℕ) → AreLines count step slots → (unit line place : ℕ)
    → spot unit step (slots / count + line) place ≡ slots / count * unit + spot unit step line place
spot_after count step slots are unit line place =
    let lines = lines_are count step slots are in
    ap (λ n. spot unit step (n + line) place) lines
    ∙ spot_behind unit step (blocks count step slots are) line place are.apart
    ∙ ap (λ n. n + spot unit step line place) ((grind arith) ∙ ap (λ n. n * unit) (sym lines))

-- ---- the numbers of slots and nodes

-- bounds on the slots and nodes of all lines
pub record AreFew (lines count unit : ℕ) : Type 0 where
  pub lines_few : lines < 2 ^ 63
  pub slots_few : lines * count < 2 ^ 63
  pub nodes_few : lines * unit < 2 ^ 63

pub few_in_all : (old new count unit numbers : ℕ) → unit ≤ count → 0 < count → new ≡ numbers / count → old * count + numbers < 2 ^ 63 → AreFew (old + new) count unit
few_in_all old new count unit numbers less some many few =
    let parts = div-add-mod' numbers count in
    let new_slots : new * count ≡ numbers / count * count = ap (λ n. n * count) many in
    let sum : (old + new) * count ≡ old * count + new * count = grind arith in
    record {
      lines_few = omega (arith, parts, new_slots, sum, mul-le (old + new) 1 (old + new) count (omega arith) (omega (arith, some)), few);
      slots_few = omega (arith, parts, new_slots, sum, few);
      nodes_few = omega (arith, parts, new_slots, sum, mul-le (old + new) unit (old + new) count (omega arith) less, few);
    }

-- of lines of this length, and of later lines
pub in_all : (old new held more each : ℕ) → held ≡ old * each → more ≡ new * each → (old + new) * each ≡ held + more
in_all old new held more each a b = let sum : (old + new) * each ≡ old * each + new * each = grind arith in omega (arith, sum, a, b)
