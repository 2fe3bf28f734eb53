-- The line of a place of all numbers, and its place on the line.
use Rattle.std.{proofs.Common.{◌≡◌, ◌∙◌, ℕ, ◌+◌, ◌*◌, ◌/◌, ◌%◌, ◌<◌, ◌≤◌, sym, ap, arith}, proofs.lemmas.Nat.{div-add-mod', div-mul-add, mod-mul-add, mul-add-lt, div_below, mod_below, mul-le}}
use Rattle.fold_trees.{specs.PartTrees.{AreLines}, specs.ArrayLines.{line_through}, proofs.LineSpots.{spot, spot_is, blocks, slots_are, lines_are}}

-- a block of lines has at least one place
pub some_places : (count step : ℕ) → 0 < count → 0 < step → 0 < count * step
some_places count step some apart = let wide = mul-le 1 1 count step (omega (arith, some)) (omega (arith, apart)) in omega (arith, wide)

module _ (count step : ℕ) (some : 0 < count) (apart : 0 < step) where
  -- the number of blocks of lines before a place
  blocks_before : (block place first : ℕ) → place < count → first < step → (block * (count * step) + (place * step + first)) / (count * step) ≡ block
  blocks_before block place first p f = div-mul-add block (count * step) (place * step + first) (omega (arith, mul-add-lt place step first count p f))

  -- the place on the line
  pub spot_place : (line place : ℕ) → place < count → spot count step line place / step % count ≡ place
  spot_place line place p =
      let row = ap (λ k. k / step) (spot_is count step line place) ∙ div-mul-add (line / step * count + place) step (line % step) (mod_below line step apart) in
      ap (λ k. k % count) row ∙ mod-mul-add (line / step) count place p

  -- the blocks before a place are counted in two steps
  blocks_counted : (k : ℕ) → k / (count * step) ≡ k / step / count
  blocks_counted k =
      let first = k % step in
      let place = k / step % count in
      let parts : k ≡ k / step / count * (count * step) + (place * step + first) =
      sym (div-add-mod' k step) ∙ ap (λ r. r * step + first) (sym (div-add-mod' (k / step) count)) ∙ grind arith in
      ap (λ n. n / (count * step)) parts ∙ blocks_before (k / step / count) place first (mod_below (k / step) count some) (mod_below k step apart)

  -- the line of a place is counted in two steps
  pub line_counted : (k : ℕ) → line_through count step k ≡ k / step / count * step + k % step
  line_counted k = ap (λ b. b * step + k % step) (blocks_counted k)

  -- a place is the spot of its own line and place
  pub place_spot : (k : ℕ) → spot count step (line_through count step k) (k / step % count) ≡ k
  place_spot k =
      let first = k % step in
      let block = k / step / count in
      let low = mod_below k step apart in
      let row = ap (λ l. l / step) (line_counted k) ∙ div-mul-add block step first low in
      (λ i. row i * (count * step) + (ap (λ l. l % step) (line_counted k) ∙ mod-mul-add block step first low) i + k / step % count * step)
      ∙ grind arith ∙ ap (λ r. r * step + first) (div-add-mod' (k / step) count) ∙ div-add-mod' k step

  -- at most as many lines as places come before it
  pub lines_before : (k : ℕ) → line_through count step k ≤ k
  lines_before k =
      let line = line_through count step k in
      let wide = mul-le (line / step) step (line / step) (count * step) (omega arith) (omega (arith, mul-le 1 step count step (omega (arith, some)) (omega arith))) in
      omega (arith, place_spot k, wide, div-add-mod' line step)

-- the line of a place is one of the lines
pub line_within : (count step slots : ℕ) → AreLines count step slots → (k : ℕ) → k < slots → line_through count step k < slots / count
line_within count step slots are k h =
    let block = div_below k (count * step) (blocks count step slots are) (some_places count step are.some are.apart) (omega (arith, h, slots_are count step slots are)) in
    omega (arith, mul-add-lt (k / (count * step)) step (k % step) (blocks count step slots are) block (mod_below k step are.apart), lines_are count step slots are)
