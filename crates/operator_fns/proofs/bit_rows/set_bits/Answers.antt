use Rattle.std.{proofs.Common.{◌≡◌, ◌≢◌, ◌∙◌, ◌/◌, ◌<◌, ap, sym, get_or, length, pos, arith, to_z, of_z, w64, rules, below_more}, proofs.lemmas.Int.{to_z-of_z}}
use Rattle.operator_fns.proofs.{TruthUnions.{not_one}, RowBits.{bit_set, bit_left}}
use Rattle.operator_fns.proofs.bit_rows.set_bits.Goals.{then-row-column-eq1, else-row-column-eq1}
use Rattle.operator_fns.proofs.bit_rows.set_bits.Goals as goal

pub loop-column-preserved : goal.loop-column-preserved
loop-column-preserved c =
    let column = c.loop-column.column in
    let row = c.args.row.now in
    let before = c.loop-column.words in
    let held = c.loop-column.invariant.held in
    let none = c.loop-column.invariant.none in
    let low : column < length row = c.loop-column-test.true in
    let within : column / 64 < length before = omega (arith, c.requires.wide, c.loop-column.invariant.long) in
    elim c.if-row-column-eq1.branch [
      | then-row-column-eq1 w ↦
          (let same : to_z w64 (of_z w64 (get_or row column (pos 0))) ≡ get_or row column (pos 0) = to_z-of_z w64 _ (search rules) in
          let one : get_or row column (pos 0) ≡ pos 1 = sym same ∙ ap (to_z w64) w.if-row-column-eq1.true in
          rw w.words-is (record {
            long = omega (arith, ap length (sym w.words-is), c.if-row-column-eq1.auto.words, c.loop-column.invariant.long);
            held = below_more _ _
                (λ k below. let other : k ≢ column = omega arith in bit_left before column k within other ∙ held k below)
                (bit_set before column within ∙ sym one);
            none = λ k above. let other : k ≢ column = omega arith in bit_left before column k within other ∙ none k (omega arith);
          }))
      | else-row-column-eq1 w ↦
          (let zero : get_or row column (pos 0) ≡ pos 0 = not_one _ (c.requires.truths column (pos 0) low) (λ h. w.if-row-column-eq1.false (ap (of_z w64) h)) in
          rw w.words-is (record {
            long = c.loop-column.invariant.long;
            held = below_more _ _ held (none column (omega arith) ∙ sym zero);
            none = λ k above. none k (omega arith);
          }))
    ]
