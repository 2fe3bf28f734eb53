use Rattle.std.{proofs.Common.{◌∙◌, ap, length, arith}, proofs.lemmas.List.{length-append}, proofs.lemmas.Grind.{div_ceil_times}}
use Rattle.operator_fns.proofs.RowBits.{one_more_row}
use Rattle.operator_fns.proofs.bit_rows.BitRows.of.Goals as goal

pub loop-row-preserved : goal.loop-row-preserved
loop-row-preserved c =
    let ends = c.in_ok-push_bits.ensures in
    record {
      long = ap length ends.is ∙ omega (arith, length-append c.loop-row.words.items ends.words, ends.long, c.loop-row.invariant.long);
      bits = one_more_row c.args.rows.now c.args.columns c.div_ceil-width.result c.args.count c.loop-row.row c.loop-row.words.items _ c.requires.whole c.loop-row-test.true (omega (arith, c.div_ceil-width.ensures, (div_ceil_times c.args.columns 64 (omega arith)).0)) c.loop-row.invariant.long c.loop-row.invariant.bits ends;
    }
