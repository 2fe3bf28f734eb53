use Rattle.std.{proofs.Common.{◌<◌, length, arith, rules}, proofs.lemmas.Grind.{common_steps}, proofs.lemmas.Str.Ascii.{IsAscii-more}}
use Rattle.apl_tokens.proofs.Decimals.{one_more_digit}
use Rattle.apl_tokens.proofs.fronts.magnitude_front.Goals as goal

pub loop-index-preserved : goal.loop-index-preserved
loop-index-preserved c =
    let here : c.loop-index.index < length c.args.text.now = omega arith in
    let spelled = one_more_digit c.args.text.now c.loop-index.index here in (
      grind (arith, common_steps),
      IsAscii-more c.args.text.now c.loop-index.index here c.loop-index.invariant.1 (search rules),
      omega (arith, c.in_ok-checked_mul.ensures.1, c.in_ok-magnitude.ensures.1, spelled, c.loop-index.invariant.2, c.from-value.ensures),
    )
