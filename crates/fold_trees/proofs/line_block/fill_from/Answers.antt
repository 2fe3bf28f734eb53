use Rattle.{std.{proofs.Common.{◌∙◌, suc, ◌*◌, ◌/◌, refl, ap, sym, arith, inl, inr}, proofs.lemmas.Nat.{div-add-mod'}}, fold_trees.proofs.BlockParts.{end_from}}
use Rattle.fold_trees.proofs.line_block.fill_from.Goals as goal

pub loop-half-init : goal.loop-half-init
loop-half-init g c =
    let kept = c.begin_from-half.ensures in
    record {
      half = elim kept.width [
        | inl two ↦ (1, two)
        | inr four ↦ (2, four)
      ];
      wide = elim kept.width [
        | inl two ↦ omega (arith, two)
        | inr four ↦ omega (arith, four)
      ];
      whole = elim kept.width [
        | inl two ↦ (c.args.from / 2, omega (arith, c.requires.four) ∙ sym (ap (λ k. c.args.from / 2 * k) two))
        | inr four ↦ (c.args.from / 4, omega (arith, c.requires.four) ∙ sym (ap (λ k. c.args.from / 4 * k) four))
      ];
      kept = kept.kept;
      others = λ p away. refl;
      sized = refl;
    }

pub join_row-requires-clause-from : goal.join_row-requires-clause-from
join_row-requires-clause-from g c =
    (c.args.from / (2 * c.loop-half.half), omega (arith, div-add-mod' c.args.from (2 * c.loop-half.half), c.if-from-half-eq0.true))

pub loop-half-preserved : goal.loop-half-preserved
loop-half-preserved g c =
    let inv = c.loop-half.invariant in
    record {
      half = (suc inv.half.0, ap (λ k. 2 * k) inv.half.1 ∙ grind arith);
      wide = omega (arith, inv.wide);
      whole = (c.args.from / (2 * c.loop-half.half), omega (arith, div-add-mod' c.args.from (2 * c.loop-half.half), c.if-from-half-eq0.true));
      kept = c.join_row.ensures.kept;
      others = λ p away. c.join_row.ensures.others p away ∙ inv.others p away;
      sized = c.join_row.ensures.length ∙ inv.sized;
    }

pub returns-else-from-half-eq0-clause-kept : goal.returns-else-from-half-eq0-clause-kept
returns-else-from-half-eq0-clause-kept g c =
    let inv = c.loop-half.invariant in
    end_from g.P.Part.blank g.P.Part.tells c.args.from c.args.first c.args.numbers.now c.loop-half.nodes c.loop-half.half inv.half.0 inv.half.1
    (inr c.if-from-half-eq0.false) inv.kept

pub returns-after-loop-half-clause-kept : goal.returns-after-loop-half-clause-kept
returns-after-loop-half-clause-kept g c =
    let inv = c.loop-half.invariant in
    end_from g.P.Part.blank g.P.Part.tells c.args.from c.args.first c.args.numbers.now c.loop-half.nodes c.loop-half.half inv.half.0 inv.half.1
    (inl (omega (arith, c.loop-half-test.false))) inv.kept
