use Rattle.std.{proofs.Common.{◌≡◌, ◌∙◌, suc, ◌*◌, ◌/◌, ◌^◌, ◌∷◌, [], length, sym, ap, subst, arith, inl, refl, to_z, of_z, w64}, proofs.lemmas.Int.{to_z-of_z}, proofs.lemmas.List.{length-append}}
use Rattle.fold_trees.{specs.LineTrees.{slot_of, replaced, segment, numbers_of_block, block_up, AreJoined}, proofs.LineParts.{climb_start, climb_up, level_up, levels_within, told_place, told_all, alone_up, replaced_here, other_half_same}, proofs.LineJoins.{AreTold, told_more}}
use Rattle.fold_trees.proofs.line_tree.LineTree.join_up.Goals as goal

pub loop-width-init : goal.loop-width-init
loop-width-init g c =
    let place = c.args.place in
    record {
      climb = climb_start place;
      few = omega (arith, c.requires.place);
      told = told_place g.P.Part.tells c.args.self.now.line.count place _ c.of-kept.result _ c.requires.place (sym (replaced_here (slot_of c.args.self.now.line c.args.self.now.numbers.now) place (to_z w64 (of_z w64 c.args.number)))) c.of-kept.ensures;
      most = omega arith;
      none = λ e. (omega arith, inl refl);
      wide = sym (ap (λ ps. 2 ^ length ps) c.requires.none);
      up = sym (ap (λ ps. block_up place (length ps)) c.requires.none);
      each = λ level blank below. let no : ⊥ = omega (arith, below, ap (λ ps. length ps) c.requires.none) in absurd no;
    }

pub overflow_add-joins : goal.overflow_add-joins
overflow_add-joins g c =
    let inv = c.loop-width.invariant in
    let levels = levels_within inv.climb.level 62 c.args.self.now.line.count (omega (arith, inv.climb.width_is, inv.few)) (omega (arith, c.requires.inside.slots.few)) in
    record { fits = omega (arith, levels, inv.most, c.widened-wider.ensures.joins) }

pub loop-width-preserved : goal.loop-width-preserved
loop-width-preserved g c =
    let line = c.args.self.now.line in
    let place = c.args.place in
    let z = to_z w64 (of_z w64 c.args.number) in
    let numbers = slot_of line c.args.self.now.numbers.now in
    let inv = c.loop-width.invariant in
    let x = replaced numbers place z in
    let told = c.widened-wider.ensures.is x (other_half_same place c.loop-width.block c.loop-width.width numbers z inv.climb) inv.told in
    let parts = c.loop-width.parts.items in
    let double : 2 * 2 ^ length parts ≡ 2 ^ suc (length parts) = grind arith in
    let longer : suc (length parts) ≡ length c.push.new.self.items =
    omega (arith, length-append parts (c.widened-wider.result.0 ∷ []), ap (λ ps. length ps) c.in_ok-push.ensures.items) in
    record {
      climb = climb_up place c.loop-width.block c.loop-width.width inv.climb;
      few = omega (arith, c.loop-width-test.true);
      told = told;
      most = omega (arith, level_up place c.loop-width.block c.loop-width.width inv.climb, inv.most, c.widened-wider.ensures.joins);
      none = λ e. alone_up c.args.self.now.line.count place c.loop-width.block c.loop-width.width (inv.none (omega (arith, e))) (c.widened-wider.ensures.none (omega (arith, e)));
      wide = ap (λ w. 2 * w) inv.wide ∙ double ∙ ap (λ k. 2 ^ k) longer;
      up = ap (λ b. b / 2) inv.up ∙ ap (block_up place) longer;
      each = subst (AreTold g.P.Part.tells line.count x place) (sym c.in_ok-push.ensures.items)
          (told_more g.P.Part.tells line.count x place parts c.widened-wider.result.0 inv.each
          (subst (g.P.Part.tells c.widened-wider.result.0) (λ i. numbers_of_block line.count x (inv.up i / 2) (2 * inv.wide i)) told));
    }

pub returns-clause-is : goal.returns-clause-is
returns-clause-is g c =
    let x = slot_of c.args.self.now.line c.args.self.now.numbers.now in
    subst (λ y. g.P.Part.tells c.loop-width.kept (segment (replaced x c.args.place y) 0 c.args.self.now.line.count)) (to_z-of_z w64 c.args.number c.ranges.number)
    (told_all g.P.Part.tells _ c.args.place _ _ _ c.loop-width.kept c.loop-width.invariant.climb c.requires.place c.loop-width-test.false c.loop-width.invariant.told)

pub returns-clause-most : goal.returns-clause-most
returns-clause-most g c digits enough =
    let inv = c.loop-width.invariant in
    omega (arith, levels_within inv.climb.level digits c.args.self.now.line.count (omega (arith, inv.climb.width_is, inv.few)) enough, inv.most)

pub returns-clause-parts : goal.returns-clause-parts
returns-clause-parts g c =
    let line = c.args.self.now.line in
    let numbers = slot_of line c.args.self.now.numbers.now in
    let parts = c.loop-width.parts.items in
    let joined : AreJoined g.P.Part.tells line.count (replaced numbers c.args.place (to_z w64 (of_z w64 c.args.number))) c.args.place parts =
    record { each = c.loop-width.invariant.each; enough = omega (arith, c.loop-width-test.false, c.loop-width.invariant.wide) } in
    subst (λ y. AreJoined g.P.Part.tells line.count (replaced numbers c.args.place y) c.args.place parts) (to_z-of_z w64 c.args.number c.ranges.number) joined
