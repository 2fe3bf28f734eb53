use Rattle.std.{proofs.Common.{sym, subst, arith, inl, refl, to_z, of_z, w64}, proofs.lemmas.Int.{to_z-of_z}}
use Rattle.fold_trees.{specs.LineTrees.{slot_of, replaced, segment}, proofs.LineParts.{climb_start, climb_up, level_up, levels_within, told_place, told_all, alone_up, replaced_here, other_half_same}}
use Rattle.fold_trees.proofs.line_tree.LineTree.with.Goals as goal

pub loop-width-init : goal.loop-width-init
loop-width-init g c =
    let place = c.args.place in
    record {
      climb = climb_start place;
      few = omega (arith, c.requires.place);
      told = told_place g.P.Part.tells c.args.self.now.line.count place _ c.of-kept.result _ c.requires.place (sym (replaced_here (slot_of c.args.self.now.line c.args.self.now.numbers.now) place (to_z w64 (of_z w64 c.args.number)))) c.of-kept.ensures;
      most = omega arith;
      none = λ e. (omega arith, inl refl);
    }

pub overflow_add-joins : goal.overflow_add-joins
overflow_add-joins g c =
    let inv = c.loop-width.invariant in
    let levels = levels_within inv.climb.level 62 c.args.self.now.line.count (omega (arith, inv.climb.width_is, inv.few)) (omega (arith, c.requires.inside.slots.few)) in
    record { fits = omega (arith, levels, inv.most, c.widened-wider.ensures.joins) }

pub loop-width-preserved : goal.loop-width-preserved
loop-width-preserved g c =
    let place = c.args.place in
    let inv = c.loop-width.invariant in
    record {
      climb = climb_up place c.loop-width.block c.loop-width.width inv.climb;
      few = omega (arith, c.loop-width-test.true);
      told = c.widened-wider.ensures.is _ (other_half_same place c.loop-width.block c.loop-width.width _ _ inv.climb) inv.told;
      most = omega (arith, level_up place c.loop-width.block c.loop-width.width inv.climb, inv.most, c.widened-wider.ensures.joins);
      none = λ e. alone_up c.args.self.now.line.count place c.loop-width.block c.loop-width.width (inv.none (omega (arith, e))) (c.widened-wider.ensures.none (omega (arith, e)));
    }

pub returns-clause-is : goal.returns-clause-is
returns-clause-is g c =
    let x = slot_of c.args.self.now.line c.args.self.now.numbers.now in
    subst (λ y. g.P.Part.tells c.loop-width.kept (segment (replaced x c.args.place y) 0 c.args.self.now.line.count)) (to_z-of_z w64 c.args.number c.ranges.number)
    (told_all g.P.Part.tells _ c.args.place _ _ _ c.loop-width.kept c.loop-width.invariant.climb c.requires.place c.loop-width-test.false c.loop-width.invariant.told)

pub returns-clause-most : goal.returns-clause-most
returns-clause-most g c digits enough =
    let inv = c.loop-width.invariant in
    omega (arith, levels_within inv.climb.level digits c.args.self.now.line.count (omega (arith, inv.climb.width_is, inv.few)) enough, inv.most)
