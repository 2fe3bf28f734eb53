use Rattle.std.{proofs.Common.{rules, ◌≡◌, ◌∙◌, ◌+◌, ◌<◌, suc, ap, sym, length, remove, map, arith}, proofs.lemmas.List.{length-map}}
use Rattle.{arrays_core.{specs.declared.item.Item.TheVariants.{Num}, specs.Shapes.{size}}}
use Rattle.reduce_fns.{specs.Laws.ReducedShapes.{reduce_facts}, proofs.Reduced.{reduced_whole}}
use Rattle.reduce_fns.proofs.reduce.Reduce.of_numbers.Goals as goal

pub folds-requires-clause-shaped : goal.folds-requires-clause-shaped
folds-requires-clause-shaped c =
    let facts = reduce_facts c.args.self.along c.args.array.now c.in_ok-shape.shape.items c.in_ok-shape.field-0-1 c.in_ok-shape.ensures.0 in
    ap size (facts.shaped ∙ ap (remove c.args.array.now.shape) (sym (search rules))) ∙ sym c.along-lines.ensures.places

pub returns : goal.returns
returns c =
    let b = c.args.array.now in
    let axis = c.axis_at-axis.result in
    let next : axis + 1 ≡ suc axis = omega arith in
    let items : b.items ≡ map (λ z. Num z) c.along-lines.result.numbers.now = c.requires.numbers ∙ ap (map (λ z. Num z)) (sym c.along-lines.ensures.numbers) in
    let long : length b.items ≡ length c.args.numbers.now = ap length c.requires.numbers ∙ length-map c.args.numbers.now (λ z. Num z) in
    let some : 0 < size b.shape = omega (arith, long, c.shape.ensures.sound.one_item_a_place, c.requires.some) in
    rw (reduced_whole c.args.self.function b c.along-lines.result.numbers.now items c.requires.typed c.args.self.along c.in_ok-shape.shape.items c.in_ok-shape.field-0-1
    axis _ _ c.in_ok-shape.ensures.0 (search rules) (search rules) c.along-lines.ensures.count (rw next at c.along-lines.ensures.stride) some)
    c.folds.ensures
