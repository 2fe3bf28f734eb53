use Rattle.std.{proofs.Common.{rules, ◌≡◌, ◌∙◌, ◌+◌, ◌<◌, suc, ap, sym, length, drop, map, arith}, proofs.lemmas.List.{length-map}}
use Rattle.{arrays_core.{specs.declared.item.Item.TheVariants.{Num}, specs.Shapes.{size}}, function_names.specs.Axes.{axis_at}}
use Rattle.scan_fns.{specs.Laws.ScannedPlaces.{scan_facts}, proofs.Scanned.{scanned_whole}}
use Rattle.scan_fns.proofs.scan.Scan.of_numbers.Goals as goal

pub scans-requires-2-clause-long : goal.scans-requires-2-clause-long
scans-requires-2-clause-long c =
    let facts = scan_facts c.args.self.along c.args.array.now c.in_ok-shape.shape.items c.in_ok-shape.field-0-1 c.in_ok-shape.ensures.0 in
    ap size facts.shaped ∙ sym c.shape-axes.ensures.sound.one_item_a_place ∙ ap length c.requires.numbers ∙ length-map c.args.numbers.now (λ z. Num z)
    ∙ sym (ap length c.along-lines.ensures.numbers)

pub returns : goal.returns
returns c =
    let b = c.args.array.now in
    let lines = c.along-lines.result in
    let axis = c.axis_at-axis.result in
    let there : axis < length b.shape = search rules in
    let meant : axis ≡ axis_at (length b.shape) c.args.self.along = search rules in
    let next : axis + 1 ≡ suc axis = omega arith in
    let apart : lines.stride ≡ size (drop (suc axis) b.shape) = rw next at c.along-lines.ensures.stride in
    let items : b.items ≡ map (λ z. Num z) lines.numbers.now = c.requires.numbers ∙ ap (map (λ z. Num z)) (sym c.along-lines.ensures.numbers) in
    let long : length b.items ≡ length c.args.numbers.now = ap length c.requires.numbers ∙ length-map c.args.numbers.now (λ z. Num z) in
    let sized = c.shape-axes.ensures.sound.one_item_a_place in
    let some : 0 < size b.shape = omega (arith, long, sized, c.requires.some) in
    let facts = scan_facts c.args.self.along b c.in_ok-shape.shape.items c.in_ok-shape.field-0-1 c.in_ok-shape.ensures.0 in
    let places : size c.in_ok-shape.shape.items ≡ length lines.numbers.now = ap size facts.shaped ∙ sym sized ∙ long ∙ sym (ap length c.along-lines.ensures.numbers) in
    rw (scanned_whole c.args.self.function b lines.numbers.now items c.requires.typed c.args.self.along c.in_ok-shape.shape.items c.in_ok-shape.field-0-1
    axis _ _ c.in_ok-shape.ensures.0 meant there c.along-lines.ensures.count apart some places)
    c.scans-2.ensures
