use Rattle.std.proofs.Common.{◌≡◌, IsTrue, subst, sym, length, ap, arith, remove, ◌∙◌, w64, to_z, of_z}
use Rattle.{arrays_core.{specs.Shapes.{is_index_of}, proofs.Shapes.{as_long}}, function_names.specs.Axes.{axis_at}}
use Rattle.structural_fns.{specs.Laws.RotatedLines.{rotation_facts, removed_inside}, proofs.SourcePlaces.{rotated_inside}}
use Rattle.structural_fns.proofs.rotate.Rotate.place_of.Goals as goal

pub amount_at-amount-requires-clause-rank : goal.amount_at-amount-requires-clause-rank
amount_at-amount-requires-clause-rank c =
    let facts = rotation_facts c.args.self.along c.args.amounts.now c.args.array.now c.args.index.now c.requires in
    let long = as_long c.args.array.now.shape c.args.index.now facts.inside in
    omega (arith, c.shape-shape.ensures.sound.within.rank)

pub amount_at-amount-requires-clause-there : goal.amount_at-amount-requires-clause-there
amount_at-amount-requires-clause-there c =
    λ some.
    let facts = rotation_facts c.args.self.along c.args.amounts.now c.args.array.now c.args.index.now c.requires in
    let long = as_long c.args.array.now.shape c.args.index.now facts.inside in
    let one_more = facts.there some in
    let same : length c.as_slice-axes.result.now ≡ length c.args.array.now.shape = ap length (c.as_slice-axes.ensures ∙ c.shape-shape.ensures.is) in
    omega (arith, c.axis_at-axis.ensures.below (omega arith))

pub amount_at-amount-requires-clause-line : goal.amount_at-amount-requires-clause-line
amount_at-amount-requires-clause-line c =
    λ some.
    let b = c.args.array.now in
    let k = c.axis_at-axis.result in
    let facts = rotation_facts c.args.self.along c.args.amounts.now b c.args.index.now c.requires in
    let one_more = facts.there some in
    let same : length c.as_slice-axes.result.now ≡ length b.shape = ap length (c.as_slice-axes.ensures ∙ c.shape-shape.ensures.is) in
    let axis : k ≡ axis_at (length b.shape) c.args.self.along = c.axis_at-axis.ensures.is ∙ ap (λ n. axis_at n c.args.self.along) same in
    let lines : c.args.amounts.now.shape ≡ remove b.shape k = facts.lines some ∙ ap (remove b.shape) (sym axis) in
    subst (λ shape. IsTrue (is_index_of shape (remove c.args.index.now k))) (sym lines)
    (removed_inside b.shape c.args.index.now k (omega (arith, c.axis_at-axis.ensures.below (omega arith))) facts.inside)

pub rotated-requires-clause-in_range : goal.rotated-requires-clause-in_range
rotated-requires-clause-in_range c =
    let facts = rotation_facts c.args.self.along c.args.amounts.now c.args.array.now c.args.index.now c.requires in
    subst (λ axes. IsTrue (is_index_of axes c.args.index.now)) (sym (c.as_slice-axes.ensures ∙ c.shape-shape.ensures.is)) facts.inside

pub returns-clause-inside : goal.returns-clause-inside
returns-clause-inside c =
    let b = c.args.array.now in
    let index = c.args.index.now in
    let facts = rotation_facts c.args.self.along c.args.amounts.now b index c.requires in
    rw (c.rotated.ensures.is, c.as_slice-axes.ensures, c.shape-shape.ensures.is) (rotated_inside b.shape index c.axis_at-axis.result (to_z w64 (of_z w64 c.amount_at-amount.result)) facts.inside)
