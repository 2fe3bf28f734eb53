use Rattle.{std.proofs.Common.{◌≡◌, ◌∙◌, sym, ap, arith}, arrays_core.specs.Shapes.{places_before}, index_region.proofs.Patched.{fits_within}}
use Rattle.change_core.specs.Meters.{MeterValue}
use Rattle.sum_rules.{specs.LineSums.{length_along}, proofs.KeptSums.{along_axis}, proofs.ChangedLines.{place_on, total_on}}
use Rattle.sum_rules.proofs.totals.line_total.Goals as goal

pub places_before-place-requires-clause-in_range : goal.places_before-place-requires-clause-in_range
places_before-place-requires-clause-in_range g c = fits_within c.args.patch.now.region c.args.shape.now.items c.args.index.now c.requires.fit.inside c.requires.inside

pub total_with-total-requires : goal.total_with-total-requires
total_with-total-requires g c =
    let there = place_on _ _ _ _ c.requires.lines c.requires.fit c.requires.one c.item_type-one_item_a_place.ensures.sound c.args.index.now c.requires.inside in
    omega (arith, there, c.places_before-place.ensures.is)

pub returns-clause-total : goal.returns-clause-total
returns-clause-total g c =
    let place : c.places_before-place.result ≡ places_before c.args.shape.now.items c.args.index.now = omega (arith, c.places_before-place.ensures.is) in
    c.total_with-total.ensures.total
    ∙ sym (total_on _ _ _ _ c.requires.lines c.requires.fit c.requires.one c.item_type-one_item_a_place.ensures.sound c.args.index.now c.requires.inside c.args.fold.function _ c.requires.function _ c.item-item.result place c.item-item.ensures.is)

pub returns-clause-joins : goal.returns-clause-joins
returns-clause-joins g c = λ digits h.
    let count : (g.S.LineTotals.trees c.args.sums.now).count ≡ length_along c.args.fold.along c.args.shape.now.items = c.requires.lines.counted ∙ sym (along_axis c.args.fold.along c.args.shape.now.items c.requires.on_axis) in
    let kept = ap (λ (m : MeterValue). m.joins) c.tick.ensures.exact in
    omega (arith, c.total_with-total.ensures.joins digits (rw count h), kept, ap (λ (m : MeterValue). m.joins) c.count_joins.ensures)

pub returns-clause-least : goal.returns-clause-least
returns-clause-least g c = λ two.
    let count : (g.S.LineTotals.trees c.args.sums.now).count ≡ length_along c.args.fold.along c.args.shape.now.items = c.requires.lines.counted ∙ sym (along_axis c.args.fold.along c.args.shape.now.items c.requires.on_axis) in
    omega (arith, c.total_with-total.ensures.some (rw count two), ap (λ (m : MeterValue). m.joins) c.tick.ensures.exact, ap (λ (m : MeterValue). m.joins) c.count_joins.ensures)
