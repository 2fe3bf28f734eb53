use Rattle.{std.proofs.Common.{◌∙◌, Err, ap, sym, arith}, arrays_core.{specs.declared.fault.Fault.{Fault}, specs.declared.item.ItemType.TheVariants.{Nums}}}
use Rattle.change_rules.{proofs.Items.{as_many as one_item_a_place}, specs.Nodes.{patch_delta}}
use Rattle.{index_region.{specs.declared.delta.Delta.TheVariants.{Whole}, specs.Boxes.{box_size}}, reduce_fns.specs.Reduce.{reduce_item}}
use Rattle.change_core.{specs.Meters.{ticked}, proofs.Filling.{few_places}}
use Rattle.sum_rules.{proofs.ChangedTotals.{as_many_lines_now, items_now, one_place}, proofs.Outcomes.{array_given, error_given}}
use Rattle.sum_rules.proofs.totals.patch_of.Goals as goal

pub size-requires : goal.size-requires
size-requires g c =
    let few = few_places c.args.patch.now.region c.requires.lines.before.shape c.requires.lines.fit.inside c.requires.lines.lines.sound.within in
    omega (arith, few, as_many_lines_now c.args.fold _ _ _ c.requires.lines c.requires.one, ap box_size c.requires.region)

pub returns-then-size-eq1-clause-ticks : goal.returns-then-size-eq1-clause-ticks
returns-then-size-eq1-clause-ticks g c = omega (arith, c.patch_of_one.ensures.ticks, one_place c.args.fold _ _ _ c.requires.lines c.requires.one c.args.region c.requires.region (sym c.size.ensures ∙ c.if-size-eq1.true))

pub returns-then-size-eq1-clause-exact : goal.returns-then-size-eq1-clause-exact
returns-then-size-eq1-clause-exact g c = λ _.
    c.patch_of_one.ensures.ticks ∙ ap (ticked c.args.meter.now.ticks) (sym (one_place c.args.fold _ _ _ c.requires.lines c.requires.one c.args.region c.requires.region (sym c.size.ensures ∙ c.if-size-eq1.true)))

pub returns-then-size-eq1-clause-joins : goal.returns-then-size-eq1-clause-joins
returns-then-size-eq1-clause-joins g c =
    rw (one_place c.args.fold _ _ _ c.requires.lines c.requires.one c.args.region c.requires.region (sym c.size.ensures ∙ c.if-size-eq1.true)) c.patch_of_one.ensures.joins

pub returns-then-size-eq1-clause-least : goal.returns-then-size-eq1-clause-least
returns-then-size-eq1-clause-least g c = λ _.
    rw (one_place c.args.fold _ _ _ c.requires.lines c.requires.one c.args.region c.requires.region (sym c.size.ensures ∙ c.if-size-eq1.true)) c.patch_of_one.ensures.least

pub of-requires : goal.of-requires
of-requires g c =
    let items = items_now c.args.fold _ _ _ _ _ c.requires.lines c.shape.ensures.is c.requires.region in
    let given = array_given Nums _ c.new_totals.result c.in_ok-values.field-0 c.in-Ok.values c.new_totals.ensures.totals c.in_ok-values.ensures c.in-Ok.is in
    one_item_a_place (reduce_item c.args.fold.function c.args.fold.along c.args.array.now) c.args.region c.in-Ok.values.items (sym items ∙ given.0)

pub returns-in-Ok-clause-delta : goal.returns-in-Ok-clause-delta
returns-in-Ok-clause-delta g c =
    let given = array_given Nums _ c.new_totals.result c.in_ok-values.field-0 c.in-Ok.values c.new_totals.ensures.totals c.in_ok-values.ensures c.in-Ok.is in
    rw (← (items_now c.args.fold _ _ _ _ _ c.requires.lines c.shape.ensures.is c.requires.region), given.0, c.of.ensures, given.1)

pub returns-in-Err-clause-delta : goal.returns-in-Err-clause-delta
returns-in-Err-clause-delta g c =
    let items = items_now c.args.fold _ _ _ _ _ c.requires.lines c.shape.ensures.is c.requires.region in
    let given = error_given Nums _ c.new_totals.result c.in_ok-values.field-0 c.in-Err.fault c.new_totals.ensures.totals c.in_ok-values.ensures c.in-Err.is in
    ap (λ (f : Fault). Whole (Err f)) given.1 ∙ sym (ap (patch_delta Nums c.args.region) (sym items ∙ given.0))
