use Rattle.std.proofs.Common.{◌∙◌, Ok, Err, List, [], ◌∷◌, ap, sym, arith}
use Rattle.arrays_core.{specs.declared.fault.Fault.{Fault}, specs.declared.item.ItemType.{ItemType}, specs.declared.item.ItemType.TheVariants.{Nums}}
use Rattle.change_core.proofs.Filling.{few_places}
use Rattle.index_region.{specs.Boxes.{Interval, box_size, is_within, walk_at}, proofs.Walks.{some_place, walk_within}, specs.declared.delta.Delta.TheVariants.{Patch, Whole}}
use Rattle.{change_rules.specs.Nodes.{patch_delta}, sum_rules.proofs.ChangedTotals.{one_total}}
use Rattle.sum_rules.proofs.totals.patch_of_one.Goals as goal

pub index_at-index-requires-clause-size : goal.index_at-index-requires-clause-size
index_at-index-requires-clause-size g c =
    omega (arith, few_places c.args.patch.now.region c.requires.lines.before.shape c.requires.lines.fit.inside c.requires.lines.lines.sound.within, ap box_size c.region.ensures)

pub index_at-index-requires-clause-below : goal.index_at-index-requires-clause-below
index_at-index-requires-clause-below g c = rw c.region.ensures (some_place c.args.patch.now.region c.requires.lines.before.shape c.requires.lines.fit.inside)

pub line_total-requires-clause-inside : goal.line_total-requires-clause-inside
line_total-requires-clause-inside g c =
    ap (is_within c.args.patch.now.region) (c.as_slice.ensures.is ∙ c.index_at-index.ensures ∙ ap (λ (r : List Interval). walk_at r 0) c.region.ensures)
    ∙ walk_within c.args.patch.now.region 0 (some_place c.args.patch.now.region c.requires.lines.before.shape c.requires.lines.fit.inside)

pub returns-in-Ok-clause-delta : goal.returns-in-Ok-clause-delta
returns-in-Ok-clause-delta g c =
    let first = c.as_slice.ensures.is ∙ c.index_at-index.ensures ∙ ap (λ (r : List Interval). walk_at r 0) c.region.ensures in
    let items = one_total c.args.fold (g.S.LineTotals.trees c.args.sums.now) c.args.patch.now c.args.array.now c.requires.lines c.requires.one c.shape.result.now.items c.args.region c.shape.ensures.is c.requires.region c.requires.single c.as_slice.result.now first (Ok c.in-Ok.total) (sym c.in-Ok.is ∙ c.line_total.ensures.total) in
    ap Patch c.one.ensures
    ∙ ap (λ (t : ItemType). Patch (record { region = c.args.region; item_type = t; items = c.in-Ok.total ∷ [] })) c.in-Ok.ensures.typed
    ∙ sym (ap (patch_delta Nums c.args.region) items)

pub returns-in-Err-clause-delta : goal.returns-in-Err-clause-delta
returns-in-Err-clause-delta g c =
    let first = c.as_slice.ensures.is ∙ c.index_at-index.ensures ∙ ap (λ (r : List Interval). walk_at r 0) c.region.ensures in
    let items = one_total c.args.fold (g.S.LineTotals.trees c.args.sums.now) c.args.patch.now c.args.array.now c.requires.lines c.requires.one c.shape.result.now.items c.args.region c.shape.ensures.is c.requires.region c.requires.single c.as_slice.result.now first (Err c.in-Err.kind) (sym c.in-Err.is ∙ c.line_total.ensures.total) in
    ap (λ (f : Fault). Whole (Err f)) c.into.ensures ∙ sym (ap (patch_delta Nums c.args.region) items)
