use Rattle.{std.proofs.Common.{rules}, arrays_core.{specs.Shapes.{places_before}, specs.Items.{fill}}}
use Rattle.selection_fns.proofs.Positions.{place_within, fill_within}
use Rattle.selection_fns.proofs.index.index_in.Goals as goal

pub overflow_cast-result : goal.overflow_cast-result
overflow_cast-result c =
    let p = c.args.position.now in
    let within = place_within c.args.axis p.items (places_before p.shape c.args.at.now) (fill p.item_type) (fill_within c.args.axis p.item_type) c.requires.on in
    search (rules, within)
