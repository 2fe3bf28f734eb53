use Rattle.std.proofs.Common.{◌≡◌, ◌-◌, true, List, arith, rules, subst, sym}
use Rattle.index_region.{specs.Boxes.{Interval, is_box, cover}, proofs.Boxes.{fits_box, fits-cover, length-index_after}}
use Rattle.index_region.proofs.index_box.IndexBox.cover.Goals as goal

pub covered-requires-clause-from : goal.covered-requires-clause-from
covered-requires-clause-from c =
    let e = length-index_after c.args.shape.now.items (c.args.first - 1) in
    search rules

pub covered-requires-clause-to : goal.covered-requires-clause-to
covered-requires-clause-to c =
    let e = length-index_after c.args.shape.now.items (c.args.last - 1) in
    search rules

pub invariant_of-result : goal.invariant_of-result
invariant_of-result c =
    let e : c.covered.result ≡ cover c.args.shape.now.items (c.args.first - 1) (c.args.last - 1) = search rules in
    subst (λ (r : List Interval). is_box r ≡ true) (sym e) (fits_box _ c.args.shape.now.items c.requires.within.rank (fits-cover c.args.shape.now.items (c.args.first - 1) (c.args.last - 1) (omega arith) (omega arith)))
