use Rattle.{std.proofs.Common.{◌≡◌, true, List, rules, subst, sym}, index_region.{specs.Boxes.{Interval, is_box, hull_of}, proofs.Boxes.{hull_box}}}
use Rattle.index_region.proofs.index_box.IndexBox.hull.Goals as goal

pub invariant_of-result : goal.invariant_of-result
invariant_of-result c =
    let e : c.hull_of.result ≡ hull_of c.args.self.now c.args.other.now = search rules in
    subst (λ (r : List Interval). is_box r ≡ true) (sym e) (hull_box c.args.self.now c.args.other.now c.requires c.as_slice.ensures.never_empty c.as_slice-2.ensures.never_empty)
