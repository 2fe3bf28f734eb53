use Rattle.std.proofs.Common.{◌≡◌, true, false, List, rules, subst, sym}
use Rattle.index_region.{specs.Boxes.{Interval, is_box, is_empty, meet_of}, proofs.Boxes.{meet_box}}
use Rattle.index_region.proofs.index_box.IndexBox.meet.Goals as goal

pub invariant_of-result : goal.invariant_of-result
invariant_of-result c =
    let e : c.meet_of-intervals.result ≡ meet_of c.args.self.now c.args.other.now = search rules in
    let some : is_empty (meet_of c.args.self.now c.args.other.now) ≡ false = search rules in
    subst (λ (r : List Interval). is_box r ≡ true) (sym e) (meet_box c.args.self.now c.args.other.now c.requires c.as_slice.ensures.never_empty some)
