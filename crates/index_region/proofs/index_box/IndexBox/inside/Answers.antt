use Rattle.{std.proofs.Common.{◌≡◌, true, List, rules, subst, sym}, index_region.{specs.Boxes.{Interval, is_box}, proofs.Boxes.{met_box}}}
use Rattle.index_region.proofs.index_box.IndexBox.inside.Goals as goal

pub invariant_of-result : goal.invariant_of-result
invariant_of-result c =
    subst (λ (r : List Interval). is_box r ≡ true) (sym c.met-intervals.ensures) (met_box c.args.axes.now c.args.intervals.now c.requires (search rules))
