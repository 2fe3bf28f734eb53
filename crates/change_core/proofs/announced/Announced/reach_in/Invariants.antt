use Rattle.{std.proofs.Common.{◌≡◌, length, map, drop, ◌-◌, false}, change_core.specs.Reaches.{changed, is_anew}}
use Rattle.change_core.proofs.announced.Announced.reach_in.Given as goal

abbrev pub invariant-loop-later : goal.invariant-loop-later
invariant-loop-later g l =
    let moves = map g.M.ChangedBox.changed l.moved in
    let which = length l.moved - l.later in
    record {
      reached : l.reached ≡ changed l.shape (drop which (g.Self.Announced.uses l.self l.shape l.args)) (drop which moves);
      kept : is_anew (drop which (g.Self.Announced.selectors l.self)) (drop which moves) ≡ false;
    }
