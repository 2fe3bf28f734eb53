use Rattle.{std.proofs.Common.{◌*◌, [], refl, arith}, arrays_core.proofs.Building.{listed_more}}
use Rattle.selection_fns.proofs.index_places.axis_offsets.Goals as goal

pub loop-before-preserved : goal.loop-before-preserved
loop-before-preserved c =
    let k = c.loop-before.before in
    record {
      room = omega arith;
      made = listed_more (λ j. j * c.args.step) [] c.loop-before.list.items c.push_reserved.new.self.items k (k * c.args.step) c.loop-before.invariant.made c.push_reserved.ensures.items refl;
    }
