use Rattle.std.{proofs.Common.{◌-◌, ◌∙◌, ◌+ℤ◌, w64, to_z, of_z, pos, ap, sym, map, arith, rules}, proofs.Math.ListN.{length-set}, proofs.lemmas.Int.{to_z-of_z}, proofs.lemmas.List.{length-map}}
use Rattle.search_fns.proofs.Lookups.{key_at, offset_of, one_more_placed}
use Rattle.search_fns.proofs.lookup.first_place_table.Goals as goal

pub index_mut-requires : goal.index_mut-requires
index_mut-requires g c =
    let at = offset_of g.T.Key.code c.args.items.now (c.loop-place.place - 1) c.index-items-place.result c.args.least c.key.result c.args.span c.abs_diff-offset.result
    (search rules) c.ranges.least c.requires.within (omega arith) c.index-items-place.is c.key.ensures c.abs_diff-offset.ensures in
    omega (arith, at.0, c.loop-place.invariant.long)

pub loop-place-preserved : goal.loop-place-preserved
loop-place-preserved g c =
    let at = offset_of g.T.Key.code c.args.items.now (c.loop-place.place - 1) c.index-items-place.result c.args.least c.key.result c.args.span c.abs_diff-offset.result
    (search rules) c.ranges.least c.requires.within (omega arith) c.index-items-place.is c.key.ensures c.abs_diff-offset.ensures in
    let long = length-set c.loop-place.firsts.items c.abs_diff-offset.result (c.loop-place.place - 1) in
    let keys = length-map c.args.items.now g.T.Key.code in
    let x = g.T.Key.code c.index-items-place.result in
    record {
      long = long ∙ c.loop-place.invariant.long;
      first = λ j h. one_more_placed (map g.T.Key.code c.args.items.now) (to_z w64 (of_z w64 c.args.least)) x c.loop-place.firsts.items c.loop-place.place (c.loop-place.place - 1) c.abs_diff-offset.result
          (omega arith) (omega arith) (sym (key_at g.T.Key.code c.args.items.now (c.loop-place.place - 1) c.index-items-place.result x (omega arith) c.index-items-place.is))
          (omega (arith, at.0, c.loop-place.invariant.long)) (ap (λ z. z +ℤ pos c.abs_diff-offset.result) (to_z-of_z w64 c.args.least c.ranges.least) ∙ at.1) c.loop-place.invariant.first j (omega (arith, h, long));
    }
