use Rattle.std.{proofs.Common.{◌≡◌, ◌∙◌, ◌+◌, ◌-◌, ◌<◌, ◌≤◌, ◌++◌, ap, get_or, length, pos, unsigned_abs, arith, w64, to_z, of_z}, proofs.lemmas.Int.{ints}, proofs.lemmas.List.{get_or_default}}
use Rattle.arrays_core.{specs.Building.{listed}, proofs.Building.{listed_more}}
use Rattle.arrays_core.proofs.builder.extend_at.Goals as goal

pub loop-k-preserved : goal.loop-k-preserved
loop-k-preserved g c =
    let from = c.args.from.now in
    let k = c.loop-k.k in
    let indices = c.args.indices.now in
    let below : k < length indices = c.loop-k-test.true in
    let low : 1 ≤ unsigned_abs (get_or indices k (pos 0)) = c.requires.low k below in
    let high : c.args.before + unsigned_abs (get_or indices k (pos 0)) ≤ length from = c.requires.high k below in
    let same : (to_z w64 (of_z w64 (get_or indices k (pos 0)))) ≡ get_or indices k (pos 0) = omega (arith, ints) in
    let value : c.unsigned_abs.result ≡ unsigned_abs (get_or indices k (pos 0)) = c.unsigned_abs.ensures.value ∙ ap unsigned_abs same in
    record {
      room = omega arith;
      made = λ d. listed_more (λ j. get_or from (c.args.before + unsigned_abs (get_or indices j (pos 0)) - 1) d) c.args.items.now.items c.loop-k.list.items c.push_reserved.new.self.items k c.index-from-before.result
          (c.loop-k.invariant.made d) c.push_reserved.ensures.items
          (c.index-from-before.is ∙ get_or_default from (c.args.before + c.unsigned_abs.result - 1) _ d (omega (arith, low, high, value)) ∙ ap (λ m. get_or from (c.args.before + m - 1) d) value);
    }

pub returns : goal.returns
returns g c =
    let e : c.loop-k.k ≡ length c.args.indices.now = omega arith in
    λ d. c.loop-k.invariant.made d ∙ ap (λ n. c.args.items.now.items ++ listed n (λ j. get_or c.args.from.now (c.args.before + unsigned_abs (get_or c.args.indices.now j (pos 0)) - 1) d)) e
