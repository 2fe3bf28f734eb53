use Rattle.std.{proofs.Common.{◌≡◌, ◌==◌, get_or, rules, arith}, proofs.lemmas.Grind.{common_steps}}
use Rattle.scalar_fns.{specs.Characters.{told}, proofs.Equalities.{told_more}}
use Rattle.scalar_fns.proofs.characters.told_each.Goals as goal

pub loop-place-preserved : goal.loop-place-preserved
loop-place-preserved c =
    let here : c.tell.result ≡ told c.args.equal (get_or c.args.characters.now c.loop-place.place 0 == c.args.character) = first_of (search rules, grind (arith, common_steps)) in
    told_more _ _ _ _ c.push_reserved.new.self c.tell.result c.loop-place.invariant here (search rules) c.push_reserved.ensures.items c.push_reserved.ensures.len
    (omega (arith, c.push_reserved.ensures.capacity))
