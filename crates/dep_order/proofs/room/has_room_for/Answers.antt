use Rattle.{std.{proofs.Common.{◌≡◌, ◌+◌, ◌∙◌, [], ◌∷◌, ◌++◌, take, sym, ap, subst}, proofs.lemmas.List.{take_more}}, dep_order.specs.Users.{HasRoomFor}}
use Rattle.dep_order.proofs.room.has_room_for.Goals as goal

pub loop-reference-preserved : goal.loop-reference-preserved
loop-reference-preserved g c =
    let all = c.args.references.now in
    let k = c.loop-reference.reference-index in
    let x = c.reference-item.result in
    let done = take k all in
    let more : take (k + 1) all ≡ done ++ x ∷ [] = take_more all k x c.loop-reference-test.true ∙ ap (λ y. done ++ y ∷ []) (sym c.reference-item.is) in
    subst (λ xs. HasRoomFor g.N.PartialEq.eq c.args.users.now.entries xs) (sym more) (c.has_room_at.ensures c.if-not-has_room_at.false done c.loop-reference.invariant)
