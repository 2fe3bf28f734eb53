use Rattle.std.{proofs.Common.{◌≡◌, ◌∙◌, ◌+◌, ◌<◌, ◌≤◌, ◌^◌, ℕ, length, vec_capacity, ap, sym, subst, arith, rules}, specs.Int.{IsNextPowerOfTwo}, proofs.lemmas.List.{length-append}}
use Rattle.arrays_core.{specs.Growth.{IsRoomy}, proofs.Rooms.{brought, larger, roomy_of}, proofs.room.put_behind.Goals.{then-capacity-room_of, else-capacity-room_of}}
use Rattle.arrays_core.proofs.room.put_behind.Goals as goal

pub returns-clause-room : goal.returns-clause-room
returns-clause-room g c =
    let held = length c.args.items.now.items in
    let all = held + length c.args.more.items in
    let p = c.room_of.result in
    let counted : c.len.result + c.len-2.result ≡ all = search rules in
    let few : all ≤ 2 ^ 63 = c.requires.few in
    let next : 0 < all → IsNextPowerOfTwo all p = λ some. subst (λ (n : ℕ). IsNextPowerOfTwo n p) counted (c.room_of.ensures.next (omega (arith, counted, some)) (omega (arith, counted, few))) in
    let kept : IsRoomy all (vec_capacity c.if-capacity-room_of.items) =
    elim c.if-capacity-room_of.branch [
      | then-capacity-room_of w ↦
          let small : vec_capacity c.args.items.now < p = omega (arith, w.if-capacity-room_of.true, c.capacity.ensures) in
          let room : IsRoomy all p = λ some. roomy_of all p (next some) some in
          let there : IsRoomy all (vec_capacity c.args.room) = λ some q other. let most = room some q other in
          let enough = brought held all p (vec_capacity c.args.items.now) (vec_capacity c.args.room) c.requires.held c.requires.room (omega arith) (next some) some small in omega (arith, most, enough) in
          larger all _ _ there (omega (arith, ap vec_capacity w.replace-held.ensures.after, w.move_behind.ensures.room, ap vec_capacity w.items-is))
      | else-capacity-room_of w ↦
          larger all p _ (λ some. roomy_of all p (next some) some) (omega (arith, w.if-capacity-room_of.false, c.capacity.ensures, ap vec_capacity w.items-is))
    ] in
    let old : c.if-capacity-room_of.items.items ≡ c.args.items.now.items = elim c.if-capacity-room_of.branch [
      | then-capacity-room_of w ↦ search rules
      | else-capacity-room_of w ↦ search rules
    ] in
    let many : all ≡ length c.move_behind-2.new.items.items =
    sym (ap length c.move_behind-2.ensures.items ∙ length-append c.if-capacity-room_of.items.items c.args.more.items ∙ ap (λ n. n + length c.args.more.items) (ap length old)) in
    subst (λ (n : ℕ). IsRoomy n (vec_capacity c.move_behind-2.new.items)) many (larger all _ _ kept c.move_behind-2.ensures.room)
