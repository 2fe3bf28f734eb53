use Rattle.std.{proofs.Common.{◌≡◌, ◌≤◌, ◌+◌, ◌-◌, ◌%◌, ◌++◌, ◌∙◌, ap, get_or, length, take, drop, refl, arith}, proofs.Math.Nat.{mod_self}, proofs.lemmas.List.{length-append, length-take-le}}
use Rattle.arrays_core.{specs.Building.{listed}, proofs.Building.{again_listed, first_round, two_rounds}}
use Rattle.arrays_core.proofs.builder.repeat_to.Goals as goal

pub loop-items-init : goal.loop-items-init
loop-items-init g c =
    record { low = omega arith; high = c.requires.more; whole = λ h. mod_self (length c.args.items.now.items); made = λ d. first_round c.args.items.now.items d }

pub loop-items-preserved : goal.loop-items-preserved
loop-items-preserved g c =
    let old = c.args.items.now.items in
    let xs = c.loop-items.items.items in
    let new = c.extend_from_within.new.self.items in
    let m = c.min-more.result - 0 in
    let put : new ≡ xs ++ take m (drop 0 xs) = c.in_ok-extend_from_within.ensures.items in
    let few : m ≤ length xs = omega (arith, c.min-more.ensures, c.len-in-loop-items.ensures) in
    let long : length new ≡ length xs + m = ap length put ∙ length-append xs (take m (drop 0 xs)) ∙ ap (λ k. length xs + k) (length-take-le m xs few) in
    let round : length xs % length old ≡ 0 = c.loop-items.invariant.whole (omega (arith, c.loop-items-test.true, c.len.ensures)) in
    record {
      low = omega (arith, long, c.loop-items.invariant.low);
      high = omega (arith, long, c.min-more.ensures, c.len-in-loop-items.ensures, c.len-in-loop-items-2.ensures, c.loop-items.invariant.high);
      whole = λ h.
          let all : m ≡ length xs = omega (arith, long, c.min-more.ensures, c.len-in-loop-items.ensures, c.len-in-loop-items-2.ensures, h) in
          ap (λ j. j % length old) (omega (arith, long, all)) ∙ two_rounds (length xs) (length old) round;
      made = λ d. put ∙ again_listed xs old d (length old) m (length xs) (length new) refl long few round (c.loop-items.invariant.made d);
    }

pub returns : goal.returns
returns g c =
    let e : length c.loop-items.items.items ≡ c.args.places = omega (arith, c.loop-items-test.false, c.len.ensures, c.loop-items.invariant.high) in
    λ d. c.loop-items.invariant.made d ∙ ap (λ n. listed n (λ k. get_or c.args.items.now.items (k % length c.args.items.now.items) d)) e
