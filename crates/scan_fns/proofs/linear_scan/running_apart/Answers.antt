use Rattle.std.{proofs.Common.{◌≡◌, ◌∙◌, ◌+◌, ◌-◌, ◌*◌, ◌%◌, ap, sym, length, get_or, arith, Ok, pos, to_z, of_z, w64, SFits, rules, ℕ, ℤ, Result, nat_lt, true, false}, proofs.lemmas.Int.{to_z-of_z}, proofs.Math.Nat.{mod-add-mod, zero-mod}}
use Rattle.{arrays_core.specs.declared.item.Kind.{Kind}, item_fns.proofs.Errors.{list_error}}
use Rattle.scan_fns.{specs.LinearScan.{left_rule}, proofs.LeftScans.{next_left, all_fit, error_read, none_yet, one_more, first_error, fails_here, results_end}, proofs.linear_scan.running_apart.Given.{Over}, proofs.linear_scan.running_apart.Goals.{After-next_result}}
use Rattle.reduce_fns.specs.LeftFolds.{folded_left}
use Rattle.scan_fns.proofs.linear_scan.running_apart.Goals as goal

module _ (g : Over) (c : After-next_result g) where
  abbrev rule : ℕ → Result ℤ Kind
  rule = left_rule (g.S.TwoNumbers.gives c.args.step.now) c.args.lines.now.numbers.now c.args.lines.now.stride c.args.lines.now.count

  abbrev number : ℤ
  number = get_or c.args.lines.now.numbers.now c.loop-place.place (pos 0)

  fit : SFits w64 number
  fit = search rules

  -- the result at the place
  given : (r : Result ℤ Kind) → (nat_lt c.loop-place.block_place c.args.lines.now.stride ≡ true → r ≡ Ok (to_z w64 (of_z w64 number)))
      → (nat_lt c.loop-place.block_place c.args.lines.now.stride ≡ false → r ≡ g.S.TwoNumbers.gives c.args.step.now (get_or c.deref.result.now (length c.deref.result.now - c.args.lines.now.stride) (pos 0)) (to_z w64 (of_z w64 number)))
      → rule c.loop-place.place ≡ r
  given r first later =
      let read : to_z w64 (of_z w64 number) ≡ number = to_z-of_z w64 _ fit in
      let count : length c.deref.result.now ≡ c.loop-place.place = omega (arith, c.deref.ensures.len, c.loop-place.invariant.so_far.long) in
      next_left (g.S.TwoNumbers.gives c.args.step.now) c.args.lines.now.numbers.now c.args.lines.now.stride c.args.lines.now.count c.args.lines.now.apart c.args.lines.now.some
      c.loop-place.place c.loop-place.block_place c.loop-place.results.items
      r (omega arith) c.loop-place.invariant.so_far.made c.loop-place.invariant.here (λ h. rw read at (first h)) (λ h. rw (count, c.deref.ensures.value, read) at (later h))

pub loop-place-init : goal.loop-place-init
loop-place-init g c =
    let made = c.in_ok-results.ensures in
    record {
      so_far = none_yet (left_rule (g.S.TwoNumbers.gives c.args.step.now) c.args.lines.now.numbers.now c.args.lines.now.stride c.args.lines.now.count) c.args.lines.now.numbers.now c.in_ok-results.results made.items made.len
          (omega (arith, c.room_of.ensures.low, made.capacity));
      here = sym (zero-mod (c.args.lines.now.count * c.args.lines.now.stride));
    }

pub returns-in_err-result-clause-is : goal.returns-in_err-result-clause-is
returns-in_err-result-clause-is g c =
    let at = (goal.at.returns-in_err-result-clause-is g c).After-next_result in
    list_error _ c.in_err-result.field-0.0 _
    (first_error _ _ _ _ c.loop-place.invariant.so_far (omega arith) (fit g at) c.in_err-result.field-0.0
    (given g at _ c.in_err-result.ensures.first c.in_err-result.ensures.later)) c.from_residual-in_err-result.ensures

pub returns-in_err-result-clause-read : goal.returns-in_err-result-clause-read
returns-in_err-result-clause-read g c =
    let at = (goal.at.returns-in_err-result-clause-read g c).After-next_result in
    error_read (folded_left (g.S.TwoNumbers.gives c.args.step.now)) c.args.lines.now.numbers.now c.args.lines.now.stride c.args.lines.now.count c.in_err-result.field-0.0 _
    (fails_here _ _ _ _ c.loop-place.invariant.so_far (omega arith) (fit g at) c.in_err-result.field-0.0 (given g at _ c.in_err-result.ensures.first c.in_err-result.ensures.later))
    c.from_residual-in_err-result.ensures

pub push_reserved-requires : goal.push_reserved-requires
push_reserved-requires g c = omega (arith, c.loop-place.invariant.so_far.long, c.loop-place.invariant.so_far.room)

pub loop-place-preserved : goal.loop-place-preserved
loop-place-preserved g c =
    let at = (goal.at.loop-place-preserved g c).After-next_result in
    record {
      so_far = one_more _ _ _ _ c.loop-place.invariant.so_far (omega arith) (fit g at) c.in_ok-result.result c.push_reserved.new.self
          (given g at _ c.in_ok-result.ensures.first c.in_ok-result.ensures.later) (search rules)
          c.push_reserved.ensures.items c.push_reserved.ensures.len (omega (arith, c.push_reserved.ensures.capacity));
      here = c.place_after-block_place.ensures ∙ ap (λ n. (n + 1) % (c.args.lines.now.count * c.args.lines.now.stride)) c.loop-place.invariant.here
          ∙ mod-add-mod c.loop-place.place (c.args.lines.now.count * c.args.lines.now.stride) 1;
    }

pub returns-clause-is : goal.returns-clause-is
returns-clause-is g c = results_end _ _ _ _ c.loop-place.invariant.so_far (omega arith)

pub returns-clause-read : goal.returns-clause-read
returns-clause-read g c = all_fit c.args.lines.now.numbers.now c.loop-place.place (omega arith) c.loop-place.invariant.so_far.read
