use Rattle.std.{proofs.Common.{◌≡◌, ◌∙◌, ◌+◌, ◌-◌, ◌%◌, ◌<◌, ◌∷◌, [], ap, sym, subst, length, get_or, min, arith, Ok, pos, to_z, of_z, w64, SFits, rules, ℕ, ℤ, Result, nat_eq, true, false}, proofs.lemmas.List.{get_or-append_right}, proofs.lemmas.Int.{to_z-of_z}}
use Rattle.{arrays_core.specs.declared.item.Kind.{Kind}, item_fns.proofs.Errors.{passed_on}}
use Rattle.scan_fns.{specs.LinearScan.{left_rule, AreResultsTo}, proofs.LeftScans.{next_beside, one_more, first_error, fails_here}, proofs.linear_scan.push_line.Given.{Over}, proofs.linear_scan.push_line.Goals.{After-next_in_line}}
use Rattle.scan_fns.proofs.linear_scan.push_line.Goals as goal

module _ (g : Over) (c : After-next_in_line g) where
  abbrev rule : ℕ → Result ℤ Kind
  rule = left_rule (g.S.TwoNumbers.gives c.args.step.now) c.args.numbers.now 1 c.args.count

  below : c.loop-place.place < length c.args.numbers.now
  below = omega (arith, c.loop-place-test.true, c.min.ensures, c.len-first.ensures)

  abbrev number : ℤ
  number = get_or c.args.numbers.now c.loop-place.place (pos 0)

  fit : SFits w64 number
  fit = search rules

  -- the result at the place
  given : (r : Result ℤ Kind) → (nat_eq c.loop-place.place c.len-first.result ≡ true → r ≡ Ok (to_z w64 (of_z w64 number)))
      → (nat_eq c.loop-place.place c.len-first.result ≡ false → r ≡ g.S.TwoNumbers.gives c.args.step.now (to_z w64 c.loop-place.before-bits) (to_z w64 (of_z w64 number)))
      → rule c.loop-place.place ≡ r
  given r first later =
      let begins : c.len-first.result % c.args.count ≡ 0 = ap (λ n. n % c.args.count) c.len-first.ensures ∙ c.requires.begins in
      let near : c.loop-place.place < c.len-first.result + c.args.count = omega (arith, c.loop-place-test.true, c.min.ensures) in
      let read : to_z w64 (of_z w64 number) ≡ number = to_z-of_z w64 _ fit in
      next_beside (g.S.TwoNumbers.gives c.args.step.now) c.args.numbers.now c.args.count c.requires.some c.loop-place.place c.len-first.result c.loop-place.results.items
      c.loop-place.before r
      below c.loop-place.invariant.so_far.made begins c.loop-place.auto.place near (λ h. c.loop-place.invariant.last h ∙ c.loop-place.before-is)
      (λ h. rw read at (first h)) (λ h. rw (c.loop-place.before-is, read) at (later h))

pub loop-place-init : goal.loop-place-init
loop-place-init g c =
    let rule = left_rule (g.S.TwoNumbers.gives c.args.step.now) c.args.numbers.now 1 c.args.count in
    record {
      so_far = subst (λ p. AreResultsTo p rule c.args.numbers.now c.args.results.now) (sym c.len-first.ensures) c.requires.before;
      last = λ h. absurd (let none : c.len-first.result < c.len-first.result = h in omega arith);
    }

pub returns-in_err-before-clause-first : goal.returns-in_err-before-clause-first
returns-in_err-before-clause-first g c =
    let at = (goal.at.returns-in_err-before-clause-first g c).After-next_in_line in
    rw (passed_on c.from_residual.result c.in_err-before.field-0.0 c.from_residual.ensures)
    (first_error _ _ _ _ c.loop-place.invariant.so_far (below g at) (fit g at) c.in_err-before.field-0.0 (given g at _ c.in_err-before.ensures.first c.in_err-before.ensures.later))

pub returns-in_err-before-clause-read : goal.returns-in_err-before-clause-read
returns-in_err-before-clause-read g c =
    let at = (goal.at.returns-in_err-before-clause-read g c).After-next_in_line in
    rw (passed_on c.from_residual.result c.in_err-before.field-0.0 c.from_residual.ensures)
    (fails_here _ _ _ _ c.loop-place.invariant.so_far (below g at) (fit g at) c.in_err-before.field-0.0 (given g at _ c.in_err-before.ensures.first c.in_err-before.ensures.later))

pub push_reserved-requires : goal.push_reserved-requires
push_reserved-requires g c = omega (arith, c.loop-place.invariant.so_far.long, c.loop-place.invariant.so_far.room, c.min.ensures, c.loop-place-test.true)

pub loop-place-preserved : goal.loop-place-preserved
loop-place-preserved g c =
    let at = (goal.at.loop-place-preserved g c).After-next_in_line in
    let k = c.loop-place.place in
    let z = c.in_ok-before.before in
    record {
      so_far = one_more _ _ _ _ c.loop-place.invariant.so_far (below g at) (fit g at) z c.push_reserved.new.self
          (given g at _ c.in_ok-before.ensures.first c.in_ok-before.ensures.later) (search rules)
          c.push_reserved.ensures.items c.push_reserved.ensures.len (omega (arith, c.push_reserved.ensures.capacity));
      last = λ h.
          let zero : k + 1 - 1 - k ≡ 0 = omega arith in
          let whole : length c.loop-place.results.items ≡ k = sym c.loop-place.results.ok.0 ∙ c.loop-place.invariant.so_far.long in
          ap (λ ys. get_or ys (k + 1 - 1) (pos 0)) c.push_reserved.ensures.items
          ∙ get_or-append_right c.loop-place.results.items (to_z w64 (of_z w64 z) ∷ []) k (k + 1 - 1) (pos 0) whole (omega arith)
          ∙ ap (λ i. get_or (to_z w64 (of_z w64 z) ∷ []) i (pos 0)) zero;
    }

pub returns-clause-is : goal.returns-clause-is
returns-clause-is g c =
    let rule = left_rule (g.S.TwoNumbers.gives c.args.step.now) c.args.numbers.now 1 c.args.count in
    let end : c.loop-place.place ≡ min (c.args.results.now.len + c.args.count) (length c.args.numbers.now) = omega (arith, c.loop-place-test.false, c.min.ensures, c.len-first.ensures) in
    subst (λ p. AreResultsTo p rule c.args.numbers.now c.loop-place.results) end c.loop-place.invariant.so_far
