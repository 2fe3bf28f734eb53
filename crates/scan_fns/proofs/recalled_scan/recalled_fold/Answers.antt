use Rattle.std.{proofs.Common.{rules, ◌≡◌, ◌∙◌, ◌<◌, ◌-◌, ap, sym, pos, length, get_or, Ok, arith, to_z, of_z, w64, Result, ℤ, ℕ}, proofs.lemmas.Int.{to_z-of_z}, proofs.lemmas.List.{length-set}}
use Rattle.{arrays_core.{specs.declared.item.Kind.{Kind}, specs.Items.{and_then}}, item_fns.proofs.Errors.{passed_on}}
use Rattle.scan_fns.{specs.LinearScan.{depth}, proofs.recalled_scan.recalled_fold.Given.{Over}, specs.Prefixes.{fold_to}, specs.RecalledScan.{given_at, nothing}, proofs.Runs.{one_deeper, past_stride}, proofs.RecalledFolds.{own_number, at_later, one_recalled}, proofs.recalled_scan.recalled_fold.Goals.{After-at}}
use Rattle.scan_fns.proofs.recalled_scan.recalled_fold.Goals as goal

module _ (g : Over) (c : After-at g) where
  abbrev before : ℕ
  before = c.loop.here - c.args.stride

  abbrev given_before : ℤ → Result ℤ Kind
  given_before = given_at (g.S.TwoNumbers.gives c.args.step.now) c.args.numbers.now c.args.stride c.args.count before

  deep : 0 < depth c.args.stride c.args.count c.loop.here
  deep = omega (arith, c.loop.invariant.deep, c.loop-test.true, c.loop.auto.counter-end)

  inside : before < length c.args.results.now
  inside = omega (arith, c.loop.invariant.back, c.requires.apart, c.loop-test.true)

  read : to_z w64 (of_z w64 (get_or c.args.numbers.now before (pos 0))) ≡ get_or c.args.numbers.now before (pos 0)
  read = to_z-of_z w64 _ (search rules)

  -- the fold continues from the place before
  came : (r : Result ℤ Kind) → r ≡ g.S.TwoNumbers.gives c.args.step.now (to_z w64 (of_z w64 (get_or c.args.numbers.now before (pos 0)))) (to_z w64 c.loop.number-bits)
      → and_then r given_before ≡ fold_to (g.S.TwoNumbers.gives c.args.step.now) c.args.numbers.now c.args.stride c.args.count (length c.args.results.now)
  came r gave =
      let f = g.S.TwoNumbers.gives c.args.step.now in
      ap (λ r. and_then r given_before) (rw (c.loop.number-is, read) at gave)
      ∙ sym (at_later f c.args.numbers.now c.args.stride c.args.count c.requires.apart c.requires.some c.loop.here c.loop.number deep)
      ∙ ap (given_at f c.args.numbers.now c.args.stride c.args.count c.loop.here) (sym c.loop.number-is) ∙ c.loop.invariant.still

pub loop-init : goal.loop-init
loop-init g c =
    let f = g.S.TwoNumbers.gives c.args.step.now in
    let zs = c.args.numbers.now in
    let place = length c.args.results.now in
    let read : to_z w64 (of_z w64 (get_or zs place (pos 0))) ≡ get_or zs place (pos 0) = to_z-of_z w64 _ (search rules) in
    record {
      back = omega arith;
      deep = omega arith;
      still = ap (given_at f zs c.args.stride c.args.count place) read ∙ own_number f zs c.args.stride c.args.count c.requires.apart c.requires.some place;
      long = c.requires.long;
      recalled = c.requires.recalled;
    }

pub returns-in_err-number-clause-is : goal.returns-in_err-number-clause-is
returns-in_err-number-clause-is g c =
    passed_on c.from_residual.result c.in_err-number.field-0.0 c.from_residual.ensures ∙ came g (goal.at.returns-in_err-number-clause-is g c).After-at _ c.in_err-number.ensures

pub returns-then-before-place-clause-is : goal.returns-then-before-place-clause-is
returns-then-before-place-clause-is g c =
    let at = (goal.at.returns-then-before-place-clause-is g c).After-at in
    let z = c.in_ok-number.number in
    let r = get_or c.loop.recalled (before g at) nothing in
    let same : r.number ≡ z = sym (to_z-of_z w64 r.number (search rules)) ∙ ap (to_z w64) c.if-before-number.true ∙ to_z-of_z w64 z (search rules) in
    let given : given_before g at z ≡ fold_to (g.S.TwoNumbers.gives c.args.step.now) c.args.numbers.now c.args.stride c.args.count r.later =
    rw same at (c.loop.invariant.recalled (before g at) (omega (arith, c.loop.invariant.long, inside g at))) in
    ap Ok (to_z-of_z w64 _ (search rules)) ∙ sym (c.requires.results r.later c.if-before-place.true) ∙ sym given ∙ came g at _ c.in_ok-number.ensures

pub returns-then-number-numbers-clause-is : goal.returns-then-number-numbers-clause-is
returns-then-number-numbers-clause-is g c =
    let at = (goal.at.returns-then-number-numbers-clause-is g c).After-at in
    let z = c.in_ok-number.number in
    let same : z ≡ get_or c.args.numbers.now (before g at) (pos 0) = sym (to_z-of_z w64 z (search rules)) ∙ ap (to_z w64) c.if-number-numbers.true ∙ read g at in
    let own = own_number (g.S.TwoNumbers.gives c.args.step.now) c.args.numbers.now c.args.stride c.args.count c.requires.apart c.requires.some (before g at) in
    ap Ok (to_z-of_z w64 _ (search rules)) ∙ sym (c.requires.results (before g at) (inside g at)) ∙ sym (ap (given_before g at) same ∙ own) ∙ came g at _ c.in_ok-number.ensures

pub loop-preserved : goal.loop-preserved
loop-preserved g c =
    let at = (goal.at.loop-preserved g c).After-at in
    let s = c.args.stride in
    let n = c.args.count in
    let come = ap (given_before g at) (to_z-of_z w64 c.in_ok-number.number (search rules)) ∙ came g at _ c.in_ok-number.ensures in
    let below : before g at < length c.loop.recalled = omega (arith, c.loop.invariant.long, inside g at) in
    record {
      back = omega (arith, c.loop.invariant.back, past_stride s n c.requires.apart c.requires.some c.loop.here (deep g at));
      deep = omega (arith, one_deeper s n c.requires.apart c.requires.some c.loop.here (deep g at), c.loop.invariant.deep);
      still = come;
      long = length-set c.loop.recalled (before g at) _ ∙ c.loop.invariant.long;
      recalled = one_recalled (g.S.TwoNumbers.gives c.args.step.now) c.args.numbers.now s n c.loop.recalled (before g at) _ below c.loop.invariant.recalled come;
    }
