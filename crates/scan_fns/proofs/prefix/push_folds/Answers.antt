use Rattle.std.{proofs.Common.{◌≡◌, ◌∙◌, ◌+◌, ◌%◌, ◌<◌, ap, sym, subst, length, get_or, min, arith, pos, to_z, of_z, w64, SFits, rules, ℕ, ℤ, Result}, proofs.lemmas.Int.{to_z-of_z}}
use Rattle.{arrays_core.specs.declared.item.Kind.{Kind}, item_fns.proofs.Errors.{passed_on}}
use Rattle.scan_fns.{specs.LinearScan.{AreResultsTo}, specs.Prefixes.{fold_to}, proofs.LeftScans.{one_more, first_error}, proofs.Prefixes.{IsFoldKept, line_begun, line_goes_on, fold_here}, proofs.prefix.push_folds.Given.{Over}, proofs.prefix.push_folds.Goals.{After-push}}
use Rattle.scan_fns.proofs.prefix.push_folds.Goals as goal

module _ (g : Over) (c : After-push g) where
  abbrev rule : ℕ → Result ℤ Kind
  rule = fold_to (g.P.Prefix.step c.args.none.now) c.args.numbers.now 1 c.args.count

  below : c.loop-place.place < length c.args.numbers.now
  below = omega (arith, c.loop-place-test.true, c.min.ensures, c.len-first.ensures)

  abbrev number : ℤ
  number = get_or c.args.numbers.now c.loop-place.place (pos 0)

  fit : SFits w64 number
  fit = search rules

  read : to_z w64 (of_z w64 number) ≡ number
  read = to_z-of_z w64 _ fit

  it : IsFoldKept g.P.Prefix.step g.P.Prefix.gives c.args.none.now c.args.numbers.now 1 c.args.count c.loop-place.place c.loop-place.line
  it = c.loop-place.invariant.kept (omega (arith, c.loop-place-test.true, c.min.ensures))

  -- the fold at the place
  given : (r : Result ℤ Kind) → r ≡ g.P.Prefix.gives c.loop-place.line (to_z w64 (of_z w64 number)) → rule c.loop-place.place ≡ r
  given r is = fold_here (g.P.Prefix.step c.args.none.now) c.args.numbers.now 1 c.args.count (omega arith) c.requires.some c.loop-place.place (g.P.Prefix.gives c.loop-place.line)
      fit it.fresh it.told ∙ sym (rw read at is)

pub loop-place-init : goal.loop-place-init
loop-place-init g c =
    let zs = c.args.numbers.now in
    let begins : c.len-first.result % c.args.count ≡ 0 = ap (λ n. n % c.args.count) c.len-first.ensures ∙ c.requires.begins in
    record {
      so_far = subst (λ p. AreResultsTo p (fold_to (g.P.Prefix.step c.args.none.now) zs 1 c.args.count) zs c.args.results.now) (sym c.len-first.ensures) c.requires.before;
      kept = λ h. line_begun g.P.Prefix.step g.P.Prefix.gives c.args.none.now zs c.args.count c.requires.some c.len-first.result begins c.requires.fresh;
    }

pub returns-in_err-result-clause-first : goal.returns-in_err-result-clause-first
returns-in_err-result-clause-first g c =
    let at = (goal.at.returns-in_err-result-clause-first g c).After-push in
    rw (passed_on c.from_residual.result c.in_err-result.field-0.0 c.from_residual.ensures)
    (first_error _ _ _ _ c.loop-place.invariant.so_far (below g at) (fit g at) c.in_err-result.field-0.0 (given g at _ c.in_err-result.ensures.is))

pub push_reserved-requires : goal.push_reserved-requires
push_reserved-requires g c = omega (arith, c.loop-place.invariant.so_far.long, c.loop-place.invariant.so_far.room, c.min.ensures, c.loop-place-test.true)

pub loop-place-preserved : goal.loop-place-preserved
loop-place-preserved g c =
    let at = (goal.at.loop-place-preserved g c).After-push in
    let zs = c.args.numbers.now in
    let k = c.loop-place.place in
    let begins : c.len-first.result % c.args.count ≡ 0 = ap (λ n. n % c.args.count) c.len-first.ensures ∙ c.requires.begins in
    record {
      so_far = one_more _ _ _ _ c.loop-place.invariant.so_far (below g at) (fit g at) c.in_ok-result.result c.push_reserved.new.self (given g at _ c.in_ok-result.ensures.is)
          (search rules)
          c.push_reserved.ensures.items c.push_reserved.ensures.len (omega (arith, c.push_reserved.ensures.capacity));
      kept = λ h. line_goes_on g.P.Prefix.step g.P.Prefix.gives c.args.none.now zs c.args.count c.requires.some c.len-first.result begins k c.loop-place.line c.push.new.self
          c.loop-place.auto.place h (it g at) (fit g at) c.requires.closed
          c.in_ok-result.ensures.same (rw (read g at) at c.in_ok-result.ensures.next);
    }

pub returns-clause-is : goal.returns-clause-is
returns-clause-is g c =
    let rule = fold_to (g.P.Prefix.step c.args.none.now) c.args.numbers.now 1 c.args.count in
    let end : c.loop-place.place ≡ min (c.args.results.now.len + c.args.count) (length c.args.numbers.now) = omega (arith, c.loop-place-test.false, c.min.ensures, c.len-first.ensures) in
    subst (λ p. AreResultsTo p rule c.args.numbers.now c.loop-place.results) end c.loop-place.invariant.so_far
