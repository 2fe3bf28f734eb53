use Rattle.std.{proofs.Common.{◌≡◌, ◌∙◌, ◌+◌, ◌*◌, ◌%◌, ap, sym, get_or, arith, pos, to_z, of_z, w64, SFits, rules, ℕ, ℤ, Result}, proofs.lemmas.Int.{to_z-of_z}, proofs.lemmas.Nat.{mod_below}, proofs.Math.Nat.{mod-add-mod, mul-pos}}
use Rattle.{arrays_core.specs.declared.item.Kind.{Kind}, item_fns.proofs.Errors.{list_error}}
use Rattle.scan_fns.{specs.Prefixes.{fold_to}, proofs.LeftScans.{one_more, first_error, results_end}, proofs.Prefixes.{IsFoldKept, line_kept, more_kept, fold_here}, proofs.prefix.folds_apart.Given.{Over}, proofs.prefix.folds_apart.Goals.{After-push}}
use Rattle.scan_fns.proofs.prefix.folds_apart.Goals as goal

module _ (g : Over) (c : After-push g) where
  abbrev rule : ℕ → Result ℤ Kind
  rule = fold_to (g.P.Prefix.step c.args.none.now) c.args.lines.now.numbers.now c.args.lines.now.stride c.args.lines.now.count

  abbrev number : ℤ
  number = get_or c.args.lines.now.numbers.now c.loop-place.place (pos 0)

  fit : SFits w64 number
  fit = search rules

  read : to_z w64 (of_z w64 number) ≡ number
  read = to_z-of_z w64 _ fit

  it : IsFoldKept g.P.Prefix.step g.P.Prefix.gives c.args.none.now c.args.lines.now.numbers.now c.args.lines.now.stride c.args.lines.now.count c.loop-place.place c.line_so_far-line.result
  it =
      let before = c.loop-place.invariant in
      line_kept g.P.Prefix.step g.P.Prefix.gives c.args.none.now c.args.lines.now.numbers.now c.args.lines.now.stride c.args.lines.now.count c.args.lines.now.apart
      c.args.lines.now.some c.loop-place.place c.loop-place.block_place c.loop-place.column
      c.loop-place.kept.items c.line_so_far-line.result before.kept c.requires.fresh before.here before.column c.line_so_far-line.ensures.first
      (λ h. rw c.deref.ensures.value at (c.line_so_far-line.ensures.later h))

  -- the fold at the place
  given : (r : Result ℤ Kind) → r ≡ g.P.Prefix.gives c.line_so_far-line.result (to_z w64 (of_z w64 number)) → rule c.loop-place.place ≡ r
  given r is =
      fold_here (g.P.Prefix.step c.args.none.now) c.args.lines.now.numbers.now c.args.lines.now.stride c.args.lines.now.count c.args.lines.now.apart c.args.lines.now.some
      c.loop-place.place (g.P.Prefix.gives c.line_so_far-line.result) fit it.fresh it.told
      ∙ sym (rw read at is)

pub returns-in_err-result-clause-is : goal.returns-in_err-result-clause-is
returns-in_err-result-clause-is g c =
    let at = (goal.at.returns-in_err-result-clause-is g c).After-push in
    list_error _ c.in_err-result.field-0.0 _
    (first_error _ _ _ _ c.loop-place.invariant.so_far (omega arith) (fit g at) c.in_err-result.field-0.0 (given g at _ c.in_err-result.ensures.is))
    c.from_residual-in_err-result.ensures

pub place_after-block_place-requires : goal.place_after-block_place-requires
place_after-block_place-requires g c =
    let lines = c.args.lines.now in
    omega (arith, c.loop-place.invariant.here, mod_below c.loop-place.place (lines.count * lines.stride) (mul-pos lines.some lines.apart))

pub loop-place-preserved : goal.loop-place-preserved
loop-place-preserved g c =
    let at = (goal.at.loop-place-preserved g c).After-push in
    let zs = c.args.lines.now.numbers.now in
    let k = c.loop-place.place in
    let before = c.loop-place.invariant in
    record {
      so_far = one_more _ _ _ _ before.so_far (omega arith) (fit g at) c.in_ok-result.result c.push_reserved.new.self (given g at _ c.in_ok-result.ensures.is) (search rules)
          c.push_reserved.ensures.items c.push_reserved.ensures.len (omega (arith, c.push_reserved.ensures.capacity));
      here = c.place_after-block_place.ensures ∙ ap (λ n. (n + 1) % (c.args.lines.now.count * c.args.lines.now.stride)) before.here ∙ mod-add-mod k (c.args.lines.now.count * c.args.lines.now.stride) 1;
      column = c.place_after-column.ensures ∙ ap (λ n. (n + 1) % c.args.lines.now.stride) before.column ∙ mod-add-mod k c.args.lines.now.stride 1;
      long = search rules;
      kept = more_kept g.P.Prefix.step g.P.Prefix.gives c.args.none.now zs c.args.lines.now.stride c.args.lines.now.count c.args.lines.now.apart c.args.lines.now.some k
          c.loop-place.column c.loop-place.kept.items
          c.line_so_far-line.result c.push.new.self before.kept (it g at) (fit g at) c.requires.closed c.in_ok-result.ensures.same (rw (read g at) at c.in_ok-result.ensures.next)
          before.column before.long;
    }

pub returns-clause-is : goal.returns-clause-is
returns-clause-is g c = results_end _ _ _ _ c.loop-place.invariant.so_far (omega arith)
