use Rattle.std.{proofs.Common.{◌≡◌, ◌∙◌, sym, ap, get_or, pos, Err, rules, to_z, of_z, w64}, proofs.lemmas.Int.{to_z-of_z}}
use Rattle.arrays_core.{specs.declared.item.Kind.{Kind}, specs.declared.item.Kind.TheVariants.{Limit}}
use Rattle.search_fns.{specs.DecodedRows.{with_one_more}, proofs.DecodeErrors.{limit_of, one_more_limited}}
use Rattle.search_fns.proofs.more_digits.put_checked.Goals as goal

pub returns-in_err-sums-clause-beyond : goal.returns-in_err-sums-clause-beyond
returns-in_err-sums-clause-beyond c =
    let k = c.loop-place.place in
    let m = c.args.radix in
    let x = get_or c.args.digits.now k (pos 0) in
    let s = get_or c.args.numbers.now k (pos 0) in
    let e = c.in_err-sums.field-0.0 in
    let x_is : to_z w64 (of_z w64 x) ≡ x = to_z-of_z w64 _ (search rules) in
    let s_is : to_z w64 (of_z w64 s) ≡ s = to_z-of_z w64 _ (search rules) in
    let given : c.one_more.result ≡ with_one_more s m x = rw (x_is, s_is, (to_z-of_z w64 _ c.ranges.radix)) at c.one_more.ensures in
    let failed : with_one_more s m x ≡ Err e = sym given ∙ c.in_err-sums.was in
    let limit : e ≡ Limit = limit_of (with_one_more s m x) e (one_more_limited s m x) failed in
    let answered : c.from_residual.result ≡ Err e = search rules in
    rw answered (limit, record { place = k; below = c.loop-place-test.true; is = failed ∙ ap (λ (t : Kind). Err t) limit })
