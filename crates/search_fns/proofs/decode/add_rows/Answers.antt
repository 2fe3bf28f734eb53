use Rattle.std.{proofs.Common.{◌≡◌, ◌∙◌, ◌+◌, ◌-◌, ◌*◌, ◌≤◌, ap, drop, take, length, pos, sym, Vec, vec_len, Global, Err, arith, rules, w64, SFits, List, ℕ, ℤ}, specs.Prelude.{nat_eq, if◌then◌else◌}, proofs.lemmas.Int.{to_z-of_z}, proofs.lemmas.List.{length-replicate, take_at}}
use Rattle.{arrays_core.{specs.declared.item.Kind.TheVariants.{Limit}, specs.Shapes.{size}}, index_region.specs.Axes.{places_along}}
use Rattle.search_fns.{specs.DecodedRows.{HaveOneMore, LeavesNumbers}, proofs.DecodedRows.{HasRow, row_of, row_ends, has_row, row_further, row_fails}, proofs.decode.add_rows.Goals.{After-radix_at-radix}}
use Rattle.search_fns.proofs.decode.add_rows.Goals as goal

module _ (c : After-radix_at-radix) where
  abbrev first : ℕ
  first = (c.index_along-row.result - 1) * c.len-width.result

  -- the row of digits that is read
  abbrev row : List ℤ
  row = take (first + c.len-width.result - first) (drop first c.args.digits.now)

  fits : SFits w64 c.radix_at-radix.result
  fits = record { sfits = c.radix_at-radix.type_inv }

  wide : c.len-width.result ≡ size (drop 1 c.args.array.now.shape)
  wide = c.len-width.ensures ∙ c.args.numbers.now.ok.0 ∙ ap length c.requires.none ∙ length-replicate (size (drop 1 c.args.array.now.shape)) (pos 0)

  rows : c.places_along-rows.result ≡ places_along c.args.array.now.shape 0
  rows = search rules

  inside : first + c.len-width.result ≤ length c.args.digits.now
  inside =
      row_ends c.args.array.now c.args.digits.now c.index_along-row.result (c.len-width.result) c.requires.digits c.shape.ensures.sound.one_item_a_place wide
      c.index_along-row.ensures.above (rw rows at c.index_along-row.ensures.within)

  has : HasRow c.args.radices.now c.args.array.now c.loop-before.before c.radix_at-radix.result row
  has =
      let k = c.loop-before.before in
      let row_is : c.index_along-row.result ≡ row_of c.args.array.now.shape (k + 1) = c.index_along-row.ensures.is ∙ ap (λ n. if nat_eq n 1 then 1 else k + 1) rows in
      has_row c.args.radices.now c.args.array.now k c.args.digits.now c.index_along-row.result (c.len-width.result) c.radix_at-radix.result c.requires.digits wide row_is
      c.radix_at-radix.ensures inside

pub slice_bounds-put_more-end : goal.slice_bounds-put_more-end
slice_bounds-put_more-end c = omega (arith, inside (goal.at.slice_bounds-put_more-end c).After-radix_at-radix)

pub returns-in_err-put_more-clause-beyond : goal.returns-in_err-put_more-clause-beyond
returns-in_err-put_more-clause-beyond c =
    let at = (goal.at.returns-in_err-put_more-clause-beyond c).After-radix_at-radix in
    let e = c.in_err-put_more.field-0.0 in
    let failed : (e ≡ Limit) × LeavesNumbers c.radix_at-radix.result (row at) c.loop-before.numbers.items =
    rw (to_z-of_z w64 _ (fits at), c.in_err-put_more.was, c.deref.ensures.value) at c.put_more.ensures.beyond in
    let limit = row_fails _ _ _ c.digit_count-count.result c.radix_at-radix.result (row at) c.loop-before.numbers.items (has at) c.loop-before-test.true
    (λ p h. c.loop-before.invariant.made p (rw (wide at) h)) c.digit_count-count.ensures failed.1 in
    let answered : c.from_residual.result ≡ Err e = search rules in
    rw answered (failed.0, limit)

pub loop-before-preserved : goal.loop-before-preserved
loop-before-preserved c =
    let at = (goal.at.loop-before-preserved c).After-radix_at-radix in
    let spare = c.loop-before.spare in
    let sums = c.put_more.new.sums in
    let long : length sums ≡ length spare.items = c.in_ok-put_more.ensures.long ∙ ap length c.deref_mut.ensures.value in
    let kept : c.swap.new.x.items ≡ sums = ap (λ (v : Vec ℤ Global). v.items) c.swap.ensures.x_after ∙ take_at sums (drop (length sums) spare.items) (vec_len spare) (long ∙ sym spare.ok.0) in
    let more : HaveOneMore c.radix_at-radix.result (row at) c.loop-before.numbers.items sums = rw (to_z-of_z w64 _ (fits at), c.deref.ensures.value) at c.in_ok-put_more.ensures.is in
    rw (kept, c.swap.ensures.y_after)
    (record {
      long = long ∙ c.loop-before.invariant.spare;
      spare = c.loop-before.invariant.long;
      made = λ place below.
          row_further _ _ _ c.digit_count-count.result c.radix_at-radix.result (row at) c.loop-before.numbers.items (has at) c.loop-before-test.true
          (λ p h. c.loop-before.invariant.made p (rw (wide at) h)) sums more place (rw (wide at) at below);
    })
