use Rattle.std.{proofs.Common.{◌≡◌, ◌-◌, ℕ, ◌∙◌, sym, ap, arith, pos, get_or, unsigned_abs, to_z, of_z, w64}, proofs.lemmas.Int.{ints}, proofs.Math.ListN.{get_or-map}}
use Rattle.{index_region.specs.Arguments.{numbers}, structural_fns.specs.DyadicTranspose.{axes_to}}
use Rattle.structural_fns.proofs.dyadic_transpose.axis_to.Goals as goal

pub returns : goal.returns
returns c =
    let z = c.number.result in
    let same : to_z w64 (of_z w64 z) ≡ z = omega (arith, ints, c.number.type_inv) in
    let number : z ≡ get_or (numbers c.args.axes.now) c.args.axis (pos 0) = c.number.ensures ∙ ap (λ (m : ℕ). get_or (numbers c.args.axes.now) m (pos 0)) (omega arith) in
    c.saturating_sub.ensures
    ∙ ap (λ (m : ℕ). m - 1) (c.unsigned_abs.ensures.value ∙ ap unsigned_abs (same ∙ number) ∙ sym (get_or-map unsigned_abs (numbers c.args.axes.now) c.args.axis (pos 0)))
    ∙ sym (get_or-map (λ (j : ℕ). j - 1) (axes_to c.args.axes.now) c.args.axis 0)
