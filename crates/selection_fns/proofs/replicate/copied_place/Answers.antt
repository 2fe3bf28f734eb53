use Rattle.std.{proofs.Common.{◌≡◌, ◌≢◌, ◌∙◌, ℕ, Bool, false, nat_eq, if◌then◌else◌, replicate, unsigned_abs, ap, sym, arith, w64}, proofs.lemmas.Int.{to_z-of_z}, proofs.lemmas.Bool.Decides.{nat_tests}}
use Rattle.selection_fns.{specs.Replicate.{times, maker, copied_place}, proofs.Repeated.{times_of_one}}
use Rattle.selection_fns.proofs.replicate.copied_place.Goals as goal

not_one : (n : ℕ) → n ≢ 1 → nat_eq n 1 ≡ false
not_one n h = grind (arith, nat_tests)

pub returns-then-places-eq1-2 : goal.returns-then-places-eq1-2
returns-then-places-eq1-2 c =
    let a = c.args.counts.now in
    let n = c.args.places in
    let copy = c.args.copy in
    let same = to_z-of_z w64 c.number.result (record { sfits = c.number.type_inv }) in
    let asked : copied_place a n copy ≡ maker (times a n) copy = ap (λ (w : Bool). if w then 1 else maker (times a n) copy) (not_one n c.if-places-eq1.false) in
    c.maker_of_each.ensures ∙ ap (λ k. maker (replicate n k) copy) (c.unsigned_abs.ensures.value ∙ ap unsigned_abs (same ∙ c.number.ensures))
    ∙ sym (asked ∙ ap (λ counts. maker counts copy) (times_of_one a n (sym c.places.ensures.is ∙ c.if-places-eq1-2.true)))
