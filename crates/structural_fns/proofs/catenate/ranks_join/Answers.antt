use Rattle.std.{proofs.Common.{◌≡◌, ◌∙◌, ◌+◌, suc, true, false, length, ap, sym, arith, rules}, specs.Prelude.{nat_le, ◌&&◌, ◌||◌}, proofs.lemmas.Bool.Decides.{nat_tests}}
use Rattle.index_region.specs.Arguments.{is_scalar}
use Rattle.structural_fns.proofs.catenate.ranks_join.Goals as goal

pub returns-then-left-right : goal.returns-then-left-right
returns-then-left-right c =
    let a = c.args.left.now in
    let b = c.args.right.now in
    let left : c.len-left.result ≡ length a.shape = search rules in
    let right : c.len-right.result ≡ length b.shape = search rules in
    let some_left : is_scalar a ≡ false = grind (arith, nat_tests) in
    let some_right : is_scalar b ≡ false = grind (arith, nat_tests) in
    let within : nat_le (length a.shape) (suc (length b.shape)) ≡ true = grind (arith, nat_tests) in
    ap (λ n. nat_le n (c.len-left.result + 1)) right
    ∙ ap (nat_le (length b.shape)) (omega (arith, left))
    ∙ sym (ap (λ s. (s || is_scalar b) || (nat_le (length a.shape) (suc (length b.shape)) && nat_le (length b.shape) (suc (length a.shape)))) some_left
    ∙ ap (λ s. s || (nat_le (length a.shape) (suc (length b.shape)) && nat_le (length b.shape) (suc (length a.shape)))) some_right
    ∙ ap (λ s. s && nat_le (length b.shape) (suc (length a.shape))) within)
