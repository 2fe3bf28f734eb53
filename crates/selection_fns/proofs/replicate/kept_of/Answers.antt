use Rattle.std.{proofs.Common.{rules, ◌≡◌, false, nat_eq, length, arith}, proofs.lemmas.Bool.Decides.{nat_tests}, proofs.lemmas.Result.{IfOk-weaker}, proofs.lemmas.Option.{IfSome_then}, specs.Prelude.{IfSome}}
use Rattle.{index_region.{proofs.Numbers.{numbers_read}}, selection_fns.specs.Kept.{AreMasked, IsKept}}
use Rattle.selection_fns.proofs.replicate.kept_of.Goals as goal

pub returns : goal.returns
returns c =
    let a = c.args.counts.now in
    let b = c.args.array.now in
    let several : nat_eq (length a.items) 1 ≡ false = grind (arith, nat_tests) in
    let read = c.in-Some-numbers.ensures.is in
    let list = c.in-Some.list.now in
    let all = c.in-Some-numbers.numbers.now in
    IfOk-weaker c.kept_numbers.result (λ o. IfSome o (λ v. AreMasked list all v.items)) (λ o. IfSome o (λ v. IsKept a b v.items))
    (λ o known. IfSome_then o known (λ v masked. record {
      vector = search rules;
      several = several;
      even = search rules;
      all = all;
      typed = read.0;
      items = read.1;
      masked = rw (numbers_read a list c.in-Some.ensures.is.1) masked;
    })) c.kept_numbers.ensures
