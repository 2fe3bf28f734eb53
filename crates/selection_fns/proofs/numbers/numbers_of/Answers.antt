use Rattle.std.{proofs.Common.{◌≡◌, ◌<◌, ◌+◌, ◌-◌, ◌++◌, ◌∷◌, [], get_or, length, take, ap, sym, ◌∙◌, pos, to_z, of_z, w64, arith, rules}, proofs.lemmas.Int.{to_z-of_z}, proofs.lemmas.List.{length-map, take_more, take_all}, proofs.lemmas.Result.{IfOk-weaker}}
use Rattle.index_region.{specs.Arguments.{numbers, number_of}, proofs.Numbers.{numbers_read}}
use Rattle.selection_fns.proofs.numbers.numbers_of.Goals as goal

pub returns-in-Some-clause-is : goal.returns-in-Some-clause-is
returns-in-Some-clause-is c =
    let a = c.args.array.now in
    IfOk-weaker c.to_vec.result _ (λ v. v.items ≡ numbers a) (λ v same. same (λ x y e. e) ∙ sym (numbers_read a c.in-Some.numbers.now c.in-Some.ensures.is.1)) c.to_vec.ensures.items_if_clones_equal

pub loop-before-preserved : goal.loop-before-preserved
loop-before-preserved c =
    let zs = numbers c.args.array.now in
    let k = c.loop-before.before in
    let z = c.number.result in
    let same : to_z w64 (of_z w64 z) ≡ z = to_z-of_z w64 _ (search rules) in
    let below : k < length zs = omega (arith, length-map c.args.array.now.items number_of, c.loop-before-test.true, c.places-places.ensures.is) in
    let here : z ≡ get_or zs k (pos 0) = c.number.ensures ∙ (let e : k + 1 - 1 ≡ k = omega arith in ap (λ n. get_or zs n (pos 0)) e) in
    (rw same at c.in_ok-push.ensures.items) ∙ ap (λ xs. xs ++ z ∷ []) c.loop-before.invariant ∙ ap (λ x. take k zs ++ x ∷ []) here ∙ sym (take_more zs k (pos 0) below)

pub returns-clause-is : goal.returns-clause-is
returns-clause-is c =
    let zs = numbers c.args.array.now in
    c.loop-before.invariant ∙ take_all c.loop-before.before zs (omega (arith, length-map c.args.array.now.items number_of, c.loop-before-test.false, c.places-places.ensures.is))
