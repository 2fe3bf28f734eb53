use Rattle.std.{proofs.Common.{◌≡◌, ◌+◌, ◌-◌, true, length, get_or, ap, sym, ◌∙◌, arith}, proofs.lemmas.List.Sums.{position_or_len_is}}
use Rattle.{arrays_core.specs.Items.{fill}, search_fns.specs.SameItem.{same_item}}
use Rattle.search_fns.proofs.index_of.first_place.Goals as goal

pub returns-then-is_same : goal.returns-then-is_same
returns-then-is_same c =
    let a = c.args.array.now in
    let k = c.loop-before.before in
    let place : k + 1 - 1 ≡ k = omega arith in
    let here : same_item c.args.item (get_or a.items k (fill a.item_type)) ≡ true =
    ap (λ j. same_item c.args.item (get_or a.items j (fill a.item_type))) (sym place) ∙ ap (same_item c.args.item) (sym c.item.ensures.is) ∙ sym c.is_same.ensures ∙ c.if-is_same.true in
    let e = position_or_len_is (same_item c.args.item) a.items k (fill a.item_type) (omega (arith, c.places-places.ensures.is)) c.loop-before.invariant (λ _. here) in
    omega arith

pub returns : goal.returns
returns c =
    let a = c.args.array.now in
    let e = position_or_len_is (same_item c.args.item) a.items (length a.items) (fill a.item_type) (omega arith) (λ k h. c.loop-before.invariant k (omega (arith, c.places-places.ensures.is))) (λ h. absurd (omega arith)) in
    omega (arith, c.places-places.ensures.is)
